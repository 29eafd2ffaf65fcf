-- The part that bytes begin with is one alone.
use Rattle.std.proofs.Common.{◌≡◌, ℕ, ◌^◌, ◌<◌, ◌≤◌, List, ◌++◌, length, take, drop, refl, sym, ap, subst, ◌∙◌, append_assoc, arith}
use Rattle.std.specs.Int.{w64, from_be_bytes, to_be_bytes}
use Rattle.std.proofs.lemmas.List.{take_at, drop_at, take-append-drop, length-append, length-take}
use Rattle.std.proofs.lemmas.Nat.{from_be_bytes-to_be_bytes_8}
use Rattle.entry_code.specs.Code.{u64_code, bytes_code}
use Rattle.saved_world.specs.Parts.{IsPartAt, IsNumberAt, HasNoPart}

-- eight bytes, and the number that they are
number_tells : (m n : ℕ) (xs ys : List ℕ) → m < 2 ^ 64 → n < 2 ^ 64 → to_be_bytes w64 m ++ xs ≡ to_be_bytes w64 n ++ ys → (m ≡ n) × (xs ≡ ys)
number_tells m n xs ys left right same =
    let first : to_be_bytes w64 m ≡ to_be_bytes w64 n = sym (take_at (to_be_bytes w64 m) xs 8 refl) ∙ ap (take 8) same ∙ take_at (to_be_bytes w64 n) ys 8 refl in
    let second : xs ≡ ys = sym (drop_at (to_be_bytes w64 m) xs 8 refl) ∙ ap (drop 8) same ∙ drop_at (to_be_bytes w64 n) ys 8 refl in
    (sym (from_be_bytes-to_be_bytes_8 m left) ∙ ap (from_be_bytes w64) first ∙ from_be_bytes-to_be_bytes_8 n right, second)

-- what any part at the head of the bytes is
part_tells : (bytes : List ℕ) (n : ℕ) (rest other more : List ℕ) → IsNumberAt bytes n rest → length other < 2 ^ 64 → bytes ≡ bytes_code other ++ more → (n ≡ length other) × (rest ≡ other ++ more)
unfolding bytes_code u64_code
part_tells bytes n rest other more at few is =
    number_tells n (length other) rest (other ++ more) at.fits few (sym at.code ∙ is ∙ append_assoc (to_be_bytes w64 (length other)) other more)

pub no_number : (bytes : List ℕ) → length bytes < 8 → HasNoPart bytes
unfolding bytes_code u64_code
no_number bytes short part rest few is =
    omega (arith, short, ap length is, length-append (to_be_bytes w64 (length part) ++ part) rest, length-append (to_be_bytes w64 (length part)) part)

pub cut_part : (bytes : List ℕ) (n : ℕ) (rest : List ℕ) → IsNumberAt bytes n rest → length rest < n → HasNoPart bytes
cut_part bytes n rest at short part more few is =
    let tells = part_tells bytes n rest part more at few is in
    omega (arith, short, tells.0, ap length tells.1, length-append part more)

pub whole_part : (bytes : List ℕ) (n : ℕ) (rest front back : List ℕ) → IsNumberAt bytes n rest → n ≤ length rest → front ≡ take n rest → back ≡ drop n rest → IsPartAt bytes front back
unfolding bytes_code u64_code
whole_part bytes n rest front back at long is_front is_back =
    let count : length front ≡ n = ap length is_front ∙ length_is in
    let parts : rest ≡ front ++ back = sym (take-append-drop n rest) ∙ (λ i. sym is_front i ++ sym is_back i) in
    record {
      few = subst (λ k. k < 2 ^ 64) (sym count) at.fits;
      code = at.code ∙ (λ i. to_be_bytes w64 (sym count i) ++ parts i) ∙ sym (append_assoc (to_be_bytes w64 (length front)) front back);
      only = λ other more few is.
          let tells = part_tells bytes n rest other more at few is in (
            sym (take_at other more n (sym tells.0)) ∙ ap (take n) (sym tells.1) ∙ sym is_front,
            sym (drop_at other more n (sym tells.0)) ∙ ap (drop n) (sym tells.1) ∙ sym is_back,
          );
    }
  where
    length_is : length (take n rest) ≡ n
    length_is = omega (arith, long, length-take n rest)
