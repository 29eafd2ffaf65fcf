-- Keys of control records and their bytes.
use Rattle.std.proofs.Common.{◌≡◌, ℕ, ◌<◌, ◌≤◌, ◌^◌, Bool, true, false, eqb, List, [], ◌∷◌, ◌++◌, length, take, drop, refl, sym, ap, subst, ◌∙◌, inl, inr, arith, rules}
use Rattle.std.specs.Prelude.{◌≢◌}
use Rattle.std.specs.declared.cmp.Ordering.{Ordering}
use Rattle.std.specs.declared.cmp.Ordering.TheVariants.{Less, Equal, Greater}
use Rattle.std.specs.Int.{w64, to_be_bytes, from_be_bytes}
use Rattle.std.specs.List.{AllByRecursion, flat_map}
use Rattle.std.specs.Ordering.{nat_cmp, ordering_then}
use Rattle.std.proofs.lemmas.List.{append-nil, take_at, drop_at}
use Rattle.std.proofs.lemmas.Nat.{from_be_bytes-to_be_bytes_8}
use Rattle.keycode.specs.declared.value.Value.{Value}
use Rattle.keycode.specs.Order.{bytes_cmp}
use Rattle.keycode.proofs.ByteOrder.{number, AreBytes, digits_order}
use Rattle.row_map.specs.Keys.{row_code, index_code}
use Rattle.row_map.specs.Rows.{Bytes}
use Rattle.drafts.specs.Store.{Key, version_key}
use Rattle.record_code.specs.Keys.{number_code, rest_code, key_code, IsNumber, HasNumbers, HasKey, IsKey, KeysSay}

-- ---- numbers

-- what a number's bytes begin with is the number
number_tells : (m n : ℕ) (r s : Bytes) → IsNumber m → IsNumber n → number_code m ++ r ≡ number_code n ++ s → (m ≡ n) × (r ≡ s)
unfolding number_code
number_tells m n r s p q e =
    let front : to_be_bytes w64 m ≡ to_be_bytes w64 n = sym (take_at (to_be_bytes w64 m) r 8 refl) ∙ ap (take 8) e ∙ take_at (to_be_bytes w64 n) s 8 refl in
    let rest : r ≡ s = sym (drop_at (to_be_bytes w64 m) r 8 refl) ∙ ap (drop 8) e ∙ drop_at (to_be_bytes w64 n) s 8 refl in
    (sym (from_be_bytes-to_be_bytes_8 m p) ∙ ap (from_be_bytes w64) front ∙ from_be_bytes-to_be_bytes_8 n q, rest)

pub number_same : (m n : ℕ) → IsNumber m → IsNumber n → number_code m ≡ number_code n → m ≡ n
number_same m n p q e = (number_tells m n [] [] p q (ap (λ (l : Bytes). l ++ []) e)).0

no_bytes : {B : Type 0} (n : ℕ) (r : Bytes) → [] ≡ number_code n ++ r → B
unfolding number_code
no_bytes n r e = absurd cc

numbers_tell : (ms ns : List ℕ) → AllByRecursion IsNumber ms → AllByRecursion IsNumber ns → flat_map number_code ms ≡ flat_map number_code ns → ms ≡ ns
numbers_tell [] [] p q e = refl
numbers_tell [] (n ∷ ns) p q e = no_bytes n (flat_map number_code ns) e
numbers_tell (m ∷ ms) [] p q e = no_bytes m (flat_map number_code ms) (sym e)
numbers_tell (m ∷ ms) (n ∷ ns) p q e =
    let a = number_tells m n (flat_map number_code ms) (flat_map number_code ns) p.0 q.0 e in
    let b = numbers_tell ms ns p.1 q.1 a.1 in
    λ i. a.0 i ∷ b i

rest_tells : (b : Bool) (ms ns : List ℕ) → HasNumbers b ms → HasNumbers b ns → rest_code b ms ≡ rest_code b ns → ms ≡ ns
rest_tells true ms ns p q e = e
rest_tells false ms ns p q e = numbers_tell ms ns p q e

head : {x y : ℕ} {xs ys : List ℕ} → x ∷ xs ≡ y ∷ ys → x ≡ y
head e = cc

tail : {x y : ℕ} {xs ys : List ℕ} → x ∷ xs ≡ y ∷ ys → xs ≡ ys
tail e = cc

pub keys_tell : (k l : Key) → HasKey k → HasKey l → key_code k ≡ key_code l → k ≡ l
keys_tell [] [] p q e = refl
keys_tell [] (b ∷ ns) p q e = absurd cc
keys_tell (a ∷ ms) [] p q e = absurd cc
keys_tell (a ∷ ms) (b ∷ ns) p q e =
    let kind : a ≡ b = head e in
    let own : HasNumbers (eqb a 3) ns = subst (λ (x : ℕ). HasNumbers (eqb x 3) ns) (sym kind) q in
    let rest : rest_code (eqb a 3) ms ≡ rest_code (eqb a 3) ns = tail e ∙ ap (λ (x : ℕ). rest_code (eqb x 3) ns) (sym kind) in
    let same = rest_tells (eqb a 3) ms ns p own rest in
    λ i. kind i ∷ same i

-- ---- versions

number_8 : (n : ℕ) → n < 2 ^ 64 → number (to_be_bytes w64 n) ≡ n
number_8 n lt = omega (arith, from_be_bytes-to_be_bytes_8 n lt)

bytes_8 : (n : ℕ) → AreBytes (to_be_bytes w64 n)
bytes_8 n = search rules

then_equal : (o : Ordering) → ordering_then o Equal ≡ o
then_equal Less = refl
then_equal Equal = refl
then_equal Greater = refl

versions_rise : (m n : ℕ) → IsNumber m → IsNumber n → bytes_cmp (key_code (version_key m)) (key_code (version_key n)) ≡ nat_cmp m n
unfolding number_code
versions_rise m n p q =
    digits_order (to_be_bytes w64 m) (to_be_bytes w64 n) [] [] refl (bytes_8 m) (bytes_8 n)
    ∙ ap (λ o. ordering_then o Equal) (rw (number_8 m p, number_8 n q) refl) ∙ then_equal (nat_cmp m n)

-- ---- other keys

-- the first byte is the kind, which is at most 3
abbrev StartsBelow : Bytes → Type 0
StartsBelow [] = ⊥
StartsBelow (byte ∷ bytes) = byte < 4

low_start : (k : Key) → IsKey k → StartsBelow (key_code k)
low_start k (inl v) = subst (λ (x : Key). StartsBelow (key_code x)) (sym v.2) (omega arith)
low_start k (inr (inl r)) = subst (λ (x : Key). StartsBelow (key_code x)) (sym r.2) (omega arith)
low_start k (inr (inr (inl c))) = subst (λ (x : Key). StartsBelow (key_code x)) (sym c.4) (omega arith)
low_start k (inr (inr (inr m))) = subst (λ (x : Key). StartsBelow (key_code x)) (sym m.1) (omega arith)

no_row : (k : Key) (table : ℕ) (key : List Value) (element : ℕ) → IsKey k → key_code k ≢ row_code table key element
unfolding row_code
no_row k table key element is e = let low : 82 < 4 = subst StartsBelow e (low_start k is) in absurd (omega (arith, low))

no_index : (k : Key) (element : ℕ) (values : List Value) → IsKey k → key_code k ≢ index_code element values
unfolding index_code
no_index k element values is e = let low : 88 < 4 = subst StartsBelow e (low_start k is) in absurd (omega (arith, low))

-- ---- what keys of one kind have as bytes

same_rest : {x : ℕ} {rest ys : List ℕ} → x ∷ rest ≡ x ∷ (ys ++ []) → rest ≡ ys
same_rest {x} {rest} {ys} e = tail e ∙ append-nil ys

pub version_only : (key : Key) (rest : Bytes) → IsKey key → 0 ∷ rest ≡ key_code key → (n : ℕ) × (rest ≡ number_code n)
version_only key rest (inl v) e = (v.0, same_rest (e ∙ ap key_code v.2))
version_only key rest (inr (inl r)) e = let no : 0 ≡ 1 = head (e ∙ ap key_code r.2) in absurd (omega (arith, no))
version_only key rest (inr (inr (inl c))) e = let no : 0 ≡ 2 = head (e ∙ ap key_code c.4) in absurd (omega (arith, no))
version_only key rest (inr (inr (inr m))) e = let no : 0 ≡ 3 = head (e ∙ ap key_code m.1) in absurd (omega (arith, no))

pub reorg_only : (key : Key) (rest : Bytes) → IsKey key → 1 ∷ rest ≡ key_code key → (n : ℕ) × (n < 2 ^ 32) × (rest ≡ number_code n)
reorg_only key rest (inl v) e = let no : 1 ≡ 0 = head (e ∙ ap key_code v.2) in absurd (omega (arith, no))
reorg_only key rest (inr (inl r)) e = (r.0, r.1, same_rest (e ∙ ap key_code r.2))
reorg_only key rest (inr (inr (inl c))) e = let no : 1 ≡ 2 = head (e ∙ ap key_code c.4) in absurd (omega (arith, no))
reorg_only key rest (inr (inr (inr m))) e = let no : 1 ≡ 3 = head (e ∙ ap key_code m.1) in absurd (omega (arith, no))

-- the bytes of two numbers
pub record AreTwo (rest : Bytes) : Type 0 where
  pub element : ℕ
  pub piece : ℕ
  pub below : element < 2 ^ 32
  pub first : take 8 rest ≡ number_code element
  pub second : drop 8 rest ≡ number_code piece
  pub long : 8 ≤ length rest

two_from : (rest : Bytes) (element piece : ℕ) → element < 2 ^ 32 → rest ≡ number_code element ++ (number_code piece ++ []) → AreTwo rest
unfolding number_code
two_from rest element piece below e = record {
  element = element;
  piece = piece;
  below = below;
  first = ap (take 8) e ∙ take_at (to_be_bytes w64 element) (to_be_bytes w64 piece ++ []) 8 refl;
  second = ap (drop 8) e ∙ drop_at (to_be_bytes w64 element) (to_be_bytes w64 piece ++ []) 8 refl ∙ append-nil (to_be_bytes w64 piece);
  long = subst (λ (l : Bytes). 8 ≤ length l) (sym e) (omega arith);
}

pub cursor_only : (key : Key) (rest : Bytes) → IsKey key → 2 ∷ rest ≡ key_code key → AreTwo rest
cursor_only key rest (inl v) e = let no : 2 ≡ 0 = head (e ∙ ap key_code v.2) in absurd (omega (arith, no))
cursor_only key rest (inr (inl r)) e = let no : 2 ≡ 1 = head (e ∙ ap key_code r.2) in absurd (omega (arith, no))
cursor_only key rest (inr (inr (inl c))) e = two_from rest c.0 c.1 c.2 (tail (e ∙ ap key_code c.4))
cursor_only key rest (inr (inr (inr m))) e = let no : 2 ≡ 3 = head (e ∙ ap key_code m.1) in absurd (omega (arith, no))

pub keys_say : KeysSay
unfolding number_code
keys_say = record {
  tell = keys_tell;
  rise = versions_rise;
  no_row = no_row;
  no_index = no_index;
  version = refl;
  reorg = refl;
  cursor = refl;
  mark = refl;
}
