-- The record that bytes begin with is one alone.
use Rattle.std.proofs.Common.{◌≡◌, ◌≢◌, ℕ, ◌+◌, ◌^◌, ◌<◌, ◌≤◌, List, ◌++◌, length, take, drop, refl, sym, ap, ◌∙◌, append_assoc, arith}
use Rattle.std.specs.Int.{w64, from_be_bytes, to_be_bytes}
use Rattle.std.proofs.lemmas.List.{take_at, drop_at, take-append-drop, length-append, length-take}
use Rattle.std.proofs.lemmas.Nat.{from_be_bytes-to_be_bytes_8}
use Rattle.sha2.specs.Sha256.{sha256}
use Rattle.digested_bytes.specs.Record.{BeginsWithRecord, HasNoRecord, u64_code, undigested}

-- eight bytes, and the number that they are
number_tells : (m n : ℕ) (xs ys : List ℕ) → m < 2 ^ 64 → n < 2 ^ 64 → u64_code m ++ xs ≡ u64_code n ++ ys → (m ≡ n) × (xs ≡ ys)
unfolding u64_code
number_tells m n xs ys left right same =
    let first : to_be_bytes w64 m ≡ to_be_bytes w64 n = sym (take_at (to_be_bytes w64 m) xs 8 refl) ∙ ap (take 8) same ∙ take_at (to_be_bytes w64 n) ys 8 refl in
    let second : xs ≡ ys = sym (drop_at (to_be_bytes w64 m) xs 8 refl) ∙ ap (drop 8) same ∙ drop_at (to_be_bytes w64 n) ys 8 refl in
    (sym (from_be_bytes-to_be_bytes_8 m left) ∙ ap (from_be_bytes w64) first ∙ from_be_bytes-to_be_bytes_8 n right, second)

eight : (n : ℕ) → length (u64_code n) ≡ 8
unfolding u64_code
eight n = refl

-- the parts of a record, one after another
parts_of : (p l e d r : List ℕ) → ((p ++ (l ++ e)) ++ d) ++ r ≡ p ++ (l ++ (e ++ (d ++ r)))
parts_of p l e d r = append_assoc (p ++ (l ++ e)) d r ∙ append_assoc p (l ++ e) (d ++ r) ∙ ap (λ (x : List ℕ). p ++ x) (append_assoc l e (d ++ r))

module _ (place : ℕ) (entry rest bytes : List ℕ) (it : BeginsWithRecord place entry rest bytes) where
  abbrev digest : List ℕ
  digest = it.1.digest

  all_parts : bytes ≡ u64_code place ++ (u64_code (length entry) ++ (entry ++ (digest ++ rest)))
  all_parts = it.2 ∙ ap (λ (x : List ℕ). x ++ rest) it.1.code ∙ parts_of (u64_code place) (u64_code (length entry)) entry digest rest

  -- the first number is the place
  place_tells : (found : ℕ) (more : List ℕ) → found < 2 ^ 64 → place < 2 ^ 64 → bytes ≡ u64_code found ++ more → (found ≡ place) × (more ≡ u64_code (length entry) ++ (entry ++ (digest ++ rest)))
  place_tells found more few small is = number_tells found place more (u64_code (length entry) ++ (entry ++ (digest ++ rest))) few small (sym is ∙ all_parts)

pub no_head : (place : ℕ) (bytes : List ℕ) → length bytes < 8 → HasNoRecord place bytes
no_head place bytes short entry rest few it =
    omega (arith, short, ap length (all_parts place entry rest bytes it), length-append (u64_code place) (u64_code (length entry) ++ (entry ++ (digest place entry rest bytes it ++ rest))), eight place)

module _ (place found : ℕ) (bytes more : List ℕ) (found_fits : found < 2 ^ 64) (small : place < 2 ^ 64) (is : bytes ≡ u64_code found ++ more) where
  pub other_place : found ≢ place → HasNoRecord place bytes
  other_place other entry rest short it = other (place_tells place entry rest bytes it found more found_fits small is).0

  pub no_size : length more < 8 → HasNoRecord place bytes
  no_size short entry rest few it =
      let tells = (place_tells place entry rest bytes it found more found_fits small is).1 in
      omega (arith, short, ap length tells, length-append (u64_code (length entry)) (entry ++ (digest place entry rest bytes it ++ rest)), eight (length entry))

  module _ (size : ℕ) (left : List ℕ) (fits : size < 2 ^ 64) (next : more ≡ u64_code size ++ left) where
    -- the second number is the entry's length
    size_tells : (entry rest : List ℕ) → length entry < 2 ^ 64 → (it : BeginsWithRecord place entry rest bytes) → (size ≡ length entry) × (left ≡ entry ++ (digest place entry rest bytes it ++ rest))
    size_tells entry rest short it =
        number_tells size (length entry) left (entry ++ (digest place entry rest bytes it ++ rest)) fits short (sym next ∙ (place_tells place entry rest bytes it found more found_fits small is).1)

    pub too_short : length left < size + 32 → HasNoRecord place bytes
    too_short short entry rest few it =
        let tells = size_tells entry rest few it in
        omega (arith, short, tells.0, ap length tells.1, length-append entry (digest place entry rest bytes it ++ rest), length-append (digest place entry rest bytes it) rest, it.1.size)

    module _ (is_place : found ≡ place) (entry back digest' after before : List ℕ) (parts : left ≡ entry ++ back) (is_size : length entry ≡ size) (room : 32 ≤ length back)
        (is_digest : digest' ≡ take 32 back) (is_after : after ≡ drop 32 back) (is_before : before ≡ take (16 + length entry) bytes) where
      all_before : before ≡ undigested place entry
      all_before =
          let code : bytes ≡ undigested place entry ++ back = is ∙ (λ i. u64_code (is_place i) ++ next i) ∙ (λ i. u64_code place ++ (u64_code (sym is_size i) ++ parts i)) ∙ grouped in
          is_before ∙ ap (take (16 + length entry)) code ∙ take_at (undigested place entry) back (16 + length entry) long
        where
          grouped : u64_code place ++ (u64_code (length entry) ++ (entry ++ back)) ≡ undigested place entry ++ back
          grouped = sym (append_assoc (u64_code place) (u64_code (length entry) ++ entry) back ∙ ap (λ (x : List ℕ). u64_code place ++ x) (append_assoc (u64_code (length entry)) entry back))

          long : length (undigested place entry) ≡ 16 + length entry
          long = omega (arith, length-append (u64_code place) (u64_code (length entry) ++ entry), length-append (u64_code (length entry)) entry, eight place, eight (length entry))

      abbrev whole : List ℕ
      whole = before ++ digest'

      pub has_record : sha256 before ≡ digest' → BeginsWithRecord place entry after bytes
      has_record digested = (
        whole,
        record { digest = digest'; code = ap (λ (x : List ℕ). x ++ digest') all_before; size = ap length is_digest ∙ omega (arith, room, length-take 32 back); is = sym digested ∙ ap sha256 all_before },
        is ∙ (λ i. u64_code (is_place i) ++ next i) ∙ (λ i. u64_code place ++ (u64_code (sym is_size i) ++ parts i)) ∙ (λ i. u64_code place ++ (u64_code (length entry) ++ (entry ++ halves i)))
            ∙ sym (parts_of (u64_code place) (u64_code (length entry)) entry digest' after) ∙ (λ i. (sym all_before i ++ digest') ++ after),
      )
        where
          halves : back ≡ digest' ++ after
          halves = sym (take-append-drop 32 back) ∙ (λ i. sym is_digest i ++ sym is_after i)

      pub has_none : sha256 before ≢ digest' → HasNoRecord place bytes
      has_none other e rest short it =
          let tells = size_tells e rest short it in
          let d : List ℕ = digest place e rest bytes it in
          let same_size : length e ≡ length entry = sym tells.0 ∙ sym is_size in
          let both : e ++ (d ++ rest) ≡ entry ++ back = sym tells.1 ∙ parts in
          let same : e ≡ entry = sym (take_at e (d ++ rest) (length entry) same_size) ∙ ap (take (length entry)) both ∙ take_at entry back (length entry) refl in
          let behind : d ++ rest ≡ back = sym (drop_at e (d ++ rest) (length entry) same_size) ∙ ap (drop (length entry)) both ∙ drop_at entry back (length entry) refl in
          let same_digest : d ≡ digest' = sym (take_at d rest 32 it.1.size) ∙ ap (take 32) behind ∙ sym is_digest in
          other (ap sha256 all_before ∙ ap (λ (x : List ℕ). sha256 (undigested place x)) (sym same) ∙ sym it.1.is ∙ same_digest)
