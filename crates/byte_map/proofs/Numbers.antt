-- Bytes read as a number, the first one the highest, are ordered as the bytes are.
use Rattle.std.proofs.Common.{◌≡◌, ◌≢◌, ◌≤◌, ◌<◌, ◌+◌, ◌*◌, ◌⊎◌, inl, inr, ℕ, zero, suc, List, [], ◌∷◌, get_or, take, drop, length, refl, sym, ap, subst, ◌∙◌, arith, eq-or-lt_of_le, nat_eq, ne_eqb, min, false, ◌++◌, drop-cons, get_or-drop, take-take, take-add, length-drop, ◌^◌, ◌%◌}
use Rattle.std.proofs.lemmas.Bool.{cases_lt}
use Rattle.std.specs.declared.cmp.Ordering.{Ordering}
use Rattle.std.specs.declared.cmp.Ordering.TheVariants.{Less, Equal, Greater}
use Rattle.std.specs.Ordering.{ordering_then, nat_cmp, is_eq}
use Rattle.std.specs.Cmp.{nat_cmp_is}
use Rattle.byte_map.specs.Order.{bytes_cmp}
use Rattle.byte_map.specs.Numbers.{AreBytes, number, word, joined_words, words_of}
use Rattle.byte_map.proofs.Order.{greater_from_less, bytes_cmp-IsAntisymmetric}

less : (x y : ℕ) → x < y → nat_cmp x y ≡ Less
less x y h = sym (nat_cmp_is x y Less h)

level : (x : ℕ) → nat_cmp x x ≡ Equal
level x = sym (nat_cmp_is x x Equal refl)

greater : (x y : ℕ) → y < x → nat_cmp x y ≡ Greater
greater x y h = sym (nat_cmp_is x y Greater h)

not_below_empty : (xs : List ℕ) → bytes_cmp xs [] ≢ Less
not_below_empty [] e = cc
not_below_empty (x ∷ xs) e = cc

-- ---- the law

-- what a lesser number says: of the numbers before, and of the bytes
rises : (n a b : ℕ) (xs ys : List ℕ) → AreBytes xs → AreBytes ys → number n a xs < number n b ys → (a < b) ⊎ ((a ≡ b) × (bytes_cmp xs ys ≡ Less))
rises zero a b xs ys p q h = inl h
rises (suc n) a b [] [] p q h = elim (rises n (a * 256) (b * 256) [] [] p q h) [
  | inl l ↦ inl (omega (arith, l))
  | inr e ↦ inr (omega (arith, e.0), e.1)
]
rises (suc n) a b [] (y ∷ ys) p q h = elim (rises n (a * 256) (b * 256 + y) [] ys p (λ k. q (suc k)) h) [
  | inl l ↦ let small : y < 256 = q 0 in let t : a ≤ b = omega (arith, l) in elim (eq-or-lt_of_le t) [ inl e ↦ inr (e, refl) | inr m ↦ inl m ]
  | inr e ↦ let small : y < 256 = q 0 in let t : a ≤ b = omega (arith, e.0) in elim (eq-or-lt_of_le t) [ inl g ↦ inr (g, refl) | inr m ↦ inl m ]
]
rises (suc n) a b (x ∷ xs) [] p q h = elim (rises n (a * 256 + x) (b * 256) xs [] (λ k. p (suc k)) q h) [
  | inl l ↦ inl (omega (arith, l))
  | inr e ↦ absurd (not_below_empty xs e.1)
]
rises (suc n) a b (x ∷ xs) (y ∷ ys) p q h =
    let small : x < 256 = p 0 in
    let little : y < 256 = q 0 in
    elim (rises n (a * 256 + x) (b * 256 + y) xs ys (λ k. p (suc k)) (λ k. q (suc k)) h) [
      | inl l ↦
          let t : a ≤ b = omega (arith, l) in
          elim (eq-or-lt_of_le t) [
            | inr m ↦ inl m
            | inl e ↦ let lt : x < y = omega (arith, l, e) in inr (e, ap (λ (o : Ordering). ordering_then o (bytes_cmp xs ys)) (less x y lt))
          ]
      | inr e ↦
          let g : a ≡ b = omega (arith, e.0) in
          let f : x ≡ y = omega (arith, e.0, g) in
          inr (g, ap (λ (o : Ordering). ordering_then o (bytes_cmp xs ys)) (subst (λ (z : ℕ). nat_cmp x z ≡ Equal) f (level x)) ∙ e.1)
    ]

-- ---- what the calls cite

pub number_less : (n : ℕ) (xs ys : List ℕ) → AreBytes xs → AreBytes ys → number n 0 xs < number n 0 ys → bytes_cmp xs ys ≡ Less
number_less n xs ys p q h = elim (rises n 0 0 xs ys p q h) [
  | inl l ↦ absurd (omega (arith, l))
  | inr e ↦ e.1
]

pub number_greater : (n : ℕ) (xs ys : List ℕ) → AreBytes xs → AreBytes ys → number n 0 ys < number n 0 xs → bytes_cmp xs ys ≡ Greater
number_greater n xs ys p q h = greater_from_less ys xs (number_less n ys xs q p h)

-- the same numbers are of the same bytes
alike : (n a b : ℕ) (xs ys : List ℕ) → AreBytes xs → AreBytes ys → n ≤ length xs → n ≤ length ys → number n a xs ≡ number n b ys → (a ≡ b) × (take n xs ≡ take n ys)
alike zero a b xs ys p q l m e = (e, refl)
alike (suc n) a b [] ys p q l m e = absurd (omega (arith, l))
alike (suc n) a b (x ∷ xs) [] p q l m e = absurd (omega (arith, m))
alike (suc n) a b (x ∷ xs) (y ∷ ys) p q l m e =
    let small : x < 256 = p 0 in
    let little : y < 256 = q 0 in
    let t = alike n (a * 256 + x) (b * 256 + y) xs ys (λ k. p (suc k)) (λ k. q (suc k)) (omega (arith, l)) (omega (arith, m)) e in
    let g : a ≡ b = omega (arith, t.0) in
    let f : x ≡ y = omega (arith, t.0, g) in
    (g, (λ i. f i ∷ t.1 i))

pub number_same : (n : ℕ) (xs ys : List ℕ) → AreBytes xs → AreBytes ys → n ≤ length xs → n ≤ length ys → number n 0 xs ≡ number n 0 ys → take n xs ≡ take n ys
number_same n xs ys p q l m e = (alike n 0 0 xs ys p q l m e).1

-- what is the same in front decides nothing
pub past : (n : ℕ) (xs ys : List ℕ) → take n xs ≡ take n ys → bytes_cmp xs ys ≡ bytes_cmp (drop n xs) (drop n ys)
past zero xs ys e = refl
past (suc n) [] [] e = refl
past (suc n) [] (y ∷ ys) e = absurd (omega (arith, ap length e))
past (suc n) (x ∷ xs) [] e = absurd (omega (arith, ap length e))
past (suc n) (x ∷ xs) (y ∷ ys) e =
    let f : x ≡ y = ap (λ (l : List ℕ). get_or l 0 0) e in
    let t : take n xs ≡ take n ys = ap (drop 1) e in
    ap (λ (o : Ordering). ordering_then o (bytes_cmp xs ys)) (subst (λ (z : ℕ). nat_cmp x z ≡ Equal) f (level x)) ∙ past n xs ys t

-- numbers that differ stand as they are, whatever follows
decided : (x y : ℕ) (o : Ordering) → x ≢ y → ordering_then (nat_cmp x y) o ≡ nat_cmp x y
decided x y o n = elim (cases_lt x y) [
  | inl l ↦ ap (λ (r : Ordering). ordering_then r o) (less x y l) ∙ sym (less x y l)
  | inr g ↦ elim (eq-or-lt_of_le g) [
    | inl e ↦ absurd (n (sym e))
    | inr l ↦ ap (λ (r : Ordering). ordering_then r o) (greater x y l) ∙ sym (greater x y l)
  ]
]

-- the first byte that differs
pub by_byte : (n : ℕ) (xs ys : List ℕ) → take n xs ≡ take n ys → n < length xs → n < length ys → get_or xs n 0 ≢ get_or ys n 0 → nat_cmp (get_or xs n 0) (get_or ys n 0) ≡ bytes_cmp xs ys
by_byte n xs ys e l m d = sym (past n xs ys e ∙ (λ i. bytes_cmp (drop-cons xs n 0 l i) (drop-cons ys n 0 m i)) ∙ decided (get_or xs n 0) (get_or ys n 0) (bytes_cmp (drop (suc n) xs) (drop (suc n) ys)) d)

nexts : (m k : ℕ) → nat_cmp (suc m) (suc k) ≡ nat_cmp m k
nexts m k = elim (cases_lt m k) [
  | inl l ↦ less (suc m) (suc k) (omega (arith, l)) ∙ sym (less m k l)
  | inr g ↦ elim (eq-or-lt_of_le g) [
    | inl e ↦ subst (λ (z : ℕ). nat_cmp (suc z) (suc k) ≡ nat_cmp z k) e (level (suc k) ∙ sym (level k))
    | inr l ↦ greater (suc m) (suc k) (omega (arith, l)) ∙ sym (greater m k l)
  ]
]

-- with no byte left in one of them, the lengths decide
pub by_length : (n : ℕ) (xs ys : List ℕ) → min (length xs) (length ys) ≤ n → take n xs ≡ take n ys → nat_cmp (length xs) (length ys) ≡ bytes_cmp xs ys
by_length n [] [] l e = level 0
by_length n [] (y ∷ ys) l e = less 0 (length (y ∷ ys)) (omega arith)
by_length n (x ∷ xs) [] l e = greater (length (x ∷ xs)) 0 (omega arith)
by_length zero (x ∷ xs) (y ∷ ys) l e = absurd (omega (arith, l))
by_length (suc n) (x ∷ xs) (y ∷ ys) l e =
    let f : x ≡ y = ap (λ (z : List ℕ). get_or z 0 0) e in
    nexts (length xs) (length ys)
    ∙ by_length n xs ys (omega (arith, l)) (ap (drop 1) e)
    ∙ ap (λ (o : Ordering). ordering_then o (bytes_cmp xs ys)) (sym (subst (λ (z : ℕ). nat_cmp x z ≡ Equal) f (level x)))

pub other_length : (xs ys : List ℕ) → (length xs ≡ length ys → ⊥) → nat_eq (length xs) (length ys) ≡ is_eq (bytes_cmp xs ys)
other_length xs ys n =
    ne_eqb _ _ n
    ∙ elim (bytes_cmp xs ys) as (λ o. bytes_cmp xs ys ≡ o → false ≡ is_eq o) [
      | Less ↦ λ e. refl
      | Equal ↦ λ e. absurd (n (ap length (bytes_cmp-IsAntisymmetric xs ys e)))
      | Greater ↦ λ e. refl
    ] refl

-- ---- two strings, gone through word by word

pub bytes_behind : (n : ℕ) (xs : List ℕ) → AreBytes xs → AreBytes (drop n xs)
bytes_behind n xs p k = subst (λ (x : ℕ). x < 256) (sym (get_or-drop n xs k 0)) (p (n + k))

module _ (n : ℕ) (xs ys : List ℕ) (same : take n xs ≡ take n ys) where
  pub fewer : (m : ℕ) → m ≤ n → take m xs ≡ take m ys
  fewer m l = sym (take-take m n xs l) ∙ ap (take m) same ∙ take-take m n ys l

  module _ (p : AreBytes xs) (q : AreBytes ys) where
    -- words that differ decide
    pub word_apart : (a b : ℕ) → a ≡ word (drop n xs) → b ≡ word (drop n ys) → (a ≡ b → ⊥) → nat_cmp a b ≡ bytes_cmp xs ys
    word_apart a b e f d =
        elim (cases_lt a b) [
          | inl l ↦ less a b l ∙ sym (number_less 8 (drop n xs) (drop n ys) (bytes_behind n xs p) (bytes_behind n ys q) (omega (arith, l, e, f))) ∙ sym (past n xs ys same)
          | inr l ↦ elim (eq-or-lt_of_le l) [
            | inl t ↦ absurd (d (sym t))
            | inr t ↦ greater a b t ∙ sym (number_greater 8 (drop n xs) (drop n ys) (bytes_behind n xs p) (bytes_behind n ys q) (omega (arith, t, e, f))) ∙ sym (past n xs ys same)
          ]
        ]

    -- words that are alike are passed
    pub word_passed : (a b : ℕ) → a ≡ word (drop n xs) → b ≡ word (drop n ys) → a ≡ b → n + 8 ≤ length xs → n + 8 ≤ length ys → take (n + 8) xs ≡ take (n + 8) ys
    word_passed a b e f d l m =
        let alike_words : take 8 (drop n xs) ≡ take 8 (drop n ys) =
        number_same 8 (drop n xs) (drop n ys) (bytes_behind n xs p) (bytes_behind n ys q) (omega (arith, length-drop n xs, l)) (omega (arith, length-drop n ys, m)) (sym e ∙ d ∙ f) in
        take-add n 8 xs ∙ (λ i. same i ++ alike_words i) ∙ sym (take-add n 8 ys)

-- ---- three words as one number

drop_none : (n : ℕ) → drop {A = ℕ} n [] ≡ []
drop_none zero = refl
drop_none (suc n) = refl

in_parts : (n m t a : ℕ) (xs : List ℕ) → t ≡ m + n → number t a xs ≡ number m (number n a xs) (drop n xs)
in_parts zero m t a xs e = let same : t ≡ m = omega (arith, e) in ap (λ (k : ℕ). number k a xs) same
in_parts (suc n) m zero a xs e = absurd (omega (arith, e))
in_parts (suc n) m (suc t) a [] e = in_parts n m t (a * 256) [] (omega (arith, e)) ∙ ap (number m (number n (a * 256) [])) (drop_none n)
in_parts (suc n) m (suc t) a (x ∷ xs) e = in_parts n m t (a * 256 + x) xs (omega (arith, e))

word_after : (n : ℕ) (xs : List ℕ) → number 8 n xs ≡ n * 18446744073709551616 + word xs
word_after n [] = omega arith
word_after n (a ∷ []) = omega arith
word_after n (a ∷ b ∷ []) = omega arith
word_after n (a ∷ b ∷ c ∷ []) = omega arith
word_after n (a ∷ b ∷ c ∷ d ∷ []) = omega arith
word_after n (a ∷ b ∷ c ∷ d ∷ e ∷ []) = omega arith
word_after n (a ∷ b ∷ c ∷ d ∷ e ∷ f ∷ []) = omega arith
word_after n (a ∷ b ∷ c ∷ d ∷ e ∷ f ∷ g ∷ []) = omega arith
word_after n (a ∷ b ∷ c ∷ d ∷ e ∷ f ∷ g ∷ h ∷ xs) = omega arith

-- the first 24 bytes as three words
pub three_words : (xs : List ℕ) → joined_words (words_of xs) ≡ number 24 0 xs
three_words xs =
    let two : number 16 0 xs ≡ word xs * 18446744073709551616 + word (drop 8 xs) = in_parts 8 8 16 0 xs refl ∙ word_after (word xs) (drop 8 xs) in
    sym (in_parts 16 8 24 0 xs refl ∙ word_after (number 16 0 xs) (drop 16 xs) ∙ ap (λ (n : ℕ). n * 18446744073709551616 + word (drop 16 xs)) two)

-- the bytes before the last few are shifted out
pub shifted : (s : ℕ) (xs : List ℕ) → AreBytes xs → length xs ≡ 8 → s < 8 → (word xs * 2 ^ (8 * s)) % 2 ^ 64 ≡ word (drop s xs)
shifted s (a ∷ b ∷ c ∷ d ∷ e ∷ f ∷ g ∷ h ∷ []) p l m = by s m
  where
    ba : a < 256
    ba = p 0

    bb : b < 256
    bb = p 1

    bc : c < 256
    bc = p 2

    bd : d < 256
    bd = p 3

    be : e < 256
    be = p 4

    bf : f < 256
    bf = p 5

    bg : g < 256
    bg = p 6

    bh : h < 256
    bh = p 7

    by : (s : ℕ) → s < 8 → (word (a ∷ b ∷ c ∷ d ∷ e ∷ f ∷ g ∷ h ∷ []) * 2 ^ (8 * s)) % 2 ^ 64 ≡ word (drop s (a ∷ b ∷ c ∷ d ∷ e ∷ f ∷ g ∷ h ∷ []))
    by zero m = omega (arith, ba, bb, bc, bd, be, bf, bg, bh)
    by (suc zero) m = omega (arith, ba, bb, bc, bd, be, bf, bg, bh)
    by (suc (suc zero)) m = omega (arith, ba, bb, bc, bd, be, bf, bg, bh)
    by (suc (suc (suc zero))) m = omega (arith, ba, bb, bc, bd, be, bf, bg, bh)
    by (suc (suc (suc (suc zero)))) m = omega (arith, ba, bb, bc, bd, be, bf, bg, bh)
    by (suc (suc (suc (suc (suc zero))))) m = omega (arith, ba, bb, bc, bd, be, bf, bg, bh)
    by (suc (suc (suc (suc (suc (suc zero)))))) m = omega (arith, ba, bb, bc, bd, be, bf, bg, bh)
    by (suc (suc (suc (suc (suc (suc (suc zero))))))) m = omega (arith, ba, bb, bc, bd, be, bf, bg, bh)
    by (suc (suc (suc (suc (suc (suc (suc (suc s)))))))) m = absurd (omega (arith, m))
shifted s [] p l m = absurd (omega (arith, l))
shifted s (a ∷ []) p l m = absurd (omega (arith, l))
shifted s (a ∷ b ∷ []) p l m = absurd (omega (arith, l))
shifted s (a ∷ b ∷ c ∷ []) p l m = absurd (omega (arith, l))
shifted s (a ∷ b ∷ c ∷ d ∷ []) p l m = absurd (omega (arith, l))
shifted s (a ∷ b ∷ c ∷ d ∷ e ∷ []) p l m = absurd (omega (arith, l))
shifted s (a ∷ b ∷ c ∷ d ∷ e ∷ f ∷ []) p l m = absurd (omega (arith, l))
shifted s (a ∷ b ∷ c ∷ d ∷ e ∷ f ∷ g ∷ []) p l m = absurd (omega (arith, l))
shifted s (a ∷ b ∷ c ∷ d ∷ e ∷ f ∷ g ∷ h ∷ i ∷ xs) p l m = absurd (omega (arith, l))
