-- Steps of the loop that doubles the quotes of a text.
use Rattle.std.proofs.Common.{◌≡◌, ℕ, suc, ◌+◌, ◌<◌, Bool, true, false, not, cond, List, [], ◌∷◌, ◌++◌, ◌∙◌, sym, ap, refl, arith, length, take, drop, append_assoc, if◌then◌else◌, eqb}
use Rattle.std.specs.List.{position_or_len, before_first, after_first}
use Rattle.script_grammar.specs.Print.{doubled}

abbrev pub is_quote : ℕ → Bool
is_quote b = eqb b 39

last_step : (q : Bool) (b n : ℕ) (rest bs : List ℕ) → (n ≡ length bs → rest ≡ bs) → cond (not q) (1 + n) 0 ≡ suc (length bs) → (if q then 39 ∷ 39 ∷ [] else b ∷ []) ++ rest ≡ b ∷ bs
last_step true b n rest bs more h = absurd (omega arith)
last_step false b n rest bs more h = ap (λ r. b ∷ r) (more (omega arith))

-- a text with no quote
doubled_last : (bs : List ℕ) → position_or_len is_quote bs ≡ length bs → doubled bs ≡ bs
doubled_last [] h = refl
doubled_last (b ∷ bs) h = last_step (is_quote b) b (position_or_len is_quote bs) (doubled bs) bs (doubled_last bs) h

more_step : (q : Bool) (b n : ℕ) (bs : List ℕ) → (n < length bs → doubled bs ≡ take n bs ++ (39 ∷ 39 ∷ doubled (drop (n + 1) bs))) → cond (not q) (1 + n) 0 < suc (length bs)
    → (if q then 39 ∷ 39 ∷ [] else b ∷ []) ++ doubled bs ≡ take (cond (not q) (1 + n) 0) (b ∷ bs) ++ (39 ∷ 39 ∷ doubled (drop (cond (not q) (1 + n) 0 + 1) (b ∷ bs)))
more_step true b n bs more h = refl
more_step false b n bs more h =
    let taken : 1 + n ≡ suc n = omega arith in
    let dropped : 1 + n + 1 ≡ suc (n + 1) = omega arith in
    ap (λ r. b ∷ r) (more (omega arith))
    ∙ ap (λ k. take k (b ∷ bs) ++ (39 ∷ 39 ∷ doubled (drop (n + 1) bs))) (sym taken)
    ∙ ap (λ k. take (1 + n) (b ∷ bs) ++ (39 ∷ 39 ∷ doubled (drop k (b ∷ bs)))) (sym dropped)

-- the first quote of a text
doubled_more : (bs : List ℕ) → position_or_len is_quote bs < length bs → doubled bs ≡ before_first is_quote bs ++ (39 ∷ 39 ∷ doubled (after_first is_quote bs))
doubled_more [] h = absurd (omega arith)
doubled_more (b ∷ bs) h = more_step (is_quote b) b (position_or_len is_quote bs) bs (doubled_more bs) h

pub quotes_on : (out before after rest total : List ℕ) → position_or_len is_quote rest < length rest → before ≡ before_first is_quote rest → after ≡ after_first is_quote rest
    → out ++ (doubled rest ++ 39 ∷ []) ≡ total → ((out ++ before) ++ (39 ∷ 39 ∷ [])) ++ (doubled after ++ 39 ∷ []) ≡ total
quotes_on out before after rest total lt b a so_far =
    append_assoc (out ++ before) (39 ∷ 39 ∷ []) (doubled after ++ 39 ∷ []) ∙ append_assoc out before (39 ∷ 39 ∷ (doubled after ++ 39 ∷ []))
    ∙ ap (λ r. out ++ r) (sym (append_assoc before (39 ∷ 39 ∷ doubled after) (39 ∷ [])))
    ∙ ap (λ r. out ++ (r ++ 39 ∷ [])) (ap (λ f. f ++ (39 ∷ 39 ∷ doubled after)) b ∙ ap (λ f. before_first is_quote rest ++ (39 ∷ 39 ∷ doubled f)) a ∙ sym (doubled_more rest lt))
    ∙ so_far

pub quotes_end : (out rest total : List ℕ) → position_or_len is_quote rest ≡ length rest → out ++ (doubled rest ++ 39 ∷ []) ≡ total → (out ++ rest) ++ 39 ∷ [] ≡ total
quotes_end out rest total none so_far = append_assoc out rest (39 ∷ []) ∙ ap (λ r. out ++ (r ++ 39 ∷ [])) (sym (doubled_last rest none)) ∙ so_far
