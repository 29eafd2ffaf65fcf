-- Steps of the loop over a text in quotes.
use Rattle.std.proofs.Common.{◌≡◌, ◌≢◌, ◌+◌, ◌<◌, ℕ, suc, List, [], ◌∷◌, ◌∙◌, ap, sym, refl, arith, drop, get_or, length, Option, Some, None, drop-cons, add-one}
use Rattle.std.proofs.lemmas.Grind.{common_steps}
use Rattle.std.specs.Option.{option_map}
use Rattle.script_tokens.specs.Tokens.{text_len}

map_add : (m n : ℕ) (o : Option ℕ) → option_map (λ k. (m + n) + k) o ≡ option_map (λ k. m + k) (option_map (λ k. n + k) o)
map_add m n None = refl
map_add m n (Some k) = ap Some (omega arith)

other : (b : ℕ) (bs : List ℕ) → b ≢ 39 → text_len (b ∷ bs) ≡ option_map (λ n. 1 + n) (text_len bs)
other b [] ne = grind (arith, common_steps)
other b (c ∷ bs) ne = grind (arith, common_steps)

pub passes_other : (bs : List ℕ) (n : ℕ) → n < length bs → get_or bs n 0 ≢ 39 → option_map (λ k. (n + 1) + k) (text_len (drop (n + 1) bs)) ≡ option_map (λ k. n + k) (text_len (drop n bs))
passes_other bs n l ne = map_add n 1 (text_len (drop (n + 1) bs)) ∙ ap (option_map (λ k. n + k)) (sym (ap text_len (drop-cons bs n 0 l) ∙ other (get_or bs n 0) (drop (suc n) bs) ne ∙ ap (λ m. option_map (λ k. 1 + k) (text_len (drop m bs))) (sym (add-one n))))

pub passes_double : (bs : List ℕ) (n : ℕ) → n + 1 < length bs → get_or bs n 0 ≡ 39 → get_or bs (n + 1) 0 ≡ 39 → option_map (λ k. (n + 2) + k) (text_len (drop (n + 2) bs)) ≡ option_map (λ k. n + k) (text_len (drop n bs))
passes_double bs n l a b =
    let after : suc (n + 1) ≡ n + 2 = omega arith in
    map_add n 2 (text_len (drop (n + 2) bs)) ∙ ap (option_map (λ k. n + k)) (sym (ap text_len (drop-cons bs n 0 (omega arith) ∙ ap (λ m. get_or bs n 0 ∷ drop m bs) (sym (add-one n)) ∙ ap (λ r. get_or bs n 0 ∷ r) (drop-cons bs (n + 1) 0 l) ∙ (λ i. a i ∷ b i ∷ drop (suc (n + 1)) bs)) ∙ ap (λ m. option_map (λ k. 2 + k) (text_len (drop m bs))) after))
