-- Steps of the loop over a line.
use Rattle.std.proofs.Common.{◌≡◌, ◌≢◌, ℕ, zero, suc, List, [], ◌∷◌, ◌++◌, ◌∙◌, ap, sym, refl, arith, drop, length, Option, Some, None, append_assoc}
use Rattle.std.proofs.lemmas.List.{append-nil}
use Rattle.std.proofs.lemmas.Grind.{common_steps}
use Rattle.std.specs.Option.{option_map, option_and_then}
use Rattle.script_tokens.specs.declared.token.Token.{Token}
use Rattle.script_tokens.specs.Tokens.{tokens_from, token_at}

pub tokens_skip : (k : ℕ) (bs : List ℕ) → tokens_from k bs ≡ tokens_from 0 (drop k bs)
unfolding tokens_from
tokens_skip zero bs = refl
tokens_skip (suc k) [] = refl
tokens_skip (suc k) (b ∷ bs) = tokens_skip k bs

abbrev pub with_prefix : List Token → Option (List Token) → Option (List Token)
with_prefix ts o = option_map (λ more. ts ++ more) o

prefix_more : (ts : List Token) (t : Token) (o : Option (List Token)) → with_prefix ts (option_map (λ more. t ∷ more) o) ≡ with_prefix (ts ++ t ∷ []) o
prefix_more ts t None = refl
prefix_more ts t (Some more) = ap Some (sym (append_assoc {A = Token} ts (t ∷ []) more))

at_space : (bs : List ℕ) → tokens_from 0 (32 ∷ bs) ≡ tokens_from 0 bs
unfolding tokens_from
at_space bs = refl

pub skips_space : (ts : List Token) (rest after line : List ℕ) (first : ℕ) → rest ≡ first ∷ after → first ≡ 32 → with_prefix ts (tokens_from 0 rest) ≡ tokens_from 0 line → with_prefix ts (tokens_from 0 after) ≡ tokens_from 0 line
skips_space ts rest after line first e s h = ap (with_prefix ts) (sym (at_space after) ∙ ap (λ b. tokens_from 0 (b ∷ after)) (sym s) ∙ ap (tokens_from 0) (sym e)) ∙ h

at_token : (b : ℕ) (bs : List ℕ) → b ≢ 32 → tokens_from 0 (b ∷ bs) ≡ option_and_then (λ found. option_map (λ more. found.0 ∷ more) (tokens_from found.1 bs)) (token_at b bs)
unfolding tokens_from
at_token b bs ne = grind (arith, common_steps)

pub takes_token : (ts : List Token) (rest after line : List ℕ) (first : ℕ) (t : Token) (len : ℕ) → rest ≡ first ∷ after → first ≢ 32 → token_at first after ≡ Some (t, len) → with_prefix ts (tokens_from 0 rest) ≡ tokens_from 0 line → with_prefix (ts ++ t ∷ []) (tokens_from 0 (drop len after)) ≡ tokens_from 0 line
takes_token ts rest after line first t len e ne found h =
    ap (with_prefix (ts ++ t ∷ [])) (sym (tokens_skip len after))
    ∙ sym (prefix_more ts t (tokens_from len after))
    ∙ ap (with_prefix ts) (ap (option_and_then (λ found. option_map (λ more. found.0 ∷ more) (tokens_from found.1 after))) (sym found) ∙ sym (at_token first after ne) ∙ ap (tokens_from 0) (sym e))
    ∙ h

pub finds_none : (ts : List Token) (rest after line : List ℕ) (first : ℕ) → rest ≡ first ∷ after → first ≢ 32 → token_at first after ≡ None → with_prefix ts (tokens_from 0 rest) ≡ tokens_from 0 line → None ≡ tokens_from 0 line
finds_none ts rest after line first e ne found h =
    ap (with_prefix ts) (ap (option_and_then (λ found. option_map (λ more. found.0 ∷ more) (tokens_from found.1 after))) (sym found) ∙ sym (at_token first after ne) ∙ ap (tokens_from 0) (sym e))
    ∙ h

at_nil : tokens_from 0 [] ≡ Some []
unfolding tokens_from
at_nil = refl

pub at_end : (ts : List Token) (rest line : List ℕ) → length rest ≡ 0 → with_prefix ts (tokens_from 0 rest) ≡ tokens_from 0 line → Some ts ≡ tokens_from 0 line
at_end ts [] line e h = ap Some (sym (append-nil ts)) ∙ ap (with_prefix ts) (sym at_nil) ∙ h
at_end ts (b ∷ rest) line e h = absurd (omega arith)
