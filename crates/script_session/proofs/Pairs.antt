-- All pairs of a store, gone over from a key on.
use Rattle.std.proofs.Common.{◌≡◌, ℕ, ◌+◌, ◌<◌, List, [], ◌∷◌, ◌++◌, length, sym, ap, ◌∙◌, append_assoc, arith}
use Rattle.std.proofs.lemmas.List.{append-nil}
use Rattle.std.specs.List.{flat_map}
use Rattle.std.specs.FinMap as map
use Rattle.row_map.specs.Rows.{Bytes, Pairs}
use Rattle.script_replies.specs.Texts.{pair_line}

pub reported_more : (text more : List ℕ) (pair : Bytes × Bytes) (here next : List (Bytes × Bytes)) (all : List ℕ) → here ≡ pair ∷ next → text ++ flat_map pair_line here ≡ all → more ≡ text ++ pair_line pair → more ++ flat_map pair_line next ≡ all
reported_more text more pair here next all cut reported grown =
    ap (λ (t : List ℕ). t ++ flat_map pair_line next) grown
    ∙ append_assoc {A = ℕ} text (pair_line pair) (flat_map pair_line next)
    ∙ ap (λ (l : List (Bytes × Bytes)). text ++ flat_map pair_line l) (sym cut)
    ∙ reported

pub reported_all : (text : List ℕ) (here : List (Bytes × Bytes)) (all : List ℕ) → here ≡ [] → text ++ flat_map pair_line here ≡ all → text ≡ all
reported_all text here all none reported = sym (append-nil text) ∙ ap (λ (l : List (Bytes × Bytes)). text ++ flat_map pair_line l) (sym none) ∙ reported

pub counted_more : (n m all : ℕ) (pair : Bytes × Bytes) (here next : List (Bytes × Bytes)) → here ≡ pair ∷ next → n + length here ≡ all → m ≡ n + 1 → m + length next ≡ all
counted_more n m all pair here next cut counted more = omega (arith, more, counted, ap length cut)

pub fewer : (pair : Bytes × Bytes) (here next : List (Bytes × Bytes)) → here ≡ pair ∷ next → length next < length here
fewer pair here next cut = omega (arith, ap length cut)

pub counted_all : (n all : ℕ) (here : List (Bytes × Bytes)) → here ≡ [] → n + length here ≡ all → n ≡ all
counted_all n all here none counted = omega (arith, counted, ap length none)

pub from_start : (pairs : Pairs) (text : List ℕ) (ahead : List (Bytes × Bytes)) → text ≡ [] → ahead ≡ map.entries pairs →
    (text ++ flat_map pair_line ahead ≡ flat_map pair_line (map.entries pairs)) × (0 + length ahead ≡ length (map.entries pairs))
from_start pairs text ahead none all = (ap (λ (t : List ℕ). t ++ flat_map pair_line ahead) none ∙ ap (flat_map pair_line) all, omega (arith, ap length all))
