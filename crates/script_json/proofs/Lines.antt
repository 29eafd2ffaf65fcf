-- The lines of a text, one after another, and texts that begin as others do.
use Rattle.std.proofs.Common.{inl, inr, ◌≡◌, ◌≢◌, ◌<◌, ◌∷◌, ◌++◌, ◌∙◌, ℕ, suc, Bool, false, List, [], append_assoc, length, get_or, ap, arith, refl, sym}
use Rattle.std.specs.Prelude.{if◌then◌else◌}
use mathlib.Core.List.{map as each}
use Rattle.std.proofs.Math.Dec.{eqb}
use Rattle.std.proofs.lemmas.Bool.Decides.{eqb_tells}
use Rattle.std.proofs.lemmas.List.{append-nil}
use Rattle.script_rows.specs.Unknown.{StartsWith}
use Rattle.serde_json.specs.Data.{Data, string}
use Rattle.serde_json.specs.View.{items_of}
use Rattle.serde_json.specs.Written.{compact_text, has_float, items_have_float}
use Rattle.script_json.specs.Answer.{with_first, lines_of, last_data, lines_data}

-- no line feed in these bytes
abbrev pub HasNone : List ℕ → Type 0
HasNone bytes = (i : ℕ) → i < length bytes → get_or bytes i 0 ≢ 10

other : (b : ℕ) → b ≢ 10 → eqb b 10 ≡ false
other b apart = elim (eqb_tells b 10) [ inl w ↦ absurd (apart w.1) | inr w ↦ w.0 ]

one_byte : (b : ℕ) (bs : List ℕ) → b ≢ 10 → lines_of (b ∷ bs) ≡ with_first b (lines_of bs)
one_byte b bs apart = ap (λ (t : Bool). if t then [] ∷ lines_of bs else with_first b (lines_of bs)) (other b apart)

lines_at : (line after : List ℕ) → HasNone line → lines_of (line ++ 10 ∷ after) ≡ line ∷ lines_of after
lines_at [] after none = refl
lines_at (b ∷ bs) after none = one_byte b (bs ++ 10 ∷ after) (none 0 (omega arith)) ∙ ap (with_first b) (lines_at bs after (λ i small. none (suc i) (omega arith)))

lines_last : (b : ℕ) (bs : List ℕ) → HasNone (b ∷ bs) → lines_of (b ∷ bs) ≡ (b ∷ bs) ∷ []
lines_last b [] none = one_byte b [] (none 0 (omega arith))
lines_last b (c ∷ cs) none = one_byte b (c ∷ cs) (none 0 (omega arith)) ∙ ap (with_first b) (lines_last c cs (λ i small. none (suc i) (omega arith)))

last_is : (rest : List ℕ) → HasNone rest → each string (lines_of rest) ≡ last_data rest
last_is [] none = refl
last_is (b ∷ bs) none = ap (each string) (lines_last b bs none)

-- one line more
pub goes_on : (done : List Data) (rest line after : List ℕ) (total more : List Data) → (rest ≡ line ++ 10 ∷ after) × HasNone line → more ≡ done ++ string line ∷ [] → done ++ each string (lines_of rest) ≡ total
    → more ++ each string (lines_of after) ≡ total
goes_on done rest line after total more cut pushed so_far =
    ap (λ (m : List Data). m ++ each string (lines_of after)) pushed ∙ append_assoc done (string line ∷ []) (each string (lines_of after))
    ∙ ap (λ (ls : List (List ℕ)). done ++ each string ls) (sym (ap lines_of cut.0 ∙ lines_at line after cut.1)) ∙ so_far

-- and the last
pub ends : (done : List Data) (rest : List ℕ) (total all : List Data) → HasNone rest → all ≡ done ++ last_data rest → done ++ each string (lines_of rest) ≡ total → all ≡ total
ends done rest total all none pushed so_far = pushed ∙ ap (λ (ds : List Data). done ++ ds) (sym (last_is rest none)) ∙ so_far

-- nothing follows
pub none_last : (rest : List ℕ) (before after : List Data) → length rest ≡ 0 → after ≡ before → after ≡ before ++ last_data rest
none_last [] before after none same = same ∙ sym (append-nil before)
none_last (b ∷ bs) before after none same = absurd (omega (arith, none))

pub some_last : (rest : List ℕ) (before after : List Data) → 0 < length rest → after ≡ before ++ string rest ∷ [] → after ≡ before ++ last_data rest
some_last [] before after some pushed = absurd (omega (arith, some))
some_last (b ∷ bs) before after some pushed = pushed

none_in : (lines : List (List ℕ)) → items_have_float (items_of (each string lines)) ≡ false
none_in [] = refl
none_in (l ∷ ls) = none_in ls

-- what is written of lines
pub written : (value : Data) (lines : List (List ℕ)) (text : List ℕ) → value ≡ lines_data lines → (has_float value ≡ false → text ≡ compact_text value) → text ≡ compact_text (lines_data lines)
written value lines text is made = made (ap has_float is ∙ none_in lines) ∙ ap compact_text is

-- ---- texts that begin as others do

pub begins_same : (a b : List ℕ) → b ≡ a → StartsWith a b
begins_same a b same = ([], same ∙ sym (append-nil a))

pub begins_more : (a b c more : List ℕ) → StartsWith a b → c ≡ b ++ more → StartsWith a c
begins_more a b c more begun same = (begun.0 ++ more, same ∙ ap (λ (x : List ℕ). x ++ more) begun.1 ∙ append_assoc a begun.0 more)

pub begins_on : (a b c : List ℕ) → StartsWith a b → StartsWith b c → StartsWith a c
begins_on a b c first next = begins_more a b c next.0 first next.1
