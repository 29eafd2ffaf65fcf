-- The data of a status line has no float, so its text is known.
use Rattle.std.proofs.Common.{◌≡◌, ℕ, List, [], ◌∷◌, refl, sym, ap, ◌∙◌, subst, false}
use Rattle.std.specs.Prelude.{◌||◌}
use mathlib.Core.List.{map as each}
use Rattle.schema_version.specs.Version.{live}
use Rattle.serde_json.specs.Data.{Data}
use Rattle.serde_json.specs.View.{items_of}
use Rattle.serde_json.specs.Written.{compact_text, has_float, items_have_float}
use Rattle.piece_work.specs.State.{State, facts_of}
use Rattle.script_replies.specs.Status.{AreUsable, IsStatus, element_data, count_data, status_data}

none_in_list : {A : Type 0} (f : A → Data) → ((x : A) → has_float (f x) ≡ false) → (xs : List A) → items_have_float (items_of (each f xs)) ≡ false
none_in_list f none [] = refl
none_in_list f none (x ∷ xs) = λ i. none x i || none_in_list f none xs i

no_float : (s : State) (usable : List ℕ) → has_float (status_data s usable) ≡ false
no_float s usable =
    λ i. none_in_list (element_data (facts_of s).newest) (λ e. refl) (live (facts_of s).newest) i || (none_in_list count_data (λ n. refl) usable i || false)

-- what is written for the data is the line
pub reported : (s : State) (numbers usable : List ℕ) (value : Data) (text : List ℕ) → AreUsable (facts_of s) numbers → usable ≡ numbers → value ≡ status_data s usable → (has_float value ≡ false → text ≡ compact_text value) → IsStatus s text
reported s numbers usable value text are same is written =
    (usable, subst (AreUsable (facts_of s)) (sym same) are, written (ap has_float is ∙ no_float s usable) ∙ ap compact_text is)
