-- Cited by private functions alone: is_change, push_change.
-- What two stores have at a key, as a change.
use Rattle.std.specs.Prelude.{Bool, true, false, not, cond, List, [], ◌∷◌, Option, Some, None, option_map}
use Rattle.std.specs.Ordering.{is_eq}
use Rattle.byte_map.specs.Order.{bytes_cmp}
use Rattle.row_map.specs.Rows.{Bytes}
use Rattle.pair_changes.specs.declared.changes.PairChange.{PairChange}
use Rattle.pair_changes.specs.declared.changes.Found.{Found}

abbrev pub are_other : Option Bytes → Option Bytes → Bool
are_other None None = false
are_other None (Some after) = true
are_other (Some before) None = true
are_other (Some before) (Some after) = not (is_eq (bytes_cmp before after))

-- the change of a key, if there is one
abbrev pub change_at : Bytes → Option Bytes → Option Bytes → List PairChange
change_at key before after = cond (are_other before after) (record { key = key; before = before; after = after } ∷ []) []

abbrev pub is_change : Found → Bool
is_change found = are_other (option_map (λ v. v.now) found.before) (option_map (λ v. v.now) found.after)

abbrev pub change_of : Found → List PairChange
change_of found = change_at found.key.now (option_map (λ v. v.now) found.before) (option_map (λ v. v.now) found.after)
