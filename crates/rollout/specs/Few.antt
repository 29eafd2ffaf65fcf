-- Cited by the contracts of few_acts_are_left.
-- How few begins and publications complete all changes.
use Rattle.std.specs.Prelude.{ℕ, ◌+◌, ◌*◌, ◌≤◌, List, [], ◌∷◌, Bool, false, Option, Some, None, is_some, if◌then◌else◌}
use Rattle.schema_version.specs.declared.element.ElementDef.{ElementDef}
use Rattle.schema_version.specs.Version.{element_at}
use Rattle.replay.specs.declared.entry.Entry.{Entry}
use Rattle.replay.specs.declared.entry.What.{What}
use Rattle.replay.specs.declared.entry.What.TheVariants.{Lease as Granted, Txn, Publish, Begin, Piece}
use Rattle.replay.specs.Replay.{Facts}
use Rattle.rollout.specs.StatePath.{next_state}
use Rattle.rollout.specs.Left.{sum_below, acts_left}

-- 1 for a begin or a publication
abbrev pub act_of : What → ℕ
act_of (Granted lease) = 0
act_of (Txn lease ops) = 0
act_of (Publish step) = 1
act_of (Begin element pieces) = 1
act_of (Piece element piece cursor) = 0

-- how many begins and publications a log has
abbrev pub acts_in : List Entry → ℕ
acts_in [] = 0
acts_in (entry ∷ log) = act_of entry.what + acts_in log

abbrev pub is_moving : Option ElementDef → Bool
is_moving None = false
is_moving (Some element) = is_some (next_state element)

-- 1 if the change of the element is under way
abbrev pub change_at : Facts → ℕ → ℕ
change_at facts number = if is_moving (element_at facts.newest number) then 1 else 0

-- how many elements are under way
abbrev pub changes_under_way : Facts → ℕ
changes_under_way facts = sum_below (change_at facts) facts.newest.next

-- each of them has at most three begins and publications left
abbrev pub AreFewLeft : Type 0
AreFewLeft = (facts : Facts) → acts_left facts ≤ 3 * changes_under_way facts
