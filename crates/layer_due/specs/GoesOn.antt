-- Cited by the contracts of dues_go_on.
-- Something can be done as long as something is left.
use Rattle.std.specs.Prelude.{List, [], ◌∷◌}
use Rattle.schema_version.specs.declared.step.Move.{Move}
use Rattle.schema_version.specs.Moves.{IsAllowed}
use Rattle.schema_version.specs.Sound.{IsSoundVersion}
use Rattle.schema_version.specs.Version.{Version}
use Rattle.drafts.specs.Calls.{Call}
use Rattle.drafts.specs.Laws.{AreDrafted, AreApplied, after_calls}
use Rattle.drafts.specs.Store.{opened}
use Rattle.layer_due.specs.Records.{Records}
use Rattle.layer_due.specs.Due.{IsStuck}
use Rattle.layer_due.specs.Applies.{HasRecords}
use Rattle.layer_due.specs.declared.act.DueFault.{DueFault}

-- the first of the steps is allowed, if there is one
abbrev pub IsNextAllowed : Version → List (List Move) → Type 0
IsNextAllowed version [] = Unit {0}
IsNextAllowed version (step ∷ steps) = IsAllowed version step

-- after any list of drafts that a store applied, by the records that it then has
abbrev pub DuesGoOn : Type 0
DuesGoOn =
    (schema : Version) (calls : List Call) (records : Records) (steps : List (List Move)) (fault : DueFault) → IsSoundVersion schema → AreDrafted calls → AreApplied (opened schema) calls
    → HasRecords (after_calls (opened schema) calls) records → IsNextAllowed records.newest.schema steps → ¬ (IsStuck records steps fault)
