-- Cited by the contracts of plan, publish, close, begin and of what they call.
-- Schema changes over a store that someone else runs: plans, and the drafts of steps, closes and begins.
use Rattle.std.specs.Prelude.{◌≡◌, ℕ, ◌⊎◌, ℤ, List, [], ◌∷◌, Result, Ok, Err, ⊤}
use Rattle.entry_code.specs.Parts.{pairs_code}
use Rattle.row_map.specs.Rows.{Bytes}
use Rattle.schema_version.specs.Version.{Version}
use Rattle.schema_version.specs.declared.step.Move.{Move}
use Rattle.schema_version.specs.declared.element.ElementDef.{ElementDef}
use Rattle.schema_version.specs.declared.element.Work.{Work}
use Rattle.drafts.specs.Begin.{IsWanted}
use Rattle.drafts.specs.Calls.{Close, Divide, Publish}
use Rattle.drafts.specs.Divide.{division, DivideRefusal}
use Rattle.drafts.specs.declared.divide.DivideFault.{DivideFault}
use Rattle.drafts.specs.declared.divide.DivideFault.TheVariants.{NotWanted, TooManyPieces, BadKey, Memory as OutOfMemory}
use Rattle.drafts.specs.Publish.{publication, PublishRefusal}
use Rattle.drafts.specs.declared.newest.Newest.{Newest}
use Rattle.drafts.specs.declared.record.Reorg.{Reorg}
use Rattle.drafts.specs.declared.publish.PublishFault.{PublishFault}
use Rattle.drafts.specs.declared.publish.PublishFault.TheVariants.{VersionsSpent, Step, Unfinished, Memory}
use Rattle.handles.specs.Changes.{step_refusal}
use Rattle.handles.specs.Plans.{PlansCode}
use Rattle.handles.specs.Bounded.{IsNoCode}
use Rattle.handles.specs.Statuses.{bad_code, bad_count, bad_piece, not_wanted, out_of_memory, unfinished, versions_spent}
use Rattle.layer_calls.specs.Drafted.{IsDraftOf}
use Rattle.layer_calls.specs.Given.{alone, numbered, Answer, AreRising, IsReorg, reorg_code}
use Rattle.layer_calls.specs.declared.outcome.LayerOutcome.{LayerOutcome}

abbrev pub newest_of : ℕ → Version → Newest
newest_of before version = record { before = before; schema = version }

-- the least plan of the changes, or why there is none
abbrev pub Plans : Version → Bytes → Answer → Type 0
Plans version changes (Ok reply) = PlansCode version changes (Ok reply.code) × (reply.number ≡ 0)
Plans version changes (Err outcome) = (status : ℤ) × PlansCode version changes (Err status) × (outcome ≡ alone status)

-- ---- what was found

-- the values are the records of these reorganisations
abbrev pub AreReorgs : List (Bytes × Bytes) → List Reorg → Type 0
AreReorgs [] [] = ⊤
AreReorgs [] (reorg ∷ reorgs) = ⊥
AreReorgs (pair ∷ pairs) [] = ⊥
AreReorgs (pair ∷ pairs) (reorg ∷ reorgs) = IsReorg reorg × (pair.1 ≡ reorg_code reorg) × AreReorgs pairs reorgs

-- a value is the record of none
abbrev pub HasBad : List (Bytes × Bytes) → Type 0
HasBad [] = ⊥
HasBad (pair ∷ pairs) = IsNoCode IsReorg reorg_code pair.1 ⊎ HasBad pairs

abbrev pub GivesReorgs : Bytes → Result (List Reorg) LayerOutcome → Type 0
GivesReorgs bytes (Ok reorgs) = (pairs : List (Bytes × Bytes)) × AreRising pairs × (bytes ≡ pairs_code pairs) × AreReorgs pairs reorgs
GivesReorgs bytes (Err outcome) =
    (outcome ≡ alone out_of_memory)
    ⊎ ((outcome ≡ alone bad_code) × (IsNoCode AreRising pairs_code bytes ⊎ ((pairs : List (Bytes × Bytes)) × AreRising pairs × (bytes ≡ pairs_code pairs) × HasBad pairs)))

-- ---- drafts

-- what a step that is not drafted is reported as
abbrev pub publish_refusal : PublishFault → LayerOutcome
publish_refusal VersionsSpent = alone versions_spent
publish_refusal (Step fault) = numbered (step_refusal fault).status (step_refusal fault).number
publish_refusal (Unfinished element) = numbered unfinished element
publish_refusal Memory = alone out_of_memory

-- the draft of the step, or its refusal
abbrev pub Publishes : Newest → List Move → List Reorg → Answer → Type 0
Publishes newest step found (Ok reply) = IsDraftOf (Publish (publication newest step found)) reply
Publishes newest step found (Err outcome) = (outcome ≡ alone out_of_memory) ⊎ ((fault : PublishFault) × PublishRefusal newest step found fault × (outcome ≡ publish_refusal fault))

abbrev pub Closes : Newest → Answer → Type 0
Closes newest (Ok reply) = IsDraftOf (Close newest) reply
Closes newest (Err outcome) = outcome ≡ alone out_of_memory

-- what a begin that is not drafted is reported as
abbrev pub divide_refusal : DivideFault → LayerOutcome
divide_refusal NotWanted = alone not_wanted
divide_refusal TooManyPieces = alone bad_count
divide_refusal (BadKey at) = numbered bad_piece at
divide_refusal OutOfMemory = alone out_of_memory

-- the draft of the begin at these keys, or its refusal
abbrev pub Begins : Newest → ℕ → List Bytes → Answer → Type 0
Begins newest element keys (Ok reply) =
    (found : ElementDef) × (work : Work) × IsWanted newest element found work × IsDraftOf (Divide (division newest found work keys)) reply
Begins newest element keys (Err outcome) =
    (outcome ≡ alone out_of_memory) ⊎ ((fault : DivideFault) × DivideRefusal newest element keys fault × (outcome ≡ divide_refusal fault))
