-- Cited by the contracts of draft_publish.
-- What a step waits for, and what its draft is.
use Rattle.std.specs.Prelude.{◌≡◌, ℕ, ◌==◌, ◌<◌, ◌≤◌, ◌⊎◌, List, [], ◌∷◌, Option, Some, None}
use Rattle.std.specs.List.{find}
use Rattle.schema_version.specs.declared.element.ElementDef.{ElementDef}
use Rattle.schema_version.specs.declared.element.ElementState.{ElementState}
use Rattle.schema_version.specs.declared.step.Move.{Move}
use Rattle.schema_version.specs.declared.step.Move.TheVariants.{Enter, Go, Turn}
use Rattle.schema_version.specs.Edges.{needed_work}
use Rattle.schema_version.specs.Moves.{IsAllowed, IsRefused}
use Rattle.schema_version.specs.Version.{Version, element_at}
use Rattle.drafts.specs.declared.record.Control.{Control}
use Rattle.drafts.specs.declared.publish.PublishFault.{PublishFault}
use Rattle.drafts.specs.declared.publish.PublishFault.TheVariants.{VersionsSpent, Step as NotAllowed, Unfinished, Memory}
use Rattle.drafts.specs.Store.{Reorg}
use Rattle.drafts.specs.Calls.{Newest, Publication, publish_draft, IsPublication, HasWork, max_versions}
use Rattle.drafts.specs.Made.{IsControlOf}

-- ---- the reorganisations that a step waits for, move by move

-- the reorganisation of an element among those that were found
abbrev pub found_in : List Reorg → ℕ → Option Reorg
found_in found number = find (λ (reorg : Reorg). reorg.element.number == number) found

abbrev pub ReadyAt : Option ElementDef → Option Reorg → ElementState → Type 0
ReadyAt None found to = Unit {0}
ReadyAt (Some element) found to = HasWork found (needed_work element.kind to)

abbrev pub IsReady : Version → (ℕ → Option Reorg) → Move → Type 0
IsReady schema found (Enter fresh to) = Unit {0}
IsReady schema found (Go number to) = ReadyAt (element_at schema number) (found number) to
IsReady schema found (Turn number) = Unit {0}

abbrev pub AreReady : Version → (ℕ → Option Reorg) → List Move → Type 0
AreReady schema found [] = Unit {0}
AreReady schema found (move ∷ step) = IsReady schema found move × AreReady schema found step

-- a move of this element lacks what it needs
abbrev pub Lacks : Version → (ℕ → Option Reorg) → Move → ℕ → Type 0
Lacks schema found (Enter fresh to) number = ⊥
Lacks schema found (Go moving to) number = (number ≡ moving) × (¬ (IsReady schema found (Go moving to)))
Lacks schema found (Turn moving) number = ⊥

-- the first element in the step's order that lacks it
abbrev pub IsUnfinished : Version → (ℕ → Option Reorg) → List Move → ℕ → Type 0
IsUnfinished schema found [] number = ⊥
IsUnfinished schema found (move ∷ step) number = Lacks schema found move number ⊎ (IsReady schema found move × IsUnfinished schema found step number)

-- ---- the call

abbrev pub publication : Newest → List Move → List Reorg → Publication
publication newest step found = record { newest = newest; step = step; found = found_in found }

pub record IsPublishedBy (newest : Newest) (step : List Move) (found : List Reorg) (control : Control) : Type 0 where
  pub made : IsPublication (publication newest step found)
  pub control_is : IsControlOf (publish_draft (publication newest step found)) control

-- each comes only if none before it is due; out of memory may come in place of an unfinished reorganisation
abbrev pub PublishRefusal : Newest → List Move → List Reorg → PublishFault → Type 0
PublishRefusal newest step found VersionsSpent = max_versions < newest.before
PublishRefusal newest step found (NotAllowed why) = (newest.before ≤ max_versions) × IsRefused newest.schema step why
PublishRefusal newest step found (Unfinished element) =
    (newest.before ≤ max_versions) × IsAllowed newest.schema step × IsUnfinished newest.schema (found_in found) step element
PublishRefusal newest step found Memory = (newest.before ≤ max_versions) × IsAllowed newest.schema step
