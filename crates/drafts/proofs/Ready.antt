-- What a step waits for, move by move.
use Rattle.std.proofs.Common.{◌≡◌, ℕ, List, [], ◌∷◌, Option, Some, subst, inl, inr, arith, Contains}
use Rattle.schema_version.specs.declared.element.ElementDef.{ElementDef}
use Rattle.schema_version.specs.declared.element.ElementState.{ElementState}
use Rattle.schema_version.specs.declared.step.Move.{Move}
use Rattle.schema_version.specs.declared.step.Move.TheVariants.{Go}
use Rattle.schema_version.specs.Edges.{needed_work}
use Rattle.schema_version.specs.Version.{Version, element_at}
use Rattle.schema_version.proofs.Lists.{here_or_later}
use Rattle.drafts.specs.Calls.{HasWork}
use Rattle.drafts.specs.Publish.{ReadyAt, IsReady, AreReady}
use Rattle.drafts.specs.Store.{Reorg}

pub all_ready : (schema : Version) (found : ℕ → Option Reorg) (step : List Move) → AreReady schema found step → (number : ℕ) (to : ElementState) (element : ElementDef) → Contains step (Go number to) → element_at schema number ≡ Some element → HasWork (found number) (needed_work element.kind to)
all_ready schema found [] ready number to element (k, below, is) at = absurd (omega (arith, below))
all_ready schema found (move ∷ step) ready number to element there at = elim (here_or_later move (Go number to) step there) [
  | inl e ↦ subst (λ (o : Option ElementDef). ReadyAt o (found number) to) at (subst (IsReady schema found) e ready.0)
  | inr more ↦ all_ready schema found step ready.1 number to element more at
]
