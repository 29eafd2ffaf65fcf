-- Cited by the contracts of Progress::read_piece.
-- When a piece is not read.
use Rattle.std.specs.Prelude.{◌≡◌, ◌≢◌, ℕ, ◌≤◌, ◌<◌, length, Some, ◌⊎◌, slice_get}
use Rattle.std.specs.declared.cmp.Ordering.TheVariants.{Less}
use Rattle.keycode.specs.Order.{bytes_cmp}
use Rattle.reorganise.specs.declared.work.Span.{Span}
use Rattle.reorganise.specs.declared.work.Progress.{Progress}
use Rattle.reorganise.specs.declared.fault.ViewFault.{ViewFault}
use Rattle.reorganise.specs.declared.fault.ViewFault.TheVariants.{BadPiece, Spent, BadLimit, Memory}

-- the order of the refusals
abbrev pub rank : ViewFault → ℕ
rank BadPiece = 0
rank Spent = 1
rank BadLimit = 2
rank Memory = 3

-- the piece of this number is there, and its cursor is not below its upper bound
pub record IsSpent (progress : Progress) (piece : ℕ) : Type 0 where
  pub span : Span
  pub here : slice_get progress.pieces piece ≡ Some span
  pub past : bytes_cmp span.cursor span.high ≢ Less

-- when each refusal is due
abbrev pub Condition : Progress → ℕ → ℕ → ViewFault → Type 0
Condition progress piece limit BadPiece = length progress.pieces ≤ piece
Condition progress piece limit Spent = IsSpent progress piece
Condition progress piece limit BadLimit = (limit < 1) ⊎ (1000 < limit)
Condition progress piece limit Memory = ⊥
