-- Cited by the definitions of Kept, reorganise/Laws.
-- Whole transactions, and the begin of a reorganisation.
use Rattle.std.specs.Prelude.{List, [], ◌∷◌, ◌++◌}
use Rattle.row_map.specs.Rows.{Bytes, Rows}
use Rattle.row_map.specs.Writes.{Writes, written_all}
use Rattle.element_state.specs.Elements.{Change, rows_after}
use Rattle.element_state.specs.Schemas.{Schema, Kinds, version_writes}
use Rattle.element_state.specs.Core.{PassedSpan, Core, Runs}

-- cursors that stand at their lower bounds
abbrev pub fresh_spans : List Bytes → List PassedSpan
fresh_spans [] = []
fresh_spans (x ∷ xs) = record { low = x; cursor = x } ∷ fresh_spans xs

module _ {K : Type 0} (ks : Kinds K) where
  -- operations in turn, each on the rows that the ones before leave
  abbrev pub RunsAll : Schema K → Rows → List Change → Type 0
  RunsAll s R [] = Unit {0}
  RunsAll s R (c ∷ cs) = Runs ks s R c × RunsAll s (rows_after R c) cs

  -- the rows after all operations
  abbrev pub rows_after_all : Rows → List Change → Rows
  rows_after_all R [] = R
  rows_after_all R (c ∷ cs) = rows_after_all (rows_after R c) cs

  -- what all operations write, in turn
  abbrev pub all_writes : Schema K → List Change → Writes
  all_writes s [] = []
  all_writes s (c ∷ cs) = version_writes ks s c ++ all_writes s cs

  -- the core after a transaction by a server at version s
  abbrev pub committed_all : Core K → Schema K → List Change → Core K
  committed_all w s cs = record w { pairs = written_all w.pairs (all_writes s cs); rows = rows_after_all w.rows cs }
