-- Cited by the contracts of changes_between.
-- The pairs at which two stores differ.
use Rattle.std.specs.Prelude.{◌≡◌, ◌≢◌, ◌↔◌, List, Contains, AllPairs}
use Rattle.std.specs.declared.cmp.Ordering.TheVariants.{Less}
use Rattle.std.specs.FinMap as map
use Rattle.byte_map.specs.Order.{bytes_cmp}
use Rattle.row_map.specs.Rows.{Pairs}
use Rattle.pair_changes.specs.declared.changes.PairChange.{PairChange}

-- the two differ at its key, and it has what each of them has there: a value, or none if there is no pair
pub record IsChange (before after : Pairs) (change : PairChange) : Type 0 where
  pub differ : map.get before change.key ≢ map.get after change.key
  pub old_value : change.before ≡ map.get before change.key
  pub new_value : change.after ≡ map.get after change.key

-- exactly the changes from one to the other, by strictly rising key, so each once
pub record AreChanges (before after : Pairs) (changes : List PairChange) : Type 0 where
  pub exact : (change : PairChange) → Contains changes change ↔ IsChange before after change
  pub rising : AllPairs (λ one other. bytes_cmp one.key other.key ≡ Less) changes
