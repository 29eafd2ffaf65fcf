-- Cited by the contracts of Store::test_and_set.
-- Test and set: a batch is written whole where all expected pairs are the present ones, and else nothing is.
use Rattle.std.specs.Prelude.{◌≡◌, Result, Ok, Err}
use Rattle.row_map.specs.Rows.{Pairs}
use Rattle.row_map.specs.Writes.{Batch, laid}
use Rattle.row_map.specs.Expect.{Holds, IsConflict}
use Rattle.row_map.specs.declared.expect.Expect.{Expect}
use Rattle.txn_store.specs.declared.fault.SetFault.{SetFault}
use Rattle.txn_store.specs.declared.fault.SetFault.TheVariants.{Conflict, Memory}

-- what a test-and-set answers, and the pairs that it leaves
abbrev pub Sets : Expect → Batch → Pairs → Result (Unit {0}) SetFault → Pairs → Type 0
Sets expect batch old (Ok done) new = Holds expect old × (new ≡ laid batch old)
Sets expect batch old (Err (Conflict key)) new = IsConflict expect old key × (new ≡ old)
Sets expect batch old (Err Memory) new = new ≡ old
