-- Cited by the contracts of a_log_says.
-- What a log says that has an entry of each kind, worked out by hand, and that each of its entries may follow those before it.
use Rattle.std.specs.Prelude.{◌≡◌, pos, List, [], ◌∷◌, Some, None}
use Rattle.std.specs.FinMap as map
use Rattle.keycode.specs.declared.value.Value.TheVariants.{Int}
use Rattle.lease.specs.declared.lease.Lease.{Lease}
use Rattle.lease.specs.Timeline.{IsLength}
use Rattle.row_map.specs.Rows.{Bytes}
use Rattle.row_map.specs.declared.shape.ColumnType.TheVariants.{Int as IntColumn}
use Rattle.row_write.specs.declared.op.RowOp.{RowOp}
use Rattle.row_write.specs.declared.op.RowOp.TheVariants.{Insert}
use Rattle.schema_version.specs.declared.element.ElementState.TheVariants.{DeleteOnly, WriteOnly, Public}
use Rattle.schema_version.specs.declared.element.Kind.TheVariants.{Index}
use Rattle.schema_version.specs.declared.element.NewElement.{NewElement}
use Rattle.schema_version.specs.declared.step.Move.{Move}
use Rattle.schema_version.specs.declared.step.Move.TheVariants.{Enter, Go}
use Rattle.schema_version.specs.declared.table.TableDef.{TableDef}
use Rattle.schema_version.specs.Declare.{declared}
use Rattle.schema_version.specs.Moves.{after_step}
use Rattle.schema_version.specs.Sound.{IsSoundVersion}
use Rattle.replay.specs.declared.entry.Entry.{Entry}
use Rattle.replay.specs.declared.entry.What.TheVariants.{Lease as Granted, Txn, Publish, Begin, Piece}
use Rattle.replay.specs.Headline.{MayFollow, AllFollow}
use Rattle.replay.specs.Kept.{FactsAgree}
use Rattle.replay.specs.Replay.{Opening, Facts, start, after_call, replay, version_at}

-- ---- the log

-- table t (id int key, a int)
abbrev pub table_t : TableDef
table_t = record { name = 0x74 ∷ []; key = (0x69 ∷ 0x64 ∷ [], IntColumn) ∷ []; columns = (0x61 ∷ [], IntColumn) ∷ []; indexes = [] }

-- leases of 10 moments
abbrev pub opening : Opening
opening = record { length = 10; schema = declared (table_t ∷ []) }

abbrev pub first_lease : Lease
first_lease = record { version = 1; granted = 0; until = 10 }

-- insert t (7) set a = 5
abbrev pub insertion : List RowOp
insertion = Insert 1 (Int (pos 7) ∷ []) ((1, Int (pos 5)) ∷ []) ∷ []

-- the index i on t (a)
abbrev pub index_i : NewElement
index_i = record { table = 1; name = 0x69 ∷ []; kind = Index (1 ∷ []) }

abbrev pub to_delete_only : List Move
to_delete_only = Enter index_i DeleteOnly ∷ []

abbrev pub second_lease : Lease
second_lease = record { version = 2; granted = 10; until = 20 }

abbrev pub to_write_only : List Move
to_write_only = Go 2 WriteOnly ∷ []

abbrev pub third_lease : Lease
third_lease = record { version = 3; granted = 20; until = 30 }

abbrev pub to_public : List Move
to_public = Go 2 Public ∷ []

-- before all keys of rows of the table t, and after them
abbrev pub front_of_t : Bytes
front_of_t = 0x52 ∷ 0 ∷ 0 ∷ 0 ∷ 1 ∷ []

abbrev pub end_of_t : Bytes
end_of_t = 0x52 ∷ 0 ∷ 0 ∷ 0 ∷ 2 ∷ []

abbrev pub log : List Entry
log =
    record { moment = 0; what = Granted first_lease }
    ∷ record { moment = 1; what = Txn first_lease insertion }
    ∷ record { moment = 10; what = Publish to_delete_only }
    ∷ record { moment = 10; what = Granted second_lease }
    ∷ record { moment = 20; what = Publish to_write_only }
    ∷ record { moment = 20; what = Granted third_lease }
    ∷ record { moment = 30; what = Begin 2 1 }
    ∷ record { moment = 30; what = Piece 2 0 end_of_t }
    ∷ record { moment = 30; what = Publish to_public }
    ∷ []

-- ---- what it says after each entry

abbrev pub opened : Facts
opened = start opening

abbrev pub leased : Facts
leased = after_call opened 0 (Granted first_lease)

abbrev pub inserted : Facts
inserted = after_call leased 1 (Txn first_lease insertion)

abbrev pub entered : Facts
entered = after_call inserted 10 (Publish to_delete_only)

abbrev pub leased_again : Facts
leased_again = after_call entered 10 (Granted second_lease)

abbrev pub writing : Facts
writing = after_call leased_again 20 (Publish to_write_only)

abbrev pub leased_last : Facts
leased_last = after_call writing 20 (Granted third_lease)

abbrev pub begun : Facts
begun = after_call leased_last 30 (Begin 2 1)

abbrev pub filled : Facts
filled = after_call begun 30 (Piece 2 0 end_of_t)

-- ---- its pairs

abbrev pub exists_pair : Bytes × Bytes
exists_pair = (0x52 ∷ 0 ∷ 0 ∷ 0 ∷ 1 ∷ 2 ∷ 0x80 ∷ 0 ∷ 0 ∷ 0 ∷ 0 ∷ 0 ∷ 0 ∷ 7 ∷ 0 ∷ 0 ∷ 0 ∷ 0 ∷ [], [])

abbrev pub column_pair : Bytes × Bytes
column_pair = (0x52 ∷ 0 ∷ 0 ∷ 0 ∷ 1 ∷ 2 ∷ 0x80 ∷ 0 ∷ 0 ∷ 0 ∷ 0 ∷ 0 ∷ 0 ∷ 7 ∷ 0 ∷ 0 ∷ 0 ∷ 1 ∷ [], 2 ∷ 0x80 ∷ 0 ∷ 0 ∷ 0 ∷ 0 ∷ 0 ∷ 0 ∷ 5 ∷ [])

abbrev pub index_pair : Bytes × Bytes
index_pair = (0x58 ∷ 0 ∷ 0 ∷ 0 ∷ 2 ∷ 2 ∷ 0x80 ∷ 0 ∷ 0 ∷ 0 ∷ 0 ∷ 0 ∷ 0 ∷ 5 ∷ 2 ∷ 0x80 ∷ 0 ∷ 0 ∷ 0 ∷ 0 ∷ 0 ∷ 0 ∷ 7 ∷ [], [])

-- four versions, published at 0, 10, 20 and 30; the insert puts the row's two pairs, the piece that of the index
pub record ALogSays : Type 0 where
  pub moment : (replay opening log).moment ≡ 30
  pub published : (replay opening log).line.published ≡ 30 ∷ 20 ∷ 10 ∷ 0 ∷ []
  pub none : version_at (replay opening log) 0 ≡ None
  pub first : version_at (replay opening log) 1 ≡ Some opening.schema
  pub second : version_at (replay opening log) 2 ≡ Some (after_step opening.schema to_delete_only)
  pub fourth : version_at (replay opening log) 4 ≡ Some (after_step (after_step (after_step opening.schema to_delete_only) to_write_only) to_public)
  pub fifth : version_at (replay opening log) 5 ≡ None
  pub before_the_piece : map.entries begun.pairs ≡ exists_pair ∷ column_pair ∷ []
  pub pairs : map.entries (replay opening log).pairs ≡ exists_pair ∷ column_pair ∷ index_pair ∷ []

-- each entry may follow those before it, so the theorem speaks of this log
pub record ALogFollows : Type 0 where
  pub length : IsLength opening.length
  pub sound : IsSoundVersion opening.schema
  pub lease : MayFollow opened 0 (Granted first_lease)
  pub transaction : MayFollow leased 1 (Txn first_lease insertion)
  pub entry : MayFollow inserted 10 (Publish to_delete_only)
  pub step : MayFollow leased_again 20 (Publish to_write_only)
  pub begin : MayFollow leased_last 30 (Begin 2 1)
  pub piece : MayFollow begun 30 (Piece 2 0 end_of_t)
  pub last_step : MayFollow filled 30 (Publish to_public)
  pub all : AllFollow (start opening) log
  pub agrees : FactsAgree (replay opening log)
