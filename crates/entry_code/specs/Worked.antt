-- Cited by the contracts of codes_say.
-- The codes of an entry of each kind, of an opening, of a query, of rows, of changes of each kind, of a plan, of control records, points and a draft, worked out by hand.
use Rattle.std.specs.Prelude.{◌≡◌, ℕ, pos, List, [], ◌∷◌, ◌++◌, Some, None}
use Rattle.change_plan.specs.declared.change.Change.TheVariants.{AddIndex, DropIndex, AddColumn, DropColumn, Abandon}
use Rattle.change_plan.specs.declared.least_plan.Reorg.TheVariants.{Fill, Clear}
use Rattle.keycode.specs.declared.value.Value.TheVariants.{Null, Int, Text}
use Rattle.row_query.specs.declared.query.Cond.TheVariants.{Key, Equal, Between}
use Rattle.row_map.specs.declared.shape.ColumnType.TheVariants as column
use Rattle.schema_version.specs.declared.element.ElementState.TheVariants.{Absent, DeleteOnly, Public}
use Rattle.schema_version.specs.declared.element.Kind.TheVariants.{Index, Optional, Required}
use Rattle.schema_version.specs.declared.element.Way.TheVariants.{Adding}
use Rattle.schema_version.specs.declared.element.Work.TheVariants as work
use Rattle.schema_version.specs.declared.step.Move.TheVariants.{Go, Turn}
use Rattle.replay.specs.declared.entry.What.TheVariants as what
use Rattle.replay.specs.Worked.{table_t, first_lease, insertion, to_delete_only, end_of_t}
use Rattle.entry_code.specs.Code.{entry_code, ops_code, step_code, opening_code, query_code, rows_code, changes_code, plan_code}
use Rattle.entry_code.specs.Records.{schema_parts_code, reorg_parts_code, points_code, draft_parts_code}

-- a small number in eight bytes, and in four
abbrev pub eight : ℕ → List ℕ
eight n = 0 ∷ 0 ∷ 0 ∷ 0 ∷ 0 ∷ 0 ∷ 0 ∷ n ∷ []

abbrev pub four : ℕ → List ℕ
four n = 0 ∷ 0 ∷ 0 ∷ n ∷ []

-- a small whole number as a value
abbrev pub int : ℕ → List ℕ
int n = 2 ∷ 0x80 ∷ 0 ∷ 0 ∷ 0 ∷ 0 ∷ 0 ∷ 0 ∷ n ∷ []

-- version 1 from 0 until 10
abbrev pub lease_bytes : List ℕ
lease_bytes = eight 1 ++ eight 0 ++ eight 10

-- insert into table 1 the key 7 with 5 in column 1
abbrev pub insertion_bytes : List ℕ
insertion_bytes = eight 1 ++ 0 ∷ four 1 ++ eight 1 ++ int 7 ++ eight 1 ++ four 1 ++ int 5

-- index i on column 1 of table 1 enters delete-only
abbrev pub entering_bytes : List ℕ
entering_bytes = eight 1 ++ 0 ∷ four 1 ++ eight 1 ++ 0x69 ∷ 0 ∷ eight 1 ++ four 1 ++ 1 ∷ []

-- columns 2 and 3 of table 1, of the rows with the key 7, no value in column 2, and in column 3 a text from "a" on
abbrev pub asked_bytes : List ℕ
asked_bytes =
    four 1 ++ eight 2 ++ four 2 ++ four 3 ++ eight 3
    ++ 0 ∷ eight 1 ++ int 7
    ++ 1 ∷ four 2 ++ 1
    ∷ 2 ∷ four 3 ++ 1 ∷ 3 ∷ 0x61 ∷ 0 ∷ 1 ∷ 0 ∷ []

-- of table 1: index i over columns a and b goes in and index j out, text column c goes in, with no default, and whole number column d, with 5;
-- column e goes out, and index k is abandoned
abbrev pub batch_bytes : List ℕ
batch_bytes =
    eight 6
    ++ 0 ∷ four 1 ++ eight 1 ++ 0x69 ∷ eight 2 ++ eight 1 ++ 0x61 ∷ eight 1 ++ 0x62
    ∷ 1 ∷ four 1 ++ eight 1 ++ 0x6A
    ∷ 2 ∷ four 1 ++ eight 1 ++ 0x63 ∷ 1 ∷ 1
    ∷ 2 ∷ four 1 ++ eight 1 ++ 0x64 ∷ 2 ∷ 0 ∷ int 5
    ++ 3 ∷ four 1 ++ eight 1 ++ 0x65
    ∷ 4 ∷ four 1 ++ eight 1 ++ 0x6B ∷ []

-- index i on column 1 of table 1 enters delete-only; then, after the fill of element 2 and the clear of element 3, these go public and absent
abbrev pub planned_bytes : List ℕ
planned_bytes =
    eight 2
    ++ eight 0 ++ entering_bytes
    ++ eight 2 ++ 0 ∷ four 2 ++ 1 ∷ four 3 ++ eight 2 ++ 1 ∷ four 2 ++ 3 ∷ 1 ∷ four 3 ++ 0 ∷ []

-- table t (id int key) with the optional whole number column a, element 1, public
abbrev pub version_bytes : List ℕ
version_bytes =
    eight 1 ++ eight 1 ++ 0x74 ∷ eight 1 ++ eight 2 ++ 0x69 ∷ 0x64 ∷ 0
    ∷ eight 1 ++ four 1 ++ four 1 ++ eight 1 ++ 0x61 ∷ 1 ∷ 0 ∷ 3 ∷ 0
    ∷ four 2

-- the fill of index i on column 1 of table 1, element 2 and delete-only, in one piece from X to Y
abbrev pub fill_bytes : List ℕ
fill_bytes = four 2 ++ four 1 ++ eight 1 ++ 0x69 ∷ 0 ∷ eight 1 ++ four 1 ++ 1 ∷ 0 ∷ 0 ∷ eight 1 ++ eight 1 ++ 0x58 ∷ eight 1 ++ 0x59 ∷ []

-- there is no a, from b to c there is b 01 with x alone, and a is put with no byte
abbrev pub draft_bytes : List ℕ
draft_bytes =
    eight 1 ++ eight 1 ++ 0x61 ∷ 0
    ∷ eight 1 ++ eight 1 ++ 0x62 ∷ eight 1 ++ 0x63 ∷ eight 1 ++ eight 2 ++ 0x62 ∷ 1 ∷ eight 1 ++ 0x78
    ∷ eight 1 ++ eight 1 ++ 0x61 ∷ 1 ∷ eight 0

pub record CodesSay : Type 0 where
  pub lease : entry_code (record { moment = 0; what = what.Lease first_lease }) ≡ 1 ∷ eight 0 ++ 0 ∷ lease_bytes
  pub transaction : entry_code (record { moment = 1; what = what.Txn first_lease insertion }) ≡ 1 ∷ eight 1 ++ 1 ∷ lease_bytes ++ insertion_bytes
  pub publication : entry_code (record { moment = 10; what = what.Publish to_delete_only }) ≡ 1 ∷ eight 10 ++ 2 ∷ entering_bytes
  pub begin : entry_code (record { moment = 30; what = what.Begin 2 1 }) ≡ 1 ∷ eight 30 ++ 3 ∷ four 2 ++ four 1
  pub piece : entry_code (record { moment = 30; what = what.Piece 2 0 end_of_t }) ≡ 1 ∷ eight 30 ++ 4 ∷ four 2 ++ four 0 ++ eight 5 ++ 0x52 ∷ 0 ∷ 0 ∷ 0 ∷ 2 ∷ []
  pub ops : ops_code insertion ≡ 1 ∷ insertion_bytes
  pub step : step_code (Go 2 Public ∷ Turn 3 ∷ []) ≡ 1 ∷ eight 2 ++ 1 ∷ four 2 ++ 3 ∷ 2 ∷ four 3
  pub opening : opening_code (10, table_t ∷ []) ≡ 1 ∷ eight 10 ++ eight 1 ++ eight 1 ++ 0x74 ∷ eight 1 ++ eight 2 ++ 0x69 ∷ 0x64 ∷ 0 ∷ eight 1 ++ eight 1 ++ 0x61 ∷ 0 ∷ eight 0
  pub query : query_code (record { table = 1; columns = 2 ∷ 3 ∷ []; conditions = Key (Int (pos 7) ∷ []) ∷ Equal 2 Null ∷ Between 3 (Some (Text (0x61 ∷ []))) None ∷ [] }) ≡ 1 ∷ asked_bytes
  pub rows : rows_code (record { key = Int (pos 7) ∷ []; cells = (1, Int (pos 5)) ∷ [] } ∷ []) ≡ 1 ∷ eight 1 ++ eight 1 ++ int 7 ++ eight 1 ++ four 1 ++ int 5
  pub changes : changes_code (AddIndex 1 (0x69 ∷ []) ((0x61 ∷ []) ∷ (0x62 ∷ []) ∷ []) ∷ DropIndex 1 (0x6A ∷ []) ∷ AddColumn 1 (0x63 ∷ []) (Optional column.Text) ∷ AddColumn 1 (0x64 ∷ []) (Required column.Int (Int (pos 5))) ∷ DropColumn 1 (0x65 ∷ []) ∷ Abandon 1 (0x6B ∷ []) ∷ []) ≡ 1 ∷ batch_bytes
  pub plan : plan_code (record { before = []; step = to_delete_only } ∷ record { before = Fill 2 ∷ Clear 3 ∷ []; step = Go 2 Public ∷ Go 3 Absent ∷ [] } ∷ []) ≡ 1 ∷ planned_bytes
  pub version :
      schema_parts_code (record { tables = (0x74 ∷ [], (0x69 ∷ 0x64 ∷ [], column.Int) ∷ []) ∷ []; elements = record { number = 1; table = 1; name = 0x61 ∷ []; kind = Optional column.Int; state = Public; way = Adding } ∷ []; next = 2 })
      ≡ 1 ∷ version_bytes
  pub fill :
      reorg_parts_code (record { element = record { number = 2; table = 1; name = 0x69 ∷ []; kind = Index (1 ∷ []); state = DeleteOnly; way = Adding }; work = work.Fill; bounds = (0x58 ∷ [], 0x59 ∷ []) ∷ [] })
      ≡ 1 ∷ fill_bytes
  pub points : points_code ((0x61 ∷ [], None) ∷ (0x62 ∷ [], Some (0x78 ∷ [])) ∷ []) ≡ 1 ∷ eight 2 ++ eight 1 ++ 0x61 ∷ 0 ∷ eight 1 ++ 0x62 ∷ 1 ∷ eight 1 ++ 0x78 ∷ []
  pub draft :
      draft_parts_code (record { compare = (0x61 ∷ [], None) ∷ []; ranges = record { low = 0x62 ∷ []; high = 0x63 ∷ []; pairs = (0x62 ∷ 1 ∷ [], 0x78 ∷ []) ∷ [] } ∷ []; write = (0x61 ∷ [], Some []) ∷ [] })
      ≡ 1 ∷ draft_bytes
