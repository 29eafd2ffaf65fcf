-- The readers of operations, steps, tables and entries.
use Rattle.std.proofs.Common.{◌≡◌, ℕ, eqb, List, [], ◌∷◌, ◌++◌, Ok, refl, inl, inr}
use Rattle.keycode.specs.declared.value.Value.{Value}
use Rattle.keycode.specs.Valid.{IsStorable}
use Rattle.keycode.proofs.Fields.{IsBytes}
use Rattle.lease.specs.declared.lease.Lease.{Lease}
use Rattle.row_map.specs.declared.shape.ColumnType.{ColumnType}
use Rattle.row_map.specs.declared.shape.ColumnType.TheVariants as column
use Rattle.row_write.specs.declared.op.RowOp.{RowOp}
use Rattle.row_write.specs.declared.op.RowOp.TheVariants.{Insert, Update, Delete}
use Rattle.schema_version.specs.declared.element.ElementState.{ElementState}
use Rattle.schema_version.specs.declared.element.ElementState.TheVariants.{Absent, DeleteOnly, WriteOnly, Public}
use Rattle.schema_version.specs.declared.element.Kind.{Kind}
use Rattle.schema_version.specs.declared.element.Kind.TheVariants.{Index, Optional, Required}
use Rattle.schema_version.specs.declared.element.NewElement.{NewElement}
use Rattle.schema_version.specs.declared.step.Move.{Move}
use Rattle.schema_version.specs.declared.step.Move.TheVariants.{Enter, Go, Turn}
use Rattle.schema_version.specs.declared.table.TableDef.{TableDef}
use Rattle.replay.specs.declared.entry.Entry.{Entry}
use Rattle.replay.specs.declared.entry.What.{What}
use Rattle.replay.specs.declared.entry.What.TheVariants as what
use Rattle.entry_code.specs.Code.{u32_code, u64_code, type_code, state_code, key_code, cells_code, op_code, kind_code, fresh_code, move_code, table_code, lease_code, what_code, body_code, op_list_code, move_list_code, pair_code, list_code}
use Rattle.entry_code.specs.Known.{IsU32, IsAny, IsPair, IsList, IsOp, AreOps, IsKind, IsFresh, IsMove, AreMoves, IsTable, IsOpening, IsLease, IsWhat, IsEntry}
use Rattle.entry_code.specs.inner.At.{byte_at, u64_at, pair_at, list_at, type_at, state_at, row_at, op_at, kind_at, fresh_at, move_at, table_at, lease_at, what_at, entry_at}
use Rattle.entry_code.proofs.Readers.{Takes, IsReader, chosen, u32_reader, u64_reader, bytes_reader, text_reader, value_reader, pair_reader, map_reader, list_reader, nothing_reader, variant_takes, variant_again}

-- ---- bare variants

type_takes : (bytes : List ℕ) (x : ColumnType × List ℕ) → IsBytes bytes → type_at bytes ≡ Ok x → Takes IsAny type_code bytes x
unfolding type_at byte_at
type_takes [] x fits e = absurd cc
type_takes (tag ∷ bytes) x fits e =
    elim (chosen (eqb tag 0) _ _ (Ok x) e) [
      | inl t ↦ variant_takes IsAny type_code 0 (λ _. column.Int) (λ _. refl) (λ _ _. tt) nothing_reader tag bytes x fits t.0 t.1
      | inr e1 ↦ elim (chosen (eqb tag 1) _ _ (Ok x) e1.1) [
        | inl t ↦ variant_takes IsAny type_code 1 (λ _. column.Text) (λ _. refl) (λ _ _. tt) nothing_reader tag bytes x fits t.0 t.1
        | inr e2 ↦ elim (chosen (eqb tag 2) _ _ (Ok x) e2.1) [
          | inl t ↦ variant_takes IsAny type_code 2 (λ _. column.Bool) (λ _. refl) (λ _ _. tt) nothing_reader tag bytes x fits t.0 t.1
          | inr t ↦ absurd cc
        ]
      ]
    ]

type_again : (x : ColumnType) (rest : List ℕ) → IsAny x → type_at (type_code x ++ rest) ≡ Ok (x, rest)
unfolding type_at byte_at
type_again column.Int rest known = refl
type_again column.Text rest known = refl
type_again column.Bool rest known = refl

pub type_reader : IsReader IsAny type_code type_at
type_reader = record { takes = type_takes; again = type_again }

state_takes : (bytes : List ℕ) (x : ElementState × List ℕ) → IsBytes bytes → state_at bytes ≡ Ok x → Takes IsAny state_code bytes x
unfolding state_at byte_at
state_takes [] x fits e = absurd cc
state_takes (tag ∷ bytes) x fits e =
    elim (chosen (eqb tag 0) _ _ (Ok x) e) [
      | inl t ↦ variant_takes IsAny state_code 0 (λ _. Absent) (λ _. refl) (λ _ _. tt) nothing_reader tag bytes x fits t.0 t.1
      | inr e1 ↦ elim (chosen (eqb tag 1) _ _ (Ok x) e1.1) [
        | inl t ↦ variant_takes IsAny state_code 1 (λ _. DeleteOnly) (λ _. refl) (λ _ _. tt) nothing_reader tag bytes x fits t.0 t.1
        | inr e2 ↦ elim (chosen (eqb tag 2) _ _ (Ok x) e2.1) [
          | inl t ↦ variant_takes IsAny state_code 2 (λ _. WriteOnly) (λ _. refl) (λ _ _. tt) nothing_reader tag bytes x fits t.0 t.1
          | inr e3 ↦ elim (chosen (eqb tag 3) _ _ (Ok x) e3.1) [
            | inl t ↦ variant_takes IsAny state_code 3 (λ _. Public) (λ _. refl) (λ _ _. tt) nothing_reader tag bytes x fits t.0 t.1
            | inr t ↦ absurd cc
          ]
        ]
      ]
    ]

state_again : (x : ElementState) (rest : List ℕ) → IsAny x → state_at (state_code x ++ rest) ≡ Ok (x, rest)
unfolding state_at byte_at
state_again Absent rest known = refl
state_again DeleteOnly rest known = refl
state_again WriteOnly rest known = refl
state_again Public rest known = refl

pub state_reader : IsReader IsAny state_code state_at
state_reader = record { takes = state_takes; again = state_again }

-- ---- operations

abbrev RowParts : Type 0
RowParts = ℕ × (List Value × List (ℕ × Value))

row_reader : IsReader (IsPair IsU32 (IsPair (IsList IsStorable) (IsList (IsPair IsU32 IsStorable)))) (pair_code u32_code (pair_code key_code cells_code)) row_at
row_reader = pair_reader u32_reader (pair_reader (list_reader value_reader) (list_reader (pair_reader u32_reader value_reader)))

op_takes : (bytes : List ℕ) (x : RowOp × List ℕ) → IsBytes bytes → op_at bytes ≡ Ok x → Takes (IsOp IsStorable) op_code bytes x
unfolding op_at byte_at
op_takes [] x fits e = absurd cc
op_takes (tag ∷ bytes) x fits e =
    elim (chosen (eqb tag 0) _ _ (Ok x) e) [
      | inl t ↦ variant_takes (IsOp IsStorable) op_code 0 (λ (r : RowParts). Insert r.0 r.1.0 r.1.1) (λ _. refl) (λ _ p. p) row_reader tag bytes x fits t.0 t.1
      | inr e1 ↦ elim (chosen (eqb tag 1) _ _ (Ok x) e1.1) [
        | inl t ↦ variant_takes (IsOp IsStorable) op_code 1 (λ (r : RowParts). Update r.0 r.1.0 r.1.1) (λ _. refl) (λ _ p. p) row_reader tag bytes x fits t.0 t.1
        | inr e2 ↦ elim (chosen (eqb tag 2) _ _ (Ok x) e2.1) [
          | inl t ↦ variant_takes (IsOp IsStorable) op_code 2 (λ (r : ℕ × List Value). Delete r.0 r.1) (λ _. refl) (λ _ p. p) (pair_reader u32_reader (list_reader value_reader)) tag bytes x fits t.0 t.1
          | inr t ↦ absurd cc
        ]
      ]
    ]

op_again : (x : RowOp) (rest : List ℕ) → IsOp IsStorable x → op_at (op_code x ++ rest) ≡ Ok (x, rest)
unfolding op_at byte_at
op_again (Insert table key cells) rest known = variant_again (λ (r : RowParts). Insert r.0 r.1.0 r.1.1) row_reader (table, (key, cells)) rest known
op_again (Update table key cells) rest known = variant_again (λ (r : RowParts). Update r.0 r.1.0 r.1.1) row_reader (table, (key, cells)) rest known
op_again (Delete table key) rest known = variant_again (λ (r : ℕ × List Value). Delete r.0 r.1) (pair_reader u32_reader (list_reader value_reader)) (table, key) rest known

pub op_reader : IsReader (IsOp IsStorable) op_code op_at
op_reader = record { takes = op_takes; again = op_again }

-- ---- steps and tables

kind_takes : (bytes : List ℕ) (x : Kind × List ℕ) → IsBytes bytes → kind_at bytes ≡ Ok x → Takes (IsKind IsStorable) kind_code bytes x
unfolding kind_at byte_at
kind_takes [] x fits e = absurd cc
kind_takes (tag ∷ bytes) x fits e =
    elim (chosen (eqb tag 0) _ _ (Ok x) e) [
      | inl t ↦ variant_takes (IsKind IsStorable) kind_code 0 Index (λ _. refl) (λ _ p. p) (list_reader u32_reader) tag bytes x fits t.0 t.1
      | inr e1 ↦ elim (chosen (eqb tag 1) _ _ (Ok x) e1.1) [
        | inl t ↦ variant_takes (IsKind IsStorable) kind_code 1 Optional (λ _. refl) (λ _ p. p) type_reader tag bytes x fits t.0 t.1
        | inr e2 ↦ elim (chosen (eqb tag 2) _ _ (Ok x) e2.1) [
          | inl t ↦ variant_takes (IsKind IsStorable) kind_code 2 (λ (r : ColumnType × Value). Required r.0 r.1) (λ _. refl) (λ _ p. p) (pair_reader type_reader value_reader) tag bytes x fits t.0 t.1
          | inr t ↦ absurd cc
        ]
      ]
    ]

kind_again : (x : Kind) (rest : List ℕ) → IsKind IsStorable x → kind_at (kind_code x ++ rest) ≡ Ok (x, rest)
unfolding kind_at byte_at
kind_again (Index columns) rest known = variant_again Index (list_reader u32_reader) columns rest known
kind_again (Optional type) rest known = variant_again Optional type_reader type rest known
kind_again (Required type fallback) rest known = variant_again (λ (r : ColumnType × Value). Required r.0 r.1) (pair_reader type_reader value_reader) (type, fallback) rest known

pub kind_reader : IsReader (IsKind IsStorable) kind_code kind_at
kind_reader = record { takes = kind_takes; again = kind_again }

pub fresh_reader : IsReader (IsFresh IsStorable) fresh_code fresh_at
unfolding fresh_at
fresh_reader = map_reader _ (λ (f : NewElement). (f.table, (f.name, f.kind))) (λ _. refl) (λ _. refl) (pair_reader u32_reader (pair_reader text_reader kind_reader))

move_takes : (bytes : List ℕ) (x : Move × List ℕ) → IsBytes bytes → move_at bytes ≡ Ok x → Takes (IsMove IsStorable) move_code bytes x
unfolding move_at byte_at
move_takes [] x fits e = absurd cc
move_takes (tag ∷ bytes) x fits e =
    elim (chosen (eqb tag 0) _ _ (Ok x) e) [
      | inl t ↦ variant_takes (IsMove IsStorable) move_code 0 (λ (r : NewElement × ElementState). Enter r.0 r.1) (λ _. refl) (λ _ p. p) (pair_reader fresh_reader state_reader) tag bytes x fits t.0 t.1
      | inr e1 ↦ elim (chosen (eqb tag 1) _ _ (Ok x) e1.1) [
        | inl t ↦ variant_takes (IsMove IsStorable) move_code 1 (λ (r : ℕ × ElementState). Go r.0 r.1) (λ _. refl) (λ _ p. p) (pair_reader u32_reader state_reader) tag bytes x fits t.0 t.1
        | inr e2 ↦ elim (chosen (eqb tag 2) _ _ (Ok x) e2.1) [
          | inl t ↦ variant_takes (IsMove IsStorable) move_code 2 Turn (λ _. refl) (λ _ p. p) u32_reader tag bytes x fits t.0 t.1
          | inr t ↦ absurd cc
        ]
      ]
    ]

move_again : (x : Move) (rest : List ℕ) → IsMove IsStorable x → move_at (move_code x ++ rest) ≡ Ok (x, rest)
unfolding move_at byte_at
move_again (Enter fresh to) rest known = variant_again (λ (r : NewElement × ElementState). Enter r.0 r.1) (pair_reader fresh_reader state_reader) (fresh, to) rest known
move_again (Go element to) rest known = variant_again (λ (r : ℕ × ElementState). Go r.0 r.1) (pair_reader u32_reader state_reader) (element, to) rest known
move_again (Turn element) rest known = variant_again Turn u32_reader element rest known

pub move_reader : IsReader (IsMove IsStorable) move_code move_at
move_reader = record { takes = move_takes; again = move_again }

pub table_reader : IsReader IsTable table_code table_at
unfolding table_at
table_reader =
    let columns = list_reader (pair_reader text_reader type_reader) in
    map_reader _ (λ (t : TableDef). (t.name, (t.key, (t.columns, t.indexes)))) (λ _. refl) (λ _. refl)
    (pair_reader text_reader (pair_reader columns (pair_reader columns (list_reader (pair_reader text_reader (list_reader text_reader))))))

-- ---- entries

pub lease_reader : IsReader IsLease lease_code lease_at
unfolding lease_at
lease_reader = map_reader _ (λ (l : Lease). (l.version, (l.granted, l.until))) (λ _. refl) (λ _. refl) (pair_reader u64_reader (pair_reader u64_reader u64_reader))

what_takes : (bytes : List ℕ) (x : What × List ℕ) → IsBytes bytes → what_at bytes ≡ Ok x → Takes (IsWhat IsStorable) what_code bytes x
unfolding what_at byte_at
what_takes [] x fits e = absurd cc
what_takes (tag ∷ bytes) x fits e =
    elim (chosen (eqb tag 0) _ _ (Ok x) e) [
      | inl t ↦ variant_takes (IsWhat IsStorable) what_code 0 what.Lease (λ _. refl) (λ _ p. p) lease_reader tag bytes x fits t.0 t.1
      | inr e1 ↦ elim (chosen (eqb tag 1) _ _ (Ok x) e1.1) [
        | inl t ↦ variant_takes (IsWhat IsStorable) what_code 1 (λ (r : Lease × List RowOp). what.Txn r.0 r.1) (λ _. refl) (λ _ p. p) (pair_reader lease_reader (list_reader op_reader)) tag bytes x fits t.0 t.1
        | inr e2 ↦ elim (chosen (eqb tag 2) _ _ (Ok x) e2.1) [
          | inl t ↦ variant_takes (IsWhat IsStorable) what_code 2 what.Publish (λ _. refl) (λ _ p. p) (list_reader move_reader) tag bytes x fits t.0 t.1
          | inr e3 ↦ elim (chosen (eqb tag 3) _ _ (Ok x) e3.1) [
            | inl t ↦ variant_takes (IsWhat IsStorable) what_code 3 (λ (r : ℕ × ℕ). what.Begin r.0 r.1) (λ _. refl) (λ _ p. p) (pair_reader u32_reader u32_reader) tag bytes x fits t.0 t.1
            | inr e4 ↦ elim (chosen (eqb tag 4) _ _ (Ok x) e4.1) [
              | inl t ↦ variant_takes (IsWhat IsStorable) what_code 4 (λ (r : ℕ × (ℕ × List ℕ)). what.Piece r.0 r.1.0 r.1.1) (λ _. refl) (λ _ p. p) (pair_reader u32_reader (pair_reader u32_reader bytes_reader)) tag bytes x fits t.0 t.1
              | inr t ↦ absurd cc
            ]
          ]
        ]
      ]
    ]

what_again : (x : What) (rest : List ℕ) → IsWhat IsStorable x → what_at (what_code x ++ rest) ≡ Ok (x, rest)
unfolding what_at byte_at
what_again (what.Lease lease) rest known = variant_again what.Lease lease_reader lease rest known
what_again (what.Txn lease ops) rest known = variant_again (λ (r : Lease × List RowOp). what.Txn r.0 r.1) (pair_reader lease_reader (list_reader op_reader)) (lease, ops) rest known
what_again (what.Publish step) rest known = variant_again what.Publish (list_reader move_reader) step rest known
what_again (what.Begin element pieces) rest known = variant_again (λ (r : ℕ × ℕ). what.Begin r.0 r.1) (pair_reader u32_reader u32_reader) (element, pieces) rest known
what_again (what.Piece element piece cursor) rest known = variant_again (λ (r : ℕ × (ℕ × List ℕ)). what.Piece r.0 r.1.0 r.1.1) (pair_reader u32_reader (pair_reader u32_reader bytes_reader)) (element, (piece, cursor)) rest known

what_reader : IsReader (IsWhat IsStorable) what_code what_at
what_reader = record { takes = what_takes; again = what_again }

pub entry_reader : IsReader (IsEntry IsStorable) body_code entry_at
unfolding entry_at
entry_reader = map_reader _ (λ (e : Entry). (e.moment, e.what)) (λ _. refl) (λ _. refl) (pair_reader u64_reader what_reader)

pub ops_reader : IsReader (AreOps IsStorable) op_list_code (list_at op_at)
ops_reader = list_reader op_reader

pub step_reader : IsReader (AreMoves IsStorable) move_list_code (list_at move_at)
step_reader = list_reader move_reader

pub opening_reader : IsReader IsOpening (pair_code u64_code (list_code table_code)) (pair_at u64_at (list_at table_at))
opening_reader = pair_reader u64_reader (list_reader table_reader)
