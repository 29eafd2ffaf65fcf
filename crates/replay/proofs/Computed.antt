-- Closed maps compute by what their entries are.
use Rattle.std.specs.Prelude.{◌≡◌, ℕ, [], Option, not}
use Rattle.std.specs.FinMap as map
use Rattle.std.specs.FinMap.{nat_cmp-IsAntisymmetric}
use Rattle.std.specs.FinMap.Entries.{find, put, where_key}
use Rattle.std.specs.Ordering.{nat_cmp, eq_by_cmp}
use Rattle.std.specs.Cmp.{nat_cmp_total}
use Rattle.byte_map.proofs.Order.{bytes_cmp_total, bytes_cmp-IsAntisymmetric}
use Rattle.keycode.specs.declared.value.Value.{Value}
use Rattle.keycode.specs.Order.{bytes_cmp}
use Rattle.row_map.specs.Rows.{Bytes, Cells, Rows, RowKey, row_cmp, Pairs}
use Rattle.row_map.specs.Expect.{View}
use Rattle.row_map.specs.Walk.{key_range}
use Rattle.row_map.proofs.Entries.{entries-empty, entries-remove}
use Rattle.row_map.proofs.Orders.{row_cmp_total, row_cmp-IsAntisymmetric}
use Rattle.row_write.specs.inner.Enter.{KeySet}
use Rattle.reorganise.specs.Pieces.{part}
use Rattle.reorganise.proofs.Order.{entries-part}
use Rattle.schema_version.specs.declared.element.ElementDef.{ElementDef}
use Rattle.element_state.specs.Schemas.{Entry}
use Rattle.element_state.specs.Versions.{ElementKind}

abbrev Elements : Type 0
Elements = map.FinMap nat_cmp ElementDef

abbrev Entries : Type 0
Entries = map.FinMap nat_cmp (Entry ElementKind)

pub get_pair : (m : Pairs) (q : Bytes) → map.get m q ≡ find bytes_cmp q (map.entries m)
get_pair m q = map.get-entries m q

pub insert_pair : (m : Pairs) (k : Bytes) (v : Bytes) → map.entries (map.insert m k v) ≡ put bytes_cmp k v (map.entries m)
insert_pair m k v = map.entries-insert bytes_cmp_total m k v

pub remove_pair : (m : Pairs) (k : Bytes) → map.entries (map.remove m k) ≡ where_key bytes_cmp (λ x. not (eq_by_cmp bytes_cmp k x)) (map.entries m)
remove_pair m k = entries-remove bytes_cmp_total bytes_cmp-IsAntisymmetric m k

pub empty_pair : map.entries (map.empty {X = Bytes} {R = bytes_cmp}) ≡ []
empty_pair = entries-empty bytes_cmp

pub get_view : (m : View) (q : Bytes) → map.get m q ≡ find bytes_cmp q (map.entries m)
get_view m q = map.get-entries m q

pub insert_view : (m : View) (k : Bytes) (v : Option Bytes) → map.entries (map.insert m k v) ≡ put bytes_cmp k v (map.entries m)
insert_view m k v = map.entries-insert bytes_cmp_total m k v

pub remove_view : (m : View) (k : Bytes) → map.entries (map.remove m k) ≡ where_key bytes_cmp (λ x. not (eq_by_cmp bytes_cmp k x)) (map.entries m)
remove_view m k = entries-remove bytes_cmp_total bytes_cmp-IsAntisymmetric m k

pub empty_view : map.entries (map.empty {X = Option Bytes} {R = bytes_cmp}) ≡ []
empty_view = entries-empty bytes_cmp

pub get_key : (m : KeySet) (q : Bytes) → map.get m q ≡ find bytes_cmp q (map.entries m)
get_key m q = map.get-entries m q

pub insert_key : (m : KeySet) (k : Bytes) (v : Unit {0}) → map.entries (map.insert m k v) ≡ put bytes_cmp k v (map.entries m)
insert_key m k v = map.entries-insert bytes_cmp_total m k v

pub remove_key : (m : KeySet) (k : Bytes) → map.entries (map.remove m k) ≡ where_key bytes_cmp (λ x. not (eq_by_cmp bytes_cmp k x)) (map.entries m)
remove_key m k = entries-remove bytes_cmp_total bytes_cmp-IsAntisymmetric m k

pub empty_key : map.entries (map.empty {X = Unit {0}} {R = bytes_cmp}) ≡ []
empty_key = entries-empty bytes_cmp

pub get_row : (m : Rows) (q : RowKey) → map.get m q ≡ find row_cmp q (map.entries m)
get_row m q = map.get-entries m q

pub insert_row : (m : Rows) (k : RowKey) (v : Cells) → map.entries (map.insert m k v) ≡ put row_cmp k v (map.entries m)
insert_row m k v = map.entries-insert row_cmp_total m k v

pub remove_row : (m : Rows) (k : RowKey) → map.entries (map.remove m k) ≡ where_key row_cmp (λ x. not (eq_by_cmp row_cmp k x)) (map.entries m)
remove_row m k = entries-remove row_cmp_total row_cmp-IsAntisymmetric m k

pub empty_row : map.entries (map.empty {X = Cells} {R = row_cmp}) ≡ []
empty_row = entries-empty row_cmp

pub get_cell : (m : Cells) (q : ℕ) → map.get m q ≡ find nat_cmp q (map.entries m)
get_cell m q = map.get-entries m q

pub insert_cell : (m : Cells) (k : ℕ) (v : Value) → map.entries (map.insert m k v) ≡ put nat_cmp k v (map.entries m)
insert_cell m k v = map.entries-insert nat_cmp_total m k v

pub remove_cell : (m : Cells) (k : ℕ) → map.entries (map.remove m k) ≡ where_key nat_cmp (λ x. not (eq_by_cmp nat_cmp k x)) (map.entries m)
remove_cell m k = entries-remove nat_cmp_total nat_cmp-IsAntisymmetric m k

pub empty_cell : map.entries (map.empty {X = Value} {R = nat_cmp}) ≡ []
empty_cell = entries-empty nat_cmp

pub get_element : (m : Elements) (q : ℕ) → map.get m q ≡ find nat_cmp q (map.entries m)
get_element m q = map.get-entries m q

pub insert_element : (m : Elements) (k : ℕ) (v : ElementDef) → map.entries (map.insert m k v) ≡ put nat_cmp k v (map.entries m)
insert_element m k v = map.entries-insert nat_cmp_total m k v

pub remove_element : (m : Elements) (k : ℕ) → map.entries (map.remove m k) ≡ where_key nat_cmp (λ x. not (eq_by_cmp nat_cmp k x)) (map.entries m)
remove_element m k = entries-remove nat_cmp_total nat_cmp-IsAntisymmetric m k

pub empty_element : map.entries (map.empty {X = ElementDef} {R = nat_cmp}) ≡ []
empty_element = entries-empty nat_cmp

pub get_entry : (m : Entries) (q : ℕ) → map.get m q ≡ find nat_cmp q (map.entries m)
get_entry m q = map.get-entries m q

pub insert_entry : (m : Entries) (k : ℕ) (v : Entry ElementKind) → map.entries (map.insert m k v) ≡ put nat_cmp k v (map.entries m)
insert_entry m k v = map.entries-insert nat_cmp_total m k v

pub remove_entry : (m : Entries) (k : ℕ) → map.entries (map.remove m k) ≡ where_key nat_cmp (λ x. not (eq_by_cmp nat_cmp k x)) (map.entries m)
remove_entry m k = entries-remove nat_cmp_total nat_cmp-IsAntisymmetric m k

pub empty_entry : map.entries (map.empty {X = Entry ElementKind} {R = nat_cmp}) ≡ []
empty_entry = entries-empty nat_cmp

pub part_pairs : (pairs : Pairs) (low high : Bytes) → map.entries (part pairs low high) ≡ key_range pairs low high
part_pairs pairs low high = entries-part pairs low high

pub ruleset computed = (get_pair, insert_pair, remove_pair, empty_pair, get_view, insert_view, remove_view, empty_view, get_key, insert_key, remove_key, empty_key, get_row, insert_row, remove_row, empty_row, get_cell, insert_cell, remove_cell, empty_cell, get_element, insert_element, remove_element, empty_element, get_entry, insert_entry, remove_entry, empty_entry, part_pairs)
