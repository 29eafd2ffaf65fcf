-- If a store agrees with a version and rows, reads that hold encode those rows.
use Rattle.std.proofs.Common.{◌≡◌, ℕ, suc, ◌≤◌, List, [], ◌∷◌, Option, Some, None, option_map, refl, sym, ap, subst, ◌∙◌, ◌⊎◌, inl, inr, Bool, false, cond, eqb, eq-eqb, arith}
use Rattle.std.specs.Prelude.{◌≢◌, ◌==◌, ◌&&◌, Contains, ◌↔◌, unwrap_or}
use Rattle.keycode.specs.declared.value.Value.{Value}
use Rattle.std.specs.List.{AllByRecursion}
use Rattle.std.specs.FinMap as map
use Rattle.std.specs.FinMap.{nat_cmp-IsAntisymmetric}
use Rattle.std.specs.Cmp.{nat_cmp_total}
use Rattle.std.specs.Ordering.{nat_cmp, eq_by_cmp}
use Rattle.byte_map.proofs.Written.{same_or_apart, apart}
use Rattle.keycode.specs.Code.{code}
use Rattle.keycode.proofs.Orders.{bytes_cmp_total, bytes_cmp-IsAntisymmetric}
use Rattle.row_map.specs.declared.shape.ColumnType.{ColumnType}
use Rattle.row_map.specs.Expect.{View, Holds}
use Rattle.row_map.specs.Keys.{row_code}
use Rattle.row_map.specs.Rows.{Bytes, RowKey, Cells, Rows, Pairs, IsStorableRow, AreStorable}
use Rattle.schema_version.specs.declared.element.ElementState.{ElementState}
use Rattle.schema_version.specs.declared.element.ElementState.TheVariants.{Public}
use Rattle.schema_version.specs.declared.element.Kind.{Kind}
use Rattle.schema_version.specs.declared.element.Kind.TheVariants.{Index, Optional, Required}
use Rattle.schema_version.specs.declared.element.ElementDef.{ElementDef}
use Rattle.schema_version.specs.Version.{Version, element_at, is_public, type_of_kind}
use Rattle.schema_version.specs.Sound.{IsSoundVersion}
use Rattle.element_state.specs.Column.{column_meaning, IsLawfulColumn}
use Rattle.element_state.specs.Required.{required_meaning}
use Rattle.element_state.specs.lemmas.RequiredLaws.{required_laws}
use Rattle.element_state.specs.Visible.{default_of, default_at, own_or, visible_value, visible_cells}
use Rattle.element_state.specs.Sources.{source_in}
use Rattle.element_state.proofs.Visible.{optional_visible, visible_get, visible_there, lawful_visible}
use Rattle.element_state.specs.lemmas.ColumnLaws.{column_laws}
use Rattle.element_state.specs.Core.{MeetsAll as Consistent, Meets}
use Rattle.element_state.specs.Elements.{Meaning, Demand, Exact, IsFromScratch, IsKeyOfElement, owner, owner_named}
use Rattle.element_state.specs.lemmas.Effects.{none_where}
use Rattle.element_state.specs.lemmas.Apart.{not_none}
use Rattle.element_state.specs.Kinds.{kind_meaning}
use Rattle.element_state.specs.Laws.{Laws}
use Rattle.element_state.specs.Tables.{within, some_in}
use Rattle.element_state.specs.Versions.{the_kinds, schema_of, entry_of, row_entry}
use Rattle.element_state.proofs.Versions.{get-schema_of, row_there, row_missing}
use Rattle.row_write.specs.declared.op.RowOp.{RowOp}
use Rattle.row_write.specs.Plain.{table_of, key_of, row_of}
use Rattle.row_write.specs.Reads.{IsPublicColumn, IsRead}
use Rattle.row_write.specs.Prepare.{IsEncodedRow, Encodes}
use Rattle.row_write.specs.Made.{IsSound, expects}
use Rattle.element_state.specs.Consistent.{IsLawfulRow, AreLawfulRows}
use Rattle.replay.specs.inner.Small.{AreTablesSmall, AreNumbersFit}
use Rattle.replay.proofs.Operations.{key_values}

some_one : {A : Type 0} (v w : A) → Some v ≡ Some w → v ≡ w
some_one v w e = cc

none_some : {A B : Type 0} (v : A) → None ≡ Some v → B
none_some v e = absurd cc

-- ---- what was read is present

option_one : (o u : Option Bytes) → (o ≡ u) ⊎ (o ≢ u)
option_one None None = inl refl
option_one None (Some w) = inr (λ e. none_some w e)
option_one (Some v) None = inr (λ e. none_some v (sym e))
option_one (Some v) (Some w) = elim (same_or_apart bytes_cmp_total bytes_cmp-IsAntisymmetric v w) [ inl e ↦ inl (ap Some e) | inr ne ↦ inr (λ e. ne (some_one v w e)) ]

present_is : (view : View) (P : Pairs) → Holds (expects view) P → (key : Bytes) (value : Option Bytes) → map.get view key ≡ Some value → map.get P key ≡ value
present_is view P holds key value at = elim (option_one (map.get P key) value) [
  | inl e ↦ e
  | inr ne ↦ absurd (holds key (inl (value, at, ne)))
]

abbrev pub HasKeys : Version → List RowOp → View → Type 0
HasKeys version ops view = (key : Bytes) → IsRead version ops key ↔ ((value : Option Bytes) × (map.get view key ≡ Some value))

read_is : (version : Version) (ops : List RowOp) (view : View) (P : Pairs) → HasKeys version ops view → Holds (expects view) P → (key : Bytes) → IsRead version ops key → map.get view key ≡ Some (map.get P key)
read_is version ops view P keys holds key read =
    let found = (keys key).0 read in
    found.1 ∙ ap Some (sym (present_is view P holds key found.0 found.1))

-- ---- a public column's pairs are those of the rows

-- what a column's pair holds of a row, by what is visible of its cell: nothing where there is no
-- row
abbrev pub pair_value : ℕ → (Option Value → Option Value) → Option Cells → Option Bytes
pair_value n see None = None
pair_value n see (Some cells) = option_map code (see (map.get cells n))

pub at_number : (version : Version) (n : ℕ) → 1 ≤ n → map.get (schema_of version) n ≡ option_map (entry_of version) (element_at version n)
at_number version n above =
    get-schema_of version n
    ∙ ap (λ (b : Bool). cond b (Some row_entry) (option_map (entry_of version) (map.get version.elements n))) (apart_zero n above)
  where
    apart_zero : (m : ℕ) → 1 ≤ m → eq_by_cmp nat_cmp m 0 ≡ false
    apart_zero m le = apart nat_cmp_total nat_cmp-IsAntisymmetric m 0 (λ e. zero_above (subst (λ (x : ℕ). 1 ≤ x) e le))
      where
        zero_above : 1 ≤ 0 → ⊥
        zero_above h = absurd (omega (arith, h))

column_exact : (version : Version) (P : Pairs) (R : Rows) → Consistent the_kinds (schema_of version) P R → AreNumbersFit version → (table n : ℕ) (type : ColumnType) (column : IsPublicColumn version table n type)
    → Exact (within table (kind_meaning n (source_in version column.element.kind))) P R
column_exact version P R all fit table n type column =
    in_words column.element column.home column.public
    (subst (λ o. Meets the_kinds n o P R) (at_number version n (fit n column.element column.known).0 ∙ ap (option_map (entry_of version)) column.known) (all n))
  where
    in_words : (element : ElementDef) → element.table ≡ table → element.state ≡ Public → Demand (within element.table (kind_meaning n (source_in version element.kind))) element.state P R → Exact (within table (kind_meaning n (source_in version element.kind))) P R
    in_words element home public d =
        subst (λ (t : ℕ). Demand (within t (kind_meaning n (source_in version element.kind))) Public P R) home
        (subst (λ (q : ElementState). Demand (within element.table (kind_meaning n (source_in version element.kind))) q P R) public d)

in_table : (table : ℕ) (o : Option Bytes) (v : Bytes) → o ≡ Some v → cond (eqb table table) o None ≡ Some v
in_table table o v e = ap (λ (b : Bool). cond b o None) (eq-eqb table table refl) ∙ e

-- the pair of a row that can be named, of an element that has one pair for a row under the column's key of the row
column_value : (P : Pairs) (R : Rows) (n : ℕ) (m : Meaning) (see : Option Value → Option Value) → AreStorable R → (k : RowKey) → Laws (within k.0 m) → m.number ≡ n → ((l : RowKey) (r : Cells) → m.pair_key l r ≡ row_code l.0 l.1 n)
    → ((r : Cells) → m.pair_value k r ≡ option_map code (see (map.get r n))) → Exact (within k.0 m) P R → IsStorableRow k map.empty → (o : Option Cells) → map.get R k ≡ o → map.get P (row_code k.0 k.1 n) ≡ pair_value n see o
column_value P R n m see held k m_laws numbered keyed valued exact named o at = by (pair_value n see o) refl
  where
    -- a pair that is there is the one that the row gives
    gives : (v : Bytes) → map.get P (row_code k.0 k.1 n) ≡ Some v → pair_value n see o ≡ Some v
    gives v is =
        let own : owner (row_code k.0 k.1 n) ≡ Some m.number = owner_named m.number (row_code k.0 k.1 n) (subst (IsKeyOfElement m.number) (keyed k map.empty) (m_laws.owned k map.empty named)) in
        let s : IsFromScratch (within k.0 m) R (row_code k.0 k.1 n) v = exact.subset (row_code k.0 k.1 n) v own is in
        let same : s.key ≡ k = m_laws.one_row s.key k s.cells map.empty (held s.key s.cells s.there) named (m_laws.served s.key s.cells v s.value_is) (eq-eqb k.0 k.0 refl) (s.key_is ∙ sym (keyed k map.empty)) in
        let row : o ≡ Some s.cells = sym at ∙ ap (map.get R) (sym same) ∙ s.there in
        let value : m.pair_value k s.cells ≡ Some v = ap (λ (l : RowKey). m.pair_value l s.cells) (sym same) ∙ (some_in (eqb s.key.0 k.0) (m.pair_value s.key s.cells) v s.value_is).1 in
        ap (pair_value n see) row ∙ sym (valued s.cells) ∙ value

    -- a pair that the row gives is there
    covers : (c : Option Cells) (v : Bytes) → map.get R k ≡ c → pair_value n see c ≡ Some v → map.get P (row_code k.0 k.1 n) ≡ Some v
    covers None v there e = none_some v e
    covers (Some cells) v there e = ap (map.get P) (sym (keyed k cells)) ∙ exact.covered k cells v there (in_table k.0 (m.pair_value k cells) v (valued cells ∙ e))

    by : (u : Option Bytes) → pair_value n see o ≡ u → map.get P (row_code k.0 k.1 n) ≡ u
    by None e = none_where (map.get P (row_code k.0 k.1 n)) (λ v is. not_none v (pair_value n see o) (gives v is) e)
    by (Some v) e = covers o v at e

-- a public column, of whichever kind, has the pair of what is visible of the row's cell
pub visible_pair : (version : Version) (table n : ℕ) (type : ColumnType) (column : IsPublicColumn version table n type) (P : Pairs) (R : Rows) → AreStorable R → IsLawfulColumn n → (k : RowKey) → k.0 ≡ table
    → Exact (within table (kind_meaning n (source_in version column.element.kind))) P R → IsStorableRow k map.empty → (o : Option Cells) → map.get R k ≡ o → map.get P (row_code k.0 k.1 n) ≡ pair_value n (visible_value version table n) o
visible_pair version table n type column P R held lawful k home exact named o at = by column.element.kind refl
  where
    placed : (m : Meaning) → Exact (within table m) P R → Exact (within k.0 m) P R
    placed m e = subst (λ (t : ℕ). Exact (within t m) P R) (sym home) e

    here : {A : Type 0} (x y : A) → cond ((column.element.table == table) && is_public column.element.state) x y ≡ x
    here x y = ap (λ (b : Bool). cond (b && is_public column.element.state) x y) (eq-eqb column.element.table table column.home) ∙ ap (λ (q : ElementState). cond (is_public q) x y) column.public

    by : (kind : Kind) → column.element.kind ≡ kind → map.get P (row_code k.0 k.1 n) ≡ pair_value n (visible_value version table n) o
    by (Index columns) is = none_some type (sym (ap type_of_kind is) ∙ column.column)
    by (Optional own) is =
        column_value P R n (column_meaning n) (visible_value version table n) held k (column_laws k.0 n lawful) refl (λ l r. refl)
        (λ r. ap (option_map code) (sym (optional_visible version n column.element own table (map.get r n) column.known is)))
        (placed (column_meaning n) (subst (λ (q : Kind). Exact (within table (kind_meaning n (source_in version q))) P R) is exact)) named o at
    by (Required own fallback) is =
        column_value P R n (required_meaning n fallback) (visible_value version table n) held k (required_laws k.0 n fallback lawful) refl (λ l r. refl)
        (λ r. valued (map.get r n))
        (placed (required_meaning n fallback) (subst (λ (q : Kind). Exact (within table (kind_meaning n (source_in version q))) P R) is exact)) named o at
      where
        default : default_at table (element_at version n) ≡ Some fallback
        default = ap (default_at table) column.known ∙ here (default_of column.element.kind) None ∙ ap default_of is

        valued : (c : Option Value) → Some (code (unwrap_or c fallback)) ≡ option_map code (visible_value version table n c)
        valued None = sym (ap (option_map code) default)
        valued (Some v) = refl

-- ---- the rows that the reads encode

contained : (op : RowOp) (ops : List RowOp) → Contains (op ∷ ops) op
contained op ops = (0, omega arith, refl)

behind : (op : RowOp) (ops : List RowOp) (other : RowOp) → Contains ops other → Contains (op ∷ ops) other
behind op ops other c = (suc c.0, omega (arith, c.1), c.2)

-- what the version, the rows and the pairs are to each other
pub record Agreeing (version : Version) (P : Pairs) (R : Rows) : Type 0 where
  pub sound : IsSoundVersion version
  pub small : AreTablesSmall version
  pub fit : AreNumbersFit version
  pub lawful : AreLawfulRows version R
  pub held : AreStorable R
  pub consistent : Consistent the_kinds (schema_of version) P R

column_lawful : (n : ℕ) → (1 ≤ n) × (n ≤ 1000000) → IsLawfulColumn n
column_lawful n fit = record { above = omega (arith, fit.0); below = omega (arith, fit.1) }

encoded_row : (version : Version) (ops : List RowOp) (view : View) (P : Pairs) (R : Rows) (op : RowOp) → Agreeing version P R → HasKeys version ops view → Holds (expects view) P → Contains ops op → IsSound version op
    → IsEncodedRow version view R op
encoded_row version ops view P R op agreeing keys holds here sound =
    let t = agreeing.small (table_of op) sound.table sound.known in
    let primary = key_values sound.table.key (key_of op) t.1 t.2 sound.typed.key in
    let read : (key : Bytes) → IsRead version ops key → map.get view key ≡ Some (map.get P key) = λ key r. read_is version ops view P keys holds key r in
    let named : IsStorableRow (row_of op) map.empty = record { table = t.0; primary = primary; values = λ n v is. none_some v (sym (map.get-empty nat_cmp n) ∙ is) } in
    let exists_read = read (row_code (table_of op) (key_of op) 0) (op, here, (sound.table, sound.known), inl refl) in
    let column_read : (number : ℕ) (type : ColumnType) → IsPublicColumn version (table_of op) number type → map.get view (row_code (table_of op) (key_of op) number) ≡ Some (map.get P (row_code (table_of op) (key_of op) number))
    = λ number type column. read (row_code (table_of op) (key_of op) number) (op, here, (sound.table, sound.known), inr (number, type, column, refl)) in
    let value : (number : ℕ) (type : ColumnType) → IsPublicColumn version (table_of op) number type → (o : Option Cells) → map.get R (row_of op) ≡ o
    → map.get P (row_code (table_of op) (key_of op) number) ≡ pair_value number (visible_value version (table_of op) number) o
    = λ number type column o at. visible_pair version (table_of op) number type column P R agreeing.held (column_lawful number (agreeing.fit number column.element column.known)) (row_of op) refl
    (column_exact version P R agreeing.consistent agreeing.fit (table_of op) number type column) named o at in
    record {
      absent = λ none. exists_read ∙ ap Some (row_missing version P R agreeing.held agreeing.consistent (row_of op) (t.0, primary) none);
      present = λ cells at. exists_read ∙ ap Some (row_there version P R agreeing.consistent (row_of op) cells at);
      no_columns = λ number type column none. column_read number type column ∙ ap Some (value number type column None none);
      columns = λ number type cells column at.
          let row : IsLawfulRow version (row_of op) (visible_cells version (table_of op) cells) = lawful_visible version R agreeing.sound agreeing.lawful (row_of op) (visible_cells version (table_of op) cells) (visible_there version R (row_of op) cells at) in
          record {
            own = visible_value version (table_of op) number (map.get cells number);
            held = column_read number type column ∙ ap Some (value number type column (Some cells) at);
            typed = λ v is.
                let own : map.get (visible_cells version (table_of op) cells) number ≡ Some v = visible_get version (table_of op) cells number ∙ is in
                (row.types number column.element type v column.known column.column own, (row.values number v own).0);
            same = visible_twice (map.get cells number) (default_at (table_of op) (element_at version number));
          };
    }
  where
    visible_twice : (own default : Option Value) → own_or (own_or own default) default ≡ own_or own default
    visible_twice None None = refl
    visible_twice None (Some v) = refl
    visible_twice (Some v) default = refl

encoded_all : (version : Version) (ops : List RowOp) (view : View) (P : Pairs) (R : Rows) (some : List RowOp) → Agreeing version P R → HasKeys version ops view → Holds (expects view) P
    → ((op : RowOp) → Contains some op → Contains ops op) → AllByRecursion (IsSound version) some → AllByRecursion (IsEncodedRow version view R) some
encoded_all version ops view P R [] agreeing keys holds among sound = tt
encoded_all version ops view P R (op ∷ some) agreeing keys holds among sound = (
  encoded_row version ops view P R op agreeing keys holds (among op (contained op some)) sound.0,
  encoded_all version ops view P R some agreeing keys holds (λ other c. among other (behind op some other c)) sound.1,
)

-- reads that hold encode the rows
pub encodes : (version : Version) (ops : List RowOp) (view : View) (P : Pairs) (R : Rows) → Agreeing version P R → HasKeys version ops view → Holds (expects view) P → AllByRecursion (IsSound version) ops → Encodes version ops view R
encodes version ops view P R agreeing keys holds sound = record {
  keys = keys;
  encoded = encoded_all version ops view P R ops agreeing keys holds (λ op c. c) sound;
}
