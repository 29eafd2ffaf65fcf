-- What an update writes for an index of which it names no column: nothing.
use Rattle.std.proofs.Common.{◌≡◌, ◌||◌, ◌++◌, ℕ, Bool, true, false, cond, List, [], ◌∷◌, refl, ap, ap₂, ◌∙◌}
use Rattle.std.specs.List.{list_any}
use Rattle.std.specs.Option.{unwrap_or}
use Rattle.byte_map.proofs.Order.{bytes_cmp_total, bytes_cmp-IsAntisymmetric}
use Rattle.byte_map.proofs.Written.{tied}
use mathlib.Core.List.{map as each}
use Rattle.keycode.specs.declared.value.Value.{Value}
use Rattle.row_map.specs.Keys.{index_code}
use Rattle.row_map.specs.Rows.{Bytes, RowKey, Cells}
use Rattle.schema_version.specs.declared.element.ElementState.{ElementState}
use Rattle.schema_version.specs.declared.element.ElementState.TheVariants.{Absent, DeleteOnly, WriteOnly, Public}
use Rattle.schema_version.specs.declared.element.Kind.{Kind}
use Rattle.schema_version.specs.declared.element.Kind.TheVariants.{Index}
use Rattle.schema_version.specs.Version.{Version}
use Rattle.element_state.specs.Index.{index_pair, index_writes, indexed, moved, same_bytes}
use Rattle.element_state.specs.Kinds.{kind_meaning}
use Rattle.element_state.specs.Sources.{source_in, default_value_at}
use Rattle.row_write.specs.declared.op.RowOp.{RowOp}
use Rattle.row_write.specs.Plain.{with_cells, named_of}
use Rattle.row_write.specs.inner.Changes.{is_named, update_at}
use Rattle.row_write.proofs.Named.{kept}

-- columns that the cells do not name keep their values
same_indexed : (default_value : ℕ → Value) (cells : List (ℕ × Value)) (row : Cells) (columns : List ℕ) → list_any (is_named cells) columns ≡ false
    → indexed (each (λ c. (c, default_value c)) columns) (with_cells row cells) ≡ indexed (each (λ c. (c, default_value c)) columns) row
same_indexed default_value cells row [] e = refl
same_indexed default_value cells row (c ∷ columns) e =
    elim (is_named cells c) as (λ b. is_named cells c ≡ b → (b || list_any (is_named cells) columns) ≡ false → indexed (each (λ c. (c, default_value c)) (c ∷ columns)) (with_cells row cells) ≡ indexed (each (λ c. (c, default_value c)) (c ∷ columns)) row) [
      | true ↦ λ is wrong. absurd (let x : true ≡ false = wrong in cc)
      | false ↦ λ is rest. ap₂ (λ (x : Value) (xs : List Value). x ∷ xs) (ap (λ o. unwrap_or o (default_value c)) (kept c cells row is)) (same_indexed default_value cells row columns rest)
    ] refl e

same_pair : (puts : Bool) (x y : Bytes) → y ≡ x → cond (same_bytes x y) [] (moved puts x y) ≡ []
same_pair puts x y e = ap (λ b. cond b [] (moved puts x y)) (ap (same_bytes x) e ∙ tied bytes_cmp_total bytes_cmp-IsAntisymmetric x)

module _ (v : Version) (number : ℕ) (key : RowKey) (old : Cells) (op : RowOp) (columns : List ℕ) (none : list_any (is_named (named_of op)) columns ≡ false) where
  abbrev listed : List (ℕ × Value)
  listed = each (λ c. (c, default_value_at v c)) columns

  same : index_pair number listed key (with_cells old (named_of op)) ≡ index_pair number listed key old
  same = ap (λ (values : List Value). index_code number (values ++ key.1)) (same_indexed (default_value_at v) (named_of op) old columns none)

  by_state : (state : ElementState) → index_writes number listed state (update_at key old op) ≡ []
  by_state Absent = refl
  by_state DeleteOnly = same_pair false (index_pair number listed key old) (index_pair number listed key (with_cells old (named_of op))) same
  by_state WriteOnly = same_pair true (index_pair number listed key old) (index_pair number listed key (with_cells old (named_of op))) same
  by_state Public = same_pair true (index_pair number listed key old) (index_pair number listed key (with_cells old (named_of op))) same

  pub nothing : (state : ElementState) (kind : Kind) → kind ≡ Index columns → (kind_meaning number (source_in v kind)).writes state (update_at key old op) ≡ []
  nothing state kind is = ap (λ (k : Kind). (kind_meaning number (source_in v k)).writes state (update_at key old op)) is ∙ by_state state
