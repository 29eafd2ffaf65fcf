-- What an insert writes for an index over one column, in which the row has a value.
use Rattle.std.proofs.Common.{◌≡◌, ℕ, List, [], ◌∷◌, Option, Some, None, refl, sym, ap, ◌∙◌}
use Rattle.std.specs.FinMap as map
use Rattle.std.specs.Option.{unwrap_or}
use Rattle.keycode.specs.declared.value.Value.{Value}
use Rattle.row_map.specs.Keys.{index_code}
use Rattle.row_map.specs.Rows.{Cells}
use Rattle.schema_version.specs.declared.element.ElementState.{ElementState}
use Rattle.schema_version.specs.declared.element.ElementState.TheVariants.{Absent, DeleteOnly, WriteOnly, Public}
use Rattle.schema_version.specs.declared.element.Kind.{Kind}
use Rattle.schema_version.specs.Version.{Version}
use Rattle.element_state.specs.Elements.{Change}
use Rattle.element_state.specs.Index.{index_writes}
use Rattle.element_state.specs.Kinds.{kind_meaning}
use Rattle.element_state.specs.Sources.{source_in, default_value_at}
use Rattle.row_write.specs.inner.Changes.{IsOnlyIndexed, put_writes}

module _ (version : Version) (number table : ℕ) (key : List Value) (cells : Cells) (value : Value) where
  abbrev new : Change
  new = record { key = (table, key); old = None; new = Some cells }

  by_state : (state : ElementState) (column : ℕ) → map.get cells column ≡ Some value
      → put_writes state (index_code number (value ∷ key)) ≡ index_writes number ((column, default_value_at version column) ∷ []) state new
  by_state Absent column held = refl
  by_state DeleteOnly column held = refl
  by_state WriteOnly column held = ap (λ (o : Option Value). (index_code number (unwrap_or o (default_value_at version column) ∷ key), Some []) ∷ []) (sym held)
  by_state Public column held = ap (λ (o : Option Value). (index_code number (unwrap_or o (default_value_at version column) ∷ key), Some []) ∷ []) (sym held)

  pub same_writes : (state : ElementState) (kind : Kind) → IsOnlyIndexed kind cells value
      → put_writes state (index_code number (value ∷ key)) ≡ (kind_meaning number (source_in version kind)).writes state new
  same_writes state kind is =
      by_state state is.column is.held
      ∙ ap (λ (k : Kind). (kind_meaning number (source_in version k)).writes state new) (sym is.one)
