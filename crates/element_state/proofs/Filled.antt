-- The sixth law, for any kind: what a piece of a fill covers, and what a piece of a clear leaves.
use Rattle.std.specs.Prelude.{◌≡◌, ◌&&◌, true, List, Some}
use Rattle.std.specs.FinMap.{get, entries}
use Rattle.std.proofs.Common.{sym, subst}
use Rattle.row_map.specs.Rows.{Bytes, RowKey, Cells, Rows, row_cmp}
use Rattle.row_map.specs.Writes.{written_all}
use Rattle.row_map.specs.Ranges.{is_within}
use Rattle.row_map.proofs.Orders.{row_cmp_total, row_cmp-IsAntisymmetric}
use Rattle.row_map.proofs.Entries.{each_entry}
use Rattle.schema_version.specs.declared.element.ElementState.TheVariants.{WriteOnly}
use Rattle.element_state.specs.Elements.{Meaning, Subset, CoveredAt}
use Rattle.element_state.specs.Laws.{Laws}
use Rattle.element_state.specs.lemmas.Effects.{none_where}
use Rattle.element_state.specs.lemmas.Apart.{not_none}
use Rattle.element_state.specs.Exists.{row_key}
use Rattle.element_state.specs.Items.{Between, row_items, ClearRange, ClearFacts, clear_writes, FillCovers, ClearLeavesNone}
use Rattle.element_state.specs.lemmas.Clears.{both_true, test_between, entry_kept, facts_kept}
use Rattle.element_state.proofs.Pieces.{AreRows, fill_puts-filled, fill_demand, fill_reaches, clear_gone, clear_shrinks}
use Rattle.element_state.proofs.Reaches.{rows_there}

-- the rows of a piece are rows
items_there : (m : Meaning) (R : Rows) (from to : Bytes) → AreRows R (row_items m.serves R from to)
items_there m R from to =
    let test = λ (e : RowKey × Cells). m.serves e.0.0 && is_within from to (row_key e.0) in
    rows_there R (row_items m.serves R from to) (λ e. test e ≡ true)
    (facts_kept row_cmp_total row_cmp-IsAntisymmetric test (λ (e : RowKey × Cells). get R e.0 ≡ Some e.1) (entries R)
    (each_entry row_cmp row_cmp_total row_cmp-IsAntisymmetric (λ k r. get R k ≡ Some r) R (λ k r at. at)))

pub fill_covers : (m : Meaning) → Laws m → FillCovers m
fill_covers m law P R from to filled held sub =
    let items : List (RowKey × Cells) = row_items m.serves R from to in
    let there : AreRows R items = items_there m R from to in
    subst (λ ws. Subset m (written_all P ws) R × ((k : RowKey) → Between from to (row_key k) → CoveredAt m (written_all P ws) R k)) (sym (fill_puts-filled m filled items)) (
      fill_demand m law R held WriteOnly items P tt there sub,
      λ k between r v at val.
          fill_reaches m law R held items P there k
          (entry_kept row_cmp_total row_cmp-IsAntisymmetric (λ (e : RowKey × Cells). m.serves e.0.0 && is_within from to (row_key e.0)) R k r at (both_true _ _ (law.served k r v val) (test_between from to (row_key k) between)))
          r v at val,
    )

pub clear_leaves_none : (m : Meaning) (range : ClearRange) → ClearFacts m range → ClearLeavesNone m range
clear_leaves_none m range facts P R from to held sub from_bound to_bound x own between =
    none_where (get (written_all P (clear_writes (range.items R P from to))) x) (λ v is.
    not_none v (get (written_all P (clear_writes (range.items R P from to))) x) is
    (clear_gone (range.items R P from to) P x (facts.reach R P from to x v held sub from_bound to_bound own (clear_shrinks (range.items R P from to) P x v is) between)))
