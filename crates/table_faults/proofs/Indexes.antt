-- The first index with a fault gives that of the table.
use Rattle.std.proofs.Common.{◌≡◌, ℕ, ◌+◌, ◌<◌, List, ◌∷◌, length, get_or, drop, Option, Some, sym, ap, ◌∙◌}
use Rattle.std.proofs.lemmas.List.{drop_more}
use Rattle.row_map.specs.declared.shape.ColumnType.{ColumnType}
use Rattle.schema_version.specs.inner.AcceptTables.{names_in}
use Rattle.table_faults.specs.declared.fault.TableCause.{TableCause}
use Rattle.table_faults.specs.inner.Search.{index_cause, indexes_cause}
use Rattle.table_faults.proofs.Parts.{found_first}

module _ (columns own_columns : List (List ℕ × ColumnType)) (indexes own_indexes : List (List ℕ × List (List ℕ))) (same_columns : columns ≡ own_columns) (same_indexes : indexes ≡ own_indexes) where
  -- those before this one have none
  pub index_found : (number : ℕ) (index : List ℕ × List (List ℕ)) (listed : List (List ℕ)) (cause : TableCause) (all : Option TableCause)
      → index ≡ get_or indexes number index → number < length indexes → listed ≡ (get_or indexes number index).1
      → Some cause ≡ index_cause number (names_in columns) listed → indexes_cause number (names_in own_columns) (drop number own_indexes) ≡ all → Some cause ≡ all
  index_found number index listed cause all is within read found before =
      let rest : List (List ℕ × List (List ℕ)) = drop (number + 1) indexes in
      let split : drop number own_indexes ≡ index ∷ rest = ap (drop number) (sym same_indexes) ∙ drop_more indexes number index within ∙ ap (λ x. x ∷ rest) (sym is) in
      let lists : listed ≡ index.1 = read ∙ ap (λ x. x.1) (sym is) in
      found_first (indexes_cause (number + 1) (names_in own_columns) rest) (ap (indexes_cause number (names_in own_columns)) split) (found ∙ (λ i. index_cause number (names_in (same_columns i)) (lists i)))
      ∙ before
