-- An audit of a World finds nothing: its pairs agree with the rows that the newest version sees.
use Rattle.std.proofs.Common.{◌≡◌, List, length, ap, ◌∙◌}
use Rattle.std.specs.FinMap as map
use Rattle.std.proofs.lemmas.List.{length-map}
use Rattle.row_map.specs.Rows.{RowKey, Cells, Rows}
use Rattle.schema_version.specs.Version.{Version}
use Rattle.element_state.specs.Consistent.{IsConsistent}
use Rattle.element_state.specs.Visible.{as_visible, visible_rows}
use Rattle.element_state.proofs.Visible.{visible_agree, visible_entries}
use Rattle.row_query.proofs.Premise.{Reads, reads_from}
use Rattle.world.specs.State.{facts_of}
use Rattle.world_laws.specs.Clean.{ChecksAreClean}
use Rattle.world_laws.proofs.ArcValue.{rows_counted}
use Rattle.world_laws.proofs.Missing.{none_missing}
use Rattle.world_laws.proofs.Newest.{consistent_newest}
use Rattle.world_laws.proofs.Reasons.{none_extra}

-- as many rows are visible as there are
as_many_visible : (version : Version) (rows : Rows) → length (map.entries (visible_rows version rows)) ≡ length (map.entries rows)
as_many_visible version rows = ap (λ (es : List (RowKey × Cells)). length es) (visible_entries version rows) ∙ length-map (map.entries rows) (as_visible version)

pub checks_clean : ChecksAreClean
checks_clean state report kept check =
    let newest : Version = (facts_of state).newest in
    let rows : Rows = (facts_of state).rows in
    let agree : IsConsistent newest rows state.pairs = consistent_newest state kept.published kept.agrees in
    let sees : IsConsistent newest (visible_rows newest rows) state.pairs = visible_agree newest rows state.pairs kept.sound agree in
    let reads : Reads newest (visible_rows newest rows) state.pairs = reads_from newest kept.sound rows state.pairs agree in
    record {
      rows = check.rows ∙ rows_counted newest (visible_rows newest rows) state.pairs reads ∙ as_many_visible newest rows;
      missing = check.missing ∙ none_missing newest kept.sound (visible_rows newest rows) state.pairs sees reads;
      extra = check.extra ∙ none_extra newest kept.sound (visible_rows newest rows) state.pairs sees reads;
    }
