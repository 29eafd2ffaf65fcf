use Rattle.std.proofs.Common.{◌≡◌, List, [], ◌∷◌, ◌++◌, Option, sym, ap, ◌∙◌}
use Rattle.row_map.specs.Rows.{Bytes, Pairs}
use Rattle.schema_version.specs.Version.{Version}
use Rattle.row_query.specs.declared.query.Query.{Query}
use Rattle.row_query.specs.inner.Bounds.{table_end}
use Rattle.row_ask.specs.declared.table_page.ScanPage.{ScanPage}
use Rattle.row_ask.specs.Remaining.{rows_between, rows_after}
use Rattle.row_ask.specs.Pages.{ArePages, all_rows}
use Rattle.row_ask.proofs.laws.lemma_pages_are_whole.Goals as goal

whole : (version : Version) (store : Pairs) (query : Query) (low : Bytes) (pages : List ScanPage) → ArePages version store query low pages → all_rows pages ≡ rows_between version store query low (table_end query.table)
whole version store query low [] h = absurd h
whole version store query low (page ∷ []) h = ap (λ (next : Option Bytes). page.rows ++ rows_after version store query next) (sym h.1) ∙ h.0
whole version store query low (page ∷ next ∷ pages) h =
    ap (λ rows. page.rows ++ rows) (whole version store query h.1.0 (next ∷ pages) h.1.2)
    ∙ ap (λ (next : Option Bytes). page.rows ++ rows_after version store query next) (sym h.1.1) ∙ h.0

pub returns : goal.returns
returns c = whole
