-- A query all of whose ranges were read.
use Rattle.std.proofs.Common.{◌≡◌, ℕ, List, [], ◌++◌, Option, None, refl, sym, ap, subst, ◌∙◌}
use Rattle.std.proofs.lemmas.List.{append-nil}
use Rattle.std.specs.declared.cmp.Ordering.TheVariants.{Equal}
use Rattle.byte_map.proofs.Order.{same_itself}
use Rattle.keycode.specs.Order.{bytes_cmp}
use Rattle.keycode.specs.declared.value.Value.{Value}
use Rattle.row_map.specs.Rows.{Bytes, Pairs}
use Rattle.row_map.specs.Walk.{key_range}
use Rattle.row_query.specs.declared.query.Query.{Query}
use Rattle.row_query.specs.inner.Bounds.{table_end, gathered}
use Rattle.schema_version.specs.Version.{Version}
use Rattle.row_ask.specs.Pages.{next_low}
use Rattle.row_ask.specs.Remaining.{IsRead, AreRowsRead, keys_with_rest, remaining_rows, rows_after, rows_between, rows_of_keys}
use Rattle.row_ask.specs.Whole.{with_index, IsRestRead, IsAllRead}
use Rattle.row_ask.specs.declared.remaining.IndexRange.{IndexRange}
use Rattle.row_ask.specs.declared.remaining.Remaining.{Remaining}
use Rattle.row_ask.specs.declared.remaining.Remaining.TheVariants.{Rows, Index, Scan}
use Rattle.row_ask.specs.declared.table_page.ScanPage.{ScanPage}

-- a page that ends where the table does is its last
reaches_end : (table : ℕ) (low : Bytes) (page : List (Bytes × Bytes)) → next_low table low (table_end table) page ≡ None
reaches_end table low page = let same : bytes_cmp (table_end table) (table_end table) ≡ Equal = same_itself (table_end table) in rw same refl

-- a table in one page
pub whole_table :
    (version : Version) (store read : Pairs) (query : Query) (low at to : Bytes) (page : ScanPage) → at ≡ low → to ≡ table_end query.table → IsRead store read low (table_end query.table)
    → page.next ≡ next_low query.table at to (key_range read at to)
    → (IsRead store read at to → page.rows ++ rows_after version store query page.next ≡ rows_between version store query at (table_end query.table))
    → page.rows ≡ rows_between version store query low (table_end query.table)
whole_table version store read query low at to page at_is to_is is next rows =
    let ends : page.next ≡ None = next ∙ ap (λ (t : Bytes). next_low query.table at t (key_range read at t)) to_is ∙ reaches_end query.table at (key_range read at (table_end query.table)) in
    let found = rows (subst (λ (t : Bytes). IsRead store read at t) (sym to_is) (subst (λ (a : Bytes). IsRead store read a (table_end query.table)) (sym at_is) is)) in
    sym (append-nil page.rows) ∙ ap (λ (n : Option Bytes). page.rows ++ rows_after version store query n) (sym ends) ∙ found ∙ ap (λ (a : Bytes). rows_between version store query a (table_end query.table)) at_is

-- the keys in the part of an index that was read are those that the store has there
same_keys : (store read : Pairs) (range : IndexRange) → IsRead store read range.low range.high → keys_with_rest read range [] ≡ keys_with_rest store range []
same_keys store read range is = ap (gathered range.number range.width []) is

-- if all was read, the rows of those keys were
pub rest_read : (store read : Pairs) (query : Query) (remaining : Remaining) → IsAllRead store read query remaining → IsRestRead store read query (with_index read remaining)
rest_read store read query (Rows keys) all = all
rest_read store read query (Index range) all = subst (AreRowsRead store read query.table) (sym (same_keys store read range all.0)) all.1
rest_read store read query (Scan low) all = all

-- and they are the rows that remained
pub rest_is : (version : Version) (store read : Pairs) (query : Query) (remaining : Remaining) → IsAllRead store read query remaining → remaining_rows version store query (with_index read remaining) ≡ remaining_rows version store query remaining
rest_is version store read query (Rows keys) all = refl
rest_is version store read query (Index range) all = ap (rows_of_keys version store query) (same_keys store read range all.0)
rest_is version store read query (Scan low) all = refl
