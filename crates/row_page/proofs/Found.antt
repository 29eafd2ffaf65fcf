-- A page of a query that is sound, over pairs that agree with a version and rows.
use Rattle.std.proofs.Common.{◌≡◌, Ok, Err, refl}
use Rattle.element_state.specs.Consistent.{IsConsistent}
use Rattle.element_state.specs.Visible.{visible_rows}
use Rattle.row_map.specs.Rows.{Rows, Pairs}
use Rattle.row_map.specs.Walk.{key_range}
use Rattle.schema_version.specs.Sound.{IsSoundVersion}
use Rattle.schema_version.specs.Version.{Version, live}
use Rattle.row_query.specs.declared.query.Query.{Query}
use Rattle.row_query.specs.Answer.{plain_answer}
use Rattle.row_query.specs.Refused.{IsSound}
use Rattle.row_query.specs.inner.Checks.{query_check, public_numbers}
use Rattle.row_query.specs.inner.Found.{rows_at}
use Rattle.row_query.proofs.Decides.{Checks, passed, check_refuses}
use Rattle.row_query.proofs.Premise.{reads_from}
use Rattle.row_query.proofs.Tested.{query_open}
use Rattle.row_query.proofs.Unique.{sound_clear}
use Rattle.row_page.specs.Page.{rows_within}
use Rattle.row_page.specs.declared.range.KeyRange.{KeyRange}
use Rattle.row_page.specs.inner.Bounds.{low_bound, high_bound, IsKnownRange}
use Rattle.row_page.proofs.Within.{within_range}

sound_passes : (v : Version) → IsSoundVersion v → (query : Query) → IsSound v query → query_check v query ≡ passed
sound_passes v known query sound = by (query_check v query) refl
  where
    by : (r : Checks) → r ≡ query_check v query → r ≡ passed
    by (Ok u) e = refl
    by (Err f) e = absurd (sound_clear v query sound f (check_refuses v known query (Err f) e))

pub page_found : (v : Version) → IsSoundVersion v → (rows : Rows) (pairs : Pairs) → IsConsistent v rows pairs → (query : Query) → IsSound v query → (range : KeyRange) → IsKnownRange range
    → rows_at pairs (public_numbers (live v) query.table) query (key_range pairs (low_bound query.table range.after) (high_bound query.table range.before)) ≡ rows_within range (plain_answer (visible_rows v rows) query)
page_found v known rows pairs agree query sound range values =
    within_range v (visible_rows v rows) pairs (reads_from v known rows pairs agree) query (query_open v known query (sound_passes v known query sound)) range values
