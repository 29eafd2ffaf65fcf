-- Cited by private functions alone: read_bound, read_head, read_body, read_request.
-- Reading a request for a page from left to right.
use Rattle.std.specs.Prelude.{ℕ, List, Option}
use Rattle.keycode.specs.declared.value.Value.{Value}
use Rattle.entry_code.specs.inner.At.{At, u32_at, key_at, option_at, pair_at, map_at, query_at}
use Rattle.row_page.specs.declared.range.KeyRange.{KeyRange}
use Rattle.row_query.specs.declared.query.Query.{Query}
use Rattle.page_code.specs.declared.request.PageRequest.{PageRequest}

abbrev pub bound_at : At (Option (List Value))
bound_at = option_at key_at

abbrev pub Bounds : Type 0
Bounds = Option (List Value) × (Option (List Value) × ℕ)

abbrev pub head_of : Bounds → KeyRange × ℕ
head_of bounds = (record { after = bounds.0; before = bounds.1.0 }, bounds.1.1)

abbrev pub bounds_at : At Bounds
bounds_at = pair_at bound_at (pair_at bound_at u32_at)

-- the range and the limit
unfoldable pub head_at : At (KeyRange × ℕ)
head_at = map_at head_of bounds_at

abbrev pub request_of : (KeyRange × ℕ) × Query → PageRequest
request_of parts = record { query = parts.1; range = parts.0.0; limit = parts.0.1 }

abbrev pub request_at : At PageRequest
request_at = map_at request_of (pair_at head_at query_at)
