-- Cited by private functions alone.
-- Reading control records and drafts: a value and the bytes after it.
use Rattle.std.specs.Prelude.{ℕ, List}
use Rattle.entry_code.specs.declared.parts.ReorgParts.{ReorgParts}
use Rattle.entry_code.specs.declared.parts.RangeParts.{RangeParts}
use Rattle.entry_code.specs.declared.parts.DraftParts.{DraftParts}
use Rattle.entry_code.specs.inner.At.{At, bytes_at, pair_at, map_at, list_at, option_at}
use Rattle.entry_code.specs.inner.PartsAt.{element_at, work_at}
use Rattle.entry_code.specs.Records.{Points}

abbrev pub pair_list_at : At (List (List ℕ × List ℕ))
pair_list_at = list_at (pair_at bytes_at bytes_at)

abbrev pub point_list_at : At Points
point_list_at = list_at (pair_at bytes_at (option_at bytes_at))

unfoldable pub reorg_at : At ReorgParts
reorg_at = map_at (λ r. record { element = r.0; work = r.1.0; bounds = r.1.1 }) (pair_at element_at (pair_at work_at pair_list_at))

unfoldable pub range_at : At RangeParts
range_at = map_at (λ r. record { low = r.0; high = r.1.0; pairs = r.1.1 }) (pair_at bytes_at (pair_at bytes_at pair_list_at))

unfoldable pub draft_at : At DraftParts
draft_at = map_at (λ r. record { compare = r.0; ranges = r.1.0; write = r.1.1 }) (pair_at point_list_at (pair_at (list_at range_at) point_list_at))
