-- Cited by private functions alone.
-- Reading what a checkpoint is made of: a value and the bytes after it.
use Rattle.std.specs.Prelude.{ℕ, ◌==◌, List, Option, Result, Ok, Err, if◌then◌else◌}
use Rattle.row_map.specs.declared.shape.ColumnType.{ColumnType}
use Rattle.schema_version.specs.declared.element.ElementState.{ElementState}
use Rattle.schema_version.specs.declared.element.Kind.{Kind}
use Rattle.schema_version.specs.declared.element.ElementDef.{ElementDef}
use Rattle.schema_version.specs.declared.element.Way.{Way}
use Rattle.schema_version.specs.declared.element.Way.TheVariants.{Adding, Dropping}
use Rattle.schema_version.specs.declared.element.Work.{Work}
use Rattle.schema_version.specs.declared.element.Work.TheVariants.{Fill, Clear}
use Rattle.reorganise.specs.declared.work.Span.{Span}
use Rattle.reorganise.specs.declared.work.Progress.{Progress}
use Rattle.entry_code.specs.declared.parts.SchemaParts.{SchemaParts}
use Rattle.entry_code.specs.declared.parts.HeadParts.{HeadParts}
use Rattle.entry_code.specs.declared.fault.CodeFault.TheVariants.{Malformed}
use Rattle.entry_code.specs.inner.At.{At, u32_at, u64_at, bytes_at, text_at, pair_at, map_at, list_at, option_at, tagged_at, state_at, kind_at, columns_at}

abbrev pub way_by : ℕ → At Way
way_by tag bytes =
    if tag == 0 then Ok (Adding, bytes)
    else (if tag == 1 then Ok (Dropping, bytes)
    else Err Malformed)

unfoldable pub way_at : At Way
way_at = tagged_at way_by

unfoldable pub element_at : At ElementDef
element_at =
    map_at (λ r. record { number = r.0; table = r.1.0; name = r.1.1.0; kind = r.1.1.1.0; state = r.1.1.1.1.0; way = r.1.1.1.1.1 })
    (pair_at u32_at (pair_at u32_at (pair_at text_at (pair_at kind_at (pair_at state_at way_at)))))

abbrev pub work_by : ℕ → At Work
work_by tag bytes =
    if tag == 0 then Ok (Fill, bytes)
    else (if tag == 1 then Ok (Clear, bytes)
    else Err Malformed)

unfoldable pub work_at : At Work
work_at = tagged_at work_by

unfoldable pub span_at : At Span
span_at = map_at (λ r. record { low = r.0; high = r.1.0; cursor = r.1.1 }) (pair_at bytes_at (pair_at bytes_at bytes_at))

unfoldable pub progress_at : At Progress
progress_at = map_at (λ r. record { element = r.0; kind = r.1.0; pieces = r.1.1 }) (pair_at element_at (pair_at work_at (list_at span_at)))

unfoldable pub schema_at : At SchemaParts
schema_at = map_at (λ r. record { tables = r.0; elements = r.1.0; next = r.1.1 }) (pair_at (list_at (pair_at text_at columns_at)) (pair_at (list_at element_at) u32_at))

unfoldable pub head_at : At HeadParts
head_at =
    map_at (λ r. record { place = r.0; moment = r.1.0; length = r.1.1.0; published = r.1.1.1.0; newest = r.1.1.1.1.0; before = r.1.1.1.1.1.0; begun = r.1.1.1.1.1.1 })
    (pair_at u64_at (pair_at u64_at (pair_at u64_at (pair_at (list_at u64_at) (pair_at schema_at (pair_at (option_at schema_at) (list_at progress_at)))))))
