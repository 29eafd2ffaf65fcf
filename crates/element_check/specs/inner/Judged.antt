-- Cited by private functions alone: extra_key, keep, note.
-- What one pair shows of an element, and what is kept of it.
use Rattle.std.specs.Prelude.{ℕ, ◌+◌, List, [], ◌∷◌, ◌++◌, length, nat_lt, Option, Some, None, if◌then◌else◌}
use Rattle.std.specs.List.{cons_option}
use Rattle.row_map.specs.declared.key.KeyOf.{KeyOf}
use Rattle.row_map.specs.Rows.{Pairs}
use Rattle.schema_version.specs.declared.element.ElementDef.{ElementDef}
use Rattle.schema_version.specs.Version.{Version}
use Rattle.audit.specs.Audit.{Pair, reason_by}
use Rattle.element_check.specs.declared.check.Judged.{Judged}
use Rattle.element_check.specs.declared.report.ElementReport.{ElementReport}
use Rattle.element_check.specs.Check.{own_key}

-- the key of a pair, as it was read, if it is the element's and the pair has no reason
abbrev pub extra_by : Version → Pairs → ElementDef → Pair → Option KeyOf → Option KeyOf
extra_by version pairs element pair read = if reason_by version pairs pair read then None else own_key element read

-- the first ones after one more was found: it is kept if fewer than `most` are
abbrev pub kept : {X : Type 0} → ℕ → List X → Option X → List X
kept most first None = first
kept most first (Some x) = if nat_lt (length first) most then first ++ x ∷ [] else first

-- what a report says after one more pair
abbrev pub noted : ℕ → ElementReport → Judged → ElementReport
noted most report judged =
    record {
      missing = report.missing + length (cons_option judged.missing []);
      extra = report.extra + length (cons_option judged.extra []);
      missing_rows = kept most report.missing_rows judged.missing;
      extra_keys = kept most report.extra_keys judged.extra;
    }
