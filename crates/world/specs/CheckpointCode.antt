-- Cited by the contracts of Checkpoint.
-- How a checkpoint is distinguished from another.
use Rattle.std.specs.Prelude.{ℕ, List, Option, refl}
use Rattle.std.specs.FinMap as map
use Rattle.std.specs.Coded.{Coded, code_by, coded×, coded_list, coded_option, coded_ℕ}
use Rattle.keycode.specs.Order.{bytes_cmp}
use Rattle.lease.specs.Timeline.{Timeline}
use Rattle.lease.specs.contracts.timeline.Timeline as line
use Rattle.row_map.specs.Rows.{Pairs}
use Rattle.schema_version.specs.Held.{version_code}
use Rattle.schema_version.specs.Version.{Version}
use Rattle.reorganise.specs.declared.work.Progress.{Progress}
use Rattle.reorganise.specs.contracts.work.Progress as progress
use Rattle.checkpoint_check.specs.Checkpoint.{Checkpoint}

abbrev pub checkpoint_code : Coded Checkpoint
checkpoint_code =
    code_by (ℕ × (ℕ × (Timeline × (Version × (Option Version × (List Progress × Pairs))))))
    (coded× coded_ℕ (coded× coded_ℕ (coded× line.the_row.coded (coded× version_code (coded× (coded_option version_code) (coded× (coded_list progress.the_row.coded) (map.code {R = bytes_cmp} (coded_list coded_ℕ) (coded_list coded_ℕ))))))))
    (λ c. (c.place, (c.moment, (c.line, (c.newest, (c.before, (c.progress, c.pairs)))))))
    (λ t. record { place = t.0; moment = t.1.0; line = t.1.1.0; newest = t.1.1.1.0; before = t.1.1.1.1.0; progress = t.1.1.1.1.1.0; pairs = t.1.1.1.1.1.1 })
    (λ _. refl)
