-- Cited by the contracts of Draft, Snapshot, World, locked_store::Locked.
-- How an entry, a state of the core, and what a snapshot is of, is distinguished from another.
use Rattle.std.specs.Prelude.{ℕ, List, refl}
use Rattle.std.specs.FinMap as map
use Rattle.std.specs.Coded.{Coded, code_by, coded×, coded_list, coded_ℕ}
use Rattle.keycode.specs.Order.{bytes_cmp}
use Rattle.row_map.specs.Rows.{Pairs}
use Rattle.schema_version.specs.Held.{version_code}
use Rattle.schema_version.specs.Version.{Version}
use Rattle.checkpoint_check.specs.Checkpoint.{Checkpoint}
use Rattle.replay.specs.declared.entry.Entry.{Entry}
use Rattle.replay.specs.contracts.entry.Entry as entry
use Rattle.world.specs.Snapshot.{Taken}
use Rattle.world.specs.CheckpointCode.{checkpoint_code}
use Rattle.world.specs.State.{State}

abbrev pub entry_code : Coded Entry
entry_code = entry.the_row.coded

abbrev pub state_code : Coded State
state_code =
    code_by (Checkpoint × (List Entry × (ℕ × Pairs))) (coded× checkpoint_code (coded× (coded_list entry_code) (coded× coded_ℕ (map.code {R = bytes_cmp} (coded_list coded_ℕ) (coded_list coded_ℕ)))))
    (λ s. (s.opening, (s.log, (s.cut, s.pairs))))
    (λ t. record { opening = t.0; log = t.1.0; cut = t.1.1.0; pairs = t.1.1.1 })
    (λ _. refl)

abbrev pub taken_code : Coded Taken
taken_code =
    code_by (Version × (Version × Pairs)) (coded× version_code (coded× version_code (map.code {R = bytes_cmp} (coded_list coded_ℕ) (coded_list coded_ℕ))))
    (λ t. (t.version, (t.newest, t.pairs)))
    (λ p. record { version = p.0; newest = p.1.0; pairs = p.1.1 })
    (λ _. refl)
