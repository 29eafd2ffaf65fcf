-- What the fields of a world stand for as a checkpoint, and where they are whole.
use Rattle.std.proofs.Common.{◌≡◌, ℕ, List, [], Option, Some, None, sym, subst, ◌∙◌}
use Rattle.std.specs.FinMap as map
use Rattle.lease.specs.Timeline.{Timeline, IsLength, opened as line_opened}
use Rattle.row_map.specs.Rows.{Pairs}
use Rattle.schema_version.specs.Sound.{IsSoundVersion}
use Rattle.schema_version.specs.Version.{Version}
use Rattle.reorganise.specs.declared.work.Progress.{Progress}
use Rattle.checkpoint_check.specs.Checkpoint.{Checkpoint, IsWhole, CheckpointsAreWhole, OpeningsAreWhole, checkpoint_of, opening_checkpoint}
use Rattle.world.specs.declared.world.World.TheInside.{Inside}
use Rattle.world.specs.Inside.{state_of, IsHeld}
use Rattle.world.specs.State.{facts_of}

abbrev pub checkpoint_in : Inside → ℕ → ℕ → Checkpoint
checkpoint_in f place moment = record { place = place; moment = moment; line = f.line; newest = f.newest; before = f.before; progress = f.begun.items; pairs = f.store }

pub is_checkpoint : (f : Inside) → IsHeld f → (place moment : ℕ) → moment ≡ f.log.moment → checkpoint_in f place moment ≡ checkpoint_of place (facts_of (state_of f))
is_checkpoint f h place moment is =
    let w = h.follow in
    (λ i. record { place = place; moment = is i; line = f.line; newest = f.newest; before = f.before; progress = f.begun.items; pairs = f.store })
    ∙
    (λ i. record { place = place; moment = w.moment i; line = w.line i; newest = w.newest i; before = w.before i; progress = w.begun i; pairs = w.pairs i })

pub whole_in : (f : Inside) → CheckpointsAreWhole → IsHeld f → (place moment : ℕ) → moment ≡ f.log.moment → IsWhole (checkpoint_in f place moment)
whole_in f law h place moment is = subst IsWhole (sym (is_checkpoint f h place moment is)) (law (facts_of (state_of f)) place h.kept)

pub whole_start : (line : Timeline) (schema newest : Version) (begun : List Progress) (store : Pairs) (length : ℕ) → OpeningsAreWhole → line ≡ line_opened length → IsLength length → IsSoundVersion schema → newest ≡ schema → begun ≡ [] → store ≡ map.empty
    → IsWhole (record { place = 0; moment = 0; line = line; newest = newest; before = None; progress = begun; pairs = store })
whole_start line schema newest begun store length law opened is_length sound same none empty =
    subst IsWhole (sym (λ i. record { place = 0; moment = 0; line = opened i; newest = same i; before = None; progress = none i; pairs = empty i })) (law (record { length = length; schema = schema }) is_length sound)

-- the same of copies of the fields
abbrev pub checkpoint_with : ℕ → ℕ → Timeline → Version → Option Version → List Progress → Pairs → Checkpoint
checkpoint_with place moment line newest before begun store = record { place = place; moment = moment; line = line; newest = newest; before = before; progress = begun; pairs = store }

pub copied : (f : Inside) → IsHeld f → (place moment : ℕ) (line : Timeline) (newest : Version) (before : Option Version) (begun : List Progress) (store : Pairs)
    → moment ≡ f.log.moment → line ≡ f.line → newest ≡ f.newest → before ≡ f.before → begun ≡ f.begun.items → store ≡ f.store → checkpoint_with place moment line newest before begun store ≡ checkpoint_of place (facts_of (state_of f))
copied f h place moment line newest before begun store is lines versions befores begins stores =
    (λ i. checkpoint_with place moment (lines i) (versions i) (befores i) (begins i) (stores i)) ∙ is_checkpoint f h place moment is

pub whole_copied : (f : Inside) → CheckpointsAreWhole → IsHeld f → (place : ℕ) (c : Checkpoint) → c ≡ checkpoint_of place (facts_of (state_of f)) → IsWhole c
whole_copied f law h place c is = subst IsWhole (sym is) (law (facts_of (state_of f)) place h.kept)
