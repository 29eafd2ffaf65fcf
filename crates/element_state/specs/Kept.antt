-- Cited by the contracts of core_keeps.
-- What every event keeps, for the kinds that there are.
use Rattle.std.specs.Prelude.{◌≡◌, ◌⊎◌, ℕ, List, Some, IsTrue}
use Rattle.std.specs.FinMap.{FinMap, get, insert}
use Rattle.std.specs.Ordering.{nat_cmp}
use Rattle.row_map.specs.Rows.{Bytes}
use Rattle.row_map.specs.Writes.{written_all}
use Rattle.element_state.specs.Sources.{Source}
use Rattle.element_state.specs.Elements.{Change}
use Rattle.element_state.specs.Schemas.{Entry, Schema, state_of, AreLawful}
use Rattle.schema_version.specs.declared.element.Work.{Work}
use Rattle.schema_version.specs.declared.element.Work.TheVariants.{Fill, Clear}
use Rattle.element_state.specs.Core.{Core, PassedSpan, MayRun, CoreProgress, Invariant}
use Rattle.element_state.specs.Whole.{RunsAll, committed_all, fresh_spans}
use Rattle.element_state.specs.Publish.{Steps, published}
use Rattle.element_state.specs.Pieces.{moved}
use Rattle.element_state.specs.Reaches.{with_cursor, cursor_at, fill_items}
use Rattle.element_state.specs.Opening.{opened}
use Rattle.element_state.specs.Versions.{ElementKind, Of, the_kinds, meaning_of}
use Rattle.element_state.specs.Kinds.{kind_clear}
use Rattle.element_state.specs.Items.{fill_puts, clear_writes, IsBound}

-- an empty store under one version
abbrev pub OpeningHolds : Type 0
OpeningHolds = (s : Schema ElementKind) (next : ℕ) → AreLawful the_kinds s → Invariant the_kinds (opened s next)

-- a transaction by a server at either usable version
abbrev pub TransactionKeeps : Type 0
TransactionKeeps =
    (w : Core ElementKind) (s : Schema ElementKind) (cs : List Change) → (s ≡ w.before) ⊎ (s ≡ w.newest) → RunsAll the_kinds s w.rows cs
    → Invariant the_kinds w → Invariant the_kinds (committed_all the_kinds w s cs)

-- an allowed step is published: the newest version becomes the one before
abbrev pub PublicationKeeps : Type 0
PublicationKeeps =
    (w : Core ElementKind) (s : Schema ElementKind) (next : ℕ) (progress : FinMap nat_cmp CoreProgress) → Steps the_kinds w s next progress
    → Invariant the_kinds w → Invariant the_kinds (published the_kinds w s next progress)

-- a reorganisation begins, where both usable versions have the state for it, with each cursor at its lower bound
abbrev pub BeginKeeps : Type 0
BeginKeeps =
    (w : Core ElementKind) (n : ℕ) (f : Entry ElementKind) (work : Work) (lows : List Bytes) → get w.newest n ≡ Some f → (work ≡ Fill → IsTrue ((meaning_of n f.kind).filled))
    → MayRun the_kinds work f.kind (state_of (get w.before n)) → MayRun the_kinds work f.kind (state_of (get w.newest n))
    → Invariant the_kinds w → Invariant the_kinds (record w { progress = insert w.progress n (record { work = work; spans = fresh_spans lows }) })

-- a piece of a fill puts what `fill_of` gives for each row from the old cursor to below the new one
abbrev pub FillKeeps : Type 0
FillKeeps =
    (w : Core ElementKind) (n : ℕ) (f : Entry ElementKind) (old : List PassedSpan) (place : ℕ) (to : Bytes) → Invariant the_kinds w
    → get w.newest n ≡ Some f → get w.progress n ≡ Some (record { work = Fill; spans = old })
    → Invariant the_kinds (moved the_kinds w n (record { work = Fill; spans = with_cursor place to old }) (written_all w.pairs (fill_puts (meaning_of n f.kind) (fill_items the_kinds (meaning_of n f.kind) w.rows (cursor_at place old) to))))

-- a piece of a clear removes each item from the old cursor to below the new one
abbrev pub ClearKeeps : Type 0
ClearKeeps =
    (w : Core ElementKind) (n table : ℕ) (source : Source) (f : Entry ElementKind) (old : List PassedSpan) (place : ℕ) (to : Bytes) → Invariant the_kinds w
    → get w.newest n ≡ Some f → f.kind ≡ Of table source → get w.progress n ≡ Some (record { work = Clear; spans = old }) → IsBound (kind_clear table n source).bounds (cursor_at place old) → IsBound (kind_clear table n source).bounds to
    → Invariant the_kinds (moved the_kinds w n (record { work = Clear; spans = with_cursor place to old }) (written_all w.pairs (clear_writes ((kind_clear table n source).items w.rows w.pairs (cursor_at place old) to))))
