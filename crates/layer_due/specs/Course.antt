-- Cited by the contracts of courses_complete.
-- A course: drafts that the store applied in turn, each of an act that was due by the records that it then had, or of a transaction.
use Rattle.std.specs.Prelude.{◌≡◌, ◌⊎◌, ℕ, ◌+◌, ◌≤◌, List, [], ◌∷◌, drop, Contains, true}
use Rattle.std.specs.Ordering.{is_le}
use Rattle.std.specs.declared.cmp.Ordering.TheVariants.{Less}
use Rattle.keycode.specs.Order.{bytes_cmp}
use Rattle.row_map.specs.Rows.{Bytes}
use Rattle.schema_version.specs.declared.step.Move.{Move}
use Rattle.schema_version.specs.Moves.{after_step, IsAllowed}
use Rattle.schema_version.specs.Sound.{IsSoundVersion}
use Rattle.schema_version.specs.Version.{Version}
use Rattle.reorganise.specs.declared.read.Reading.{Reading}
use Rattle.drafts.specs.Calls.{Call, Transact, Close, Begin, Divide, Piece, Publish, draft_of, IsDrafted, max_versions}
use Rattle.drafts.specs.Laws.{AreDrafted, AreApplied, after_calls}
use Rattle.drafts.specs.Store.{Store, MayApply, applied, opened}
use Rattle.layer_due.specs.Records.{Records}
use Rattle.layer_due.specs.Due.{IsDue, NoneWants, NoneOpen}
use Rattle.layer_due.specs.Applies.{HasRecords}
use Rattle.layer_due.specs.Left.{left}
use Rattle.layer_due.specs.declared.act.Act.TheVariants as act

-- ---- the steps that are left

abbrev pub steps_after : List (List Move) → Call → List (List Move)
steps_after steps (Publish p) = drop 1 steps
steps_after steps _ = steps

-- the version that steps lead to
abbrev pub after_steps : Version → List (List Move) → Version
after_steps version [] = version
after_steps version (step ∷ steps) = after_steps (after_step version step) steps

-- each step is allowed in the version that the ones before it give
abbrev pub ArePlanned : Version → List (List Move) → Type 0
ArePlanned version [] = Unit {0}
ArePlanned version (step ∷ steps) = IsAllowed version step × ArePlanned (after_step version step) steps

-- ---- a course

-- a read of a piece comes to its end, or passes one of these keys
abbrev pub IsFarEnough : List Bytes → Reading → Type 0
IsFarEnough keys read =
    (read.key_range.high ≡ read.high)
    ⊎ ((key : Bytes) × Contains keys key × (bytes_cmp read.key_range.low key ≡ Less) × (is_le (bytes_cmp key read.key_range.high) ≡ true))

-- the call does what is due; transactions are due at any time
abbrev pub DoesDue : List Bytes → Records → List (List Move) → Call → Type 0
DoesDue keys records steps (Transact txn mark) = Unit {0}
DoesDue keys records steps (Close newest) = IsDue records steps act.Close
DoesDue keys records steps (Begin b) = IsDue records steps (act.Begin b.element.number)
DoesDue keys records steps (Divide d) = IsDue records steps (act.Begin d.progress.element.number)
DoesDue keys records steps (Piece w) = IsDue records steps (act.Work w.read.element.number w.read.piece) × IsFarEnough keys w.read
DoesDue keys records steps (Publish p) = IsDue records steps act.Publish × ((more : List (List Move)) × (steps ≡ p.step ∷ more))

-- what was found in the store, and the call whose draft the store then applied
pub record Turn : Type 0 where
  pub found : Records
  pub call : Call

pub record IsTurn (keys : List Bytes) (store : Store) (steps : List (List Move)) (turn : Turn) : Type 0 where
  pub drafted : IsDrafted turn.call
  pub applies : MayApply (draft_of turn.call) store
  pub has : HasRecords store turn.found
  pub does : DoesDue keys turn.found steps turn.call

abbrev pub IsCourse : List Bytes → Store → List (List Move) → List Turn → Type 0
IsCourse keys store steps [] = Unit {0}
IsCourse keys store steps (turn ∷ turns) = IsTurn keys store steps turn × IsCourse keys (applied (draft_of turn.call) store) (steps_after steps turn.call) turns

-- the store and the steps after a course
abbrev pub after_turns : Store → List Turn → Store
after_turns store [] = store
after_turns store (turn ∷ turns) = after_turns (applied (draft_of turn.call) store) turns

abbrev pub steps_by : List (List Move) → List Turn → List (List Move)
steps_by steps [] = steps
steps_by steps (turn ∷ turns) = steps_by (steps_after steps turn.call) turns

-- ---- what comes of it

-- 1 for an act, 0 for a transaction
abbrev pub act_of : Call → ℕ
act_of (Transact txn mark) = 0
act_of _ = 1

abbrev pub acts_in : List Turn → ℕ
acts_in [] = 0
acts_in (turn ∷ turns) = act_of turn.call + acts_in turns

-- an act that the store applies if it is the next one
pub record GoesOn (keys : List Bytes) (store : Store) (records : Records) (steps : List (List Move)) : Type 0 where
  pub call : Call
  pub is_act : act_of call ≡ 1
  pub turn : IsTurn keys store steps (record { found = records; call = call })

-- a course from the records `found` to the records `now`, with the steps `more` left
pub record Completes (keys : List Bytes) (found : Records) (steps : List (List Move)) (turns : List Turn) (store : Store) (now : Records) (more : List (List Move)) : Type 0 where
  -- each act lowers what is left, so no course has more acts than were left at its beginning
  pub few : acts_in turns + left keys now more ≤ left keys found steps
  -- what is left of the plan is one of the newest version, and leads to the same
  pub planned : ArePlanned now.newest.schema more
  pub target : after_steps now.newest.schema more ≡ after_steps found.newest.schema steps
  -- as long as version numbers last, it goes on until nothing is due
  pub goes_on : now.newest.before ≤ max_versions → IsDue now more act.Nothing ⊎ GoesOn keys store now more
  -- then the newest version is the one that the steps lead to, and each fill and clear that an element wants has begun and ended
  pub ends : IsDue now more act.Nothing → (now.newest.schema ≡ after_steps found.newest.schema steps) × NoneWants now × NoneOpen now

-- in a store that was opened and applied any drafts before
abbrev pub CoursesComplete : Type 0
CoursesComplete =
    (schema : Version) (before : List Call) (keys : List Bytes) (steps : List (List Move)) (turns : List Turn) (found now : Records)
    → IsSoundVersion schema → AreDrafted before → AreApplied (opened schema) before
    → HasRecords (after_calls (opened schema) before) found → ArePlanned found.newest.schema steps
    → IsCourse keys (after_calls (opened schema) before) steps turns → HasRecords (after_turns (after_calls (opened schema) before) turns) now
    → Completes keys found steps turns (after_turns (after_calls (opened schema) before) turns) now (steps_by steps turns)
