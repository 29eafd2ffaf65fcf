-- Cited by the definitions of Ended, Kept, Opening, Pieces and 5 more.
-- What the core keeps from event to event, whatever the kinds of element.
use Rattle.std.specs.Prelude.{◌≡◌, ◌≢◌, ◌⊎◌, ℕ, ◌≤◌, true, IsTrue, List, [], ◌∷◌, Option, Some, None}
use Rattle.std.specs.FinMap.{FinMap, get}
use Rattle.std.specs.Ordering.{nat_cmp}
use Rattle.std.proofs.Common.{Less}
use Rattle.keycode.specs.Order.{bytes_cmp}
use Rattle.row_map.specs.Rows.{Bytes, RowKey, Cells, Rows, Pairs, AreStorable}
use Rattle.row_map.specs.Writes.{written_all}
use Rattle.schema_version.specs.declared.element.ElementState.{ElementState}
use Rattle.schema_version.specs.declared.element.ElementState.TheVariants.{Absent, Public}
use Rattle.schema_version.specs.declared.element.Work.{Work}
use Rattle.schema_version.specs.declared.element.Work.TheVariants.{Fill, Clear}
use Rattle.element_state.specs.Elements.{Change, rows_after, Fits, ChangesPublicOnly, IsStorableNew, owner, AreFormed, CoveredAt, Empty, Demand}
use Rattle.element_state.specs.Laws.{Grows, Joined}
use Rattle.element_state.specs.Exists.{row_key}
use Rattle.element_state.specs.Schemas.{Entry, Schema, state_of, Kinds, AreLawful, version_writes}

-- what a reorganisation has passed: from its lower bound to below its cursor
pub record PassedSpan : Type 0 where
  pub low : Bytes
  pub cursor : Bytes

-- a key that the reorganisation has passed in one piece
abbrev pub InPassedSpan : PassedSpan → Bytes → Type 0
InPassedSpan s x = (bytes_cmp x s.low ≢ Less) × (bytes_cmp x s.cursor ≡ Less)

-- a key that it has passed in any of its pieces
abbrev pub InPassedSpans : List PassedSpan → Bytes → Type 0
InPassedSpans [] x = ⊥
InPassedSpans (s ∷ ss) x = InPassedSpan s x ⊎ InPassedSpans ss x

-- a begun reorganisation: its work, and what each piece has passed
pub record CoreProgress : Type 0 where
  pub work : Work
  pub spans : List PassedSpan

-- what a store under two usable versions is: the version before the newest, the newest, the next free element number, the begun reorganisations, the pairs, and the rows that they stand for
pub record Core (K : Type 0) : Type 0 where
  pub before : Schema K
  pub newest : Schema K
  pub next : ℕ
  pub progress : FinMap nat_cmp CoreProgress
  pub pairs : Pairs
  pub rows : Rows

-- no row has a cell of n
abbrev pub NoCell : ℕ → Rows → Type 0
NoCell n R = (k : RowKey) (r : Cells) → get R k ≡ Some r → get r n ≡ None

module _ {K : Type 0} (ks : Kinds K) where
  -- the demand of the state that a version gives n
  abbrev pub Meets : ℕ → Option (Entry K) → Pairs → Rows → Type 0
  Meets n None P R = Empty n P
  Meets n (Some e) P R = Demand (ks.meaning n e.kind) e.state P R

  -- every element number meets its demand
  abbrev pub MeetsAll : Schema K → Pairs → Rows → Type 0
  MeetsAll s P R = (n : ℕ) → Meets n (get s n) P R

  -- one kind, and equal states or states that an edge joins
  abbrev pub JoinedAt : ℕ → Option (Entry K) → Option (Entry K) → Type 0
  JoinedAt n None None = Unit {0}
  JoinedAt n None (Some e) = Joined (ks.meaning n e.kind) Absent e.state
  JoinedAt n (Some d) None = Joined (ks.meaning n d.kind) d.state Absent
  JoinedAt n (Some d) (Some e) = (d.kind ≡ e.kind) × Joined (ks.meaning n d.kind) d.state e.state

  -- an operation by a server at that version
  pub record Runs (s : Schema K) (R : Rows) (c : Change) : Type 0 where
    pub fits : Fits R c
    pub storable : IsStorableNew c
    pub public_only : (n : ℕ) → ChangesPublicOnly n (state_of (get s n)) c

  -- what a reorganisation has passed is done
  abbrev pub Passed : ℕ → K → Work → List PassedSpan → Pairs → Rows → Type 0
  Passed n k Fill spans P R = (l : RowKey) → InPassedSpans spans (row_key l) → CoveredAt (ks.meaning n k) P R l
  Passed n k Clear spans P R = (x : Bytes) → owner x ≡ Some n → InPassedSpans spans x → get P x ≡ None

  -- the states in which it may run, in every usable version
  abbrev pub MayRun : Work → K → ElementState → Type 0
  MayRun Fill k q = Grows q
  MayRun Clear k q = ¬ (Grows q)

  -- a begun reorganisation of n: its element is in the newest version, it may run in both, and what it has passed is done
  pub record Reached (n : ℕ) (p : CoreProgress) (before newest : Schema K) (P : Pairs) (R : Rows) : Type 0 where
    pub kind : K
    pub entry : Entry K
    pub entry_is : get newest n ≡ Some entry
    pub kind_is : entry.kind ≡ kind
    pub filled : p.work ≡ Fill → IsTrue ((ks.meaning n kind).filled)
    pub run_before : MayRun p.work kind (state_of (get before n))
    pub run_newest : MayRun p.work kind (state_of (get newest n))
    pub passed : Passed n kind p.work p.spans P R

  -- n was never public in any version so far
  abbrev pub NeverPublic : ℕ → ℕ → Option (Entry K) → Type 0
  NeverPublic next n None = next ≤ n
  NeverPublic next n (Some e) = (e.adding ≡ true) × (e.state ≢ Public)

  -- what the core keeps from event to event
  pub record Invariant (w : Core K) : Type 0 where
    -- the rows can be named and held, the keys can be read, and the elements are as their laws want them
    pub held : AreStorable w.rows
    pub formed : AreFormed w.pairs
    pub lawful_before : AreLawful ks w.before
    pub lawful_newest : AreLawful ks w.newest
    -- the states in the usable versions
    pub joined : (n : ℕ) → JoinedAt n (get w.before n) (get w.newest n)
    pub before : MeetsAll w.before w.pairs w.rows
    pub newest : MeetsAll w.newest w.pairs w.rows
    -- what the reorganisations have passed
    pub reached : (n : ℕ) (p : CoreProgress) → get w.progress n ≡ Some p → Reached n p w.before w.newest w.pairs w.rows
    -- a column that was never public has no cell
    pub bare : (n : ℕ) → NeverPublic w.next n (get w.newest n) → NoCell n w.rows × (state_of (get w.before n) ≢ Public)

  -- the core after an operation by a server at version s
  abbrev pub committed : Core K → Schema K → Change → Core K
  committed w s c = record w { pairs = written_all w.pairs (version_writes ks s c); rows = rows_after w.rows c }
