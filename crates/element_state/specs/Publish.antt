-- Cited by the definitions of Kept.
-- A published step keeps what the core keeps, from the laws alone.
use Rattle.std.specs.Prelude.{◌≡◌, ℕ, false, List, Some, None}
use Rattle.std.specs.FinMap.{FinMap, get}
use Rattle.std.specs.Ordering.{nat_cmp}
use Rattle.row_map.specs.Rows.{Bytes, RowKey, Cells}
use Rattle.schema_version.specs.declared.element.ElementState.TheVariants.{Public}
use Rattle.element_state.specs.Elements.{owner}
use Rattle.element_state.specs.Laws.{IsLive}
use Rattle.element_state.specs.Exists.{row_key}
use Rattle.element_state.specs.Schemas.{Entry, Schema, state_of, Kinds, AreLawful}
use Rattle.schema_version.specs.declared.element.Work.TheVariants.{Fill, Clear}
use Rattle.element_state.specs.Core.{PassedSpan, InPassedSpans, CoreProgress, Core, JoinedAt, NeverPublic}

module _ {K : Type 0} (ks : Kinds K) where
  -- the element's fill has passed each row that has a pair
  pub record FillEnded (w : Core K) (n : ℕ) (k : K) : Type 0 where
    pub spans : List PassedSpan
    pub begun : get w.progress n ≡ Some (record { work = Fill; spans = spans })
    pub all : (l : RowKey) (r : Cells) (v : Bytes) → get w.rows l ≡ Some r → (ks.meaning n k).pair_value l r ≡ Some v → InPassedSpans spans (row_key l)

  -- the element's clear has passed each of its pairs
  pub record ClearEnded (w : Core K) (n : ℕ) : Type 0 where
    pub spans : List PassedSpan
    pub begun : get w.progress n ≡ Some (record { work = Clear; spans = spans })
    pub all : (x v : Bytes) → owner x ≡ Some n → get w.pairs x ≡ Some v → InPassedSpans spans x

  -- what a step to public needs
  pub data MayBePublic (w : Core K) (n : ℕ) (k : K) : Type 0 where
    Was : state_of (get w.newest n) ≡ Public → MayBePublic w n k
    Filled : FillEnded w n k → MayBePublic w n k
    Unfilled : (ks.meaning n k).filled ≡ false → NeverPublic ks w.next n (get w.newest n) → MayBePublic w n k

  -- what a step to absent needs
  pub data MayBeAbsent (w : Core K) (n : ℕ) : Type 0 where
    Was_not : get w.newest n ≡ None → MayBeAbsent w n
    Cleared : ClearEnded w n → MayBeAbsent w n

  -- an allowed step, from the newest version to s
  pub record Steps (w : Core K) (s : Schema K) (next : ℕ) (progress : FinMap nat_cmp CoreProgress) : Type 0 where
    pub joined : (n : ℕ) → JoinedAt ks n (get w.newest n) (get s n)
    pub lawful : AreLawful ks s
    pub live : (n : ℕ) (e : Entry K) → get s n ≡ Some e → IsLive e.state
    pub to_public : (n : ℕ) (e : Entry K) → get s n ≡ Some e → e.state ≡ Public → MayBePublic w n e.kind
    pub to_absent : (n : ℕ) → get s n ≡ None → MayBeAbsent w n
    pub progress_kept : (n : ℕ) (p : CoreProgress) → get progress n ≡ Some p → (get w.progress n ≡ Some p) × (get s n ≡ get w.newest n)
    pub fresh : (n : ℕ) → NeverPublic ks next n (get s n) → NeverPublic ks w.next n (get w.newest n)

  -- the core after the publication: the newest version becomes the one before
  abbrev pub published : Core K → Schema K → ℕ → FinMap nat_cmp CoreProgress → Core K
  published w s next progress = record w { before = w.newest; newest = s; next = next; progress = progress }
