-- Cited by the answers of piece_at.
use Rattle.std.proofs.Common.{◌≡◌, ℕ, zero, suc, ◌+◌, inl, inr, refl, ap, sym, subst, ◌∙◌, Bool, true, false, List, [], ◌∷◌, Option, Some, None, Ok, Err}
use Rattle.std.specs.Prelude.{slice_get}
use Rattle.std.specs.Ordering.{is_le}
use Rattle.keycode.specs.Order.{bytes_cmp}
use Rattle.reorganise.specs.Pieces.{IsReadTo}
use Rattle.reorganise.specs.declared.read.Reading.{Reading}
use Rattle.reorganise.specs.declared.work.Progress.{Progress}
use Rattle.reorganise.specs.declared.work.Span.{Span}
use Rattle.row_map.specs.Rows.{Bytes, Pairs}
use Rattle.drafts.specs.declared.record.Reorg.{Reorg}
use Rattle.layer_calls.specs.Given.{Answer}
use Rattle.layer_calls.specs.Pieces.{spans_from, progress_at, IsGone, IsNextPart, PiecesOf, PiecesAt}

-- the bounds of a span
abbrev bound_of : Option Span → Option (Bytes × Bytes)
bound_of None = None
bound_of (Some span) = Some (span.low, span.high)

bound_at : (bounds : List (Bytes × Bytes)) (k piece n : ℕ) (cursor : Bytes) → slice_get bounds n ≡ bound_of (slice_get (spans_from k piece cursor bounds) n)
bound_at [] k piece n cursor = refl
bound_at (bound ∷ bounds) k piece zero cursor = refl
bound_at (bound ∷ bounds) k piece (suc n) cursor = bound_at bounds (k + 1) piece n cursor

module _ (reorg : Reorg) (piece : ℕ) (cursor to : Bytes) (pairs : Pairs) where
  -- what was read is of a piece that there is
  there : (at : Bytes) (read : Reading) → IsReadTo (progress_at reorg piece cursor) pairs piece at read → slice_get reorg.bounds read.piece ≡ Some (read.low, read.high)
  there at read gone =
      ap (λ (r : Reading). slice_get reorg.bounds r.piece) gone.read_is
      ∙ bound_at reorg.bounds 0 piece piece cursor
      ∙ ap bound_of gone.here
      ∙ sym (ap (λ (r : Reading). Some (r.low, r.high)) gone.read_is)

  -- what was read is so as far as some key
  somewhere : (high : Bytes) (progress : Progress) (read : Reading) → IsNextPart progress pairs piece cursor high to (Some read) → (at : Bytes) × IsGone progress pairs piece cursor at read
  somewhere high progress read next =
      elim (is_le (bytes_cmp high to)) as (λ (b : Bool). is_le (bytes_cmp high to) ≡ b → (at : Bytes) × IsGone progress pairs piece cursor at read) [
        | true ↦ λ end. (high, next.0 end)
        | false ↦ λ part. let last = next.1 part in (last.1.0, last.3)
      ] refl

  goes_on : (bound : Bytes × Bytes) (read : Reading) → slice_get reorg.bounds piece ≡ Some bound → IsNextPart (progress_at reorg piece cursor) pairs piece cursor bound.1 to (Some read) → (result : Answer) → PiecesOf reorg.bounds read result → PiecesAt reorg piece cursor to pairs result
  goes_on bound read known next (Ok reply) made = (bound, read, known, next, made)
  goes_on bound read known next (Err outcome) refused =
      let gone = somewhere bound.1 (progress_at reorg piece cursor) read next in
      elim refused [ inl memory ↦ inl memory | inr bad ↦ absurd (bad.1 (there gone.0 read gone.1.read_so)) ]

  pub gone_on : (bound : Bytes × Bytes) (progress : Progress) (found : Option Reading) (read : Reading) → slice_get reorg.bounds piece ≡ Some bound → progress ≡ progress_at reorg piece cursor → found ≡ Some read → IsNextPart progress pairs piece cursor bound.1 to found → (result : Answer) → PiecesOf reorg.bounds read result → PiecesAt reorg piece cursor to pairs result
  gone_on bound progress found read known is some next result made =
      let last = subst (λ (o : Option Reading). IsNextPart progress pairs piece cursor bound.1 to o) some next in
      let part = subst (λ (p : Progress). IsNextPart p pairs piece cursor bound.1 to (Some read)) is last in
      goes_on bound read known part result made

  pub stays : (bound : Bytes × Bytes) (progress : Progress) (found : Option Reading) → slice_get reorg.bounds piece ≡ Some bound → progress ≡ progress_at reorg piece cursor → found ≡ None → IsNextPart progress pairs piece cursor bound.1 to found → (b : Bytes × Bytes) × (slice_get reorg.bounds piece ≡ Some b) × IsNextPart (progress_at reorg piece cursor) pairs piece cursor b.1 to None
  stays bound progress found known is none next =
      let last = subst (λ (o : Option Reading). IsNextPart progress pairs piece cursor bound.1 to o) none next in
      (bound, known, subst (λ (p : Progress). IsNextPart p pairs piece cursor bound.1 to None) is last)
