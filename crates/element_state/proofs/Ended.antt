-- Why pieces that have ended have passed all.
use Rattle.std.specs.Prelude.{◌≡◌, ◌≢◌, ◌⊎◌, List, [], ◌∷◌, refl}
use Rattle.std.proofs.Common.{sym, ap, ◌∙◌, inl, inr, Ordering, Less, Equal, Greater}
use Rattle.keycode.specs.Order.{bytes_cmp}
use Rattle.row_map.specs.Rows.{Bytes}
use Rattle.element_state.specs.Core.{InPassedSpans}
use Rattle.element_state.specs.lemmas.Apart.{other_not_less}
use Rattle.element_state.specs.Ended.{Piece, passed_spans, AreJoined, HaveEnded}

pub less_or_not : (r : Ordering) → (r ≡ Less) ⊎ (r ≢ Less)
less_or_not Less = inl refl
less_or_not Equal = inr (other_not_less Equal tt)
less_or_not Greater = inr (other_not_less Greater tt)

pub all_passed : (ps : List Piece) (low high x : Bytes) → AreJoined low high ps → HaveEnded ps → bytes_cmp x low ≢ Less → bytes_cmp x high ≡ Less → InPassedSpans (passed_spans ps) x
all_passed [] low high x join ended from to = absurd (from (ap (bytes_cmp x) join ∙ to))
all_passed (p ∷ ps) low high x join ended from to = elim (less_or_not (bytes_cmp x p.high)) [
  | inl below ↦ inl (λ e. from (ap (bytes_cmp x) (sym join.0) ∙ e), ap (bytes_cmp x) ended.0 ∙ below)
  | inr above ↦ inr (all_passed ps p.high high x join.1 ended.1 above to)
]
