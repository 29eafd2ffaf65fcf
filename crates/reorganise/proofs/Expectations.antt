-- If an expectation holds, what was read is what is there.
use Rattle.std.proofs.Common.{◌≡◌, ◌≢◌, Bool, true, false, true≢false, cond, Option, Some, None, refl, sym, ap, ◌∙◌, inl, inr}
use Rattle.std.specs.FinMap as map
use Rattle.byte_map.proofs.Order.{bytes_cmp_total, bytes_cmp-IsAntisymmetric}
use Rattle.byte_map.proofs.Written.{same_or_apart}
use Rattle.row_map.specs.Rows.{Bytes, Pairs}
use Rattle.row_map.specs.Ranges.{is_within}
use Rattle.row_map.specs.Expect.{Holds}
use Rattle.reorganise.specs.declared.read.Reading.{Reading}
use Rattle.reorganise.specs.Pieces.{part, IsReading}
use Rattle.reorganise.specs.Batches.{expect_of}
use Rattle.reorganise.proofs.Order.{get-part}

some_none : (v : Bytes) → Some v ≡ None → ⊥
some_none v e = cc

same_some : (v w : Bytes) → Some v ≡ Some w → v ≡ w
same_some v w e = cc

-- values that are not different are the same
one_value : (o p : Option Bytes) → ((o ≢ p) → ⊥) → o ≡ p
one_value None None h = refl
one_value None (Some w) h = absurd (h (λ e. some_none w (sym e)))
one_value (Some v) None h = absurd (h (λ e. some_none v e))
one_value (Some v) (Some w) h = elim (same_or_apart bytes_cmp_total bytes_cmp-IsAntisymmetric v w) [
  | inl e ↦ ap (λ x. Some x) e
  | inr ne ↦ absurd (h (λ e. ne (same_some v w e)))
]

none_outside : (b : Bool) (o : Option Bytes) → ((v : Bytes) → o ≡ Some v → b ≡ true) → b ≡ false → o ≡ None
none_outside b None h e = refl
none_outside b (Some v) h e = absurd (true≢false (sym (h v refl) ∙ e))

pub part_is : (read : Reading) (P : Pairs) → IsReading read → Holds (expect_of read.key_range) P → part P read.key_range.low read.key_range.high ≡ read.key_range.pairs
part_is read P r holds =
    map.same_map bytes_cmp_total bytes_cmp-IsAntisymmetric (part P read.key_range.low read.key_range.high) read.key_range.pairs (λ q.
    get-part P read.key_range.low read.key_range.high q
    ∙ elim (is_within read.key_range.low read.key_range.high q) as (λ b. is_within read.key_range.low read.key_range.high q ≡ b → cond b (map.get P q) None ≡ map.get read.key_range.pairs q) [
      | true ↦ λ w. one_value (map.get P q) (map.get read.key_range.pairs q) (λ ne. holds q (inr (w, ne)))
      | false ↦ λ w. sym (none_outside (is_within read.key_range.low read.key_range.high q) (map.get read.key_range.pairs q) (λ v at. r.inside q v at) w)
    ] refl)
