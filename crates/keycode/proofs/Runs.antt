-- Texts up to their first 0.
use Rattle.std.proofs.Common.{◌≡◌, ◌+◌, ◌<◌, ◌≤◌, ◌==◌, ℕ, zero, suc, true, false, List, [], ◌∷◌, ◌++◌, length, take, drop, slice_index, if◌then◌else◌, Ok, refl, sym, ap, ◌∙◌, arith, nat_lt, Err, append_assoc}
use Rattle.keycode.specs.declared.fault.KeyFault.TheVariants.{TextTooLong}
use Rattle.std.proofs.lemmas.Bool.{lt-ltb, false_from_ne_true}
use Rattle.std.proofs.lemmas.List.{length-append, append-nil}
use Rattle.keycode.specs.Code.{escaped}
use Rattle.keycode.specs.Read.{content_at, after_zero, with_byte, ◌>>=◌}
use Rattle.memchr.specs.Find.{is_byte}
use Rattle.keycode.specs.inner.Run.{run_of}

pub run_within : (bytes : List ℕ) → run_of bytes ≤ length bytes
run_within [] = omega arith
run_within (b ∷ bytes) = elim (b == 0) as (λ z. (if z then 0 else suc (run_of bytes)) ≤ suc (length bytes)) [
  | true ↦ omega arith
  | false ↦ omega (arith, run_within bytes)
]

-- a run ends at the first 0
pub run_to : (bytes : List ℕ) (k : ℕ) → k < length bytes → ((j : ℕ) → j < k → ¬ (is_byte 0 (slice_index bytes j) ≡ true)) → is_byte 0 (slice_index bytes k) ≡ true → run_of bytes ≡ k
run_to [] k h before here = absurd (omega (arith, h))
run_to (b ∷ bytes) zero h before here = ap (λ z. if z then 0 else suc (run_of bytes)) here
run_to (b ∷ bytes) (suc k) h before here =
    ap (λ z. if z then 0 else suc (run_of bytes)) (false_from_ne_true _ (before 0 (omega arith)))
    ∙ ap suc (run_to bytes k (omega (arith, h)) (λ j l. before (suc j) (omega (arith, l))) here)

-- a run without a 0 is all
pub run_of_all : (bytes : List ℕ) → ((j : ℕ) → j < length bytes → ¬ (is_byte 0 (slice_index bytes j) ≡ true)) → run_of bytes ≡ length bytes
run_of_all [] none = refl
run_of_all (b ∷ bytes) none =
    ap (λ z. if z then 0 else suc (run_of bytes)) (false_from_ne_true _ (none 0 (omega arith)))
    ∙ ap suc (run_of_all bytes (λ j l. none (suc j) (omega (arith, l))))

-- a byte that is no 0
one_more : (before : List ℕ) (c : ℕ) (cs : List ℕ) → (c == 0) ≡ false → nat_lt (length before) 1024 ≡ true → content_at before (c ∷ cs) ≡ content_at (before ++ c ∷ []) cs
unfolding content_at with_byte
one_more before c cs e fits =
    ap (λ z. if z then after_zero before cs else (with_byte before c >>= λ more. content_at more cs)) e
    ∙ ap (λ z. (if z then Ok (before ++ c ∷ []) else Err TextTooLong) >>= λ more. content_at more cs) fits

-- what is read of a text after its run, if that is no longer than a text
pub content_run : (before bytes : List ℕ) → length before + run_of bytes ≤ 1024 → content_at (before ++ take (run_of bytes) bytes) (drop (run_of bytes) bytes) ≡ content_at before bytes
content_run before [] h = ap (λ l. content_at l []) (append-nil before)
content_run before (b ∷ bytes) h =
    elim (b == 0) as (λ z. (b == 0) ≡ z → length before + (if z then 0 else suc (run_of bytes)) ≤ 1024
    → content_at (before ++ take (if z then 0 else suc (run_of bytes)) (b ∷ bytes)) (drop (if z then 0 else suc (run_of bytes)) (b ∷ bytes)) ≡ content_at before (b ∷ bytes)) [
      | true ↦ λ e h. ap (λ l. content_at l (b ∷ bytes)) (append-nil before)
      | false ↦ λ e h.
          let more : length (before ++ b ∷ []) + run_of bytes ≤ 1024 = omega (arith, h, length-append before (b ∷ [])) in
          ap (λ l. content_at l (drop (run_of bytes) bytes)) (sym (append_assoc before (b ∷ []) (take (run_of bytes) bytes)))
          ∙ content_run (before ++ b ∷ []) bytes more
          ∙ sym (one_more before b bytes e (lt-ltb _ _ (omega (arith, h))))
    ] refl h

-- a text without a 0 is as it is
pub run_escaped : (text : List ℕ) → run_of text ≡ length text → escaped text ≡ text
run_escaped [] h = refl
run_escaped (b ∷ text) h =
    elim (b == 0) as (λ z. (b == 0) ≡ z → (if z then 0 else suc (run_of text)) ≡ suc (length text) → escaped (b ∷ text) ≡ b ∷ text) [
      | true ↦ λ e h. absurd (omega (arith, h))
      | false ↦ λ e h. ap (λ (l : List ℕ). l ++ escaped text) (ap (λ z. if z then 0 ∷ 255 ∷ [] else b ∷ []) e) ∙ ap (λ l. b ∷ l) (run_escaped text (omega (arith, h)))
    ] refl h
