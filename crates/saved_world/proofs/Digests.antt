-- What was saved is read back, whichever form it has.
use Rattle.std.proofs.Common.{◌≡◌, ℕ, List, ◌++◌, length, take, drop, Result, Err, refl, sym, ap, subst, ◌∙◌, append_assoc, arith}
use Rattle.std.proofs.lemmas.List.{take_at, drop_at, length-append}
use Rattle.checkpoint.specs.Checkpoint.{Checkpoint}
use Rattle.digested_bytes.specs.Whole.{HasMarker, IsWithDigest, marker}
use Rattle.saved_world.specs.Loaded.{IsLoadAccepted}
use Rattle.saved_world.specs.Read.{IsDamaged, IsReadBack}
use Rattle.saved_world.specs.Saved.{IsSaved}
use Rattle.saved_world.specs.declared.fault.LoadedFault.{LoadedFault}
use Rattle.saved_world.specs.declared.fault.LoadedFault.TheVariants.{Damaged}

has_marker : (inner bytes : List ℕ) → IsWithDigest inner bytes → HasMarker bytes
has_marker inner bytes it = (inner ++ it.digest, it.code ∙ append_assoc marker inner it.digest)

-- bytes have one inner alone
same_inner : (inner other bytes : List ℕ) → IsWithDigest inner bytes → IsWithDigest other bytes → inner ≡ other
same_inner inner other bytes one two =
    let both : marker ++ inner ++ one.digest ≡ marker ++ other ++ two.digest = sym (append_assoc marker inner one.digest) ∙ sym one.code ∙ two.code ∙ append_assoc marker other two.digest in
    let after : inner ++ one.digest ≡ other ++ two.digest = sym (drop_at marker (inner ++ one.digest) 8 refl) ∙ ap (drop 8) both ∙ drop_at marker (other ++ two.digest) 8 refl in
    let count : length inner ≡ length other = omega (arith, ap length after, length-append inner one.digest, length-append other two.digest, one.size, two.size) in
    sym (take_at inner one.digest (length inner) refl) ∙ ap (take (length inner)) after ∙ take_at other two.digest (length inner) (sym count)

module _ (bytes : List ℕ) (result : Result Checkpoint LoadedFault) where
  pub plain_back : (HasMarker bytes → ⊥) → IsLoadAccepted bytes result → IsReadBack bytes result
  plain_back none accepted = record {
    whole = λ limit c saved. absurd (none (has_marker saved.0 bytes saved.2));
    plain = λ limit c plain saved. accepted limit c saved;
  }

  pub whole_back : (inner : List ℕ) → IsWithDigest inner bytes → IsLoadAccepted inner result → IsReadBack bytes result
  whole_back inner it accepted = record {
    whole = λ limit c saved. accepted limit c (subst (IsSaved limit c) (same_inner saved.0 inner bytes saved.2 it) saved.1);
    plain = λ limit c none saved. absurd (none (has_marker inner bytes it));
  }

pub damaged_back : (bytes : List ℕ) → IsDamaged bytes → IsReadBack bytes (Err Damaged)
damaged_back bytes damaged = record {
  whole = λ limit c saved. absurd (damaged.1 saved.0 saved.2);
  plain = λ limit c none saved. absurd (none damaged.0);
}
