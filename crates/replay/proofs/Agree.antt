-- What is kept says that the pairs are consistent with each version that a lease may still use.
use Rattle.std.proofs.Common.{◌≡◌, ℕ, ◌+◌, ◌<◌, ◌≤◌, List, [], ◌∷◌, length, Option, Some, None, option_map, refl, sym, ap, subst, ◌∙◌, ◌⊎◌, inl, inr, Bool, true, false, cond, eqb, eqb-true, eq-eqb, arith}
use Rattle.std.proofs.lemmas.Bool.{lt-ltb}
use Rattle.std.specs.FinMap as map
use Rattle.std.specs.FinMap.{nat_cmp-IsAntisymmetric}
use Rattle.std.specs.Cmp.{nat_cmp_total}
use Rattle.std.specs.Ordering.{nat_cmp, eq_by_cmp}
use Rattle.byte_map.proofs.Written.{apart}
use Rattle.lease.specs.Timeline.{IsUsable, earliest}
use Rattle.lease.proofs.Uses.{usable_to}
use Rattle.row_map.specs.Rows.{Rows, Pairs}
use Rattle.schema_version.specs.declared.element.ElementDef.{ElementDef}
use Rattle.schema_version.specs.Version.{Version, element_at}
use Rattle.element_state.specs.Consistent.{IsConsistent, DemandOf, AreLawfulRows}
use Rattle.element_state.specs.Core.{Meets, MeetsAll as Consistent}
use Rattle.element_state.specs.Elements.{AreFormed}
use Rattle.element_state.specs.Versions.{the_kinds, schema_of, entry_of, row_entry}
use Rattle.element_state.proofs.Versions.{get-schema_of, exists_exact}
use Rattle.replay.specs.Replay.{Facts, version_in, version_at, first_or, before_of}
use Rattle.replay.specs.Kept.{IsKept, FactsAgree, used_before}

some_one : {A : Type 0} (v w : A) → Some v ≡ Some w → v ≡ w
some_one v w e = cc

none_some : {A B : Type 0} (v : A) → None ≡ Some v → B
none_some v e = absurd cc

-- ---- one version

-- an element as the core sees it
pub at_number : (version : Version) (n : ℕ) → 1 ≤ n → map.get (schema_of version) n ≡ option_map (entry_of version) (element_at version n)
at_number version n above =
    get-schema_of version n
    ∙ ap (λ (b : Bool). cond b (Some row_entry) (option_map (entry_of version) (map.get version.elements n))) (apart_zero n above)
  where
    apart_zero : (m : ℕ) → 1 ≤ m → eq_by_cmp nat_cmp m 0 ≡ false
    apart_zero m le = apart nat_cmp_total nat_cmp-IsAntisymmetric m 0 (λ e. zero_above (subst (λ (x : ℕ). 1 ≤ x) e le))
      where
        zero_above : 1 ≤ 0 → ⊥
        zero_above h = absurd (omega (arith, h))

meets_demand : (version : Version) (P : Pairs) (R : Rows) (n : ℕ) (o : Option ElementDef) → Meets the_kinds n (option_map (entry_of version) o) P R → DemandOf version n o P R
meets_demand version P R n None m = m
meets_demand version P R n (Some e) m = m

pub consistent : (version : Version) (R : Rows) (P : Pairs) → Consistent the_kinds (schema_of version) P R → AreFormed P → AreLawfulRows version R → IsConsistent version R P
consistent version R P all formed lawful = record {
  elements = λ n above. meets_demand version P R n (element_at version n) (subst (λ o. Meets the_kinds n o P R) (at_number version n above) (all n));
  exists = exists_exact version P R all;
  forms = formed;
  lawful = lawful;
}

-- ---- both versions

-- the newest version stands under the number of versions
newest_at : (newest : Version) (older : List Version) (version : Version) (number : ℕ) → number ≡ length older + 1 → version_in (newest ∷ older) number ≡ Some version → newest ≡ version
newest_at newest older version number is at = some_one newest version (sym (ap (λ (b : Bool). cond b (Some newest) (version_in older number)) (eq-eqb number (length older + 1) is)) ∙ at)

-- and the one before it under the number before
before_at : (newest : Version) (older : List Version) (version : Version) (number : ℕ) → 1 ≤ number → number ≡ length older → version_in (newest ∷ older) number ≡ Some version → first_or newest older ≡ version
before_at newest [] version number above is at = absurd (omega (arith, above, is))
before_at newest (before ∷ older) version number above is at = by (eqb number (length (before ∷ older) + 1)) refl at
  where
    by : (b : Bool) → eqb number (length (before ∷ older) + 1) ≡ b → cond b (Some newest) (version_in (before ∷ older) number) ≡ Some version → before ≡ version
    by true e there = absurd (omega (arith, is, eqb-true number (length (before ∷ older) + 1) e))
    by false e there = newest_at before older version number (omega (arith, is)) there

used_is : (facts : Facts) → facts.moment < earliest facts.line → used_before facts facts.moment ≡ before_of facts
used_is facts below = ap (λ (b : Bool). cond b (before_of facts) facts.newest) (lt-ltb facts.moment (earliest facts.line) below)

-- a version that a lease may still use is one of the two that count
pub counts_still : (facts : Facts) → IsKept facts → (number : ℕ) (version : Version) → IsUsable facts.line number facts.moment → version_at facts number ≡ Some version → (version ≡ used_before facts facts.moment) ⊎ (version ≡ facts.newest)
counts_still facts k number version usable at = elim (usable_to facts.line number facts.moment k.valid k.since usable) [
  | inl is ↦ inr (sym (newest_at facts.newest facts.older version number (omega (arith, is, k.counted)) at))
  | inr is ↦ inl (sym (used_is facts is.2 ∙ before_at facts.newest facts.older version number is.0 (omega (arith, is.1, k.counted)) at))
]

pub agrees : (facts : Facts) → IsKept facts → FactsAgree facts
agrees facts k number version usable at = elim (counts_still facts k number version usable at) [
  | inl is ↦ subst (λ (v : Version). IsConsistent v facts.rows facts.pairs) (sym is) (consistent (used_before facts facts.moment) facts.rows facts.pairs k.core_kept.before k.core_kept.formed k.rows_before)
  | inr is ↦ subst (λ (v : Version). IsConsistent v facts.rows facts.pairs) (sym is) (consistent facts.newest facts.rows facts.pairs k.core_kept.newest k.core_kept.formed k.rows)
]
