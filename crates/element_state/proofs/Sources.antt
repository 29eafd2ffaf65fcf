-- What the pairs of an element are built from is as the laws of its kind want it.
use Rattle.std.specs.Prelude.{◌≡◌, ℕ, ◌≤◌, suc, List, [], ◌∷◌, length, Option, Some, None, refl}
use Rattle.std.specs.List.{AllByRecursion}
use Rattle.std.proofs.Common.{sym, ap, subst, arith}
use mathlib.Core.List.{map as each}
use Rattle.keycode.specs.declared.value.Value.{Value}
use Rattle.keycode.specs.Valid.{IsStorable}
use Rattle.schema_version.specs.declared.element.Kind.{Kind}
use Rattle.schema_version.specs.declared.element.Kind.TheVariants.{Index, Optional, Required}
use Rattle.schema_version.specs.declared.element.ElementDef.{ElementDef}
use Rattle.schema_version.specs.Names.{max_elements}
use Rattle.schema_version.specs.Version.{Version, element_at, default_value_of}
use Rattle.schema_version.specs.Moves.{IsFairKind}
use Rattle.element_state.specs.Sources.{source_in, default_value_at, default_or_null}
use Rattle.element_state.specs.Kinds.{IsLawfulKind}
use Rattle.element_state.proofs.Visible.{short_typed}

-- keys and pairs can hold what stands for a missing value
fallback_storable : (k : Kind) → IsFairKind k → IsStorable (default_value_of k)
fallback_storable (Index columns) fair = (tt, tt)
fallback_storable (Optional type) fair = (tt, tt)
fallback_storable (Required type fallback) fair = (fair.1, (short_typed type fallback fair.0).0)

-- each kind of the version may be
abbrev pub AreFair : Version → Type 0
AreFair version = (n : ℕ) (element : ElementDef) → element_at version n ≡ Some element → IsFairKind element.kind

pub default_value_storable : (version : Version) → AreFair version → (c : ℕ) → IsStorable (default_value_at version c)
default_value_storable version fair c = by (element_at version c) refl
  where
    by : (o : Option ElementDef) → element_at version c ≡ o → IsStorable (default_or_null o)
    by None is = (tt, tt)
    by (Some element) is = fallback_storable element.kind (fair c element is)

length_listed : (f : ℕ → Value) (cs : List ℕ) → length {A = ℕ × Value} (each (λ c. (c, f c)) cs) ≡ length cs
length_listed f [] = refl
length_listed f (c ∷ cs) = ap suc (length_listed f cs)

all_storable : (f : ℕ → Value) → ((c : ℕ) → IsStorable (f c)) → (cs : List ℕ) → AllByRecursion (λ (c : ℕ × Value). IsStorable c.1) (each (λ c. (c, f c)) cs)
all_storable f h [] = tt
all_storable f h (c ∷ cs) = (h c, all_storable f h cs)

pub lawful_source : (version : Version) → AreFair version → (n : ℕ) → 1 ≤ n → n ≤ max_elements → (k : Kind) → IsFairKind k → IsLawfulKind n (source_in version k)
lawful_source version fair n least most (Index columns) kind =
    record {
      number = omega (arith, most);
      some_columns = subst (λ l. 1 ≤ l) (sym (length_listed (default_value_at version) columns)) kind.0;
      few_columns = subst (λ l. l ≤ 4) (sym (length_listed (default_value_at version) columns)) kind.1;
      default_values = all_storable (default_value_at version) (default_value_storable version fair) columns;
    }
lawful_source version fair n least most (Optional type) kind = record { above = omega (arith, least); below = omega (arith, most) }
lawful_source version fair n least most (Required type fallback) kind = record { above = omega (arith, least); below = omega (arith, most) }
