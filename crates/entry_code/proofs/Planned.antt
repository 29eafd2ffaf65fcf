-- Changes and the steps of a plan: what is read was written so, and each has one code.
use Rattle.std.proofs.Common.{◌≡◌, ℕ, eqb, List, [], ◌∷◌, ◌++◌, Ok, refl, arith, inl, inr}
use Rattle.change_plan.specs.declared.change.Change.{Change}
use Rattle.change_plan.specs.declared.change.Change.TheVariants.{AddIndex, DropIndex, AddColumn, DropColumn, Abandon}
use Rattle.change_plan.specs.declared.least_plan.PlanStep.{PlanStep}
use Rattle.change_plan.specs.declared.least_plan.Reorg.{Reorg}
use Rattle.change_plan.specs.declared.least_plan.Reorg.TheVariants.{Fill, Clear}
use Rattle.keycode.specs.Valid.{IsValue, IsStorable}
use Rattle.keycode.proofs.Fields.{IsBytes}
use Rattle.schema_version.specs.declared.element.Kind.{Kind}
use Rattle.entry_code.specs.Code.{u32_code, bytes_code, pair_code, list_code, kind_code, change_code, reorg_code, plan_step_code, changes_code, plan_code}
use Rattle.entry_code.specs.Known.{IsU32, IsText, IsPair, IsList, IsKind, IsChange, AreChanges, IsReorg, IsPlanStep, IsPlan}
use Rattle.entry_code.specs.inner.At.{byte_at, u32_at, text_at, pair_at, list_at, kind_at, named_at, change_at, reorg_at, plan_step_at}
use Rattle.entry_code.proofs.Readers.{Takes, IsReader, chosen, u32_reader, text_reader, pair_reader, map_reader, list_reader, variant_takes, variant_again}
use Rattle.entry_code.proofs.Types.{kind_reader, step_reader}
use Rattle.entry_code.proofs.Codes.{IsCode, read_code, number_code, pair_is, parts_is, list_is, head, both, kind_tells, moves_are, versioned_is}

abbrev Named : Type 0
Named = ℕ × List ℕ

abbrev IndexParts : Type 0
IndexParts = ℕ × (List ℕ × List (List ℕ))

abbrev ColumnParts : Type 0
ColumnParts = ℕ × (List ℕ × Kind)

-- ---- what is read

named_reader : IsReader (IsPair IsU32 IsText) (pair_code u32_code bytes_code) named_at
named_reader = pair_reader u32_reader text_reader

index_reader : IsReader (IsPair IsU32 (IsPair IsText (IsList IsText))) (pair_code u32_code (pair_code bytes_code (list_code bytes_code))) (pair_at u32_at (pair_at text_at (list_at text_at)))
index_reader = pair_reader u32_reader (pair_reader text_reader (list_reader text_reader))

column_reader : IsReader (IsPair IsU32 (IsPair IsText (IsKind IsStorable))) (pair_code u32_code (pair_code bytes_code kind_code)) (pair_at u32_at (pair_at text_at kind_at))
column_reader = pair_reader u32_reader (pair_reader text_reader kind_reader)

change_takes : (bytes : List ℕ) (x : Change × List ℕ) → IsBytes bytes → change_at bytes ≡ Ok x → Takes (IsChange IsStorable) change_code bytes x
unfolding change_at byte_at
change_takes [] x fits e = absurd cc
change_takes (tag ∷ bytes) x fits e =
    elim (chosen (eqb tag 0) _ _ (Ok x) e) [
      | inl t ↦ variant_takes (IsChange IsStorable) change_code 0 (λ (r : IndexParts). AddIndex r.0 r.1.0 r.1.1) (λ _. refl) (λ _ p. p) index_reader tag bytes x fits t.0 t.1
      | inr e1 ↦ elim (chosen (eqb tag 1) _ _ (Ok x) e1.1) [
        | inl t ↦ variant_takes (IsChange IsStorable) change_code 1 (λ (r : Named). DropIndex r.0 r.1) (λ _. refl) (λ _ p. p) named_reader tag bytes x fits t.0 t.1
        | inr e2 ↦ elim (chosen (eqb tag 2) _ _ (Ok x) e2.1) [
          | inl t ↦ variant_takes (IsChange IsStorable) change_code 2 (λ (r : ColumnParts). AddColumn r.0 r.1.0 r.1.1) (λ _. refl) (λ _ p. p) column_reader tag bytes x fits t.0 t.1
          | inr e3 ↦ elim (chosen (eqb tag 3) _ _ (Ok x) e3.1) [
            | inl t ↦ variant_takes (IsChange IsStorable) change_code 3 (λ (r : Named). DropColumn r.0 r.1) (λ _. refl) (λ _ p. p) named_reader tag bytes x fits t.0 t.1
            | inr e4 ↦ elim (chosen (eqb tag 4) _ _ (Ok x) e4.1) [
              | inl t ↦ variant_takes (IsChange IsStorable) change_code 4 (λ (r : Named). Abandon r.0 r.1) (λ _. refl) (λ _ p. p) named_reader tag bytes x fits t.0 t.1
              | inr t ↦ absurd cc
            ]
          ]
        ]
      ]
    ]

change_again : (x : Change) (rest : List ℕ) → IsChange IsStorable x → change_at (change_code x ++ rest) ≡ Ok (x, rest)
unfolding change_at byte_at
change_again (AddIndex table name columns) rest known = variant_again (λ (r : IndexParts). AddIndex r.0 r.1.0 r.1.1) index_reader (table, (name, columns)) rest known
change_again (DropIndex table name) rest known = variant_again (λ (r : Named). DropIndex r.0 r.1) named_reader (table, name) rest known
change_again (AddColumn table name kind) rest known = variant_again (λ (r : ColumnParts). AddColumn r.0 r.1.0 r.1.1) column_reader (table, (name, kind)) rest known
change_again (DropColumn table name) rest known = variant_again (λ (r : Named). DropColumn r.0 r.1) named_reader (table, name) rest known
change_again (Abandon table name) rest known = variant_again (λ (r : Named). Abandon r.0 r.1) named_reader (table, name) rest known

change_reader : IsReader (IsChange IsStorable) change_code change_at
change_reader = record { takes = change_takes; again = change_again }

pub changes_reader : IsReader (AreChanges IsStorable) (list_code change_code) (list_at change_at)
changes_reader = list_reader change_reader

reorg_takes : (bytes : List ℕ) (x : Reorg × List ℕ) → IsBytes bytes → reorg_at bytes ≡ Ok x → Takes IsReorg reorg_code bytes x
unfolding reorg_at byte_at
reorg_takes [] x fits e = absurd cc
reorg_takes (tag ∷ bytes) x fits e =
    elim (chosen (eqb tag 0) _ _ (Ok x) e) [
      | inl t ↦ variant_takes IsReorg reorg_code 0 Fill (λ _. refl) (λ _ p. p) u32_reader tag bytes x fits t.0 t.1
      | inr e1 ↦ elim (chosen (eqb tag 1) _ _ (Ok x) e1.1) [
        | inl t ↦ variant_takes IsReorg reorg_code 1 Clear (λ _. refl) (λ _ p. p) u32_reader tag bytes x fits t.0 t.1
        | inr t ↦ absurd cc
      ]
    ]

reorg_again : (x : Reorg) (rest : List ℕ) → IsReorg x → reorg_at (reorg_code x ++ rest) ≡ Ok (x, rest)
unfolding reorg_at byte_at
reorg_again (Fill element) rest known = variant_again Fill u32_reader element rest known
reorg_again (Clear element) rest known = variant_again Clear u32_reader element rest known

reorg_reader : IsReader IsReorg reorg_code reorg_at
reorg_reader = record { takes = reorg_takes; again = reorg_again }

plan_step_reader : IsReader (IsPlanStep IsStorable) plan_step_code plan_step_at
unfolding plan_step_at
plan_step_reader = map_reader _ (λ (p : PlanStep). (p.before, p.step)) (λ _. refl) (λ _. refl) (pair_reader (list_reader reorg_reader) step_reader)

pub plan_reader : IsReader (IsPlan IsStorable) (list_code plan_step_code) (list_at plan_step_at)
plan_reader = list_reader plan_step_reader

-- ---- their codes tell them apart

named_is : IsCode (IsPair IsU32 IsText) (pair_code u32_code bytes_code)
named_is = read_code named_reader

index_is : IsCode (IsPair IsU32 (IsPair IsText (IsList IsText))) (pair_code u32_code (pair_code bytes_code (list_code bytes_code)))
index_is = read_code index_reader

-- a default may be any value, also one that is too long to be read
column_is : IsCode (IsPair IsU32 (IsPair IsText (IsKind IsValue))) (pair_code u32_code (pair_code bytes_code kind_code))
column_is = pair_is number_code (pair_is (read_code text_reader) (record { tells = kind_tells }))

change_tells : (x y : Change) (r s : List ℕ) → IsChange IsValue x → IsChange IsValue y → change_code x ++ r ≡ change_code y ++ s → (x ≡ y) × (r ≡ s)
change_tells (AddIndex t n c) (AddIndex u m d) r s p q e = both (λ (r : IndexParts). AddIndex r.0 r.1.0 r.1.1) index_is 0 (t, (n, c)) (u, (m, d)) r s p q e
change_tells (AddIndex t n c) (DropIndex u m) r s p q e = absurd (omega (arith, head e))
change_tells (AddIndex t n c) (AddColumn u m l) r s p q e = absurd (omega (arith, head e))
change_tells (AddIndex t n c) (DropColumn u m) r s p q e = absurd (omega (arith, head e))
change_tells (AddIndex t n c) (Abandon u m) r s p q e = absurd (omega (arith, head e))
change_tells (DropIndex t n) (AddIndex u m d) r s p q e = absurd (omega (arith, head e))
change_tells (DropIndex t n) (DropIndex u m) r s p q e = both (λ (r : Named). DropIndex r.0 r.1) named_is 1 (t, n) (u, m) r s p q e
change_tells (DropIndex t n) (AddColumn u m l) r s p q e = absurd (omega (arith, head e))
change_tells (DropIndex t n) (DropColumn u m) r s p q e = absurd (omega (arith, head e))
change_tells (DropIndex t n) (Abandon u m) r s p q e = absurd (omega (arith, head e))
change_tells (AddColumn t n k) (AddIndex u m d) r s p q e = absurd (omega (arith, head e))
change_tells (AddColumn t n k) (DropIndex u m) r s p q e = absurd (omega (arith, head e))
change_tells (AddColumn t n k) (AddColumn u m l) r s p q e = both (λ (r : ColumnParts). AddColumn r.0 r.1.0 r.1.1) column_is 2 (t, (n, k)) (u, (m, l)) r s p q e
change_tells (AddColumn t n k) (DropColumn u m) r s p q e = absurd (omega (arith, head e))
change_tells (AddColumn t n k) (Abandon u m) r s p q e = absurd (omega (arith, head e))
change_tells (DropColumn t n) (AddIndex u m d) r s p q e = absurd (omega (arith, head e))
change_tells (DropColumn t n) (DropIndex u m) r s p q e = absurd (omega (arith, head e))
change_tells (DropColumn t n) (AddColumn u m l) r s p q e = absurd (omega (arith, head e))
change_tells (DropColumn t n) (DropColumn u m) r s p q e = both (λ (r : Named). DropColumn r.0 r.1) named_is 3 (t, n) (u, m) r s p q e
change_tells (DropColumn t n) (Abandon u m) r s p q e = absurd (omega (arith, head e))
change_tells (Abandon t n) (AddIndex u m d) r s p q e = absurd (omega (arith, head e))
change_tells (Abandon t n) (DropIndex u m) r s p q e = absurd (omega (arith, head e))
change_tells (Abandon t n) (AddColumn u m l) r s p q e = absurd (omega (arith, head e))
change_tells (Abandon t n) (DropColumn u m) r s p q e = absurd (omega (arith, head e))
change_tells (Abandon t n) (Abandon u m) r s p q e = both (λ (r : Named). Abandon r.0 r.1) named_is 4 (t, n) (u, m) r s p q e

plan_step_is : IsCode (IsPlanStep IsValue) plan_step_code
plan_step_is = parts_is (λ r. record { before = r.0; step = r.1 }) (λ (p : PlanStep). (p.before, p.step)) (λ _. refl) (pair_is (list_is (read_code reorg_reader)) moves_are)

pub changes_tell : (a b : List Change) (r s : List ℕ) → AreChanges IsValue a → AreChanges IsValue b → changes_code a ++ r ≡ changes_code b ++ s → (a ≡ b) × (r ≡ s)
changes_tell = versioned_is (list_is (record { tells = change_tells }))

pub plan_tells : (a b : List PlanStep) (r s : List ℕ) → IsPlan IsValue a → IsPlan IsValue b → plan_code a ++ r ≡ plan_code b ++ s → (a ≡ b) × (r ≡ s)
plan_tells = versioned_is (list_is plan_step_is)
