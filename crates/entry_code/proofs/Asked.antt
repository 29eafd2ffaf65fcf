-- Queries and rows: what is read was written so, and each has one code.
use Rattle.std.proofs.Common.{◌≡◌, ℕ, eqb, List, [], ◌∷◌, ◌++◌, Option, Some, None, Ok, refl, arith, inl, inr}
use Rattle.keycode.specs.declared.value.Value.{Value}
use Rattle.keycode.specs.Code.{code as value_code}
use Rattle.keycode.specs.Valid.{IsValue, IsStorable}
use Rattle.keycode.proofs.Fields.{IsBytes}
use Rattle.row_map.specs.declared.shape.Row.{Row}
use Rattle.row_query.specs.declared.query.Cond.{Cond}
use Rattle.row_query.specs.declared.query.Cond.TheVariants.{Key, Equal, Between}
use Rattle.row_query.specs.declared.query.Query.{Query}
use Rattle.entry_code.specs.Code.{u32_code, pair_code, list_code, option_code, cond_code, asked_code, row_code, query_code, rows_code}
use Rattle.entry_code.specs.Known.{IsU32, IsPair, IsOption, IsCond, IsQuery, IsRow, AreRows}
use Rattle.entry_code.specs.inner.At.{At, byte_at, list_at, option_at, cond_at, between_at, query_at, table_row_at}
use Rattle.entry_code.proofs.Readers.{Takes, IsReader, chosen, u32_reader, value_reader, pair_reader, map_reader, list_reader, nothing_reader, variant_takes, variant_again}
use Rattle.entry_code.proofs.Codes.{IsCode, number_code, pair_is, parts_is, list_is, head, both, value_is, versioned_is}

-- ---- what may be absent

module _ {X : Type 0} (P : X → Type 0) (code : X → List ℕ) (at : At X) (reader : IsReader P code at) where
  option_takes : (bytes : List ℕ) (x : Option X × List ℕ) → IsBytes bytes → option_at at bytes ≡ Ok x → Takes (IsOption P) (option_code code) bytes x
  unfolding option_at byte_at
  option_takes [] x fits e = absurd cc
  option_takes (tag ∷ bytes) x fits e =
      elim (chosen (eqb tag 0) _ _ (Ok x) e) [
        | inl t ↦ variant_takes (IsOption P) (option_code code) 0 (λ _. None) (λ _. refl) (λ _ _. tt) nothing_reader tag bytes x fits t.0 t.1
        | inr e1 ↦ elim (chosen (eqb tag 1) _ _ (Ok x) e1.1) [
          | inl t ↦ variant_takes (IsOption P) (option_code code) 1 Some (λ _. refl) (λ _ p. p) reader tag bytes x fits t.0 t.1
          | inr t ↦ absurd cc
        ]
      ]

  option_again : (x : Option X) (rest : List ℕ) → IsOption P x → option_at at (option_code code x ++ rest) ≡ Ok (x, rest)
  unfolding option_at byte_at
  option_again None rest known = refl
  option_again (Some x) rest known = variant_again Some reader x rest known

pub option_reader : {X : Type 0} {P : X → Type 0} {code : X → List ℕ} {at : At X} → IsReader P code at → IsReader (IsOption P) (option_code code) (option_at at)
option_reader {X} {P} {code} {at} reader = record { takes = option_takes P code at reader; again = option_again P code at reader }

-- ---- queries and rows are read

abbrev BetweenParts : Type 0
BetweenParts = ℕ × (Option Value × Option Value)

between_reader : IsReader (IsPair IsU32 (IsPair (IsOption IsStorable) (IsOption IsStorable))) (pair_code u32_code (pair_code (option_code value_code) (option_code value_code))) between_at
between_reader = pair_reader u32_reader (pair_reader (option_reader value_reader) (option_reader value_reader))

cond_takes : (bytes : List ℕ) (x : Cond × List ℕ) → IsBytes bytes → cond_at bytes ≡ Ok x → Takes (IsCond IsStorable) cond_code bytes x
unfolding cond_at byte_at
cond_takes [] x fits e = absurd cc
cond_takes (tag ∷ bytes) x fits e =
    elim (chosen (eqb tag 0) _ _ (Ok x) e) [
      | inl t ↦ variant_takes (IsCond IsStorable) cond_code 0 Key (λ _. refl) (λ _ p. p) (list_reader value_reader) tag bytes x fits t.0 t.1
      | inr e1 ↦ elim (chosen (eqb tag 1) _ _ (Ok x) e1.1) [
        | inl t ↦ variant_takes (IsCond IsStorable) cond_code 1 (λ (r : ℕ × Value). Equal r.0 r.1) (λ _. refl) (λ _ p. p) (pair_reader u32_reader value_reader) tag bytes x fits t.0 t.1
        | inr e2 ↦ elim (chosen (eqb tag 2) _ _ (Ok x) e2.1) [
          | inl t ↦ variant_takes (IsCond IsStorable) cond_code 2 (λ (r : BetweenParts). Between r.0 r.1.0 r.1.1) (λ _. refl) (λ _ p. p) between_reader tag bytes x fits t.0 t.1
          | inr t ↦ absurd cc
        ]
      ]
    ]

cond_again : (x : Cond) (rest : List ℕ) → IsCond IsStorable x → cond_at (cond_code x ++ rest) ≡ Ok (x, rest)
unfolding cond_at byte_at
cond_again (Key key) rest known = variant_again Key (list_reader value_reader) key rest known
cond_again (Equal column value) rest known = variant_again (λ (r : ℕ × Value). Equal r.0 r.1) (pair_reader u32_reader value_reader) (column, value) rest known
cond_again (Between column low high) rest known = variant_again (λ (r : BetweenParts). Between r.0 r.1.0 r.1.1) between_reader (column, (low, high)) rest known

cond_reader : IsReader (IsCond IsStorable) cond_code cond_at
cond_reader = record { takes = cond_takes; again = cond_again }

pub query_reader : IsReader (IsQuery IsStorable) asked_code query_at
unfolding query_at
query_reader = map_reader _ (λ (q : Query). (q.table, (q.columns, q.conditions))) (λ _. refl) (λ _. refl) (pair_reader u32_reader (pair_reader (list_reader u32_reader) (list_reader cond_reader)))

row_reader : IsReader (IsRow IsStorable) row_code table_row_at
unfolding table_row_at
row_reader = map_reader _ (λ (r : Row). (r.key, r.cells)) (λ _. refl) (λ _. refl) (pair_reader (list_reader value_reader) (list_reader (pair_reader u32_reader value_reader)))

pub rows_reader : IsReader (AreRows IsStorable) (list_code row_code) (list_at table_row_at)
rows_reader = list_reader row_reader

-- ---- their codes tell them apart

option_tells : (x y : Option Value) (r s : List ℕ) → IsOption IsValue x → IsOption IsValue y → option_code value_code x ++ r ≡ option_code value_code y ++ s → (x ≡ y) × (r ≡ s)
option_tells None None r s p q e = (refl, cc)
option_tells None (Some b) r s p q e = absurd (omega (arith, head e))
option_tells (Some a) None r s p q e = absurd (omega (arith, head e))
option_tells (Some a) (Some b) r s p q e = both Some value_is 1 a b r s p q e

option_is : IsCode (IsOption IsValue) (option_code value_code)
option_is = record { tells = option_tells }

cond_tells : (x y : Cond) (r s : List ℕ) → IsCond IsValue x → IsCond IsValue y → cond_code x ++ r ≡ cond_code y ++ s → (x ≡ y) × (r ≡ s)
cond_tells (Key k) (Key l) r s p q e = both Key (list_is value_is) 0 k l r s p q e
cond_tells (Key k) (Equal c v) r s p q e = absurd (omega (arith, head e))
cond_tells (Key k) (Between c l h) r s p q e = absurd (omega (arith, head e))
cond_tells (Equal c v) (Key l) r s p q e = absurd (omega (arith, head e))
cond_tells (Equal c v) (Equal d w) r s p q e = both (λ (r : ℕ × Value). Equal r.0 r.1) (pair_is number_code value_is) 1 (c, v) (d, w) r s p q e
cond_tells (Equal c v) (Between d l h) r s p q e = absurd (omega (arith, head e))
cond_tells (Between c l h) (Key k) r s p q e = absurd (omega (arith, head e))
cond_tells (Between c l h) (Equal d v) r s p q e = absurd (omega (arith, head e))
cond_tells (Between c l h) (Between d m i) r s p q e = both (λ (r : BetweenParts). Between r.0 r.1.0 r.1.1) (pair_is number_code (pair_is option_is option_is)) 2 (c, (l, h)) (d, (m, i)) r s p q e

asked_is : IsCode (IsQuery IsValue) asked_code
asked_is =
    parts_is (λ r. record { table = r.0; columns = r.1.0; conditions = r.1.1 }) (λ (q : Query). (q.table, (q.columns, q.conditions))) (λ _. refl)
    (pair_is number_code (pair_is (list_is number_code) (list_is (record { tells = cond_tells }))))

row_is : IsCode (IsRow IsValue) row_code
row_is = parts_is (λ r. record { key = r.0; cells = r.1 }) (λ (r : Row). (r.key, r.cells)) (λ _. refl) (pair_is (list_is value_is) (list_is (pair_is number_code value_is)))

pub query_tells : (a b : Query) (r s : List ℕ) → IsQuery IsValue a → IsQuery IsValue b → query_code a ++ r ≡ query_code b ++ s → (a ≡ b) × (r ≡ s)
query_tells = versioned_is asked_is

pub rows_tell : (a b : List Row) (r s : List ℕ) → AreRows IsValue a → AreRows IsValue b → rows_code a ++ r ≡ rows_code b ++ s → (a ≡ b) × (r ≡ s)
rows_tell = versioned_is (list_is row_is)
