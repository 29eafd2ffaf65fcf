-- What the tests tell is what may be wrong, in words.
use Rattle.std.proofs.Common.{◌≡◌, ℕ, zero, suc, ◌+◌, ◌<◌, ◌≤◌, Bool, true, false, not, ◌&&◌, ◌||◌, List, [], ◌∷◌, length, Some, ◌⊎◌, inl, inr, refl, sym, ap, subst, ◌∙◌, arith, true≢false, slice_get}
use Rattle.std.specs.Prelude.{nat_le, bytes_eq}
use Rattle.std.proofs.lemmas.Slice.Eq.{bytes_eq-Decides}
use mathlib.Core.List.{map as each}
use Rattle.schema_version.specs.declared.table.TableDef.{TableDef}
use Rattle.schema_version.specs.Declare.{names_of}
use Rattle.schema_version.specs.Names.{IsName, is_name, is_among, max_key_columns, max_columns, max_indexes, max_listed}
use Rattle.schema_version.proofs.Decides.{word, at_most}
use Rattle.table_faults.specs.declared.fault.TableCause.{TableCause}
use Rattle.table_faults.specs.declared.fault.TableCause.TheVariants.{TableName, KeyLength, TooManyColumns, TooManyIndexes, Name, NameTwice, ListLength, ListedTwice, NotAColumn}
use Rattle.table_faults.specs.Faults.{StandsAt, IsNoName, StandsAgain, IsNoneOrOver, Lists, IsWrong}
use Rattle.table_faults.proofs.Order.{behind, Within, said, from_said}
use Rattle.table_faults.proofs.Finding.{Told, NameSays, ListedSays, IndexSays, is_list_length, columns_of, InsideSays, TableSays}

-- ---- tests

fails : (b : Bool) → not b ≡ true → b ≡ false
fails true e = absurd (true≢false (sym e))
fails false e = refl

failing : (b : Bool) → ¬ (b ≡ true) → not b ≡ true
failing true refuted = absurd (refuted refl)
failing false refuted = refl

never : {b : Bool} → b ≡ true → not b ≡ true → ⊥
never p q = true≢false (sym p ∙ fails _ q)

pub not_word : (name : List ℕ) → not (is_name name) ≡ true → ¬ (IsName name)
not_word name e h = never ((word name).1 h) e

no_word : (name : List ℕ) → ¬ (IsName name) → not (is_name name) ≡ true
no_word name refuted = failing (is_name name) (λ e. refuted ((word name).0 e))

pub over : (n most : ℕ) → not (nat_le n most) ≡ true → most < n
over n most e =
    elim (either n most) [
      | inl low ↦ absurd (never ((at_most n most).1 low) e)
      | inr high ↦ high
    ]
  where
    either : (m n : ℕ) → (m ≤ n) ⊎ (n < m)
    either zero n = inl (omega arith)
    either (suc m) zero = inr (omega arith)
    either (suc m) (suc n) = elim (either m n) [ inl h ↦ inl (omega (arith, h)) | inr h ↦ inr (omega (arith, h)) ]

pub is_over : (n most : ℕ) → most < n → not (nat_le n most) ≡ true
is_over n most h = failing (nat_le n most) (λ e. let low : n ≤ most = (at_most n most).0 e in omega (arith, low, h))

none_or_over : (n most : ℕ) → not (nat_le 1 n && nat_le n most) ≡ true → IsNoneOrOver most n
none_or_over zero most e = inl refl
none_or_over (suc n) most e =
    let some : nat_le 1 (suc n) ≡ true = (at_most 1 (suc n)).1 (omega arith) in
    inr (over (suc n) most (sym (ap (λ b. not (b && nat_le (suc n) most)) some) ∙ e))

from_none_or_over : (n most : ℕ) → IsNoneOrOver most n → not (nat_le 1 n && nat_le n most) ≡ true
from_none_or_over n most (inl none) = ap (λ m. not (nat_le 1 m && nat_le m most)) none
from_none_or_over n most (inr high) = either (nat_le 1 n) (nat_le n most) (is_over n most high)
  where
    either : (a b : Bool) → not b ≡ true → not (a && b) ≡ true
    either true b e = e
    either false b e = refl

-- ---- places

place_of : (names : List (List ℕ)) (name : List ℕ) → is_among name names ≡ true → (place : ℕ) × StandsAt names place name
place_of [] name e = absurd (true≢false (sym e))
place_of (other ∷ names) name e =
    elim (bytes_eq other name) as (λ b. bytes_eq other name ≡ b → (b || is_among name names) ≡ true → (place : ℕ) × StandsAt (other ∷ names) place name) [
      | true ↦ λ is e. (0, ap Some ((bytes_eq-Decides other name).0 is))
      | false ↦ λ is e. let r = place_of names name e in (suc r.0, r.1)
    ] refl e

from_place : (names : List (List ℕ)) (name : List ℕ) (place : ℕ) → StandsAt names place name → is_among name names ≡ true
from_place [] name place at = absurd cc
from_place (other ∷ names) name zero at =
    let same : other ≡ name = cc in
    ap (λ b. b || is_among name names) ((bytes_eq-Decides other name).1 same)
from_place (other ∷ names) name (suc place) at = ap (λ b. bytes_eq other name || b) (from_place names name place at) ∙ or_true (bytes_eq other name)
  where
    or_true : (b : Bool) → (b || true) ≡ true
    or_true true = refl
    or_true false = refl

pub again : (names : List (List ℕ)) (place : ℕ) (name : List ℕ) → StandsAt names place name → is_among name (behind names place) ≡ true → StandsAgain names place
again [] place name at e = absurd cc
again (other ∷ names) zero name at e = let r = place_of names name e in (name, suc r.0, at, omega arith, r.1)
again (other ∷ names) (suc place) name at e = let (one, later, first, lt, second) = again names place name at e in (one, suc later, first, omega (arith, lt), second)

pub from_again : (names : List (List ℕ)) (place later : ℕ) (name : List ℕ) → StandsAt names place name → place < later → StandsAt names later name → is_among name (behind names place) ≡ true
from_again [] place later name at lt second = absurd cc
from_again (other ∷ names) place zero name at lt second = absurd (omega (arith, lt))
from_again (other ∷ names) zero (suc later) name at lt second = from_place names name later second
from_again (other ∷ names) (suc place) (suc later) name at lt second = from_again names place later name at (omega (arith, lt)) second

pub each_behind : {X Y : Type 0} (f : X → Y) (xs : List X) (place : ℕ) → each f (behind xs place) ≡ behind (each f xs) place
each_behind f [] place = refl
each_behind f (x ∷ xs) zero = refl
each_behind f (x ∷ xs) (suc place) = each_behind f xs place

pub each_at : {X Y : Type 0} (f : X → Y) (xs : List X) (place : ℕ) (x : X) → slice_get xs place ≡ Some x → slice_get (each f xs) place ≡ Some (f x)
each_at f [] place x e = absurd cc
each_at f (y ∷ xs) zero x e = let same : y ≡ x = cc in ap (λ z. Some (f z)) same
each_at f (y ∷ xs) (suc place) x e = each_at f xs place x e

pub from_each_at : {X Y : Type 0} (f : X → Y) (xs : List X) (place : ℕ) (y : Y) → slice_get (each f xs) place ≡ Some y → (x : X) × (slice_get xs place ≡ Some x) × (f x ≡ y)
from_each_at f [] place y e = absurd cc
from_each_at f (x ∷ xs) zero y e = (x, refl, cc)
from_each_at f (x ∷ xs) (suc place) y e = from_each_at f xs place y e

pub from_zero : (n : ℕ) → 0 + n ≡ n
from_zero n = omega arith

-- ---- names

module _ (names : List (List ℕ)) where
  name_says : (P : TableCause → Type 0) → ((place : ℕ) → IsNoName names place → P (Name place)) → ((place : ℕ) → StandsAgain names place → P (NameTwice place)) → (c : TableCause) → Within NameSays 0 names c → P c
  name_says P none twice c h =
      let (q, name, at, w) = said NameSays 0 names c h in
      elim w [
        | inl t ↦ subst P (ap Name (sym (from_zero q)) ∙ sym t.0) (none q (name, at, not_word name t.1))
        | inr t ↦ subst P (ap NameTwice (sym (from_zero q)) ∙ sym t.0) (twice q (again names q name at t.1))
      ]

  no_name_said : (place : ℕ) → IsNoName names place → Within NameSays 0 names (Name place)
  no_name_said place (name, at, refuted) = from_said NameSays 0 names (Name place) place name at (inl (ap Name (sym (from_zero place)), no_word name refuted))

  again_said : (place : ℕ) → StandsAgain names place → Within NameSays 0 names (NameTwice place)
  again_said place (name, later, at, lt, second) =
      from_said NameSays 0 names (NameTwice place) place name at (inr (ap NameTwice (sym (from_zero place)), from_again names place later name at lt second))

-- ---- indexes

module _ (t : TableDef) where
  lists_at : (index : ℕ) (listed : List (List ℕ)) → Lists t index listed → (whole : List ℕ × List (List ℕ)) × (slice_get t.indexes index ≡ Some whole) × (whole.1 ≡ listed)
  lists_at index listed at = from_each_at (λ i. i.1) t.indexes index listed at

  from_listed : (index : ℕ) (listed : List (List ℕ)) (c : TableCause) → Within (ListedSays index (columns_of t)) 0 listed c → Lists t index listed → IsWrong t c
  from_listed index listed c h lists =
      let (q, name, at, w) = said (ListedSays index (columns_of t)) 0 listed c h in
      elim w [
        | inl e ↦ subst (IsWrong t) (ap (ListedTwice index) (sym (from_zero q)) ∙ sym e.0) (listed, lists, again listed q name at e.1)
        | inr e ↦ subst (IsWrong t) (ap (NotAColumn index) (sym (from_zero q)) ∙ sym e.0) (listed, lists, (name, at, λ other there. never (from_place (columns_of t) name other there) e.1))
      ]

  from_indexes : (c : TableCause) → Within (IndexSays (columns_of t)) 0 t.indexes c → IsWrong t c
  from_indexes c h =
      let (q, index, at, w) = said (IndexSays (columns_of t)) 0 t.indexes c h in
      let lists : Lists t q index.1 = each_at (λ i. i.1) t.indexes q index at in
      elim w [
        | inl e ↦ subst (IsWrong t) (ap ListLength (sym (from_zero q)) ∙ sym e.0) (index.1, lists, none_or_over (length index.1) max_listed e.1)
        | inr e ↦ from_listed q index.1 c (subst (λ n. Within (ListedSays n (columns_of t)) 0 index.1 c) (from_zero q) e) lists
      ]

  to_index : (index : ℕ) (listed : List (List ℕ)) (c : TableCause) → Lists t index listed → (Told (ListLength index) (not (is_list_length listed)) c ⊎ Within (ListedSays index (columns_of t)) 0 listed c)
      → Within (IndexSays (columns_of t)) 0 t.indexes c
  to_index index listed c lists w =
      let (whole, at, same) = lists_at index listed lists in
      from_said (IndexSays (columns_of t)) 0 t.indexes c index whole at
      (
      subst (λ n. Told (ListLength n) (not (is_list_length whole.1)) c ⊎ Within (ListedSays n (columns_of t)) 0 whole.1 c) (sym (from_zero index))
      (subst (λ l. Told (ListLength index) (not (is_list_length l)) c ⊎ Within (ListedSays index (columns_of t)) 0 l c) (sym same) w)
      )

  to_list_length : (index : ℕ) → IsWrong t (ListLength index) → Within (IndexSays (columns_of t)) 0 t.indexes (ListLength index)
  to_list_length index (listed, lists, bad) = to_index index listed (ListLength index) lists (inl (refl, from_none_or_over (length listed) max_listed bad))

  to_listed_twice : (index place : ℕ) → IsWrong t (ListedTwice index place) → Within (IndexSays (columns_of t)) 0 t.indexes (ListedTwice index place)
  to_listed_twice index place (listed, lists, (name, later, at, lt, second)) =
      to_index index listed (ListedTwice index place) lists
      (inr (from_said (ListedSays index (columns_of t)) 0 listed (ListedTwice index place) place name at (inl (ap (ListedTwice index) (sym (from_zero place)), from_again listed place later name at lt second))))

  to_not_a_column : (index place : ℕ) → IsWrong t (NotAColumn index place) → Within (IndexSays (columns_of t)) 0 t.indexes (NotAColumn index place)
  to_not_a_column index place (listed, lists, (name, at, none)) =
      let foreign : not (is_among name (columns_of t)) ≡ true = failing (is_among name (columns_of t)) (λ e. let r = place_of (columns_of t) name e in none r.0 r.1) in
      to_index index listed (NotAColumn index place) lists
      (inr (from_said (ListedSays index (columns_of t)) 0 listed (NotAColumn index place) place name at (inr (ap (NotAColumn index) (sym (from_zero place)), foreign))))

  -- ---- a table

  pub from_inside : (c : TableCause) → InsideSays t c → IsWrong t c
  from_inside c (inl (inl e)) = subst (IsWrong t) (sym e.0) (none_or_over (length t.key) max_key_columns e.1)
  from_inside c (inl (inr (inl e))) = subst (IsWrong t) (sym e.0) (over (length t.columns) max_columns e.1)
  from_inside c (inl (inr (inr e))) = subst (IsWrong t) (sym e.0) (over (length t.indexes) max_indexes e.1)
  from_inside c (inr (inl h)) = name_says (names_of t) (IsWrong t) (λ place w. w) (λ place w. w) c h
  from_inside c (inr (inr h)) = from_indexes c h

  pub to_table : (later : List (List ℕ)) (c : TableCause) → IsWrong t c → TableSays t later c
  to_table later TableName w = inl (refl, no_word t.name w)
  to_table later KeyLength w = inr (inr (inl (inl (refl, from_none_or_over (length t.key) max_key_columns w))))
  to_table later TooManyColumns w = inr (inr (inl (inr (inl (refl, is_over (length t.columns) max_columns w)))))
  to_table later TooManyIndexes w = inr (inr (inl (inr (inr (refl, is_over (length t.indexes) max_indexes w)))))
  to_table later (Name place) w = inr (inr (inr (inl (no_name_said (names_of t) place w))))
  to_table later (NameTwice place) w = inr (inr (inr (inl (again_said (names_of t) place w))))
  to_table later (ListLength index) w = inr (inr (inr (inr (to_list_length index w))))
  to_table later (ListedTwice index place) w = inr (inr (inr (inr (to_listed_twice index place w))))
  to_table later (NotAColumn index place) w = inr (inr (inr (inr (to_not_a_column index place w))))
  to_table later c w = absurd w
