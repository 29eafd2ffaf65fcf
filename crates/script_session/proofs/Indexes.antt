-- The tables with one index more, found by going over them.
use Rattle.std.proofs.Common.{◌≡◌, ℕ, ◌+◌, ◌<◌, ◌≤◌, List, [], ◌∷◌, ◌++◌, length, get_or, take, drop, set, Option, Some, None, option_map, refl, sym, ap, subst, ◌∙◌, append_assoc, Bool, true, false, cond, arith, zero, suc, add-one}
use Rattle.std.specs.Prelude.{bytes_eq}
use Rattle.std.proofs.lemmas.List.{drop_more, take_more}
use Rattle.schema_version.specs.declared.table.TableDef.{TableDef}
use Rattle.script_session.specs.Declare.{with_index}

-- tables before others that have the index
abbrev pub behind : List TableDef → Option (List TableDef) → Option (List TableDef)
behind before None = None
behind before (Some rest) = Some (before ++ rest)

abbrev pub indexed : TableDef → List ℕ → List (List ℕ) → TableDef
indexed t name columns = record t { indexes = t.indexes ++ (name, columns) ∷ [] }

module _ (name table : List ℕ) (columns : List (List ℕ)) where
  abbrev pub IsSplit : List TableDef → ℕ → Type 0
  IsSplit ts i = with_index ts name table columns ≡ behind (take i ts) (with_index (drop i ts) name table columns)

  behind_none : (o : Option (List TableDef)) → o ≡ behind [] o
  behind_none None = refl
  behind_none (Some ts) = refl

  pub split_first : (ts : List TableDef) → IsSplit ts 0
  split_first ts = behind_none (with_index ts name table columns)

  behind_more : (before : List TableDef) (t : TableDef) (o : Option (List TableDef)) → behind before (option_map (λ rest. t ∷ rest) o) ≡ behind (before ++ t ∷ []) o
  behind_more before t None = refl
  behind_more before t (Some rest) = ap Some (sym (append_assoc {A = TableDef} before (t ∷ []) rest))

  at_table : (t : TableDef) (ts : List TableDef) (b : Bool) → bytes_eq table t.name ≡ b → with_index (t ∷ ts) name table columns ≡ cond b (Some (indexed t name columns ∷ ts)) (option_map (λ rest. t ∷ rest) (with_index ts name table columns))
  at_table t ts b e = ap (λ (x : Bool). cond x (Some (indexed t name columns ∷ ts)) (option_map (λ rest. t ∷ rest) (with_index ts name table columns))) e

  pub split_more : (ts : List TableDef) (i : ℕ) (t : TableDef) → i < length ts → t ≡ get_or ts i t → bytes_eq table t.name ≡ false → IsSplit ts i → IsSplit ts (i + 1)
  split_more ts i t lt is other split =
      let cut : drop i ts ≡ t ∷ drop (i + 1) ts = drop_more ts i t lt ∙ ap (λ (x : TableDef). x ∷ drop (i + 1) ts) (sym is) in
      let front : take (i + 1) ts ≡ take i ts ++ t ∷ [] = take_more ts i t lt ∙ ap (λ (x : TableDef). take i ts ++ x ∷ []) (sym is) in
      split
      ∙ ap (λ (l : List TableDef). behind (take i ts) (with_index l name table columns)) cut
      ∙ ap (behind (take i ts)) (at_table t (drop (i + 1) ts) false other)
      ∙ behind_more (take i ts) t (with_index (drop (i + 1) ts) name table columns)
      ∙ ap (λ (l : List TableDef). behind l (with_index (drop (i + 1) ts) name table columns)) (sym front)

  pub split_found : (ts : List TableDef) (i : ℕ) (t : TableDef) → i < length ts → t ≡ get_or ts i t → bytes_eq table t.name ≡ true → IsSplit ts i → with_index ts name table columns ≡ Some (take i ts ++ indexed t name columns ∷ drop (i + 1) ts)
  split_found ts i t lt is same split =
      let cut : drop i ts ≡ t ∷ drop (i + 1) ts = drop_more ts i t lt ∙ ap (λ (x : TableDef). x ∷ drop (i + 1) ts) (sym is) in
      split
      ∙ ap (λ (l : List TableDef). behind (take i ts) (with_index l name table columns)) cut
      ∙ ap (behind (take i ts)) (at_table t (drop (i + 1) ts) true same)

  pub split_none : (ts : List TableDef) → IsSplit ts (length ts) → with_index ts name table columns ≡ None
  split_none ts split = split ∙ ap (λ (l : List TableDef). behind (take (length ts) ts) (with_index l name table columns)) (all_gone ts)
    where
      all_gone : (l : List TableDef) → drop (length l) l ≡ []
      all_gone [] = refl
      all_gone (x ∷ xs) = all_gone xs

set_suc : (ts : List TableDef) (i : ℕ) (t : TableDef) → i < length ts → set ts i t ≡ take i ts ++ t ∷ drop (suc i) ts
set_suc [] i t lt = absurd (omega (arith, lt))
set_suc (x ∷ xs) zero t lt = refl
set_suc (x ∷ xs) (suc i) t lt = ap (λ (l : List TableDef). x ∷ l) (set_suc xs i t (omega (arith, lt)))

pub set_at : (ts : List TableDef) (i : ℕ) (t : TableDef) → i < length ts → take i ts ++ t ∷ drop (i + 1) ts ≡ set ts i t
set_at ts i t lt = ap (λ (n : ℕ). take i ts ++ t ∷ drop n ts) (add-one i) ∙ sym (set_suc ts i t lt)

one_item : (ts : List TableDef) (i : ℕ) (a b : TableDef) → i < length ts → a ≡ get_or ts i a → b ≡ get_or ts i b → a ≡ b
one_item [] i a b lt p q = absurd (omega (arith, lt))
one_item (x ∷ xs) zero a b lt p q = p ∙ sym q
one_item (x ∷ xs) (suc i) a b lt p q = one_item xs i a b (omega (arith, lt)) p q

-- the table at this place got the index
pub added_at : (name table : List ℕ) (columns : List (List ℕ)) (ts : List TableDef) (i : ℕ) (t u : TableDef) (indexes : List (List ℕ × List (List ℕ))) → i < length ts → t ≡ get_or ts i t → u ≡ get_or ts i u → bytes_eq table t.name ≡ true → IsSplit name table columns ts i
    → indexes ≡ u.indexes ++ (name, columns) ∷ [] → with_index ts name table columns ≡ Some (set ts i (record u { indexes = indexes }))
added_at name table columns ts i t u indexes lt is also same split more =
    split_found name table columns ts i t lt is same split
    ∙ ap (λ (x : TableDef). Some (take i ts ++ indexed x name columns ∷ drop (i + 1) ts)) (one_item ts i t u lt is also)
    ∙ ap (λ (l : List (List ℕ × List (List ℕ))). Some (take i ts ++ (record u { indexes = l }) ∷ drop (i + 1) ts)) (sym more)
    ∙ ap Some (set_at ts i (record u { indexes = indexes }) lt)

pub in_list : (i : ℕ) (slice ts old : List TableDef) → i < length slice → slice ≡ old → ts ≡ old → i < length ts
in_list i slice ts old lt p q = subst (λ (l : List TableDef). i < length l) (p ∙ sym q) lt

pub at_end : (i : ℕ) (slice ts old : List TableDef) (name table : List ℕ) (columns : List (List ℕ)) → i ≤ length slice → length slice ≤ i → slice ≡ old → ts ≡ old → IsSplit name table columns ts i → with_index old name table columns ≡ None
at_end i slice ts old name table columns le ge p q split =
    let same : i ≡ length ts = omega (arith, le, ge) ∙ ap length (p ∙ sym q) in
    ap (λ (l : List TableDef). with_index l name table columns) (sym q) ∙ split_none name table columns ts (subst (IsSplit name table columns ts) same split)
