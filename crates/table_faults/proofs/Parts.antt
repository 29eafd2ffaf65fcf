-- The names of a table are gone over part by part.
use Rattle.std.proofs.Common.{◌≡◌, ℕ, suc, ◌+◌, ◌-◌, ◌<◌, Bool, true, false, not, cond, List, [], ◌∷◌, ◌++◌, length, get_or, take, drop, Option, Some, None, refl, sym, ap, ◌∙◌, arith}
use Rattle.schema_version.specs.declared.table.TableDef.{TableDef}
use Rattle.schema_version.specs.Declare.{names_of}
use Rattle.schema_version.specs.inner.AcceptTables.{names_in}
use Rattle.schema_version.specs.Names.{is_name, is_among}
use Rattle.std.proofs.lemmas.List.{drop_more, take_rest}
use Rattle.row_map.specs.declared.shape.ColumnType.{ColumnType}
use Rattle.table_faults.specs.declared.fault.TableCause.{TableCause}
use Rattle.table_faults.specs.declared.fault.TableCause.TheVariants.{Name, NameTwice}
use Rattle.table_faults.specs.inner.Search.{or_else, names_cause}
use Rattle.table_faults.specs.inner.Parts.{part_cause}

or_after : {X : Type 0} (x y : X) (o next : Option X) (wrong again : Bool) → cond wrong (Some x) (cond again (Some y) (or_else o next)) ≡ or_else (cond wrong (Some x) (cond again (Some y) o)) next
or_after x y o next true again = refl
or_after x y o next false true = refl
or_after x y o next false false = refl

further : (place : ℕ) (name : List ℕ) (names : List (List ℕ)) → place + 1 + length names ≡ place + length (name ∷ names)
further place name names = omega arith

-- a part, and then those after it
pub part_first : (place : ℕ) (names others : List (List ℕ)) → names_cause place (names ++ others) ≡ or_else (part_cause place names others) (names_cause (place + length names) others)
part_first place [] others = ap (λ n. names_cause n others) (same place)
  where
    same : (n : ℕ) → n ≡ n + 0
    same n = omega arith
part_first place (name ∷ names) others =
    ap (λ o. cond (not (is_name name)) (Some (Name place)) (cond (is_among name (names ++ others)) (Some (NameTwice place)) o))
    (part_first (place + 1) names others ∙ ap (λ n. or_else (part_cause (place + 1) names others) (names_cause n others)) (further place name names))
    ∙ or_after (Name place) (NameTwice place) (part_cause (place + 1) names others) (names_cause (place + length (name ∷ names)) others) (not (is_name name)) (is_among name (names ++ others))

nothing_after : (xs : List (List ℕ)) → xs ≡ xs ++ []
nothing_after [] = refl
nothing_after (x ∷ xs) = ap (λ l. x ∷ l) (nothing_after xs)

none_next : {X : Type 0} (o : Option X) → or_else o None ≡ o
none_next None = refl
none_next (Some x) = refl

-- the last part
pub part_last : (place : ℕ) (names : List (List ℕ)) → names_cause place names ≡ part_cause place names []
part_last place names = ap (names_cause place) (nothing_after names) ∙ part_first place names [] ∙ none_next (part_cause place names [])

-- all three
pub in_parts : (key columns indexes : List (List ℕ)) → names_cause 0 ((key ++ columns) ++ indexes)
    ≡ or_else (part_cause 0 key (columns ++ indexes)) (or_else (part_cause (length key) columns indexes) (part_cause (length key + length columns) indexes []))
in_parts key columns indexes =
    ap (names_cause 0) (together key)
    ∙ part_first 0 key (columns ++ indexes)
    ∙ ap (λ n. or_else (part_cause 0 key (columns ++ indexes)) (names_cause n (columns ++ indexes))) (from_zero (length key))
    ∙ ap (or_else (part_cause 0 key (columns ++ indexes)))
    (part_first (length key) columns indexes ∙ ap (or_else (part_cause (length key) columns indexes)) (part_last (length key + length columns) indexes))
  where
    from_zero : (n : ℕ) → 0 + n ≡ n
    from_zero n = omega arith

    together : (xs : List (List ℕ)) → (xs ++ columns) ++ indexes ≡ xs ++ (columns ++ indexes)
    together [] = refl
    together (x ∷ xs) = ap (λ l. x ∷ l) (together xs)

length_in : {X : Type 0} (items : List (List ℕ × X)) → length (names_in items) ≡ length items
length_in [] = refl
length_in (x ∷ xs) = ap suc (length_in xs)

-- the names of a table of these columns and indexes
pub in_three : (t : TableDef) (key columns : List (List ℕ × ColumnType)) (indexes : List (List ℕ × List (List ℕ))) → key ≡ t.key → columns ≡ t.columns → indexes ≡ t.indexes
    → names_cause 0 (names_of t) ≡ or_else (part_cause 0 (names_in key) (names_in columns ++ names_in indexes)) (or_else (part_cause (length key) (names_in columns) (names_in indexes)) (part_cause (length key + length columns) (names_in indexes) []))
in_three t key columns indexes p q r =
    (λ i. names_cause 0 ((names_in (sym p i) ++ names_in (sym q i)) ++ names_in (sym r i)))
    ∙ in_parts (names_in key) (names_in columns) (names_in indexes)
    ∙ (λ i. or_else (part_cause 0 (names_in key) (names_in columns ++ names_in indexes)) (or_else (part_cause (length_in key i) (names_in columns) (names_in indexes)) (part_cause (length_in key i + length_in columns i) (names_in indexes) [])))

pub found_first : {cause : TableCause} {a whole : Option TableCause} (b : Option TableCause) → whole ≡ or_else a b → Some cause ≡ a → Some cause ≡ whole
found_first b e p = ap (λ o. or_else o b) p ∙ sym e

pub found_next : {a whole next : Option TableCause} (b : Option TableCause) → whole ≡ or_else a b → None ≡ a → next ≡ b → next ≡ whole
found_next b e p q = q ∙ ap (λ o. or_else o b) p ∙ sym e

passed : {X : Type 0} (x y o : X) (named again : Bool) → true ≡ named → false ≡ again → cond (not named) x (cond again y o) ≡ o
passed x y o named again p q = ap (λ b. cond (not b) x (cond again y o)) (sym p) ∙ ap (λ b. cond b y o) (sym q)

-- a name that is one, and does not stand again, is passed
pub part_more : {X : Type 0} (first i : ℕ) (items : List (List ℕ × X)) (item : List ℕ × X) (name : List ℕ) (others : List (List ℕ)) → item ≡ get_or items i item → i < length items → name ≡ (get_or items i item).0
    → true ≡ is_name name → false ≡ is_among name (names_in (take (length items - (i + 1)) (drop (i + 1) items)) ++ others)
    → part_cause (first + (i + 1)) (names_in (drop (i + 1) items)) others ≡ part_cause (first + i) (names_in (drop i items)) others
part_more {X = X} first i items item name others is within read named alone =
    let same : name ≡ item.0 = read ∙ ap (λ x. x.0) (sym is) in
    let rest : List (List ℕ × X) = drop (i + 1) items in
    let split : drop i items ≡ item ∷ rest = drop_more items i item within ∙ ap (λ x. x ∷ rest) (sym is) in
    let once : false ≡ is_among item.0 (names_in rest ++ others) = alone ∙ (λ j. is_among (same j) (names_in (take_rest items (i + 1) j) ++ others)) in
    let n : first + (i + 1) ≡ first + i + 1 = omega arith in
    ap (λ m. part_cause m (names_in rest) others) n
    ∙ sym (passed (Some (Name (first + i))) (Some (NameTwice (first + i))) (part_cause (first + i + 1) (names_in rest) others) (is_name item.0) (is_among item.0 (names_in rest ++ others)) (named ∙ ap is_name same) once)
    ∙ ap (λ l. part_cause (first + i) (names_in l) others) (sym split)
