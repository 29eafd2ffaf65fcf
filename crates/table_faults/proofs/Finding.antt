-- The search by parts finds what comes first of the faults that its tests tell.
use Rattle.std.proofs.Common.{◌≡◌, ℕ, ◌+◌, ◌<◌, ◌≤◌, Bool, true, false, not, ◌&&◌, cond, List, [], ◌∷◌, ◌++◌, length, Option, Some, None, option_map, ◌⊎◌, inl, inr, refl, ap, subst, ◌∙◌, arith}
use Rattle.std.specs.Prelude.{nat_le}
use mathlib.Core.List.{map as each}
use Rattle.schema_version.specs.declared.table.TableDef.{TableDef}
use Rattle.schema_version.specs.Declare.{names_of}
use Rattle.schema_version.specs.Names.{is_name, is_among, max_tables, max_key_columns, max_columns, max_indexes, max_listed}
use Rattle.table_faults.specs.declared.fault.TableCause.{TableCause}
use Rattle.table_faults.specs.declared.fault.TableCause.TheVariants.{NoTable, TooManyTables, TableName, TableTwice, KeyLength, TooManyColumns, TooManyIndexes, Name, NameTwice, ListLength, ListedTwice, NotAColumn}
use Rattle.table_faults.specs.declared.fault.TableFault.{TableFault}
use Rattle.table_faults.specs.Faults.{IsBelow, rank_in_table, rank_of_kind, rank}
use Rattle.table_faults.specs.inner.Search.{or_else, names_cause, listed_cause, index_cause, indexes_cause, size_cause, table_cause, tables_cause, declaration_fault}
use Rattle.table_faults.proofs.Order.{Within, searched, each_says, Finds, one, either, all_searched}

-- it is this one, and the test for it says so
abbrev pub Told : {F : Type 0} → F → Bool → F → Type 0
Told this test f = (f ≡ this) × (test ≡ true)

abbrev given : {X : Type 0} → Bool → X → Option X
given test x = cond test (Some x) None

then : {X : Type 0} (x : X) (o : Option X) (test : Bool) → or_else (given test x) o ≡ cond test (Some x) o
then x o true = refl
then x o false = refl

in_turn : {X : Type 0} (x y : X) (o : Option X) (a b : Bool) → or_else (or_else (given a x) (given b y)) o ≡ cond a (Some x) (cond b (Some y) o)
in_turn x y o true b = refl
in_turn x y o false true = refl
in_turn x y o false false = refl

told_kind : (this : TableCause) (test : Bool) → rank_of_kind this ≡ 2 → (c : TableCause) → Told this test c → rank_of_kind c ≡ 2
told_kind this test kind c (same, e) = ap rank_of_kind same ∙ kind

-- ---- names

abbrev pub NameSays : ℕ → List ℕ → List (List ℕ) → TableCause → Type 0
NameSays n name later c = Told (Name n) (not (is_name name)) c ⊎ Told (NameTwice n) (is_among name later) c

abbrev name_found : ℕ → List ℕ → List (List ℕ) → Option TableCause
name_found n name later = or_else (given (not (is_name name)) (Name n)) (given (is_among name later) (NameTwice n))

names_searched : (n : ℕ) (names : List (List ℕ)) → searched name_found n names ≡ names_cause n names
names_searched n [] = refl
names_searched n (name ∷ later) =
    ap (or_else (name_found n name later)) (names_searched (n + 1) later)
    ∙ in_turn (Name n) (NameTwice n) (names_cause (n + 1) later) (not (is_name name)) (is_among name later)

name_placed : (n : ℕ) (name : List ℕ) (later : List (List ℕ)) (c : TableCause) → NameSays n name later c → (rest : List ℕ) × (rank_in_table c ≡ (5 ∷ []) ++ n ∷ rest)
name_placed n name later c (inl h) = (0 ∷ [], ap rank_in_table h.0)
name_placed n name later c (inr h) = (1 ∷ [], ap rank_in_table h.0)

name_finds : (n : ℕ) (name : List ℕ) (later : List (List ℕ)) → Finds rank_in_table (NameSays n name later) (name_found n name later)
name_finds n name later =
    either rank_in_table (5 ∷ n ∷ []) 0 (given (not (is_name name)) (Name n)) (given (is_among name later) (NameTwice n))
    (λ c h. (0, [], omega arith, ap rank_in_table h.0)) (λ c h. (1, [], omega arith, ap rank_in_table h.0))
    (one rank_in_table (not (is_name name)) (Name n)) (one rank_in_table (is_among name later) (NameTwice n))

names_find : (names : List (List ℕ)) → Finds rank_in_table (Within NameSays 0 names) (names_cause 0 names)
names_find names =
    subst (Finds rank_in_table (Within NameSays 0 names)) (names_searched 0 names) (all_searched rank_in_table NameSays name_found (5 ∷ []) name_placed name_finds 0 names)

-- ---- indexes

abbrev pub ListedSays : ℕ → List (List ℕ) → ℕ → List ℕ → List (List ℕ) → TableCause → Type 0
ListedSays index columns n name later c = Told (ListedTwice index n) (is_among name later) c ⊎ Told (NotAColumn index n) (not (is_among name columns)) c

module _ (index : ℕ) (columns : List (List ℕ)) where
  abbrev listed_found : ℕ → List ℕ → List (List ℕ) → Option TableCause
  listed_found n name later = or_else (given (is_among name later) (ListedTwice index n)) (given (not (is_among name columns)) (NotAColumn index n))

  listed_searched : (n : ℕ) (names : List (List ℕ)) → searched listed_found n names ≡ listed_cause index n columns names
  listed_searched n [] = refl
  listed_searched n (name ∷ later) =
      ap (or_else (listed_found n name later)) (listed_searched (n + 1) later)
      ∙ in_turn (ListedTwice index n) (NotAColumn index n) (listed_cause index (n + 1) columns later) (is_among name later) (not (is_among name columns))

  listed_placed : (n : ℕ) (name : List ℕ) (later : List (List ℕ)) (c : TableCause) → ListedSays index columns n name later c → (rest : List ℕ) × (rank_in_table c ≡ (6 ∷ index ∷ 1 ∷ []) ++ n ∷ rest)
  listed_placed n name later c (inl h) = (0 ∷ [], ap rank_in_table h.0)
  listed_placed n name later c (inr h) = (1 ∷ [], ap rank_in_table h.0)

  listed_finds : (n : ℕ) (name : List ℕ) (later : List (List ℕ)) → Finds rank_in_table (ListedSays index columns n name later) (listed_found n name later)
  listed_finds n name later =
      either rank_in_table (6 ∷ index ∷ 1 ∷ n ∷ []) 0 (given (is_among name later) (ListedTwice index n)) (given (not (is_among name columns)) (NotAColumn index n))
      (λ c h. (0, [], omega arith, ap rank_in_table h.0)) (λ c h. (1, [], omega arith, ap rank_in_table h.0))
      (one rank_in_table (is_among name later) (ListedTwice index n)) (one rank_in_table (not (is_among name columns)) (NotAColumn index n))

  all_listed_find : (names : List (List ℕ)) → Finds rank_in_table (Within (ListedSays index columns) 0 names) (listed_cause index 0 columns names)
  all_listed_find names =
      subst (Finds rank_in_table (Within (ListedSays index columns) 0 names)) (listed_searched 0 names)
      (all_searched rank_in_table (ListedSays index columns) listed_found (6 ∷ index ∷ 1 ∷ []) listed_placed listed_finds 0 names)

  after_length : (names : List (List ℕ)) (c : TableCause) → Within (ListedSays index columns) 0 names c → (rest : List ℕ) × (rank_in_table c ≡ 6 ∷ index ∷ 1 ∷ rest)
  after_length names c h =
      each_says (ListedSays index columns) (λ c. (rest : List ℕ) × (rank_in_table c ≡ 6 ∷ index ∷ 1 ∷ rest))
      (λ n name later c h. let r = listed_placed n name later c h in (n ∷ r.0, r.1)) 0 names c h

  listed_kind : (names : List (List ℕ)) (c : TableCause) → Within (ListedSays index columns) 0 names c → rank_of_kind c ≡ 2
  listed_kind names c h =
      each_says (ListedSays index columns) (λ c. rank_of_kind c ≡ 2)
      (λ n name later c h. elim h [ inl t ↦ ap rank_of_kind t.0 | inr t ↦ ap rank_of_kind t.0 ]) 0 names c h

abbrev pub is_list_length : List (List ℕ) → Bool
is_list_length listed = nat_le 1 (length listed) && nat_le (length listed) max_listed

abbrev pub IndexSays : List (List ℕ) → ℕ → List ℕ × List (List ℕ) → List (List ℕ × List (List ℕ)) → TableCause → Type 0
IndexSays columns n index later c = Told (ListLength n) (not (is_list_length index.1)) c ⊎ Within (ListedSays n columns) 0 index.1 c

module _ (columns : List (List ℕ)) where
  abbrev index_found : ℕ → List ℕ × List (List ℕ) → List (List ℕ × List (List ℕ)) → Option TableCause
  index_found n index later = index_cause n columns index.1

  indexes_searched : (n : ℕ) (indexes : List (List ℕ × List (List ℕ))) → searched index_found n indexes ≡ indexes_cause n columns indexes
  indexes_searched n [] = refl
  indexes_searched n (index ∷ later) = ap (or_else (index_cause n columns index.1)) (indexes_searched (n + 1) later)

  index_placed : (n : ℕ) (index : List ℕ × List (List ℕ)) (later : List (List ℕ × List (List ℕ))) (c : TableCause) → IndexSays columns n index later c → (rest : List ℕ) × (rank_in_table c ≡ (6 ∷ []) ++ n ∷ rest)
  index_placed n index later c (inl h) = (0 ∷ [], ap rank_in_table h.0)
  index_placed n index later c (inr h) = let r = after_length n columns index.1 c h in (1 ∷ r.0, r.1)

  index_finds : (n : ℕ) (index : List ℕ × List (List ℕ)) (later : List (List ℕ × List (List ℕ))) → Finds rank_in_table (IndexSays columns n index later) (index_found n index later)
  index_finds n index later =
      subst (Finds rank_in_table (IndexSays columns n index later)) (then (ListLength n) (listed_cause n 0 columns index.1) (not (is_list_length index.1)))
      (
      either rank_in_table (6 ∷ n ∷ []) 0 (given (not (is_list_length index.1)) (ListLength n)) (listed_cause n 0 columns index.1)
      (λ c h. (0, [], omega arith, ap rank_in_table h.0)) (λ c h. let r = after_length n columns index.1 c h in (1, r.0, omega arith, r.1))
      (one rank_in_table (not (is_list_length index.1)) (ListLength n)) (all_listed_find n columns index.1)
      )

  indexes_find : (indexes : List (List ℕ × List (List ℕ))) → Finds rank_in_table (Within (IndexSays columns) 0 indexes) (indexes_cause 0 columns indexes)
  indexes_find indexes =
      subst (Finds rank_in_table (Within (IndexSays columns) 0 indexes)) (indexes_searched 0 indexes) (all_searched rank_in_table (IndexSays columns) index_found (6 ∷ []) index_placed index_finds 0 indexes)

  index_kind : (indexes : List (List ℕ × List (List ℕ))) (c : TableCause) → Within (IndexSays columns) 0 indexes c → rank_of_kind c ≡ 2
  index_kind indexes c h =
      each_says (IndexSays columns) (λ c. rank_of_kind c ≡ 2)
      (λ n index later c h. elim h [ inl t ↦ ap rank_of_kind t.0 | inr w ↦ listed_kind n columns index.1 c w ]) 0 indexes c h

-- ---- a table

module _ (t : TableDef) where
  abbrev pub is_key_length : Bool
  is_key_length = nat_le 1 (length t.key) && nat_le (length t.key) max_key_columns

  abbrev pub has_few_columns : Bool
  has_few_columns = nat_le (length t.columns) max_columns

  abbrev pub has_few_indexes : Bool
  has_few_indexes = nat_le (length t.indexes) max_indexes

  abbrev pub columns_of : List (List ℕ)
  columns_of = each (λ c. c.0) t.columns

  abbrev pub IndexesSay : TableCause → Type 0
  IndexesSay c = Within (IndexSays columns_of) 0 t.indexes c

  abbrev pub PartsSay : TableCause → Type 0
  PartsSay c = Within NameSays 0 (names_of t) c ⊎ IndexesSay c

  abbrev pub SizesSay : TableCause → Type 0
  SizesSay c = Told KeyLength (not is_key_length) c ⊎ (Told TooManyColumns (not has_few_columns) c ⊎ Told TooManyIndexes (not has_few_indexes) c)

  names_first : (c : TableCause) → Within NameSays 0 (names_of t) c → (rest : List ℕ) × (rank_in_table c ≡ 5 ∷ rest)
  names_first c h = each_says NameSays (λ c. (rest : List ℕ) × (rank_in_table c ≡ 5 ∷ rest)) (λ n name later c h. let r = name_placed n name later c h in (n ∷ r.0, r.1)) 0 (names_of t) c h

  indexes_last : (c : TableCause) → IndexesSay c → (rest : List ℕ) × (rank_in_table c ≡ 6 ∷ rest)
  indexes_last c h =
      each_says (IndexSays columns_of) (λ c. (rest : List ℕ) × (rank_in_table c ≡ 6 ∷ rest)) (λ n index later c h. let r = index_placed columns_of n index later c h in (n ∷ r.0, r.1)) 0 t.indexes c h

  parts_find : Finds rank_in_table PartsSay (or_else (names_cause 0 (names_of t)) (indexes_cause 0 columns_of t.indexes))
  parts_find =
      either rank_in_table [] 5 (names_cause 0 (names_of t)) (indexes_cause 0 columns_of t.indexes)
      (λ c h. let r = names_first c h in (5, r.0, omega arith, r.1)) (λ c h. let r = indexes_last c h in (6, r.0, omega arith, r.1))
      (names_find (names_of t)) (indexes_find columns_of t.indexes)

  sizes_in_turn : or_else (given (not is_key_length) KeyLength) (or_else (given (not has_few_columns) TooManyColumns) (given (not has_few_indexes) TooManyIndexes)) ≡ size_cause t
  sizes_in_turn =
      then KeyLength (or_else (given (not has_few_columns) TooManyColumns) (given (not has_few_indexes) TooManyIndexes)) (not is_key_length)
      ∙ ap (cond (not is_key_length) (Some KeyLength)) (then TooManyColumns (given (not has_few_indexes) TooManyIndexes) (not has_few_columns))

  sizes_find : Finds rank_in_table SizesSay (size_cause t)
  sizes_find =
      subst (Finds rank_in_table SizesSay) sizes_in_turn
      (
      either rank_in_table [] 2 (given (not is_key_length) KeyLength) (or_else (given (not has_few_columns) TooManyColumns) (given (not has_few_indexes) TooManyIndexes))
      (λ c h. (2, [], omega arith, ap rank_in_table h.0))
      (λ c h. elim h [ inl w ↦ (3, [], omega arith, ap rank_in_table w.0) | inr w ↦ (4, [], omega arith, ap rank_in_table w.0) ])
      (one rank_in_table (not is_key_length) KeyLength)
      (
      either rank_in_table [] 3 (given (not has_few_columns) TooManyColumns) (given (not has_few_indexes) TooManyIndexes)
      (λ c h. (3, [], omega arith, ap rank_in_table h.0)) (λ c h. (4, [], omega arith, ap rank_in_table h.0))
      (one rank_in_table (not has_few_columns) TooManyColumns) (one rank_in_table (not has_few_indexes) TooManyIndexes)
      )
      )

  sizes_rank : (c : TableCause) → SizesSay c → (j : ℕ) × (rest : List ℕ) × (1 < j) × (j ≤ 4) × (rank_in_table c ≡ j ∷ rest)
  sizes_rank c (inl h) = (2, [], omega arith, omega arith, ap rank_in_table h.0)
  sizes_rank c (inr (inl h)) = (3, [], omega arith, omega arith, ap rank_in_table h.0)
  sizes_rank c (inr (inr h)) = (4, [], omega arith, omega arith, ap rank_in_table h.0)

  parts_rank : (c : TableCause) → PartsSay c → (j : ℕ) × (rest : List ℕ) × (4 < j) × (rank_in_table c ≡ j ∷ rest)
  parts_rank c (inl h) = let r = names_first c h in (5, r.0, omega arith, r.1)
  parts_rank c (inr h) = let r = indexes_last c h in (6, r.0, omega arith, r.1)

  abbrev pub InsideSays : TableCause → Type 0
  InsideSays c = SizesSay c ⊎ PartsSay c

  abbrev inside : Option TableCause
  inside = or_else (size_cause t) (or_else (names_cause 0 (names_of t)) (indexes_cause 0 columns_of t.indexes))

  inside_find : Finds rank_in_table InsideSays inside
  inside_find =
      either rank_in_table [] 4 (size_cause t) (or_else (names_cause 0 (names_of t)) (indexes_cause 0 columns_of t.indexes))
      (λ c h. let (j, rest, low, high, e) = sizes_rank c h in (j, rest, high, e)) (λ c h. parts_rank c h)
      sizes_find parts_find

  inside_rank : (c : TableCause) → InsideSays c → (j : ℕ) × (rest : List ℕ) × (1 < j) × (rank_in_table c ≡ j ∷ rest)
  inside_rank c (inl h) = let (j, rest, low, high, e) = sizes_rank c h in (j, rest, low, e)
  inside_rank c (inr h) = let (j, rest, low, e) = parts_rank c h in (j, rest, omega (arith, low), e)

  inside_kind : (c : TableCause) → InsideSays c → rank_of_kind c ≡ 2
  inside_kind c (inl (inl h)) = ap rank_of_kind h.0
  inside_kind c (inl (inr (inl h))) = ap rank_of_kind h.0
  inside_kind c (inl (inr (inr h))) = ap rank_of_kind h.0
  inside_kind c (inr (inl h)) =
      each_says NameSays (λ c. rank_of_kind c ≡ 2) (λ n name later c h. elim h [ inl t ↦ ap rank_of_kind t.0 | inr t ↦ ap rank_of_kind t.0 ]) 0 (names_of t) c h
  inside_kind c (inr (inr h)) = index_kind columns_of t.indexes c h

  abbrev pub TableSays : List (List ℕ) → TableCause → Type 0
  TableSays later c = Told TableName (not (is_name t.name)) c ⊎ (Told TableTwice (is_among t.name later) c ⊎ InsideSays c)

  module _ (later : List (List ℕ)) where
    table_in_turn : or_else (given (not (is_name t.name)) TableName) (or_else (given (is_among t.name later) TableTwice) inside) ≡ table_cause later t
    table_in_turn =
        then TableName (or_else (given (is_among t.name later) TableTwice) inside) (not (is_name t.name))
        ∙ ap (cond (not (is_name t.name)) (Some TableName)) (then TableTwice inside (is_among t.name later))

    table_finds : Finds rank_in_table (TableSays later) (table_cause later t)
    table_finds =
        subst (Finds rank_in_table (TableSays later)) table_in_turn
        (
        either rank_in_table [] 0 (given (not (is_name t.name)) TableName) (or_else (given (is_among t.name later) TableTwice) inside)
        (λ c h. (0, [], omega arith, ap rank_in_table h.0))
        (λ c h. elim h [ inl w ↦ (1, [], omega arith, ap rank_in_table w.0) | inr w ↦ (let (j, rest, low, e) = inside_rank c w in (j, rest, omega (arith, low), e)) ])
        (one rank_in_table (not (is_name t.name)) TableName)
        (
        either rank_in_table [] 1 (given (is_among t.name later) TableTwice) inside
        (λ c h. (1, [], omega arith, ap rank_in_table h.0)) (λ c h. inside_rank c h)
        (one rank_in_table (is_among t.name later) TableTwice) inside_find
        )
        )

    table_kind : (c : TableCause) → TableSays later c → rank_of_kind c ≡ 2
    table_kind c (inl h) = ap rank_of_kind h.0
    table_kind c (inr (inl h)) = ap rank_of_kind h.0
    table_kind c (inr (inr h)) = inside_kind c h

-- ---- tables

abbrev pub fault_at : ℕ → TableCause → TableFault
fault_at n cause = record { table = n; cause = cause }

at_table : (n : ℕ) (C : TableCause → Type 0) (found : Option TableCause) → ((c : TableCause) → C c → rank_of_kind c ≡ 2) → Finds rank_in_table C found → Finds rank (λ (f : TableFault). (f.table ≡ n) × C f.cause) (option_map (fault_at n) found)
at_table n C None kind none = λ f. λ (same, h). none f.cause h
at_table n C (Some c) kind first = ((refl, first.0), lower)
  where
    inner : (g : TableFault) → g.table ≡ n → rank_of_kind g.cause ≡ 2 → rank_of_kind c ≡ 2 → IsBelow (rank g) (rank (fault_at n c)) → IsBelow (rank_in_table g.cause) (rank_in_table c)
    inner g same p q (inl lt) = absurd (omega (arith, lt, p, q))
    inner g same p q (inr (e, inl lt)) = absurd (omega (arith, lt, same))
    inner g same p q (inr (e, inr (d, h))) = h

    lower : (g : TableFault) → IsBelow (rank g) (rank (fault_at n c)) → ¬ ((g.table ≡ n) × C g.cause)
    lower g below (same, h) = first.1 g.cause (inner g same (kind g.cause h) (kind c first.0) below) h

abbrev pub names_at : List TableDef → List (List ℕ)
names_at tables = each (λ (t : TableDef). t.name) tables

abbrev pub TablesSay : ℕ → TableDef → List TableDef → TableFault → Type 0
TablesSay n t later f = (f.table ≡ n) × TableSays t (names_at later) f.cause

abbrev table_found : ℕ → TableDef → List TableDef → Option TableFault
table_found n t later = option_map (fault_at n) (table_cause (names_at later) t)

tables_searched : (n : ℕ) (tables : List TableDef) → searched table_found n tables ≡ tables_cause n tables
tables_searched n [] = refl
tables_searched n (t ∷ later) = ap (or_else (table_found n t later)) (tables_searched (n + 1) later)

table_placed : (n : ℕ) (t : TableDef) (later : List TableDef) (f : TableFault) → TablesSay n t later f → (rest : List ℕ) × (rank f ≡ (2 ∷ []) ++ n ∷ rest)
table_placed n t later f (same, h) = (rank_in_table f.cause, λ i. table_kind t (names_at later) f.cause h i ∷ same i ∷ rank_in_table f.cause)

tables_find : (tables : List TableDef) → Finds rank (Within TablesSay 0 tables) (tables_cause 0 tables)
tables_find tables =
    subst (Finds rank (Within TablesSay 0 tables)) (tables_searched 0 tables)
    (
    all_searched rank TablesSay table_found (2 ∷ []) table_placed
    (λ n t later. at_table n (TableSays t (names_at later)) (table_cause (names_at later) t) (table_kind t (names_at later)) (table_finds t (names_at later))) 0 tables
    )

module _ (tables : List TableDef) where
  abbrev pub has_some : Bool
  has_some = nat_le 1 (length tables)

  abbrev pub has_few : Bool
  has_few = nat_le (length tables) max_tables

  abbrev pub DeclarationSays : TableFault → Type 0
  DeclarationSays f = Told (fault_at 0 NoTable) (not has_some) f ⊎ (Told (fault_at max_tables TooManyTables) (not has_few) f ⊎ Within TablesSay 0 tables f)

  all_in_turn : or_else (given (not has_some) (fault_at 0 NoTable)) (or_else (given (not has_few) (fault_at max_tables TooManyTables)) (tables_cause 0 tables)) ≡ declaration_fault tables
  all_in_turn =
      then (fault_at 0 NoTable) (or_else (given (not has_few) (fault_at max_tables TooManyTables)) (tables_cause 0 tables)) (not has_some)
      ∙ ap (cond (not has_some) (Some (fault_at 0 NoTable))) (then (fault_at max_tables TooManyTables) (tables_cause 0 tables) (not has_few))

  tables_last : (f : TableFault) → Within TablesSay 0 tables f → (rest : List ℕ) × (rank f ≡ 2 ∷ rest)
  tables_last f h = each_says TablesSay (λ f. (rest : List ℕ) × (rank f ≡ 2 ∷ rest)) (λ n t later f h. let r = table_placed n t later f h in (n ∷ r.0, r.1)) 0 tables f h

  pub declaration_finds : Finds rank DeclarationSays (declaration_fault tables)
  declaration_finds =
      subst (Finds rank DeclarationSays) all_in_turn
      (
      either rank [] 0 (given (not has_some) (fault_at 0 NoTable)) (or_else (given (not has_few) (fault_at max_tables TooManyTables)) (tables_cause 0 tables))
      (λ f h. (0, 0 ∷ [], omega arith, ap rank h.0))
      (λ f h. elim h [ inl w ↦ (1, max_tables ∷ [], omega arith, ap rank w.0) | inr w ↦ (let r = tables_last f w in (2, r.0, omega arith, r.1)) ])
      (one rank (not has_some) (fault_at 0 NoTable))
      (
      either rank [] 1 (given (not has_few) (fault_at max_tables TooManyTables)) (tables_cause 0 tables)
      (λ f h. (1, max_tables ∷ [], omega arith, ap rank h.0)) (λ f h. let r = tables_last f h in (2, r.0, omega arith, r.1))
      (one rank (not has_few) (fault_at max_tables TooManyTables)) (tables_find tables)
      )
      )
