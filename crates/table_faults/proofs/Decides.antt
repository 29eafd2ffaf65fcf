-- There is a first fault exactly if the tables may not be declared.
use Rattle.std.proofs.Common.{◌≡◌, ℕ, ◌+◌, Bool, true, false, not, cond, ◌&&◌, List, [], ◌∷◌, ◌++◌, length, Option, Some, None, option_map, refl, sym, ap, ◌∙◌}
use Rattle.std.specs.Prelude.{nat_le, is_none, MatchOption}
use Rattle.std.specs.List.{list_all}
use Rattle.schema_version.specs.declared.table.TableDef.{TableDef}
use Rattle.schema_version.specs.Names.{is_name, is_among, is_distinct, max_tables, max_key_columns, max_columns, max_indexes, max_listed}
use Rattle.schema_version.specs.Declare.{names_of, IsLawful}
use Rattle.schema_version.specs.inner.AcceptTables.{names_in, has_fair_sizes, has_own_names, has_names_apart, is_lawful_list, has_lawful_lists, is_lawful_table, table_names, are_lawful}
use Rattle.schema_version.proofs.Declared.{all_append, distinct_names, lawful, not_lawful}
use Rattle.table_faults.specs.declared.fault.TableCause.{TableCause}
use Rattle.table_faults.specs.declared.fault.TableCause.TheVariants.{NoTable, TooManyTables, TableName, TableTwice, KeyLength, TooManyColumns, TooManyIndexes, Name, NameTwice, ListLength, ListedTwice, NotAColumn}
use Rattle.table_faults.specs.declared.fault.TableFault.{TableFault}
use Rattle.table_faults.specs.inner.Search.{or_else, names_cause, listed_cause, index_cause, indexes_cause, size_cause, table_cause, tables_cause, declaration_fault}

none_of_both : {X : Type 0} (one other : Option X) → is_none (or_else one other) ≡ (is_none one && is_none other)
none_of_both None other = refl
none_of_both (Some x) other = refl

none_through : {X Y : Type 0} (f : X → Y) (o : Option X) → is_none (option_map f o) ≡ is_none o
none_through f None = refl
none_through f (Some x) = refl

name_step : {X : Type 0} (x y : X) (o : Option X) (named again names distinct : Bool) → is_none o ≡ (names && distinct)
    → is_none (cond (not named) (Some x) (cond again (Some y) o)) ≡ ((named && names) && (not again && distinct))
name_step x y o false again names distinct e = refl
name_step x y o true true true distinct e = refl
name_step x y o true true false distinct e = refl
name_step x y o true false names distinct e = e

names_none : (place : ℕ) (names : List (List ℕ)) → is_none (names_cause place names) ≡ (list_all is_name names && is_distinct names)
names_none place [] = refl
names_none place (name ∷ later) =
    name_step (Name place) (NameTwice place) (names_cause (place + 1) later) (is_name name) (is_among name later) (list_all is_name later) (is_distinct later) (names_none (place + 1) later)

listed_step : {X : Type 0} (x y : X) (o : Option X) (again known distinct all : Bool) → is_none o ≡ (distinct && all)
    → is_none (cond again (Some x) (cond (not known) (Some y) o)) ≡ ((not again && distinct) && (known && all))
listed_step x y o true known distinct all e = refl
listed_step x y o false false true all e = refl
listed_step x y o false false false all e = refl
listed_step x y o false true distinct all e = e

listed_none : (index place : ℕ) (columns names : List (List ℕ)) → is_none (listed_cause index place columns names) ≡ (is_distinct names && list_all (λ name. is_among name columns) names)
listed_none index place columns [] = refl
listed_none index place columns (name ∷ later) =
    listed_step (ListedTwice index place) (NotAColumn index place) (listed_cause index (place + 1) columns later) (is_among name later) (is_among name columns) (is_distinct later) (list_all (λ name. is_among name columns) later) (listed_none index (place + 1) columns later)

length_step : {X : Type 0} (x : X) (o : Option X) (some few fair : Bool) → is_none o ≡ fair → is_none (cond (not (some && few)) (Some x) o) ≡ (some && (few && fair))
length_step x o true true fair e = e
length_step x o true false fair e = refl
length_step x o false few fair e = refl

index_none : (index : ℕ) (columns names : List (List ℕ)) → is_none (index_cause index columns names) ≡ is_lawful_list columns names
index_none index columns names =
    length_step (ListLength index) (listed_cause index 0 columns names) (nat_le 1 (length names)) (nat_le (length names) max_listed) (is_distinct names && list_all (λ name. is_among name columns) names) (listed_none index 0 columns names)

indexes_none : (number : ℕ) (columns : List (List ℕ)) (indexes : List (List ℕ × List (List ℕ))) → is_none (indexes_cause number columns indexes) ≡ list_all (λ index. is_lawful_list columns index.1) indexes
indexes_none number columns [] = refl
indexes_none number columns (index ∷ later) =
    none_of_both (index_cause number columns index.1) (indexes_cause (number + 1) columns later)
    ∙ (λ i. index_none number columns index.1 i && indexes_none (number + 1) columns later i)

sizes : {X : Type 0} (x y z : X) (some few columns indexes : Bool)
    → is_none (cond (not (some && few)) (Some x) (cond (not columns) (Some y) (cond (not indexes) (Some z) None))) ≡ (some && (few && (columns && indexes)))
sizes x y z false few columns indexes = refl
sizes x y z true false columns indexes = refl
sizes x y z true true false indexes = refl
sizes x y z true true true false = refl
sizes x y z true true true true = refl

size_none : (t : TableDef) → is_none (size_cause t) ≡ has_fair_sizes t
size_none t = sizes KeyLength TooManyColumns TooManyIndexes (nat_le 1 (length t.key)) (nat_le (length t.key) max_key_columns) (nat_le (length t.columns) max_columns) (nat_le (length t.indexes) max_indexes)

parts : {X : Type 0} (x y : X) (o : Option X) (named again fair names own apart lists : Bool) → is_none o ≡ (fair && ((names && (own && apart)) && lists))
    → is_none (cond (not named) (Some x) (cond again (Some y) o)) ≡ (not again && (fair && ((named && names) && (own && (apart && lists)))))
parts x y o true true fair names own apart lists e = refl
parts x y o true false fair true true apart lists e = e
parts x y o true false fair true false apart lists e = e
parts x y o true false fair false own apart lists e = e
parts x y o false true fair names own apart lists e = refl
parts x y o false false true names own apart lists e = refl
parts x y o false false false names own apart lists e = refl

names_by_part : (t : TableDef) → list_all is_name (names_of t) ≡ (list_all is_name (names_in t.key) && (list_all is_name (names_in t.columns) && list_all is_name (names_in t.indexes)))
names_by_part t =
    all_append is_name (names_in t.key ++ names_in t.columns) (names_in t.indexes)
    ∙ ap (λ b. b && list_all is_name (names_in t.indexes)) (all_append is_name (names_in t.key) (names_in t.columns))
    ∙ regrouped (list_all is_name (names_in t.key)) (list_all is_name (names_in t.columns)) (list_all is_name (names_in t.indexes))
  where
    regrouped : (a b c : Bool) → ((a && b) && c) ≡ (a && (b && c))
    regrouped true b c = refl
    regrouped false b c = refl

table_none : (later : List (List ℕ)) (t : TableDef) → is_none (table_cause later t) ≡ (not (is_among t.name later) && is_lawful_table t)
table_none later t =
    let names : Bool = list_all is_name (names_in t.key) && (list_all is_name (names_in t.columns) && list_all is_name (names_in t.indexes)) in
    let inside : Option TableCause = or_else (names_cause 0 (names_of t)) (indexes_cause 0 (names_in t.columns) t.indexes) in
    let named : is_none (names_cause 0 (names_of t)) ≡ (names && (has_own_names t && has_names_apart t)) = names_none 0 (names_of t) ∙ (λ i. names_by_part t i && distinct_names t i) in
    let within : is_none inside ≡ ((names && (has_own_names t && has_names_apart t)) && has_lawful_lists t) =
    none_of_both (names_cause 0 (names_of t)) (indexes_cause 0 (names_in t.columns) t.indexes) ∙ (λ i. named i && indexes_none 0 (names_in t.columns) t.indexes i) in
    parts TableName TableTwice (or_else (size_cause t) inside) (is_name t.name) (is_among t.name later) (has_fair_sizes t) names (has_own_names t) (has_names_apart t) (has_lawful_lists t)
    (none_of_both (size_cause t) inside ∙ (λ i. size_none t i && within i))

between : (again this distinct lawful : Bool) → ((not again && this) && (distinct && lawful)) ≡ ((not again && distinct) && (this && lawful))
between true this distinct lawful = refl
between false true distinct lawful = refl
between false false true lawful = refl
between false false false lawful = refl

tables_none : (number : ℕ) (ts : List TableDef) → is_none (tables_cause number ts) ≡ (is_distinct (table_names ts) && list_all is_lawful_table ts)
tables_none number [] = refl
tables_none number (t ∷ ts) =
    let at : TableCause → TableFault = λ cause. record { table = number; cause = cause } in
    none_of_both (option_map at (table_cause (table_names ts) t)) (tables_cause (number + 1) ts)
    ∙ (λ i. (none_through at (table_cause (table_names ts) t) ∙ table_none (table_names ts) t) i && tables_none (number + 1) ts i)
    ∙ between (is_among t.name (table_names ts)) (is_lawful_table t) (is_distinct (table_names ts)) (list_all is_lawful_table ts)

number_step : {X : Type 0} (x y : X) (o : Option X) (some few fair : Bool) → is_none o ≡ fair → is_none (cond (not some) (Some x) (cond (not few) (Some y) o)) ≡ (some && (few && fair))
number_step x y o true true fair e = e
number_step x y o true false fair e = refl
number_step x y o false few fair e = refl

declared_none : (ts : List TableDef) → is_none (declaration_fault ts) ≡ are_lawful ts
declared_none ts =
    number_step (record { table = 0; cause = NoTable }) (record { table = max_tables; cause = TooManyTables }) (tables_cause 0 ts) (nat_le 1 (length ts)) (nat_le (length ts) max_tables) (is_distinct (table_names ts) && list_all is_lawful_table ts) (tables_none 0 ts)

pub decides : (ts : List TableDef) (fault : Option TableFault) → fault ≡ declaration_fault ts → MatchOption fault (IsLawful ts) (λ _. ¬ (IsLawful ts))
decides ts None e = (lawful ts).0 (sym (declared_none ts) ∙ sym (ap is_none e))
decides ts (Some fault) e = not_lawful ts (sym (declared_none ts) ∙ sym (ap is_none e))
