-- The tests of a move decide why it isn't allowed.
use Rattle.std.specs.Int.{w64}
use Rattle.std.proofs.lemmas.Str.{IsUtf8-from_is_utf8, is_utf8-from_IsUtf8}
use Rattle.keycode.specs.declared.value.Value.{Value}
use Rattle.keycode.specs.declared.value.Value.TheVariants.{Null, Int, Text, Bool as Flag}
use Rattle.keycode.specs.Valid.{IsValue}
use Rattle.row_map.specs.Shape.{has_type}
use Rattle.schema_version.specs.Defaults.{has_word, is_value}
use Rattle.std.proofs.Common.{FitsSigned, ℤ, pos, negsuc, ◌^◌, ◌≡◌, ℕ, ◌+◌, ◌≤◌, Bool, true, false, not, ◌&&◌, ◌||◌, ◌==◌, List, [], ◌∷◌, length, Option, Some, None, inl, inr, refl, sym, ap, subst, ◌∙◌, arith, Contains, Err, is_some}
use Rattle.std.specs.Prelude.{IsTrue, bytes_eq, nat_lt, nat_le, count_by, option_map}
use Rattle.std.specs.Bool.{Decides}
use Rattle.std.specs.List.{list_any, list_all, find}
use Rattle.std.proofs.lemmas.Bool.Decides.{Decides-and, Decides-or, Decides-not, Decides-eqb, Decides-ltb, Decides-like, leb_tells}
use Rattle.std.proofs.lemmas.Slice.Eq.{bytes_eq-Decides}
use Rattle.std.specs.FinMap as map
use Rattle.row_map.specs.declared.shape.ColumnType.{ColumnType}
use Rattle.schema_version.specs.declared.element.ElementState.{ElementState}
use Rattle.schema_version.specs.declared.element.ElementState.TheVariants.{Absent, DeleteOnly, WriteOnly, Public}
use Rattle.schema_version.specs.declared.element.Way.{Way}
use Rattle.schema_version.specs.declared.element.Way.TheVariants.{Adding, Dropping}
use Rattle.schema_version.specs.declared.element.Kind.{Kind}
use Rattle.schema_version.specs.declared.element.Kind.TheVariants.{Index, Optional, Required}
use Rattle.schema_version.specs.declared.element.ElementDef.{ElementDef}
use Rattle.schema_version.specs.declared.element.NewElement.{NewElement}
use Rattle.schema_version.specs.declared.step.Move.{Move}
use Rattle.schema_version.specs.declared.step.Move.TheVariants.{Enter, Go, Turn}
use Rattle.schema_version.specs.declared.step.StepFault.{StepFault}
use Rattle.schema_version.specs.declared.step.StepFault.TheVariants.{Unknown}
use Rattle.schema_version.specs.Names.{IsName, is_name, is_letter, is_word_byte, max_listed, max_elements}
use Rattle.schema_version.specs.Version.{Version, Table, table_at, element_at, live, is_index, is_public, is_column, is_named, indexed_columns, type_of_kind, IsLiveColumn}
use Rattle.schema_version.specs.Moves.{moves_element, HasNoEdge, is_unready, is_distinct, count_like, max_like, is_entry, DependsOn, IsFirstSuch, IsLeastIndexOn, IsTaken, Enters, IsFairKind, IsWithinLimits, GoFault, GoFaultAt, TurnFault, TurnFaultAt, MoveFault, rank}
use Rattle.schema_version.specs.Edges.{edge}
use Rattle.schema_version.specs.Checks.{has_no_edge, lists, stands_against, go_check, go_check_at, is_dropping, turn_check, turn_check_at, enter_check, move_check, is_column_of, are_columns_of, has_key_column, is_entry_named, is_taken, is_fair_kind, is_within_limits}
use Rattle.schema_version.proofs.Lists.{any_says, any_from, all_says, all_fails, find_first, find_none, some_same, not_both}
use Rattle.schema_version.proofs.Live.{IsLeast, first_is_least, none_passes, element_at-lookup, live_has, live_from}
use Rattle.schema_version.proofs.Chain.{Finds, Says, chain_says}

-- an element stands under its own number
abbrev pub AreNumbered : Version → Type 0
AreNumbered v = (n : ℕ) (e : ElementDef) → element_at v n ≡ Some e → e.number ≡ n

never : Decides false ⊥
never = (λ e. cc, λ p. absurd p)

is_false : (b : Bool) → Decides (not b) (b ≡ false)
is_false true = (λ e. cc, λ e. cc)
is_false false = (λ e. refl, λ e. refl)

pub itself : (b : Bool) → Decides b (IsTrue b)
itself b = (λ e. e, λ e. e)

pub at_most : (a b : ℕ) → Decides (nat_le a b) (a ≤ b)
at_most a b = elim (leb_tells a b) [ inl p ↦ (λ e. p.1, λ e. p.0) | inr p ↦ (λ e. absurd (not_both e p.0), λ le. absurd (omega (arith, p.1, le))) ]

-- the first that is found, or none
Finds-first : (test : ℕ → Bool) (list : List ℕ) (o : Option ℕ) → find test list ≡ o → Finds o (IsFirstSuch test list)
Finds-first test list None e = λ n first. find_none test list n e first
Finds-first test list (Some n) e = find_first test list n e

-- ---- unknown

column_type : (k : Kind) → Decides (is_column k) ((type : ColumnType) × (type_of_kind k ≡ Some type))
column_type (Optional type) = (λ e. (type, refl), λ h. refl)
column_type (Required type fallback) = (λ e. (type, refl), λ h. refl)
column_type (Index columns) = (λ e. cc, λ (type, h). cc)

pub column_is : (v : Version) (t c : ℕ) → Decides (is_column_of t (element_at v c)) (IsLiveColumn v t c)
column_is v t c = by (element_at v c) refl
  where
    by : (o : Option ElementDef) → element_at v c ≡ o → Decides (is_column_of t o) (IsLiveColumn v t c)
    by None is = (λ e. cc, λ (e, type, at, own, kind). let wrong : None ≡ Some e = sym is ∙ at in cc)
    by (Some e) is =
        Decides-like ((e.table == t) && is_column e.kind)
        (λ (own, (type, kind)). (e, type, is, own, kind))
        (λ (f, type, at, own, kind). let same : e ≡ f = some_same (sym is ∙ at) in (ap (λ (x : ElementDef). x.table) same ∙ own, (type, ap (λ (x : ElementDef). type_of_kind x.kind) same ∙ kind)))
        (Decides-and (e.table == t) (is_column e.kind) (Decides-eqb e.table t) (column_type e.kind))

strange_column : (v : Version) (t : ℕ) (cs : List ℕ) → Decides (not (are_columns_of v t cs)) ((c : ℕ) × Contains cs c × (¬ (IsLiveColumn v t c)))
strange_column v t cs = (to, from)
  where
    to : not (are_columns_of v t cs) ≡ true → (c : ℕ) × Contains cs c × (¬ (IsLiveColumn v t c))
    to e = let r = all_fails (λ c. is_column_of t (element_at v c)) cs ((is_false (are_columns_of v t cs)).0 e) in (r.0, r.1, λ l. not_both ((column_is v t r.0).1 l) r.2)

    from : (c : ℕ) × Contains cs c × (¬ (IsLiveColumn v t c)) → not (are_columns_of v t cs) ≡ true
    from (c, there, strange) = by (are_columns_of v t cs) refl
      where
        by : (b : Bool) → are_columns_of v t cs ≡ b → not b ≡ true
        by true e = absurd (strange ((column_is v t c).0 (all_says (λ n. is_column_of t (element_at v n)) cs c e there)))
        by false e = refl

-- ---- taken names

pub named : (table : ℕ) (name : List ℕ) (e : ElementDef) → Decides (is_named table name e) ((e.table ≡ table) × (e.name ≡ name))
named table name e = Decides-and (e.table == table) (bytes_eq e.name name) (Decides-eqb e.table table) (bytes_eq-Decides e.name name)

entry_named : (table : ℕ) (name : List ℕ) (m : Move) → Decides (is_entry_named table name m) (Enters table name m)
entry_named table name (Enter fresh to) = Decides-and (fresh.table == table) (bytes_eq fresh.name name) (Decides-eqb fresh.table table) (bytes_eq-Decides fresh.name name)
entry_named table name (Go element to) = never
entry_named table name (Turn element) = never

key_taken : (v : Version) (n : ℕ) (name : List ℕ) → Decides (has_key_column (table_at v n) name) ((table : Table) × (type : ColumnType) × (table_at v n ≡ Some table) × Contains table.key (name, type))
key_taken v n name = by (table_at v n) refl
  where
    by : (o : Option Table) → table_at v n ≡ o → Decides (has_key_column o name) ((table : Table) × (type : ColumnType) × (table_at v n ≡ Some table) × Contains table.key (name, type))
    by None is = (λ e. cc, λ (t, type, at, there). let wrong : None ≡ Some t = sym is ∙ at in cc)
    by (Some t) is = (
      λ e. (let r = any_says (λ (c : List ℕ × ColumnType). bytes_eq c.0 name) t.key e in (t, r.0.1, is, subst (Contains t.key) (λ i. ((bytes_eq-Decides r.0.0 name).0 r.2 i, r.0.1)) r.1)),
      λ (u, type, at, there). any_from (λ (c : List ℕ × ColumnType). bytes_eq c.0 name) t.key (name, type) (subst (λ (x : Table). Contains x.key (name, type)) (some_same (sym at ∙ is)) there) ((bytes_eq-Decides name name).1 refl),
    )

element_taken : (v : Version) (n : ℕ) (name : List ℕ) → Decides (list_any (is_named n name) (live v)) ((element : ElementDef) × (place : ℕ) × (element_at v place ≡ Some element) × (element.table ≡ n) × (element.name ≡ name))
element_taken v n name = (
  λ e. (let r = any_says (is_named n name) (live v) e in let at = live_from v r.0 r.1 in let is = (named n name r.0).0 r.2 in (r.0, at.0, at.1, is.0, is.1)),
  λ (e, place, at, own, is). any_from (is_named n name) (live v) e (live_has v place e at) ((named n name e).1 (own, is)),
)

entry_taken : (earlier : List Move) (n : ℕ) (name : List ℕ) → Decides (list_any (is_entry_named n name) earlier) ((move : Move) × Contains earlier move × Enters n name move)
entry_taken earlier n name = (
  λ e. (let r = any_says (is_entry_named n name) earlier e in (r.0, r.1, (entry_named n name r.0).0 r.2)),
  λ (m, there, enters). any_from (is_entry_named n name) earlier m there ((entry_named n name m).1 enters),
)

taken : (v : Version) (earlier : List Move) (n : ℕ) (name : List ℕ) → Decides (is_taken v earlier n name) (IsTaken v earlier n name)
taken v earlier n name =
    Decides-or (has_key_column (table_at v n) name) (list_any (is_named n name) (live v) || list_any (is_entry_named n name) earlier) (key_taken v n name)
    (Decides-or (list_any (is_named n name) (live v)) (list_any (is_entry_named n name) earlier) (element_taken v n name) (entry_taken earlier n name))

-- ---- limits

pub word : (name : List ℕ) → Decides (is_name name) (IsName name)
word [] = never
word (c ∷ cs) =
    Decides-like (nat_le (length (c ∷ cs)) 32 && (is_letter c && list_all is_word_byte cs))
    (λ (short, (first, rest)). (first, rest, short))
    (λ (first, rest, short). (short, (first, rest)))
    (Decides-and (nat_le (length (c ∷ cs)) 32) (is_letter c && list_all is_word_byte cs) (at_most (length (c ∷ cs)) 32) (Decides-and (is_letter c) (list_all is_word_byte cs) (itself (is_letter c)) (itself (list_all is_word_byte cs))))

-- a value of the program is reported by its test
in_word : (n : ℤ) → Decides (has_word n) (FitsSigned w64 n)
in_word (pos n) = Decides-like (nat_lt n (2 ^ 63)) (λ lt. record { sfits = lt }) (λ f. f.sfits) (Decides-ltb n (2 ^ 63))
in_word (negsuc n) = Decides-like (nat_lt n (2 ^ 63)) (λ lt. record { sfits = lt }) (λ f. f.sfits) (Decides-ltb n (2 ^ 63))

pub value_is : (v : Value) → Decides (is_value v) (IsValue v)
value_is Null = (λ e. tt, λ h. refl)
value_is (Int n) = in_word n
value_is (Text t) = (IsUtf8-from_is_utf8 t, is_utf8-from_IsUtf8 t)
value_is (Flag b) = (λ e. tt, λ h. refl)

-- for a value of the program the test says no more
pub passes_so : (b : Bool) (v : Value) → IsValue v → b ≡ (b && is_value v)
passes_so true v known = sym ((value_is v).1 known)
passes_so false v known = refl

pub fair_kind : (k : Kind) → Decides (is_fair_kind k) (IsFairKind k)
fair_kind (Index columns) =
    Decides-like (nat_le 1 (length columns) && (nat_le (length columns) max_listed && is_distinct columns))
    (λ (some, (few, distinct)). (some, few, distinct))
    (λ (some, few, distinct). (some, (few, distinct)))
    (Decides-and (nat_le 1 (length columns)) (nat_le (length columns) max_listed && is_distinct columns) (at_most 1 (length columns)) (Decides-and (nat_le (length columns) max_listed) (is_distinct columns) (at_most (length columns) max_listed) (itself (is_distinct columns))))
fair_kind (Optional type) = (λ e. tt, λ h. refl)
fair_kind (Required type fallback) = Decides-and (has_type type fallback) (is_value fallback) (itself (has_type type fallback)) (value_is fallback)

pub within : (v : Version) (earlier : List Move) (fresh : NewElement) → Decides (is_within_limits v earlier fresh) (IsWithinLimits v earlier fresh)
within v earlier fresh =
    let room = nat_lt (count_like v earlier fresh.table (is_index fresh.kind)) (max_like (is_index fresh.kind)) in
    let number = nat_le (v.next + count_by is_entry earlier) max_elements in
    Decides-like (is_name fresh.name && (is_fair_kind fresh.kind && (room && number)))
    (λ (name, (list, (room, number))). (name, list, room, number))
    (λ (name, list, room, number). (name, (list, (room, number))))
    (Decides-and (is_name fresh.name) (is_fair_kind fresh.kind && (room && number)) (word fresh.name)
    (Decides-and (is_fair_kind fresh.kind) (room && number) (fair_kind fresh.kind)
    (Decides-and room number (Decides-ltb (count_like v earlier fresh.table (is_index fresh.kind)) (max_like (is_index fresh.kind))) (at_most (v.next + count_by is_entry earlier) max_elements))))

-- ---- edges and what stands against a move

no_way : (o : Option Way) → Decides (not (is_some o)) (o ≡ None)
no_way None = (λ e. refl, λ e. refl)
no_way (Some way) = (λ e. cc, λ e. cc)

no_edge : (k : Kind) (from to : ElementState) → Decides (has_no_edge k from to) (HasNoEdge k from to)
no_edge k from to = Decides-and (not (is_some (edge k Adding from to))) (not (is_some (edge k Dropping from to))) (no_way (edge k Adding from to)) (no_way (edge k Dropping from to))

pub listing : (n : ℕ) (e : ElementDef) → Decides (lists n e) (Contains (indexed_columns e.kind) n)
listing n e = (
  λ p. (let r = any_says (◌==◌ n) (indexed_columns e.kind) p in subst (Contains (indexed_columns e.kind)) (sym ((Decides-eqb n r.0).0 r.2)) r.1),
  λ there. any_from (◌==◌ n) (indexed_columns e.kind) n there ((Decides-eqb n n).1 refl),
)

pub least : (v : Version) (n : ℕ) → AreNumbered v → (o : Option ElementDef) → find (lists n) (live v) ≡ o → Finds (option_map (λ (e : ElementDef). e.number) o) (IsLeastIndexOn v n)
least v n numbered None none = λ m index. none_passes (lists n) (map.entries v.elements) m index.0.0 none (sym (element_at-lookup v m) ∙ index.0.1) ((listing n index.0.0).1 index.0.2)
least v n numbered (Some e) found =
    let r : IsLeast (lists n) (map.entries v.elements) e = first_is_least (lists n) (map.entries v.elements) e (map.entries_sorted v.elements) found in
    let at : element_at v r.number ≡ Some e = element_at-lookup v r.number ∙ r.found in
    let own : e.number ≡ r.number = numbered r.number e at in (
      (e, ap (element_at v) own ∙ at, (listing n e).0 r.passes),
      λ m (f, at_m, there). subst (λ k. k ≤ m) (sym own) (r.least m f (sym (element_at-lookup v m) ∙ at_m) ((listing n f).1 there)),
    )

stands : (v : Version) (step : List Move) (n : ℕ) (k : Kind) → AreNumbered v → Finds (stands_against v step n k) (DependsOn v step n k)
stands v step n (Index columns) numbered = Finds-first (is_unready v step) columns (find (is_unready v step) columns) refl
stands v step n (Optional type) numbered = least v n numbered (find (lists n) (live v)) refl
stands v step n (Required type fallback) numbered = least v n numbered (find (lists n) (live v)) refl

-- ---- a whole move

pub go_says : (v : Version) (step earlier : List Move) (n : ℕ) (e : ElementDef) (to : ElementState) → AreNumbered v → Says (GoFault v step earlier n e to) (go_check v step earlier n e to)
go_says v step earlier n e to numbered =
    chain_says (GoFault v step earlier n e to) false (has_no_edge e.kind e.state to || moves_element earlier n) (not (is_some (edge e.kind e.way e.state to))) (stands_against v step n e.kind) false false
    (record {
      unknown = never;
      not_adjacent = Decides-or (has_no_edge e.kind e.state to) (moves_element earlier n) (no_edge e.kind e.state to) (itself (moves_element earlier n));
      wrong_way = no_way (edge e.kind e.way e.state to);
      dependent = stands v step n e.kind numbered;
      taken = never;
      limit = never;
      memory = λ h. h;
    })

pub public : (s : ElementState) → Decides (is_public s) (s ≡ Public)
public Public = (λ e. refl, λ e. refl)
public Absent = (λ e. cc, λ e. cc)
public DeleteOnly = (λ e. cc, λ e. cc)
public WriteOnly = (λ e. cc, λ e. cc)

dropping : (w : Way) → Decides (is_dropping w) (w ≡ Dropping)
dropping Adding = (λ e. cc, λ e. cc)
dropping Dropping = (λ e. refl, λ e. refl)

pub turn_says : (earlier : List Move) (n : ℕ) (e : ElementDef) → Says (TurnFault earlier n e) (turn_check earlier n e)
turn_says earlier n e =
    chain_says (TurnFault earlier n e) false (is_public e.state || moves_element earlier n) (is_dropping e.way) None false false
    (record {
      unknown = never;
      not_adjacent = Decides-or (is_public e.state) (moves_element earlier n) (public e.state) (itself (moves_element earlier n));
      wrong_way = dropping e.way;
      dependent = λ on h. h;
      taken = never;
      limit = never;
      memory = λ h. h;
    })

pub enter_says : (v : Version) (step earlier : List Move) (fresh : NewElement) (to : ElementState) → Says (MoveFault v step earlier (Enter fresh to)) (enter_check v step earlier fresh to)
enter_says v step earlier fresh to =
    chain_says (MoveFault v step earlier (Enter fresh to)) (not (is_some (table_at v fresh.table)) || not (are_columns_of v fresh.table (indexed_columns fresh.kind))) (has_no_edge fresh.kind Absent to) false (find (is_unready v step) (indexed_columns fresh.kind)) (is_taken v earlier fresh.table fresh.name) (not (is_within_limits v earlier fresh))
    (record {
      unknown = Decides-or (not (is_some (table_at v fresh.table))) (not (are_columns_of v fresh.table (indexed_columns fresh.kind))) (is_false (is_some (table_at v fresh.table))) (strange_column v fresh.table (indexed_columns fresh.kind));
      not_adjacent = no_edge fresh.kind Absent to;
      wrong_way = never;
      dependent = Finds-first (is_unready v step) (indexed_columns fresh.kind) (find (is_unready v step) (indexed_columns fresh.kind)) refl;
      taken = taken v earlier fresh.table fresh.name;
      limit = Decides-not (is_within_limits v earlier fresh) (within v earlier fresh);
      memory = λ h. h;
    })

unknown_says : (C : StepFault → Type 0) → C Unknown → ((f : StepFault) → C f → f ≡ Unknown) → Says C (Err Unknown)
unknown_says C unknown only = (unknown, λ other lt c. let same : other ≡ Unknown = only other c in let le : rank other ≡ 1 = ap rank same in absurd (omega (arith, le, lt)))

pub move_says : (v : Version) (step earlier : List Move) (m : Move) → AreNumbered v → Says (MoveFault v step earlier m) (move_check v step earlier m)
move_says v step earlier (Enter fresh to) numbered = enter_says v step earlier fresh to
move_says v step earlier (Go n to) numbered = by (element_at v n)
  where
    by : (o : Option ElementDef) → Says (GoFaultAt v step earlier n o to) (go_check_at v step earlier n o to)
    by None = unknown_says (GoFaultAt v step earlier n None to) refl (λ f e. e)
    by (Some e) = go_says v step earlier n e to numbered
move_says v step earlier (Turn n) numbered = by (element_at v n)
  where
    by : (o : Option ElementDef) → Says (TurnFaultAt earlier n o) (turn_check_at earlier n o)
    by None = unknown_says (TurnFaultAt earlier n None) refl (λ f e. e)
    by (Some e) = turn_says earlier n e

-- a column of any kind depends on the least index that lists it
pub column_depends : (v : Version) (step : List Move) (n : ℕ) (k : Kind) (type : ColumnType) (on : ℕ) → type_of_kind k ≡ Some type → IsLeastIndexOn v n on → DependsOn v step n k on
column_depends v step n (Index columns) type on is least = cc
column_depends v step n (Optional kept) type on is least = least
column_depends v step n (Required kept fallback) type on is least = least
