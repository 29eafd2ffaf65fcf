-- What is found is the first fault in words, and there is only one such.
use Rattle.std.proofs.Common.{◌≡◌, ℕ, zero, suc, ◌<◌, List, [], ◌∷◌, length, Option, Some, None, inl, inr, refl, sym, ap, subst, ◌∙◌, arith, slice_get, true}
use Rattle.std.specs.Prelude.{MatchOption}
use Rattle.schema_version.specs.declared.table.TableDef.{TableDef}
use Rattle.schema_version.specs.Declare.{IsLawful}
use Rattle.schema_version.specs.Names.{is_among, max_tables}
use Rattle.table_faults.specs.declared.fault.TableCause.{TableCause}
use Rattle.table_faults.specs.declared.fault.TableCause.TheVariants.{NoTable, TooManyTables, TableName, TableTwice, KeyLength, TooManyColumns, TooManyIndexes, Name, NameTwice, ListLength, ListedTwice, NotAColumn}
use Rattle.table_faults.specs.declared.fault.TableFault.{TableFault}
use Rattle.table_faults.specs.Faults.{StandsAgain, IsWrong, IsWrongAt, IsFault, rank, IsFirstFault, IsFinding}
use Rattle.table_faults.specs.inner.Search.{declaration_fault}
use Rattle.table_faults.proofs.Decides.{decides}
use Rattle.table_faults.proofs.Order.{said, from_said, behind, Finds, alike, one_before}
use Rattle.table_faults.proofs.Finding.{TableSays, fault_at, names_at, TablesSay, DeclarationSays, declaration_finds}
use Rattle.table_faults.proofs.Words.{over, is_over, not_word, again, from_again, each_behind, each_at, from_each_at, from_zero, from_inside, to_table}

module _ (tables : List TableDef) where
  -- ---- from the tests

  wrong_inside : (number : ℕ) (t : TableDef) → slice_get tables number ≡ Some t → (c : TableCause) → IsWrong t c → IsWrongAt tables number c
  wrong_inside number t at TableName w = (t, at, w)
  wrong_inside number t at KeyLength w = (t, at, w)
  wrong_inside number t at TooManyColumns w = (t, at, w)
  wrong_inside number t at TooManyIndexes w = (t, at, w)
  wrong_inside number t at (Name place) w = (t, at, w)
  wrong_inside number t at (NameTwice place) w = (t, at, w)
  wrong_inside number t at (ListLength index) w = (t, at, w)
  wrong_inside number t at (ListedTwice index place) w = (t, at, w)
  wrong_inside number t at (NotAColumn index place) w = (t, at, w)
  wrong_inside number t at c w = absurd w

  from_table : (number : ℕ) (t : TableDef) → slice_get tables number ≡ Some t → (c : TableCause) → TableSays t (names_at (behind tables number)) c → IsWrongAt tables number c
  from_table number t at c (inl e) = subst (IsWrongAt tables number) (sym e.0) (t, at, not_word t.name e.1)
  from_table number t at c (inr (inl e)) =
      subst (IsWrongAt tables number) (sym e.0)
      (
      again (names_at tables) number t.name (each_at (λ (u : TableDef). u.name) tables number t at)
      (subst (λ names. is_among t.name names ≡ true) (each_behind (λ (u : TableDef). u.name) tables number) e.1)
      )
  from_table number t at c (inr (inr h)) = wrong_inside number t at c (from_inside t c h)

  from_tests : (f : TableFault) → DeclarationSays tables f → IsFault tables f
  from_tests f (inl e) = subst (IsFault tables) (sym e.0) (refl, few (length tables) (over 1 (length tables) e.1))
    where
      few : (n : ℕ) → n < 1 → n ≡ 0
      few n lt = omega (arith, lt)
  from_tests f (inr (inl e)) = subst (IsFault tables) (sym e.0) (refl, over (length tables) max_tables e.1)
  from_tests f (inr (inr h)) =
      let (q, t, at, (same, w)) = said TablesSay 0 tables f h in
      subst (λ n. IsWrongAt tables n f.cause) (sym (from_zero q) ∙ sym same) (from_table q t at f.cause w)

  -- ---- to the tests

  to_tables : (number : ℕ) (c : TableCause) (t : TableDef) → slice_get tables number ≡ Some t → TableSays t (names_at (behind tables number)) c → DeclarationSays tables (fault_at number c)
  to_tables number c t at w = inr (inr (from_said TablesSay 0 tables (fault_at number c) number t at (sym (from_zero number), w)))

  to_inside : (number : ℕ) (c : TableCause) → (t : TableDef) × (slice_get tables number ≡ Some t) × IsWrong t c → DeclarationSays tables (fault_at number c)
  to_inside number c (t, at, w) = to_tables number c t at (to_table t (names_at (behind tables number)) c w)

  to_twice : (number : ℕ) → StandsAgain (names_at tables) number → DeclarationSays tables (fault_at number TableTwice)
  to_twice number (name, later, at, lt, second) =
      let (t, there, same) = from_each_at (λ (u : TableDef). u.name) tables number name at in
      let more : is_among name (behind (names_at tables) number) ≡ true = from_again (names_at tables) number later name at lt second in
      to_tables number TableTwice t there
      (inr (inl (refl, (λ i. is_among (same i) (each_behind (λ (u : TableDef). u.name) tables number i)) ∙ more)))

  to_tests : (number : ℕ) (c : TableCause) → IsWrongAt tables number c → DeclarationSays tables (fault_at number c)
  to_tests number NoTable (same, none) = inl ((λ i. fault_at (same i) NoTable), is_over 1 (length tables) (omega (arith, none)))
  to_tests number TooManyTables (same, many) = inr (inl ((λ i. fault_at (same i) TooManyTables), is_over (length tables) max_tables many))
  to_tests number TableTwice w = to_twice number w
  to_tests number TableName w = to_inside number TableName w
  to_tests number KeyLength w = to_inside number KeyLength w
  to_tests number TooManyColumns w = to_inside number TooManyColumns w
  to_tests number TooManyIndexes w = to_inside number TooManyIndexes w
  to_tests number (Name place) w = to_inside number (Name place) w
  to_tests number (NameTwice place) w = to_inside number (NameTwice place) w
  to_tests number (ListLength index) w = to_inside number (ListLength index) w
  to_tests number (ListedTwice index place) w = to_inside number (ListedTwice index place) w
  to_tests number (NotAColumn index place) w = to_inside number (NotAColumn index place) w

  -- ---- the first

  as_finding : (found : Option TableFault) → Finds rank (IsFault tables) found → IsFinding tables found
  as_finding None none = none
  as_finding (Some fault) first = first

  pub finding : (found : Option TableFault) → found ≡ declaration_fault tables → IsFinding tables found
  finding found is =
      subst (IsFinding tables) (sym is)
      (
      as_finding (declaration_fault tables)
      (alike rank (declaration_fault tables) from_tests (λ f w. to_tests f.table f.cause w) (declaration_finds tables))
      )

-- ---- one alone

abbrev named : List ℕ → TableCause
named (place ∷ zero ∷ rest) = Name place
named (place ∷ suc more ∷ rest) = NameTwice place
named rest = TableName

abbrev indexed : List ℕ → TableCause
indexed (index ∷ zero ∷ rest) = ListLength index
indexed (index ∷ suc more ∷ place ∷ zero ∷ rest) = ListedTwice index place
indexed (index ∷ suc more ∷ place ∷ suc last ∷ rest) = NotAColumn index place
indexed rest = TableName

abbrev in_table : ℕ → List ℕ → TableCause
in_table zero rest = TableName
in_table (suc zero) rest = TableTwice
in_table (suc (suc zero)) rest = KeyLength
in_table (suc (suc (suc zero))) rest = TooManyColumns
in_table (suc (suc (suc (suc zero)))) rest = TooManyIndexes
in_table (suc (suc (suc (suc (suc zero))))) rest = named rest
in_table (suc (suc (suc (suc (suc (suc more)))))) rest = indexed rest

abbrev of_kind : ℕ → List ℕ → TableCause
of_kind zero rest = NoTable
of_kind (suc zero) rest = TooManyTables
of_kind (suc (suc more)) [] = TableName
of_kind (suc (suc more)) (kind ∷ rest) = in_table kind rest

-- the fault of a rank
abbrev ranked : List ℕ → TableFault
ranked (kind ∷ number ∷ rest) = fault_at number (of_kind kind rest)
ranked rest = fault_at 0 NoTable

its_rank : (number : ℕ) (c : TableCause) → ranked (rank (fault_at number c)) ≡ fault_at number c
its_rank number NoTable = refl
its_rank number TooManyTables = refl
its_rank number TableName = refl
its_rank number TableTwice = refl
its_rank number KeyLength = refl
its_rank number TooManyColumns = refl
its_rank number TooManyIndexes = refl
its_rank number (Name place) = refl
its_rank number (NameTwice place) = refl
its_rank number (ListLength index) = refl
its_rank number (ListedTwice index place) = refl
its_rank number (NotAColumn index place) = refl

one_first : (tables : List TableDef) (one other : TableFault) → IsFirstFault tables one → IsFirstFault tables other → one ≡ other
one_first tables one other p q =
    elim (one_before (rank one) (rank other)) [
      | inl before ↦ absurd (q.1 one before p.0)
      | inr more ↦ (elim more [
        | inl same ↦ sym (its_rank one.table one.cause) ∙ ap ranked same ∙ its_rank other.table other.cause
        | inr after ↦ absurd (p.1 other after q.0)
      ])
    ]

pub one_finding : (tables : List TableDef) (first second : Option TableFault) → IsFinding tables first → IsFinding tables second → first ≡ second
one_finding tables None None p q = refl
one_finding tables None (Some other) p q = absurd (p other q.0)
one_finding tables (Some one) None p q = absurd (q one p.0)
one_finding tables (Some one) (Some other) p q = ap Some (one_first tables one other p q)

pub or_lawful : (tables : List TableDef) (found : Option TableFault) → IsFinding tables found → MatchOption found (IsLawful tables) (λ _. ¬ (IsLawful tables))
or_lawful tables found is = decides tables found (one_finding tables found (declaration_fault tables) is (finding tables (declaration_fault tables) refl))
