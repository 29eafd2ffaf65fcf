-- A query has at most one refusal, and none if nothing is wrong with it.
use Rattle.std.proofs.Common.{◌≡◌, ◌++◌, ℕ, false, List, [], ◌∷◌, Some, refl, sym, ap, subst, ◌∙◌, arith, is_some}
use Rattle.std.specs.List.{AllByRecursion}
use Rattle.collections.specs.Refusal.{IsFirst, IsClear}
use Rattle.schema_version.specs.Version.{Version, Table, table_at}
use Rattle.schema_version.proofs.Lists.{some_same, not_both}
use Rattle.row_query.specs.declared.fault.QueryFault.{QueryFault}
use Rattle.row_query.specs.declared.fault.QueryFault.TheVariants.{NoTable, NotPublic, WrongType, Memory}
use Rattle.row_query.specs.declared.query.Cond.TheVariants.{Key, Equal, Between}
use Rattle.row_query.specs.declared.query.Query.{Query}
use Rattle.row_query.specs.Refused.{Part, Named, Where, parts, PartFault, rank, IsFirstPartFault, IsRefused, IsSound}

heads : {X : Type 0} {x y : X} {xs ys : List X} → x ∷ xs ≡ y ∷ ys → (x ≡ y) × (xs ≡ ys)
heads e = (cc, cc)

module _ (v : Version) (number : ℕ) (table : Table) where
  abbrev Fault : Part → QueryFault → Type 0
  Fault part fault = PartFault v number table part fault

  no_table : {A : Type 0} (part : Part) → Fault part NoTable → A
  no_table (Named c) h = absurd h
  no_table (Where (Key key)) h = absurd h
  no_table (Where (Equal column value)) h = absurd h
  no_table (Where (Between column low high)) h = absurd h

  no_memory : {A : Type 0} (part : Part) → Fault part Memory → A
  no_memory (Named c) h = absurd h
  no_memory (Where (Key key)) h = absurd h
  no_memory (Where (Equal column value)) h = absurd h
  no_memory (Where (Between column low high)) h = absurd h

  same_column : (part : Part) (a b : ℕ) → Fault part (NotPublic a) → Fault part (NotPublic b) → a ≡ b
  same_column (Named c) a b h k = h.0 ∙ sym k.0
  same_column (Where (Key key)) a b h k = absurd h
  same_column (Where (Equal column value)) a b h k = h.0 ∙ sym k.0
  same_column (Where (Between column low high)) a b h k = h.0 ∙ sym k.0

  -- the lowest fault of a part is one
  one_lowest : (part : Part) (f g : QueryFault) → IsFirst rank (Fault part) f → IsFirst rank (Fault part) g → f ≡ g
  one_lowest part NoTable g h k = no_table part h.0
  one_lowest part (NotPublic a) NoTable h k = no_table part k.0
  one_lowest part (NotPublic a) (NotPublic b) h k = ap NotPublic (same_column part a b h.0 k.0)
  one_lowest part (NotPublic a) WrongType h k = absurd (k.1 (NotPublic a) (omega arith) h.0)
  one_lowest part (NotPublic a) Memory h k = no_memory part k.0
  one_lowest part WrongType NoTable h k = no_table part k.0
  one_lowest part WrongType (NotPublic b) h k = absurd (h.1 (NotPublic b) (omega arith) k.0)
  one_lowest part WrongType WrongType h k = refl
  one_lowest part WrongType Memory h k = no_memory part k.0
  one_lowest part Memory g h k = no_memory part h.0

  abbrev AreClear : List Part → Type 0
  AreClear = AllByRecursion (λ part. IsClear (Fault part))

  -- the first faulty part is one, however it is found
  one_first : (b c x y : List Part) (p q : Part) (f g : QueryFault) → b ++ p ∷ x ≡ c ++ q ∷ y → IsFirst rank (Fault p) f → IsFirst rank (Fault q) g → AreClear b → AreClear c → f ≡ g
  one_first [] [] x y p q f g e i j b c = one_lowest q f g (subst (λ o. IsFirst rank (Fault o) f) (heads e).0 i) j
  one_first [] (d ∷ cs) x y p q f g e i j b c = absurd (c.0 f (subst (λ o. Fault o f) (heads e).0 i.0))
  one_first (d ∷ bs) [] x y p q f g e i j b c = absurd (b.0 g (subst (λ o. Fault o g) (sym (heads e).0) j.0))
  one_first (d ∷ bs) (h ∷ cs) x y p q f g e i j b c = one_first bs cs x y p q f g (heads e).1 i j b.1 c.1

  one_part : (all : List Part) (f g : QueryFault) → IsFirstPartFault v number table all f → IsFirstPartFault v number table all g → f ≡ g
  one_part all f g (b, x, p, e, i, bs) (c, y, q, d, j, cs) = one_first b c x y p q f g (sym e ∙ d) i j bs cs

  clear_in : (before after : List Part) (part : Part) → AreClear (before ++ part ∷ after) → IsClear (Fault part)
  clear_in [] after part all = all.0
  clear_in (b ∷ before) after part all = clear_in before after part all.1

  no_first : (all : List Part) (f : QueryFault) → AreClear all → ¬ (IsFirstPartFault v number table all f)
  no_first all f clear (b, x, p, e, i, bs) = clear_in b x p (subst AreClear e clear) f i.0

abbrev IsAtPart : Version → Query → QueryFault → Type 0
IsAtPart v query fault = (table : Table) × (table_at v query.table ≡ Some table) × IsFirstPartFault v query.table table (parts query) fault

lacks : {A : Type 0} (v : Version) (query : Query) (fault : QueryFault) → is_some (table_at v query.table) ≡ false → IsAtPart v query fault → A
lacks v query fault none h = absurd (not_both (ap is_some h.1) none)

one_at_part : (v : Version) (query : Query) (f g : QueryFault) → IsAtPart v query f → IsAtPart v query g → f ≡ g
one_at_part v query f g h k = one_part v query.table h.0 (parts query) f g h.2 (subst (λ t. IsFirstPartFault v query.table t (parts query) g) (some_same (sym k.1 ∙ h.1)) k.2)

pub only_one : (v : Version) (query : Query) (f g : QueryFault) → IsRefused v query f → IsRefused v query g → f ≡ g
only_one v query NoTable NoTable h k = refl
only_one v query NoTable (NotPublic b) h k = lacks v query (NotPublic b) h k
only_one v query NoTable WrongType h k = lacks v query WrongType h k
only_one v query NoTable Memory h k = lacks v query Memory h k
only_one v query (NotPublic a) NoTable h k = lacks v query (NotPublic a) k h
only_one v query (NotPublic a) (NotPublic b) h k = one_at_part v query (NotPublic a) (NotPublic b) h k
only_one v query (NotPublic a) WrongType h k = one_at_part v query (NotPublic a) WrongType h k
only_one v query (NotPublic a) Memory h k = one_at_part v query (NotPublic a) Memory h k
only_one v query WrongType NoTable h k = lacks v query WrongType k h
only_one v query WrongType (NotPublic b) h k = one_at_part v query WrongType (NotPublic b) h k
only_one v query WrongType WrongType h k = refl
only_one v query WrongType Memory h k = one_at_part v query WrongType Memory h k
only_one v query Memory NoTable h k = lacks v query Memory k h
only_one v query Memory (NotPublic b) h k = one_at_part v query Memory (NotPublic b) h k
only_one v query Memory WrongType h k = one_at_part v query Memory WrongType h k
only_one v query Memory Memory h k = refl

no_part : (v : Version) (query : Query) → IsSound v query → (fault : QueryFault) → ¬ (IsAtPart v query fault)
no_part v query sound fault h = no_first v query.table sound.table (parts query) fault sound.clear (subst (λ t. IsFirstPartFault v query.table t (parts query) fault) (some_same (sym h.1 ∙ sound.known)) h.2)

pub sound_clear : (v : Version) (query : Query) → IsSound v query → IsClear (IsRefused v query)
sound_clear v query sound NoTable h = not_both (ap is_some sound.known) h
sound_clear v query sound (NotPublic column) h = no_part v query sound (NotPublic column) h
sound_clear v query sound WrongType h = no_part v query sound WrongType h
sound_clear v query sound Memory h = no_part v query sound Memory h
