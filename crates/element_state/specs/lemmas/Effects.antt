-- Cited by proofs and by the specs that need them: Tables, RequiredLaws, ColumnLaws, ExistsLaws and 1 more.
-- What a kind of element shows of its writes, key by key, and the laws that follow for any kind.
use Rattle.std.specs.Prelude.{◌≡◌, false, ◌≢◌, ◌⊎◌, IsTrue, [], Option, Some, None, refl}
use Rattle.std.specs.FinMap.{get}
use Rattle.std.proofs.Common.{sym, ap, subst, ◌∙◌, inl, inr}
use Rattle.keycode.proofs.Orders.{bytes_cmp_total, bytes_cmp-IsAntisymmetric}
use Rattle.row_map.specs.Rows.{Bytes, RowKey, Cells, Rows, Pairs, IsStorableRow, AreStorable}
use Rattle.row_map.specs.Writes.{written, written_all, AllKeys}
use Rattle.row_map.proofs.Orders.{row_cmp_total, row_cmp-IsAntisymmetric}
use Rattle.byte_map.proofs.Written.{same_or_apart, written_here, written_apart}
use Rattle.schema_version.specs.declared.element.ElementState.{ElementState}
use Rattle.schema_version.specs.declared.element.ElementState.TheVariants.{Absent, DeleteOnly, WriteOnly, Public}
use Rattle.element_state.specs.Elements.{Alike, Change, rows_after, Fits, ChangesPublicOnly, IsStorableNew, IsStorableChange, owner, IsKeyOfElement, Meaning, IsFromScratch, Subset, CoveredAt, Exact, Empty, Demand}
use Rattle.element_state.specs.Laws.{pairs_after, Operates, Grows, IsLive, Laws, Joined, BesideOne}
use Rattle.element_state.specs.lemmas.Apart.{not_none, some_one}

pub bytes_one : (x y : Bytes) → (x ≡ y) ⊎ (x ≢ y)
bytes_one x y = same_or_apart bytes_cmp_total bytes_cmp-IsAntisymmetric x y

pub pair_here : (P : Pairs) (k : Bytes) (w : Option Bytes) → get (written P k w) k ≡ w
pair_here P k w = written_here bytes_cmp_total bytes_cmp-IsAntisymmetric P k w

pub pair_apart : (P : Pairs) (k : Bytes) (w : Option Bytes) (q : Bytes) → q ≢ k → get (written P k w) q ≡ get P q
pair_apart P k w q ne = written_apart bytes_cmp_total bytes_cmp-IsAntisymmetric P k w q ne

pub row_here : (R : Rows) (c : Change) → get (rows_after R c) c.key ≡ c.new
row_here R c = written_here row_cmp_total row_cmp-IsAntisymmetric R c.key c.new

pub row_apart : (R : Rows) (c : Change) (k : RowKey) → k ≢ c.key → get (rows_after R c) k ≡ get R k
row_apart R c k ne = written_apart row_cmp_total row_cmp-IsAntisymmetric R c.key c.new k ne

pub key_one : (x y : RowKey) → (x ≡ y) ⊎ (x ≢ y)
key_one x y = same_or_apart row_cmp_total row_cmp-IsAntisymmetric x y

module _ (m : Meaning) (c : Change) where
  -- the new row has the old row's pair
  pub record Same (o : Cells) : Type 0 where
    pub cells : Cells
    pub new_is : c.new ≡ Some cells
    pub same_key : m.pair_key c.key cells ≡ m.pair_key c.key o
    pub same_value : m.pair_value c.key cells ≡ m.pair_value c.key o

  -- what an operation does at one key
  pub data Effect (P Q : Pairs) (x : Bytes) : Type 0 where
    Stays : get Q x ≡ get P x → ((o : Cells) (w : Bytes) → c.old ≡ Some o → m.pair_key c.key o ≡ x → m.pair_value c.key o ≡ Some w → Same o) → Effect P Q x
    Gone : (o : Cells) → IsTrue (m.serves c.key.0) → c.old ≡ Some o → m.pair_key c.key o ≡ x → get Q x ≡ None → Effect P Q x
    Came : (r : Cells) (v : Bytes) → c.new ≡ Some r → m.pair_key c.key r ≡ x → m.pair_value c.key r ≡ Some v → get Q x ≡ Some v → Effect P Q x

-- the pairs of different rows have different keys
abbrev pub HasOneRow : Meaning → Type 0
HasOneRow m = (k l : RowKey) (r s : Cells) → IsStorableRow k r → IsStorableRow l s → IsTrue (m.serves k.0) → IsTrue (m.serves l.0) → m.pair_key k r ≡ m.pair_key l s → k ≡ l

-- only the rows of its tables have pairs
abbrev pub IsServed : Meaning → Type 0
IsServed m = (k : RowKey) (r : Cells) (v : Bytes) → m.pair_value k r ≡ Some v → IsTrue (m.serves k.0)

-- what each kind shows by cases
pub record KindFacts (m : Meaning) : Type 0 where
  pub owned : (k : RowKey) (r : Cells) → IsStorableRow k r → IsKeyOfElement m.number (m.pair_key k r)
  pub writes_owned : (q : ElementState) (c : Change) → IsStorableChange c → AllKeys (IsKeyOfElement m.number) (m.writes q c)
  pub absent : (c : Change) → m.writes Absent c ≡ []
  pub same_writes : (q : ElementState) (c d : Change) → c.key ≡ d.key → Alike (m.sees q) c.old d.old → Alike (m.sees q) c.new d.new → m.writes q c ≡ m.writes q d
  pub effect : (q : ElementState) (c : Change) (P : Pairs) → IsLive q → ChangesPublicOnly m.number q c → (x : Bytes) → Effect m c P (pairs_after m q c P) x
  pub stands : (q : ElementState) (c : Change) (P : Pairs) → IsTrue (m.exact q) → ChangesPublicOnly m.number q c
      → ((o : Cells) (w : Bytes) → c.old ≡ Some o → m.pair_value c.key o ≡ Some w → get P (m.pair_key c.key o) ≡ Some w)
      → (r : Cells) (v : Bytes) → c.new ≡ Some r → m.pair_value c.key r ≡ Some v → get (pairs_after m q c P) (m.pair_key c.key r) ≡ Some v
  pub no_growth : (q : ElementState) (c : Change) (P : Pairs) → ¬ (Grows q) → (x v : Bytes) → get (pairs_after m q c P) x ≡ Some v → get P x ≡ Some v
  pub exact_is_live : (q : ElementState) → IsTrue (m.exact q) → IsLive q
  pub exact_public : IsTrue (m.exact Public)
  pub exact_where_grows : (q : ElementState) → IsTrue m.filled → Grows q → IsTrue (m.exact q)
  pub no_pair : m.filled ≡ false → (k : RowKey) (r : Cells) → get r m.number ≡ None → m.pair_value k r ≡ None
  pub beside : (p q : ElementState) → IsTrue (m.edge p q) → BesideOne m p q × BesideOne m q p

pub none_where : {A : Type 0} (o : Option A) → ((v : A) → o ≡ Some v → ⊥) → o ≡ None
none_where None h = refl
none_where (Some v) h = absurd (h v refl)

-- a from-scratch pair of the old rows that the operation leaves is one of the new rows
stands_still : (m : Meaning) (c : Change) (R : Rows) (x v : Bytes) → Fits R c → ((o : Cells) (w : Bytes) → c.old ≡ Some o → m.pair_key c.key o ≡ x → m.pair_value c.key o ≡ Some w → Same m c o) → IsFromScratch m R x v → IsFromScratch m (rows_after R c) x v
stands_still m c R x v fits same s = elim (key_one s.key c.key) [
  | inl e ↦
      let was : c.old ≡ Some s.cells = sym fits ∙ ap (get R) (sym e) ∙ s.there in
      let k : m.pair_key c.key s.cells ≡ x = ap (λ y. m.pair_key y s.cells) (sym e) ∙ s.key_is in
      let val : m.pair_value c.key s.cells ≡ Some v = ap (λ y. m.pair_value y s.cells) (sym e) ∙ s.value_is in
      let n : Same m c s.cells = same s.cells v was k val in
      record {
        key = c.key;
        cells = n.cells;
        there = row_here R c ∙ n.new_is;
        key_is = n.same_key ∙ k;
        value_is = n.same_value ∙ val;
      }
  | inr ne ↦ record { key = s.key; cells = s.cells; there = row_apart R c s.key ne ∙ s.there; key_is = s.key_is; value_is = s.value_is }
]

subset_at : (m : Meaning) (c : Change) (P Q : Pairs) (R : Rows) (x v : Bytes) → Fits R c → Subset m P R → owner x ≡ Some m.number → get Q x ≡ Some v → Effect m c P Q x → IsFromScratch m (rows_after R c) x v
subset_at m c P Q R x v fits sub own is (Stays e same) = stands_still m c R x v fits same (sub x v own (sym e ∙ is))
subset_at m c P Q R x v fits sub own is (Gone o own_table was k none) = absurd (not_none v (get Q x) is none)
subset_at m c P Q R x v fits sub own is (Came r w new k val e) =
    let both : Some w ≡ Some v = sym e ∙ is in
    record { key = c.key; cells = r; there = row_here R c ∙ new; key_is = k; value_is = val ∙ both }

-- the pair of a row that the operation isn't on stays as it was
other_row : (m : Meaning) → HasOneRow m → IsServed m → (c : Change) → IsStorableChange c → (P Q : Pairs) (k : RowKey) (s : Cells) (v x : Bytes) → IsStorableRow k s → k ≢ c.key → m.pair_key k s ≡ x → m.pair_value k s ≡ Some v → Effect m c P Q x → get Q x ≡ get P x
other_row m one served c both P Q k s v x held ne at val (Stays e same) = e
other_row m one served c both P Q k s v x held ne at val (Gone o table was y none) = absurd (ne (one k c.key s o held (both.before o was) (served k s v val) table (at ∙ sym y)))
other_row m one served c both P Q k s v x held ne at val (Came r w new y is e) = absurd (ne (one k c.key s r held (both.after r new) (served k s v val) (served c.key r w is) (at ∙ sym y)))

-- what an operation changes are rows that are there and rows that may be
pub both_storable : (R : Rows) (c : Change) → Fits R c → AreStorable R → IsStorableNew c → IsStorableChange c
both_storable R c fits before after = record { before = λ r was. before c.key r (fits ∙ was); after = after }

-- the rows stay such
pub storable_after : (R : Rows) (c : Change) → AreStorable R → IsStorableNew c → AreStorable (rows_after R c)
storable_after R c before after k r at = elim (key_one k c.key) [
  | inl e ↦ subst (λ y. IsStorableRow y r) (sym e) (after r (sym (row_here R c) ∙ ap (get (rows_after R c)) (sym e) ∙ at))
  | inr ne ↦ before k r (sym (row_apart R c k ne) ∙ at)
]

module _ (m : Meaning) (one : HasOneRow m) (served : IsServed m) (f : KindFacts m) where
  pub subset_kept : (q : ElementState) (c : Change) (P : Pairs) (R : Rows) → IsLive q → Operates m q R c → Subset m P R → Subset m (pairs_after m q c P) (rows_after R c)
  subset_kept q c P R live op sub x v own is = subset_at m c P _ R x v op.fits sub own is (f.effect q c P live op.public_only x)

  pub covered_kept : (q : ElementState) (c : Change) (P : Pairs) (R : Rows) → IsTrue (m.exact q) → Operates m q R c → (k : RowKey) → CoveredAt m P R k → CoveredAt m (pairs_after m q c P) (rows_after R c) k
  covered_kept q c P R ex op k cov r v at val = elim (key_one k c.key) [
    | inl e ↦
        let new : c.new ≡ Some r = sym (row_here R c) ∙ ap (get (rows_after R c)) (sym e) ∙ at in
        let val_c : m.pair_value c.key r ≡ Some v = ap (λ y. m.pair_value y r) (sym e) ∙ val in
        let old_stands : (o : Cells) (w : Bytes) → c.old ≡ Some o → m.pair_value c.key o ≡ Some w → get P (m.pair_key c.key o) ≡ Some w
        = λ o w was ov. ap (λ y. get P (m.pair_key y o)) (sym e) ∙ cov o w (ap (get R) e ∙ op.fits ∙ was) (ap (λ y. m.pair_value y o) e ∙ ov) in
        ap (λ y. get (pairs_after m q c P) (m.pair_key y r)) e ∙ f.stands q c P ex op.public_only old_stands r v new val_c
    | inr ne ↦
        let was : get R k ≡ Some r = sym (row_apart R c k ne) ∙ at in
        other_row m one served c (both_storable R c op.fits op.before op.after) P _ k r v _ (op.before k r was) ne refl val (f.effect q c P (f.exact_is_live q ex) op.public_only (m.pair_key k r))
        ∙ cov r v was val
  ]

  pub exact_kept : (q : ElementState) (c : Change) (P : Pairs) (R : Rows) → IsTrue (m.exact q) → Operates m q R c → Exact m P R → Exact m (pairs_after m q c P) (rows_after R c)
  exact_kept q c P R ex op h = record {
    subset = subset_kept q c P R (f.exact_is_live q ex) op h.subset;
    covered = λ k. covered_kept q c P R ex op k (h.covered k);
  }

  pub empty_kept : (q : ElementState) (c : Change) (P : Pairs) → ¬ (Grows q) → Empty m.number P → Empty m.number (pairs_after m q c P)
  empty_kept q c P shrinks none x own = none_where (get (pairs_after m q c P) x) (λ v is. not_none v (get P x) (f.no_growth q c P shrinks x v is) (none x own))

  -- where nothing is written, an absent element stays empty, and a subset of what is built from scratch
  absent_same : (c : Change) (P : Pairs) → pairs_after m Absent c P ≡ P
  absent_same c P = ap (written_all P) (f.absent c)

  pub one_kept : (p u : ElementState) (c : Change) (P : Pairs) (R : Rows) → BesideOne m p u → Operates m u R c → Demand m p P R → Demand m u P R → Demand m p (pairs_after m u c P) (rows_after R c)
  one_kept Absent u c P R b op d e = empty_kept u c P b d
  one_kept Public u c P R b op d e = exact_kept u c P R b op d
  one_kept DeleteOnly Absent c P R b op d e = λ x v own is. absurd (not_none v (get (pairs_after m Absent c P) x) is (empty_kept Absent c P (λ g. g) e x own))
  one_kept DeleteOnly DeleteOnly c P R b op d e = subset_kept DeleteOnly c P R tt op d
  one_kept DeleteOnly WriteOnly c P R b op d e = subset_kept WriteOnly c P R tt op d
  one_kept DeleteOnly Public c P R b op d e = subset_kept Public c P R tt op d
  one_kept WriteOnly Absent c P R b op d e = λ x v own is. absurd (not_none v (get (pairs_after m Absent c P) x) is (empty_kept Absent c P (λ g. g) e x own))
  one_kept WriteOnly DeleteOnly c P R b op d e = subset_kept DeleteOnly c P R tt op d
  one_kept WriteOnly WriteOnly c P R b op d e = subset_kept WriteOnly c P R tt op d
  one_kept WriteOnly Public c P R b op d e = subset_kept Public c P R tt op d

  beside_itself : (p : ElementState) → BesideOne m p p
  beside_itself Absent = λ g. g
  beside_itself DeleteOnly = tt
  beside_itself WriteOnly = tt
  beside_itself Public = f.exact_public

  pub beside_joined : (p q : ElementState) → Joined m p q → BesideOne m p q × BesideOne m q p
  beside_joined p q (inl e) = (subst (BesideOne m p) e (beside_itself p), subst (λ u. BesideOne m u p) e (beside_itself p))
  beside_joined p q (inr e) = f.beside p q e

  pub two_kept : (p q u : ElementState) → Joined m p q → (u ≡ p) ⊎ (u ≡ q) → (c : Change) (P : Pairs) (R : Rows) → Operates m u R c → Demand m p P R → Demand m q P R
      → Demand m p (pairs_after m u c P) (rows_after R c) × Demand m q (pairs_after m u c P) (rows_after R c)
  two_kept p q u j (inl e) c P R op d g =
      let b = beside_joined p q j in
      let du : Demand m u P R = subst (λ y. Demand m y P R) (sym e) d in
      (one_kept p u c P R (subst (BesideOne m p) (sym e) (beside_itself p)) op d du, one_kept q u c P R (subst (BesideOne m q) (sym e) b.1) op g du)
  two_kept p q u j (inr e) c P R op d g =
      let b = beside_joined p q j in
      let du : Demand m u P R = subst (λ y. Demand m y P R) (sym e) g in
      (one_kept p u c P R (subst (BesideOne m p) (sym e) b.0) op d du, one_kept q u c P R (subst (BesideOne m q) (sym e) (beside_itself q)) op g du)

  -- a pair from scratch is put
  pub fill_subset : (P : Pairs) (R : Rows) (k : RowKey) (r : Cells) (w : Bytes) → get R k ≡ Some r → m.pair_value k r ≡ Some w → Subset m P R → Subset m (written P (m.pair_key k r) (Some w)) R
  fill_subset P R k r w at val sub x v own is = elim (bytes_one x (m.pair_key k r)) [
    | inl e ↦ record { key = k; cells = r; there = at; key_is = sym e; value_is = val ∙ sym (pair_here P (m.pair_key k r) (Some w)) ∙ ap (get (written P (m.pair_key k r) (Some w))) (sym e) ∙ is }
    | inr ne ↦ sub x v own (sym (pair_apart P (m.pair_key k r) (Some w) x ne) ∙ is)
  ]

  pub fill_covers : (P : Pairs) (R : Rows) (k : RowKey) (r : Cells) (w : Bytes) → get R k ≡ Some r → m.pair_value k r ≡ Some w → CoveredAt m (written P (m.pair_key k r) (Some w)) R k
  fill_covers P R k r w at val s v is sval =
      let e : Some r ≡ Some s = sym at ∙ is in
      let same : r ≡ s = some_one r s e in
      ap (λ y. get (written P (m.pair_key k r) (Some w)) (m.pair_key k y)) (sym same) ∙ pair_here P (m.pair_key k r) (Some w) ∙ sym val ∙ ap (m.pair_value k) same ∙ sval

  pub fill_keeps : (P : Pairs) (R : Rows) → AreStorable R → (k : RowKey) (r : Cells) (w : Bytes) → get R k ≡ Some r → m.pair_value k r ≡ Some w → (l : RowKey) → CoveredAt m P R l → CoveredAt m (written P (m.pair_key k r) (Some w)) R l
  fill_keeps P R held k r w at val l cov = elim (key_one l k) [
    | inl e ↦ subst (CoveredAt m (written P (m.pair_key k r) (Some w)) R) (sym e) (fill_covers P R k r w at val)
    | inr ne ↦ λ s v is sval. pair_apart P (m.pair_key k r) (Some w) (m.pair_key l s) (λ y. ne (one l k s r (held l s is) (held k r at) (served l s v sval) (served k r w val) y)) ∙ cov s v is sval
  ]

  pub laws_from_facts : Laws m
  laws_from_facts = record {
    one_row = one;
    served = served;
    owned = f.owned;
    writes_owned = f.writes_owned;
    absent = f.absent;
    same_writes = f.same_writes;
    subset = subset_kept;
    exact = exact_kept;
    no_growth = f.no_growth;
    cover = λ q c P R fills g op k cov. covered_kept q c P R (f.exact_where_grows q fills g) op k cov;
    two_versions = two_kept;
    fill_subset = fill_subset;
    fill_covers = fill_covers;
    fill_keeps = fill_keeps;
    no_pair = f.no_pair;
    public_exact = f.exact_public;
  }
