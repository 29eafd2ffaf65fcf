-- What a change that takes an element out finds of it.
use Rattle.std.specs.Prelude.{◌≡◌, ◌≢◌, ℕ, List, Bool, true, false, not, is_some, if◌then◌else◌, Option, Some, None, IsSome, Contains, refl}
use Rattle.std.proofs.Common.{sym, ap, subst, ◌∙◌, inl, true≢false}
use Rattle.schema_version.specs.declared.element.ElementState.{ElementState}
use Rattle.schema_version.specs.declared.element.ElementState.TheVariants.{Absent, DeleteOnly, WriteOnly, Public}
use Rattle.schema_version.specs.declared.element.Way.{Way}
use Rattle.schema_version.specs.declared.element.Way.TheVariants.{Adding, Dropping}
use Rattle.schema_version.specs.declared.element.Kind.{Kind}
use Rattle.schema_version.specs.declared.element.Kind.TheVariants.{Index, Optional, Required}
use Rattle.schema_version.specs.declared.element.ElementDef.{ElementDef}
use Rattle.schema_version.specs.Version.{Version, element_at, is_index, is_column, is_public, type_of_kind}
use Rattle.schema_version.specs.Edges.{has_state, is_filled}
use Rattle.schema_version.specs.Sound.{IsSoundVersion}
use Rattle.schema_version.specs.Steps.{IsOrdered}
use Rattle.change_plan.proofs.MoveEffects.{not_both}
use Rattle.change_plan.specs.declared.change.Change.{Change}
use Rattle.change_plan.specs.declared.change.Change.TheVariants.{AddIndex, DropIndex, AddColumn, DropColumn, Abandon}
use Rattle.change_plan.specs.declared.fault.PlanFault.{PlanFault}
use Rattle.change_plan.specs.declared.fault.PlanFault.TheVariants.{Unknown, InChange}
use Rattle.change_plan.specs.declared.schedule.StatePath.{StatePath}
use Rattle.change_plan.specs.declared.schedule.StatePath.TheVariants.{FilledOut, PlainOut, DeleteOnlyBack, WriteOnlyBack}
use Rattle.change_plan.specs.Plans.{Drops}
use Rattle.change_plan.specs.Batches.{named, named_index, named_column, named_entering, is_adding, is_entering, if_entering, only_if, dropped_element, drops}
use Rattle.change_plan.specs.Refusals.{ChangeFault, IsPlannable, IsInChange}
use Rattle.change_plan.specs.Schedule.{steps, state_path_out, fresh_of}
use Rattle.change_plan.proofs.Named.{named_there, split_at, ordered, same_name_is, and_true}
use Rattle.change_plan.proofs.Bounds.{distance, moves_by, moves_out}
use Rattle.change_plan.proofs.Schedules.{At, is_in, suits, departure, element_of, here}

-- ---- what the refusals leave

pub public_if_not_in_change : (o : Option ElementDef) → ¬ (IsInChange o) → (e : ElementDef) → o ≡ Some e → e.state ≡ Public
public_if_not_in_change None h e is = absurd (not_both e None is refl)
public_if_not_in_change (Some f) h e is = let same : f ≡ e = cc in ap (λ (x : ElementDef). x.state) (sym same) ∙ stable f.state h
  where
    stable : (state : ElementState) → ¬ (state ≢ Public) → state ≡ Public
    stable Absent h = absurd (h (λ e. cc))
    stable DeleteOnly h = absurd (h (λ e. cc))
    stable WriteOnly h = absurd (h (λ e. cc))
    stable Public h = refl

-- of a test on the kind
pub only_if_there : (test : Kind → Bool) (o : Option ElementDef) (e : ElementDef) → only_if test o ≡ Some e → (o ≡ Some e) × (test e.kind ≡ true)
only_if_there test None e is = absurd (not_both e None is refl)
only_if_there test (Some f) e is = pick (test f.kind) refl
  where
    pick : (b : Bool) → test f.kind ≡ b → (Some f ≡ Some e) × (test e.kind ≡ true)
    pick true t =
        let found : Some f ≡ Some e = subst (λ b. (if b then Some f else None) ≡ Some e) t is in
        let same : f ≡ e = cc in
        (found, ap (λ (x : ElementDef). test x.kind) (sym same) ∙ t)
    pick false t = absurd (not_both e None (subst (λ b. (if b then Some f else None) ≡ Some e) t is) refl)

no_index : (kind : Kind) → is_column kind ≡ true → is_index kind ≡ false
no_index (Index columns) e = absurd (true≢false (sym e))
no_index (Optional type) e = refl
no_index (Required type fallback) e = refl

-- an index or a column by its name
pub index_there : (v : Version) → IsOrdered v → (table : ℕ) (name : List ℕ) (e : ElementDef) → named_index v table name ≡ Some e → (element_at v e.number ≡ Some e) × (e.table ≡ table) × (e.name ≡ name) × (is_index e.kind ≡ true)
index_there v numbered table name e found =
    let parts = only_if_there is_index (named v table name) e found in
    let there = named_there v numbered table name e parts.0 in
    (there.0, there.1, there.2, parts.1)

pub column_there : (v : Version) → IsOrdered v → (table : ℕ) (name : List ℕ) (e : ElementDef) → named_column v table name ≡ Some e → (element_at v e.number ≡ Some e) × (e.table ≡ table) × (e.name ≡ name) × (is_index e.kind ≡ false)
column_there v numbered table name e found =
    let parts = only_if_there is_column (named v table name) e found in
    let there = named_there v numbered table name e parts.0 in
    (there.0, there.1, there.2, no_index e.kind parts.1)

pub index_columns : (kind : Kind) → is_index kind ≡ true → (columns : _) × (kind ≡ Index columns)
index_columns (Index columns) e = (columns, refl)
index_columns (Optional type) e = absurd (true≢false (sym e))
index_columns (Required type fallback) e = absurd (true≢false (sym e))

pub column_type : (kind : Kind) → is_index kind ≡ false → (type : _) × (type_of_kind kind ≡ Some type)
column_type (Index columns) e = absurd (true≢false e)
column_type (Optional type) e = (type, refl)
column_type (Required type fallback) e = (type, refl)

pub has_type : (kind : Kind) (type : _) → type_of_kind kind ≡ Some type → is_index kind ≡ false
has_type (Index columns) type e = absurd (not_both type None e refl)
has_type (Optional own) type e = refl
has_type (Required own fallback) type e = refl

-- the way out of what is public, by whether a fill serves it
pub from_public : (filled : Bool) → (departure (if filled then FilledOut else PlainOut) ≡ At Public Adding) × (is_in (if filled then FilledOut else PlainOut) ≡ false)
from_public true = (refl, refl)
from_public false = (refl, refl)

suits_out : (kind : Kind) (filled : Bool) → is_filled kind ≡ filled → suits (if filled then FilledOut else PlainOut) kind ≡ true
suits_out kind true is = is
suits_out kind false is = ap not is

steps_out : (filled : Bool) (way : Way) → steps (if filled then FilledOut else PlainOut) ≡ moves_by filled Public way
steps_out true way = refl
steps_out false way = refl

pub none_if_not_some : {A : Type 0} (o : Option A) → ¬ (IsSome o) → o ≡ None
none_if_not_some None h = refl
none_if_not_some (Some x) h = absurd (h refl)

pub column_if : (kind : Kind) → is_index kind ≡ false → is_column kind ≡ true
column_if (Index columns) e = absurd (true≢false e)
column_if (Optional type) e = refl
column_if (Required type fallback) e = refl

-- ---- an element that is abandoned

-- of the test
pub if_entering_there : (o : Option ElementDef) (e : ElementDef) → if_entering o ≡ Some e → (o ≡ Some e) × (is_entering e ≡ true)
if_entering_there None e is = absurd (not_both e None is refl)
if_entering_there (Some f) e is = pick (is_entering f) refl
  where
    pick : (b : Bool) → is_entering f ≡ b → (Some f ≡ Some e) × (is_entering e ≡ true)
    pick true t =
        let found : Some f ≡ Some e = subst (λ b. (if b then Some f else None) ≡ Some e) t is in
        let same : f ≡ e = cc in
        (found, ap is_entering (sym same) ∙ t)
    pick false t = absurd (not_both e None (subst (λ b. (if b then Some f else None) ≡ Some e) t is) refl)

way_is : (way : Way) → is_adding way ≡ true → way ≡ Adding
way_is Adding t = refl
way_is Dropping t = absurd (true≢false (sym t))

-- it is being added, and isn't public
pub entering_there : (v : Version) → IsOrdered v → (table : ℕ) (name : List ℕ) (e : ElementDef) → named_entering v table name ≡ Some e → (element_at v e.number ≡ Some e) × (e.table ≡ table) × (e.name ≡ name) × (e.way ≡ Adding) × (e.state ≢ Public)
entering_there v numbered table name e found =
    let parts = if_entering_there (named v table name) e found in
    let there = named_there v numbered table name e parts.0 in
    let tests = and_true (is_adding e.way) (not (is_public e.state)) parts.1 in
    (there.0, there.1, there.2, way_is e.way tests.0, λ public. true≢false (sym tests.1 ∙ ap (λ s. not (is_public s)) public))

-- ---- an element that leaves

pub record Departs (old : Version) (change : Change) (e : ElementDef) : Type 0 where
  pub there : element_at old e.number ≡ Some e
  pub stands : here e.number (fresh_of e) (departure (state_path_out e.kind e.state)) ≡ Some e
  pub out : is_in (state_path_out e.kind e.state) ≡ false
  pub fits : suits (state_path_out e.kind e.state) e.kind ≡ true
  pub moves : steps (state_path_out e.kind e.state) ≡ distance (Some e)
  pub taken : Drops e change
  pub is_named : drops e.table e.name change ≡ true

at_stop : (e : ElementDef) (state : ElementState) (way : Way) → e.state ≡ state → e.way ≡ way → here e.number (fresh_of e) (At state way) ≡ Some e
at_stop e state way s w = sym (ap (λ x. Some (element_of e.number (fresh_of e) x e.way)) s ∙ ap (λ y. Some (element_of e.number (fresh_of e) state y)) w)

module _ (old : Version) (sound : IsSoundVersion old) (all : List Change) (plannable : IsPlannable old all) where
  pub clear : (change : Change) → Contains all change → (fault : PlanFault) → ((earlier : List Change) → ChangeFault old all earlier change fault) → ⊥
  clear change has fault faulty = let split = split_at all change has in plannable split.0 split.1 change fault split.2 (faulty split.0)

  -- one that is public takes the whole way
  public_departs : (change : Change) (e : ElementDef) → element_at old e.number ≡ Some e → e.state ≡ Public → Drops e change → drops e.table e.name change ≡ true → Departs old change e
  public_departs change e there state taken is_named = record {
    there = there;
    stands = ap (λ c. here e.number (fresh_of e) (departure c)) state_path ∙ ap (here e.number (fresh_of e)) (from_public (is_filled e.kind)).0 ∙ at_stop e Public Adding state ((sound.elements e.number e there).way state);
    out = ap is_in state_path ∙ (from_public (is_filled e.kind)).1;
    fits = ap (λ c. suits c e.kind) state_path ∙ suits_out e.kind (is_filled e.kind) refl;
    moves = ap steps state_path ∙ steps_out (is_filled e.kind) e.way ∙ sym (ap (λ s. moves_out e.kind s e.way) state);
    taken = taken;
    is_named = is_named;
  }
    where
      state_path : state_path_out e.kind e.state ≡ (if is_filled e.kind then FilledOut else PlainOut)
      state_path = ap (state_path_out e.kind) state

  index_departs : (table : ℕ) (name : List ℕ) → Contains all (DropIndex table name) → (e : ElementDef) → named_index old table name ≡ Some e → Departs old (DropIndex table name) e
  index_departs table name has e found =
      let there = index_there old (ordered sound) table name e found in
      let columns = index_columns e.kind there.3 in
      public_departs (DropIndex table name) e there.0 (public_if_not_in_change (named_index old table name) (λ t. clear (DropIndex table name) has InChange (λ earlier. t)) e found)
      (columns.0, there.1, there.2, columns.1) (same_name_is e.table table e.name name there.1 there.2)

  column_departs : (table : ℕ) (name : List ℕ) → Contains all (DropColumn table name) → (e : ElementDef) → named_column old table name ≡ Some e → Departs old (DropColumn table name) e
  column_departs table name has e found =
      let there = column_there old (ordered sound) table name e found in
      let type = column_type e.kind there.3 in
      public_departs (DropColumn table name) e there.0 (public_if_not_in_change (named_column old table name) (λ t. clear (DropColumn table name) has InChange (λ earlier. t)) e found)
      (type.0, there.1, there.2, type.1) (same_name_is e.table table e.name name there.1 there.2)

  abandon_departs : (table : ℕ) (name : List ℕ) → (e : ElementDef) → named_entering old table name ≡ Some e → Departs old (Abandon table name) e
  abandon_departs table name e found = pick e.state refl
    where
      there : (element_at old e.number ≡ Some e) × (e.table ≡ table) × (e.name ≡ name) × (e.way ≡ Adding) × (e.state ≢ Public)
      there = entering_there old (ordered sound) table name e found

      goes : (state : ElementState) (state_path : StatePath) → e.state ≡ state → state_path_out e.kind e.state ≡ state_path → departure state_path ≡ At state Adding → is_in state_path ≡ false → suits state_path e.kind ≡ true → steps state_path ≡ moves_out e.kind state Adding → Departs old (Abandon table name) e
      goes state state_path is state_path_is start out fits moves = record {
        there = there.0;
        stands = ap (λ c. here e.number (fresh_of e) (departure c)) state_path_is ∙ ap (here e.number (fresh_of e)) start ∙ at_stop e state Adding is there.3;
        out = ap is_in state_path_is ∙ out;
        fits = ap (λ c. suits c e.kind) state_path_is ∙ fits;
        moves = ap steps state_path_is ∙ moves ∙ sym (ap (λ s. moves_out e.kind s e.way) is ∙ ap (moves_out e.kind state) there.3);
        taken = (there.1, there.2);
        is_named = same_name_is e.table table e.name name there.1 there.2;
      }

      pick : (state : ElementState) → e.state ≡ state → Departs old (Abandon table name) e
      pick Absent is = absurd ((sound.elements e.number e there.0).live is)
      pick DeleteOnly is = goes DeleteOnly DeleteOnlyBack is (ap (state_path_out e.kind) is) refl refl refl refl
      pick WriteOnly is = goes WriteOnly WriteOnlyBack is (ap (state_path_out e.kind) is) refl refl (ap (has_state e.kind) (sym is) ∙ (sound.elements e.number e there.0).possible) refl
      pick Public is = absurd (there.4 is)

  -- what the batch abandons by its name
  pub abandoned : (table : ℕ) (name : List ℕ) → Contains all (Abandon table name) → (e : ElementDef) → named old table name ≡ Some e → named_entering old table name ≡ Some e
  abandoned table name has e found = pick (named_entering old table name) refl
    where
      pick : (o : Option ElementDef) → named_entering old table name ≡ o → named_entering old table name ≡ Some e
      pick None none = absurd (clear (Abandon table name) has Unknown (λ earlier. inl (ap is_some none)))
      pick (Some f) is =
          let same : Some f ≡ Some e = sym (if_entering_there (named old table name) f is).0 ∙ found in
          is ∙ same

  pub departs : (change : Change) → Contains all change → (e : ElementDef) → dropped_element old change ≡ Some e → Departs old change e
  departs (AddIndex table name columns) has e is = absurd (not_both e None is refl)
  departs (DropIndex table name) has e is = index_departs table name has e is
  departs (AddColumn table name kind) has e is = absurd (not_both e None is refl)
  departs (DropColumn table name) has e is = column_departs table name has e is
  departs (Abandon table name) has e is = abandon_departs table name e is
