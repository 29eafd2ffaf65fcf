-- A plan needs at least as many steps as its elements have moves, one after another.
use Rattle.std.specs.Prelude.{◌≡◌, ℕ, zero, suc, ◌+◌, ◌<◌, ◌≤◌, List, [], ◌∷◌, length, Bool, true, false, ◌||◌, not, Option, Some, None, Contains, refl}
use Rattle.std.proofs.Common.{sym, ap, subst, ◌∙◌, inl, inr, true≢false, arith}
use Rattle.std.proofs.lemmas.Bool.{cases_lt}
use Rattle.std.proofs.lemmas.List.Elements.{All-contains}
use Rattle.std.proofs.lemmas.List.Elements.{All-from_recursion}
use Rattle.schema_version.specs.declared.element.ElementState.{ElementState}
use Rattle.schema_version.specs.declared.element.ElementState.TheVariants.{Absent, DeleteOnly, WriteOnly, Public}
use Rattle.schema_version.specs.declared.element.Way.{Way}
use Rattle.schema_version.specs.declared.element.Way.TheVariants.{Adding, Dropping}
use Rattle.schema_version.specs.declared.element.Kind.{Kind}
use Rattle.schema_version.specs.declared.element.ElementDef.{ElementDef}
use Rattle.schema_version.specs.declared.step.Move.{Move}
use Rattle.schema_version.specs.Version.{Version, element_at, state_of, state_or_absent, is_public, indexed_columns, type_of_kind}
use Rattle.std.specs.Option.{unwrap_or}
use Rattle.schema_version.specs.Edges.{edge, edge_by, is_filled}
use Rattle.schema_version.proofs.Decides.{column_depends}
use Rattle.schema_version.specs.Moves.{turned_back, after_step, moves_element, is_unready, IsIndexOn, IsLeastIndexOn}
use Rattle.schema_version.specs.Steps.{IsOrdered, in_state_or_none}
use Rattle.change_plan.proofs.StepEffects.{Becomes, Stays, Comes, Goes, Turns, Midway, after_allowed}
use Rattle.change_plan.proofs.MoveEffects.{AreReady, ready_go, not_both}
use Rattle.change_plan.specs.declared.least_plan.PlanStep.{PlanStep}
use Rattle.change_plan.specs.Plans.{after_plan, AreAllowed}

-- ---- how far an element has come, and how far it is from being gone

-- by whether a fill serves it
abbrev pub height_by : Bool → ElementState → ℕ
height_by filled Absent = 0
height_by filled DeleteOnly = 1
height_by filled WriteOnly = 2
height_by true Public = 3
height_by false Public = 2

abbrev pub height_in : Kind → ElementState → ℕ
height_in kind state = height_by (is_filled kind) state

abbrev pub height : Option ElementDef → ℕ
height None = 0
height (Some element) = height_in element.kind element.state

-- one that is being added turns back first
abbrev pub moves_by : Bool → ElementState → Way → ℕ
moves_by filled Absent way = 0
moves_by filled DeleteOnly Dropping = 1
moves_by filled DeleteOnly Adding = 2
moves_by filled WriteOnly Dropping = 2
moves_by filled WriteOnly Adding = 3
moves_by true Public way = 3
moves_by false Public way = 2

abbrev pub moves_out : Kind → ElementState → Way → ℕ
moves_out kind state way = moves_by (is_filled kind) state way

abbrev pub distance : Option ElementDef → ℕ
distance None = 0
distance (Some element) = moves_out element.kind element.state element.way

-- an edge goes at most one up
edge_rises : (filled : Bool) (way after : Way) (from to : ElementState) → edge_by filled way from to ≡ Some after → height_by filled to ≤ height_by filled from + 1
edge_rises true Adding after Absent DeleteOnly e = omega arith
edge_rises true Adding after DeleteOnly WriteOnly e = omega arith
edge_rises true Adding after WriteOnly Public e = omega arith
edge_rises true way after Public WriteOnly e = omega arith
edge_rises true Dropping after WriteOnly DeleteOnly e = omega arith
edge_rises true Dropping after DeleteOnly Absent e = omega arith
edge_rises false Adding after Absent DeleteOnly e = omega arith
edge_rises false Adding after DeleteOnly Public e = omega arith
edge_rises false way after Public DeleteOnly e = omega arith
edge_rises false Dropping after DeleteOnly Absent e = omega arith
edge_rises filled way after from to e = absurd cc

-- and at most one nearer to being gone
edge_falls : (filled : Bool) (way after : Way) (from to : ElementState) → edge_by filled way from to ≡ Some after → moves_by filled from way ≤ moves_by filled to after + 1
edge_falls true Adding after Absent DeleteOnly e = omega arith
edge_falls true Adding Adding DeleteOnly WriteOnly e = omega arith
edge_falls true Adding Dropping DeleteOnly WriteOnly e = omega arith
edge_falls true Adding after WriteOnly Public e = omega arith
edge_falls true way Adding Public WriteOnly e = omega arith
edge_falls true way Dropping Public WriteOnly e = omega arith
edge_falls true Dropping Adding WriteOnly DeleteOnly e = omega arith
edge_falls true Dropping Dropping WriteOnly DeleteOnly e = omega arith
edge_falls true Dropping after DeleteOnly Absent e = omega arith
edge_falls false Adding after Absent DeleteOnly e = omega arith
edge_falls false Adding after DeleteOnly Public e = omega arith
edge_falls false way Adding Public DeleteOnly e = omega arith
edge_falls false way Dropping Public DeleteOnly e = omega arith
edge_falls false Dropping after DeleteOnly Absent e = omega arith
edge_falls filled way after from to e = absurd cc

-- and so does a turn
turn_falls : (filled : Bool) (state : ElementState) → moves_by filled state Adding ≤ moves_by filled state Dropping + 1
turn_falls filled Absent = omega arith
turn_falls filled DeleteOnly = omega arith
turn_falls filled WriteOnly = omega arith
turn_falls true Public = omega arith
turn_falls false Public = omega arith

height_gone : (element : ElementDef) (to : ElementState) → height (in_state_or_none element to) ≡ height_in element.kind to
height_gone element Absent = refl
height_gone element DeleteOnly = refl
height_gone element WriteOnly = refl
height_gone element Public = refl

distance_gone : (element : ElementDef) (to : ElementState) (way : Way) → edge element.kind element.way element.state to ≡ Some way → distance (in_state_or_none element to) ≡ moves_out element.kind to way
distance_gone element Absent way e = refl
distance_gone element DeleteOnly way e = ap (λ o. moves_out element.kind DeleteOnly (unwrap_or o element.way)) e
distance_gone element WriteOnly way e = ap (λ o. moves_out element.kind WriteOnly (unwrap_or o element.way)) e
distance_gone element Public way e = ap (λ o. moves_out element.kind Public (unwrap_or o element.way)) e

-- a step moves a number at most one up, and one nearer to being gone
height_rises : (old : Version) (step : List Move) (next n : ℕ) (now : Option ElementDef) → Becomes old step step next n now → height now ≤ height (element_at old n) + 1
height_rises old step next n now (Stays same unmoved outside) = let is : height now ≡ height (element_at old n) = ap height same in omega arith
height_rises old step next n now (Comes earlier later fresh split place before after ready) = let is : height now ≡ 1 = ap height after in omega arith
height_rises old step next n now (Goes earlier later to split may after) =
    let start : height (element_at old n) ≡ height_in may.element.kind may.element.state = ap height may.there in
    let end : height now ≡ height_in may.element.kind to = ap height after ∙ height_gone may.element to in
    let up = edge_rises (is_filled may.element.kind) may.element.way may.way may.element.state to may.along in
    omega arith
height_rises old step next n now (Turns earlier later split may after) = let is : height now ≡ height (element_at old n) = ap height after ∙ sym (ap height may.there) in omega arith

distance_falls : (old : Version) (step : List Move) (next n : ℕ) (now : Option ElementDef) → Becomes old step step next n now → distance (element_at old n) ≤ distance now + 1
distance_falls old step next n now (Stays same unmoved outside) = let is : distance now ≡ distance (element_at old n) = ap distance same in omega arith
distance_falls old step next n now (Comes earlier later fresh split place before after ready) = let is : distance (element_at old n) ≡ 0 = ap distance before in omega arith
distance_falls old step next n now (Goes earlier later to split may after) =
    let start : distance (element_at old n) ≡ moves_out may.element.kind may.element.state may.element.way = ap distance may.there in
    let end : distance now ≡ moves_out may.element.kind to may.way = ap distance after ∙ distance_gone may.element to may.way may.along in
    let down = edge_falls (is_filled may.element.kind) may.element.way may.way may.element.state to may.along in
    omega arith
distance_falls old step next n now (Turns earlier later split may after) =
    let start : distance (element_at old n) ≡ moves_out may.element.kind may.element.state Adding = ap distance may.there ∙ ap (moves_out may.element.kind may.element.state) may.adding in
    let end : distance now ≡ moves_out may.element.kind may.element.state Dropping = ap distance after in
    let down = turn_falls (is_filled may.element.kind) may.element.state in
    omega arith

-- ---- one element over a plan

pub height_over : (plan : List PlanStep) (old : Version) → IsOrdered old → AreAllowed old plan → (n : ℕ) → height (element_at (after_plan old plan) n) ≤ height (element_at old n) + length plan
height_over [] old numbered allowed n = omega arith
height_over (first ∷ rest) old numbered allowed n =
    let mid : Midway old first.step first.step (after_step old first.step) = after_allowed old first.step numbered allowed.0 in
    let near : height (element_at (after_step old first.step) n) ≤ height (element_at old n) + 1 = height_rises old first.step _ n _ (mid.becomes n) in
    let far : height (element_at (after_plan (after_step old first.step) rest) n) ≤ height (element_at (after_step old first.step) n) + length rest = height_over rest (after_step old first.step) mid.numbered allowed.2 n in
    omega arith

pub distance_over : (plan : List PlanStep) (old : Version) → IsOrdered old → AreAllowed old plan → (n : ℕ) → distance (element_at old n) ≤ distance (element_at (after_plan old plan) n) + length plan
distance_over [] old numbered allowed n = omega arith
distance_over (first ∷ rest) old numbered allowed n =
    let mid : Midway old first.step first.step (after_step old first.step) = after_allowed old first.step numbered allowed.0 in
    let near : distance (element_at old n) ≤ distance (element_at (after_step old first.step) n) + 1 = distance_falls old first.step _ n _ (mid.becomes n) in
    let far : distance (element_at (after_step old first.step) n) ≤ distance (element_at (after_plan (after_step old first.step) rest) n) + length rest = distance_over rest (after_step old first.step) mid.numbered allowed.2 n in
    omega arith

-- ---- a number is given once, so it keeps its table, name and kind

-- a live element of this number has them
abbrev pub IsStill : ElementDef → ElementDef → Type 0
IsStill one other = (one.table ≡ other.table) × (one.name ≡ other.name) × (one.kind ≡ other.kind)

abbrev pub IfLive : ElementDef → ℕ → Version → Type 0
IfLive element number version = (number < version.next) × ((now : ElementDef) → element_at version number ≡ Some now → IsStill now element)

still_gone : (element : ElementDef) (to : ElementState) (now : ElementDef) → in_state_or_none element to ≡ Some now → IsStill now element
still_gone element Absent now is = absurd (not_both now None is refl)
still_gone element DeleteOnly now is = (cc, cc, cc)
still_gone element WriteOnly now is = (cc, cc, cc)
still_gone element Public now is = (cc, cc, cc)

still_turned : (element now : ElementDef) → Some (turned_back element) ≡ Some now → IsStill now element
still_turned element now is = (cc, cc, cc)

still_step : (old : Version) (step : List Move) (now : Version) → Midway old step step now → (element : ElementDef) (number : ℕ) → IfLive element number old → IfLive element number now
still_step old step now mid element number live =
    (let a : number < old.next = live.0 in let l = mid.next in omega arith, λ f at. pick f at (mid.becomes number))
  where
    both : (f e : ElementDef) → IsStill f e → IsStill e element → IsStill f element
    both f e one two = (one.0 ∙ two.0, one.1 ∙ two.1, one.2 ∙ two.2)

    pick : (f : ElementDef) → element_at now number ≡ Some f → Becomes old step step now.next number (element_at now number) → IsStill f element
    pick f at (Stays same unmoved outside) = live.1 f (sym same ∙ at)
    pick f at (Comes earlier later fresh split place before after are) = let a : number < old.next = live.0 in absurd (omega arith)
    pick f at (Turns earlier later split may after) = both f may.element (still_turned may.element f (sym after ∙ at)) (live.1 may.element may.there)
    pick f at (Goes earlier later to split may after) = both f may.element (still_gone may.element to f (sym after ∙ at)) (live.1 may.element may.there)

still_over : (plan : List PlanStep) (old : Version) → IsOrdered old → AreAllowed old plan → (element : ElementDef) (number : ℕ) → IfLive element number old → IfLive element number (after_plan old plan)
still_over [] old numbered allowed element number live = live
still_over (first ∷ rest) old numbered allowed element number live =
    let mid : Midway old first.step first.step (after_step old first.step) = after_allowed old first.step numbered allowed.0 in
    still_over rest (after_step old first.step) mid.numbered allowed.2 element number (still_step old first.step _ mid element number live)

-- a live element that is live in the end has kept its table, name and kind
pub still_in_the_end : (plan : List PlanStep) (old : Version) → IsOrdered old → AreAllowed old plan → (number : ℕ) (before after : ElementDef) → element_at old number ≡ Some before → element_at (after_plan old plan) number ≡ Some after → IsStill after before
still_in_the_end plan old numbered allowed number before after at_old at_new =
    (still_over plan old numbered allowed before number (numbered.below number before at_old, λ now at. let same : before ≡ now = cc in subst (λ x. IsStill x before) same (refl, refl, refl))).1 after at_new

-- ---- an added index and a column that it lists

or_false : (a b : Bool) → (a || b) ≡ false → (a ≡ false) × (b ≡ false)
or_false true b e = absurd (true≢false e)
or_false false b e = (refl, e)

live_if_public : (o : Option ElementDef) → not (is_public (state_or_absent o)) ≡ false → (element : ElementDef) × (o ≡ Some element)
live_if_public None e = absurd (true≢false e)
live_if_public (Some element) e = (element, refl)

-- a column that stands ready isn't moved
stays_if_ready : (old : Version) (step : List Move) (now : Version) → IsOrdered old → Midway old step step now → (kind : Kind) → AreReady old step kind → (column : ℕ) → Contains (indexed_columns kind) column → element_at now column ≡ element_at old column
stays_if_ready old step now numbered mid kind ready column lists =
    let test : is_unready old step column ≡ false = All-contains (λ x. is_unready old step x ≡ false) (indexed_columns kind) column (All-from_recursion _ (indexed_columns kind) ready) lists in
    let parts : (not (is_public (state_of old column)) ≡ false) × (moves_element step column ≡ false) = or_false _ _ test in
    let there : (element : ElementDef) × (element_at old column ≡ Some element) = live_if_public (element_at old column) parts.0 in
    mid.same column (numbered.below column there.0 there.1) parts.1

-- if the index is live, it lists the column
abbrev pub ListsIfLive : ℕ → ℕ → Version → Type 0
ListsIfLive index column version = (element : ElementDef) → element_at version index ≡ Some element → Contains (indexed_columns element.kind) column

-- both heights together
abbrev pub heights : ℕ → ℕ → Version → ℕ
heights index column version = height (element_at version index) + height (element_at version column)

-- no step raises both
heights_step : (old : Version) (step : List Move) (now : Version) (index column : ℕ) → IsOrdered old → Midway old step step now → ListsIfLive index column old → ListsIfLive index column now → heights index column now ≤ heights index column old + 1
heights_step old step now index column numbered mid lists_old lists_now = pick (mid.becomes index)
  where
    of_index : height (element_at now index) ≤ height (element_at old index) + 1
    of_index = height_rises old step _ index _ (mid.becomes index)

    of_column : height (element_at now column) ≤ height (element_at old column) + 1
    of_column = height_rises old step _ column _ (mid.becomes column)

    ready : (kind : Kind) → AreReady old step kind → Contains (indexed_columns kind) column → heights index column now ≤ heights index column old + 1
    ready kind are lists =
        let same : height (element_at now column) ≡ height (element_at old column) = ap height (stays_if_ready old step now numbered mid kind are column lists) in
        let a = of_index in
        omega arith

    level : height (element_at now index) ≡ height (element_at old index) → heights index column now ≤ heights index column old + 1
    level is = let a = of_column in omega arith

    pick : Becomes old step step now.next index (element_at now index) → heights index column now ≤ heights index column old + 1
    pick (Stays same unmoved outside) = level (ap height same)
    pick (Comes earlier later fresh split place before after are) = ready fresh.kind are (lists_now _ after)
    pick (Turns earlier later split may after) = level (ap height after ∙ sym (ap height may.there))
    pick (Goes earlier later to split may after) = ready may.element.kind (ready_go old step index may.element.kind may.free) (lists_old may.element may.there)

pub two_added : (plan : List PlanStep) (old : Version) → IsOrdered old → AreAllowed old plan → (index column : ℕ) (element : ElementDef) → element_at (after_plan old plan) index ≡ Some element → Contains (indexed_columns element.kind) column
    → heights index column (after_plan old plan) ≤ heights index column old + length plan
two_added [] old numbered allowed index column element at lists = omega arith
two_added (first ∷ rest) old numbered allowed index column element at lists =
    let mid : Midway old first.step first.step (after_step old first.step) = after_allowed old first.step numbered allowed.0 in
    let lists_old : ListsIfLive index column old = λ now is. subst (λ kind. Contains (indexed_columns kind) column) (still_in_the_end (first ∷ rest) old numbered allowed index now element is at).2 lists in
    let lists_mid : ListsIfLive index column (after_step old first.step) = λ now is. subst (λ kind. Contains (indexed_columns kind) column) (still_in_the_end rest (after_step old first.step) mid.numbered allowed.2 index now element is at).2 lists in
    let near : heights index column (after_step old first.step) ≤ heights index column old + 1 = heights_step old first.step _ index column numbered mid lists_old lists_mid in
    let far : heights index column (after_plan (after_step old first.step) rest) ≤ heights index column (after_step old first.step) + length rest = two_added rest (after_step old first.step) mid.numbered allowed.2 index column element at lists in
    omega arith

-- ---- a public column and a live index that lists it

-- where none is the least, there is none
none_below : (version : Version) (column : ℕ) → ((on : ℕ) → ¬ (IsLeastIndexOn version column on)) → (most number : ℕ) → number < most → ¬ (IsIndexOn version column number)
none_below version column none zero number below is = absurd (omega arith)
none_below version column none (suc most) number below is =
    none number (is, λ other on. elim (cases_lt other number) [ inl less ↦ absurd (none_below version column none most other (omega (arith, less)) on) | inr le ↦ le ])

-- no step moves a column that a live index lists
column_stays : (old : Version) (step : List Move) (now : Version) → Midway old step step now → (index column : ℕ) (i c : ElementDef) (type : _) → element_at old index ≡ Some i → Contains (indexed_columns i.kind) column → element_at old column ≡ Some c → type_of_kind c.kind ≡ Some type → c.state ≡ Public → element_at now column ≡ Some c
column_stays old step now mid index column i c type at_index lists at_column kind state = pick (mid.becomes column)
  where
    pick : Becomes old step step now.next column (element_at now column) → element_at now column ≡ Some c
    pick (Stays same unmoved outside) = same ∙ at_column
    pick (Comes earlier later fresh split place before after are) = absurd (not_both c (element_at old column) at_column before)
    pick (Turns earlier later split may after) =
        let one : Some may.element ≡ Some c = sym may.there ∙ at_column in
        let is : may.element ≡ c = cc in
        absurd (may.private (ap (λ (e : ElementDef). e.state) is ∙ state))
    pick (Goes earlier later to split may after) =
        let one : Some may.element ≡ Some c = sym may.there ∙ at_column in
        let is : may.element ≡ c = cc in
        let of_kind : type_of_kind may.element.kind ≡ Some type = ap (λ (e : ElementDef). type_of_kind e.kind) is ∙ kind in
        absurd (none_below old column (λ on least. may.free on (column_depends old step column may.element.kind type on of_kind least)) (suc index) index (omega arith) (i, at_index, lists))

-- the column is dropped after the index
pub two_dropped : (plan : List PlanStep) (old : Version) → IsOrdered old → AreAllowed old plan → (index column : ℕ) (i c : ElementDef) (type : _) → element_at old index ≡ Some i → Contains (indexed_columns i.kind) column → element_at old column ≡ Some c → type_of_kind c.kind ≡ Some type → c.state ≡ Public
    → element_at (after_plan old plan) index ≡ None → element_at (after_plan old plan) column ≡ None → distance (Some i) + distance (Some c) ≤ length plan
two_dropped [] old numbered allowed index column i c type at_index lists at_column kind state no_index no_column = absurd (not_both i (element_at old index) at_index no_index)
two_dropped (first ∷ rest) old numbered allowed index column i c type at_index lists at_column kind state no_index no_column =
    pick (element_at (after_step old first.step) index) refl
    (λ j at lists_j. two_dropped rest (after_step old first.step) (after_allowed old first.step numbered allowed.0).numbered allowed.2 index column j c type at lists_j
    (column_stays old first.step (after_step old first.step) (after_allowed old first.step numbered allowed.0) index column i c type at_index lists at_column kind state) kind state no_index no_column)
  where
    mid : Midway old first.step first.step (after_step old first.step)
    mid = after_allowed old first.step numbered allowed.0

    stays : element_at (after_step old first.step) column ≡ Some c
    stays = column_stays old first.step (after_step old first.step) mid index column i c type at_index lists at_column kind state

    near : distance (Some i) ≤ distance (element_at (after_step old first.step) index) + 1
    near = subst (λ o. distance o ≤ distance (element_at (after_step old first.step) index) + 1) at_index (distance_falls old first.step _ index _ (mid.becomes index))

    pick : (o : Option ElementDef) → element_at (after_step old first.step) index ≡ o
        → ((j : ElementDef) → element_at (after_step old first.step) index ≡ Some j → Contains (indexed_columns j.kind) column → distance (Some j) + distance (Some c) ≤ length rest) → distance (Some i) + distance (Some c) ≤ suc (length rest)
    pick None at again =
        let gone : distance (element_at (after_step old first.step) index) ≡ 0 = ap distance at in
        let column_then : distance (element_at (after_step old first.step) column) ≡ distance (Some c) = ap distance stays in
        let column_end : distance (element_at (after_plan (after_step old first.step) rest) column) ≡ 0 = ap distance no_column in
        let far : distance (element_at (after_step old first.step) column) ≤ distance (element_at (after_plan (after_step old first.step) rest) column) + length rest = distance_over rest (after_step old first.step) mid.numbered allowed.2 column in
        let n = near in
        omega arith
    pick (Some j) at again =
        let same : distance (element_at (after_step old first.step) index) ≡ distance (Some j) = ap distance at in
        let still = still_in_the_end (first ∷ []) old numbered (allowed.0, allowed.1, tt) index i j at_index at in
        let far : distance (Some j) + distance (Some c) ≤ length rest = again j at (subst (λ k. Contains (indexed_columns k) column) (sym still.2) lists) in
        let n = near in
        omega arith
