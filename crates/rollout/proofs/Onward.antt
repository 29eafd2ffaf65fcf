-- What the next state on a way is good for.
use Rattle.std.proofs.Common.{◌≡◌, ◌≢◌, ℕ, ◌+◌, ◌≤◌, Bool, true, false, cond, Option, Some, None, inr, refl, sym, ap, ◌∙◌, arith}
use Rattle.std.specs.Prelude.{is_some}
use Rattle.std.specs.Option.{unwrap_or}
use Rattle.schema_version.specs.declared.element.ElementState.{ElementState}
use Rattle.schema_version.specs.declared.element.ElementState.TheVariants.{Absent, DeleteOnly, WriteOnly, Public}
use Rattle.schema_version.specs.declared.element.Way.{Way}
use Rattle.schema_version.specs.declared.element.Way.TheVariants.{Adding, Dropping}
use Rattle.schema_version.specs.declared.element.ElementDef.{ElementDef}
use Rattle.schema_version.specs.declared.element.Work.{Work}
use Rattle.schema_version.specs.Edges.{is_filled, edge_by, edge, state_by, needed_by, needed_work, wanted_work}
use Rattle.schema_version.specs.Version.{Version}
use Rattle.schema_version.specs.Sound.{IsSoundElement}
use Rattle.schema_version.specs.Moves.{in_state}
use Rattle.schema_version.specs.Steps.{in_state_or_none}
use Rattle.rollout.specs.Left.{end_by, end_of, IsFurther}
use Rattle.rollout.specs.StatePath.{next_by, next_state, edges_by, edges_of}

none_some : {A B : Type 0} {x : A} → None ≡ Some x → B
none_some e = absurd cc

-- ---- an edge joins them

edge_is : (filled : Bool) (way : Way) (from to : ElementState) → next_by filled way from ≡ Some to → edge_by filled way from to ≡ Some way
edge_is true Adding DeleteOnly WriteOnly e = refl
edge_is true Adding WriteOnly Public e = refl
edge_is true Dropping WriteOnly DeleteOnly e = refl
edge_is true Dropping DeleteOnly Absent e = refl
edge_is false Adding DeleteOnly Public e = refl
edge_is false Dropping DeleteOnly Absent e = refl
edge_is filled way from to e = absurd cc

pub edge_next : (e : ElementDef) (to : ElementState) → next_state e ≡ Some to → edge e.kind e.way e.state to ≡ Some e.way
edge_next e to next = edge_is (is_filled e.kind) e.way e.state to next

-- ---- what is public is at its end

public_ends : (filled : Bool) (way : Way) → next_by filled way Public ≡ None
public_ends true Adding = refl
public_ends true Dropping = refl
public_ends false Adding = refl
public_ends false Dropping = refl

pub not_public : (e : ElementDef) (to : ElementState) → next_state e ≡ Some to → e.state ≡ Public → ⊥
not_public e to next public = none_some (sym (public_ends (is_filled e.kind) e.way) ∙ ap (next_by (is_filled e.kind) e.way) (sym public) ∙ next)

-- ---- what the move needs is what the element wants

abbrev wanted_by : Bool → Way → ElementState → Option Work
wanted_by filled way from =
    cond (is_some (edge_by filled way from Public)) (needed_by filled Public) (cond (is_some (edge_by filled way from Absent)) (needed_by filled Absent) None)

wants_by : (filled : Bool) (way : Way) (from to : ElementState) → next_by filled way from ≡ Some to → wanted_by filled way from ≡ needed_by filled to
wants_by true Adding DeleteOnly WriteOnly e = refl
wants_by true Adding WriteOnly Public e = refl
wants_by true Dropping WriteOnly DeleteOnly e = refl
wants_by true Dropping DeleteOnly Absent e = refl
wants_by false Adding DeleteOnly Public e = refl
wants_by false Dropping DeleteOnly Absent e = refl
wants_by filled way from to e = absurd cc

pub wants_next : (e : ElementDef) (to : ElementState) → next_state e ≡ Some to → wanted_work e ≡ needed_work e.kind to
wants_next e to next = wants_by (is_filled e.kind) e.way e.state to next

-- what wants work is under way
next_wants : (filled : Bool) (way : Way) (from : ElementState) (work : Work) → wanted_by filled way from ≡ Some work → (to : ElementState) × (next_by filled way from ≡ Some to)
next_wants true Adding WriteOnly work e = (Public, refl)
next_wants true Dropping DeleteOnly work e = (Absent, refl)
next_wants false Adding DeleteOnly work e = (Public, refl)
next_wants false Dropping DeleteOnly work e = (Absent, refl)
next_wants filled way from work e = none_some e

pub under_way : (e : ElementDef) (work : Work) → wanted_work e ≡ Some work → (to : ElementState) × (next_state e ≡ Some to)
under_way e work wants = next_wants (is_filled e.kind) e.way e.state work wants

-- what wants work has one edge left
wants_last : (filled : Bool) (way : Way) (from : ElementState) (work : Work) → wanted_by filled way from ≡ Some work → edges_by filled way from ≡ 1
wants_last true Adding WriteOnly work e = refl
wants_last true Dropping DeleteOnly work e = refl
wants_last false Adding DeleteOnly work e = refl
wants_last false Dropping DeleteOnly work e = refl
wants_last filled way from work e = none_some e

pub last_edge : (e : ElementDef) (work : Work) → wanted_work e ≡ Some work → edges_of (Some e) ≡ 1
last_edge e work wants = wants_last (is_filled e.kind) e.way e.state work wants

-- ---- one edge less

fall_to : (filled : Bool) (way : Way) (from to : ElementState) → next_by filled way from ≡ Some to → edges_by filled (unwrap_or (edge_by filled way from to) way) to + 1 ≡ edges_by filled way from
fall_to true Adding DeleteOnly WriteOnly e = refl
fall_to true Adding WriteOnly Public e = refl
fall_to true Dropping WriteOnly DeleteOnly e = refl
fall_to true Dropping DeleteOnly Absent e = refl
fall_to false Adding DeleteOnly Public e = refl
fall_to false Dropping DeleteOnly Absent e = refl
fall_to filled way from to e = absurd cc

fall_out : (filled : Bool) (way : Way) (from : ElementState) → next_by filled way from ≡ Some Absent → 0 + 1 ≡ edges_by filled way from
fall_out true Dropping DeleteOnly e = refl
fall_out false Dropping DeleteOnly e = refl
fall_out true Adding DeleteOnly e = absurd cc
fall_out true Adding WriteOnly e = absurd cc
fall_out true Adding Public e = absurd cc
fall_out true Adding Absent e = absurd cc
fall_out false Adding DeleteOnly e = absurd cc
fall_out false Adding WriteOnly e = absurd cc
fall_out false Adding Public e = absurd cc
fall_out false Adding Absent e = absurd cc
fall_out filled way from e = absurd cc

pub edges_fall : (e : ElementDef) (to : ElementState) → next_state e ≡ Some to → edges_of (in_state_or_none e to) + 1 ≡ edges_of (Some e)
edges_fall e Absent next = fall_out (is_filled e.kind) e.way e.state next
edges_fall e DeleteOnly next = fall_to (is_filled e.kind) e.way e.state DeleteOnly next
edges_fall e WriteOnly next = fall_to (is_filled e.kind) e.way e.state WriteOnly next
edges_fall e Public next = fall_to (is_filled e.kind) e.way e.state Public next

-- what has nowhere to go has no edges left
no_edges : (filled : Bool) (way : Way) (from : ElementState) → next_by filled way from ≡ None → edges_by filled way from ≡ 0
no_edges true Adding DeleteOnly e = none_some (sym e)
no_edges true Adding WriteOnly e = none_some (sym e)
no_edges true Adding Public e = refl
no_edges true Adding Absent e = refl
no_edges true Dropping WriteOnly e = none_some (sym e)
no_edges true Dropping DeleteOnly e = none_some (sym e)
no_edges true Dropping Public e = refl
no_edges true Dropping Absent e = refl
no_edges false Adding DeleteOnly e = none_some (sym e)
no_edges false Adding WriteOnly e = refl
no_edges false Adding Public e = refl
no_edges false Adding Absent e = refl
no_edges false Dropping DeleteOnly e = none_some (sym e)
no_edges false Dropping WriteOnly e = refl
no_edges false Dropping Public e = refl
no_edges false Dropping Absent e = refl

pub edges_end : (e : ElementDef) → next_state e ≡ None → edges_of (Some e) ≡ 0
edges_end e ends = no_edges (is_filled e.kind) e.way e.state ends

-- no element has more than two
edges_by_most : (filled : Bool) (way : Way) (from : ElementState) → edges_by filled way from ≤ 2
edges_by_most true Adding DeleteOnly = omega arith
edges_by_most true Adding WriteOnly = omega arith
edges_by_most true Dropping WriteOnly = omega arith
edges_by_most true Dropping DeleteOnly = omega arith
edges_by_most false Adding DeleteOnly = omega arith
edges_by_most false Dropping DeleteOnly = omega arith
edges_by_most filled way from = omega arith

pub edges_most : (o : Option ElementDef) → edges_of o ≤ 2
edges_most None = omega arith
edges_most (Some e) = edges_by_most (is_filled e.kind) e.way e.state

-- ---- the end of a way

-- the way stays on the way
way_stays : (e : ElementDef) (to : ElementState) → next_state e ≡ Some to → (in_state e to).way ≡ e.way
way_stays e to next = ap (λ (o : Option Way). unwrap_or o e.way) (edge_next e to next)

not_out : (filled : Bool) (from : ElementState) → next_by filled Adding from ≡ Some Absent → ⊥
not_out true DeleteOnly e = cc
not_out true WriteOnly e = cc
not_out true Public e = none_some e
not_out true Absent e = none_some e
not_out false DeleteOnly e = cc
not_out false WriteOnly e = none_some e
not_out false Public e = none_some e
not_out false Absent e = none_some e

out_dropping : (e : ElementDef) (w : Way) → e.way ≡ w → next_state e ≡ Some Absent → e.way ≡ Dropping
out_dropping e Dropping is next = is
out_dropping e Adding is next = absurd (not_out (is_filled e.kind) e.state (ap (λ (w : Way). next_by (is_filled e.kind) w e.state) (sym is) ∙ next))

moves_further : (e : ElementDef) (to : ElementState) → next_state e ≡ Some to → edges_of (Some (in_state e to)) + 1 ≡ edges_of (Some e) → IsFurther (Some e) (Some (in_state e to))
moves_further e to next fall = inr (ap (λ (w : Way). record e { state = to; way = w }) (way_stays e to next), omega (arith, fall))

-- the next state is further on the way
pub goes_further : (e : ElementDef) (to : ElementState) → next_state e ≡ Some to → IsFurther (Some e) (in_state_or_none e to)
goes_further e Absent next = out_dropping e e.way refl next
goes_further e DeleteOnly next = moves_further e DeleteOnly next (edges_fall e DeleteOnly next)
goes_further e WriteOnly next = moves_further e WriteOnly next (edges_fall e WriteOnly next)
goes_further e Public next = moves_further e Public next (edges_fall e Public next)

rest_by : (filled : Bool) (way : Way) (state : ElementState) → next_by filled way state ≡ None → state ≢ Absent → state_by filled state ≡ true → (state ≡ Public → way ≡ Adding) → (state ≡ Public) × (way ≡ Adding)
rest_by true Adding DeleteOnly e live possible way = none_some (sym e)
rest_by true Adding WriteOnly e live possible way = none_some (sym e)
rest_by true Dropping WriteOnly e live possible way = none_some (sym e)
rest_by true Dropping DeleteOnly e live possible way = none_some (sym e)
rest_by false Adding DeleteOnly e live possible way = none_some (sym e)
rest_by false Dropping DeleteOnly e live possible way = none_some (sym e)
rest_by filled w Public e live possible way = (refl, way refl)
rest_by filled w Absent e live possible way = absurd (live refl)
rest_by false Adding WriteOnly e live possible way = absurd cc
rest_by false Dropping WriteOnly e live possible way = absurd cc

pub at_end : (v : Version) (n : ℕ) (e : ElementDef) → IsSoundElement v n e → next_state e ≡ None → Some e ≡ end_of (Some e)
at_end v n e sound ends =
    let r = rest_by (is_filled e.kind) e.way e.state ends sound.live sound.possible sound.way in
    ap (λ (s : ElementState). Some (record e { state = s })) r.0 ∙ ap (λ (w : Way). end_by w e) (sym r.1)
