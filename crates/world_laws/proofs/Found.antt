-- A publication moves no pair and no row.
use Rattle.std.proofs.Common.{◌≡◌, ℕ, ◌≤◌, Option, Some, None, sym, ap, subst, ◌∙◌, arith}
use Rattle.lease.specs.Timeline.{last_publication}
use Rattle.row_map.specs.Rows.{Rows, Pairs}
use Rattle.schema_version.specs.declared.element.ElementState.{ElementState}
use Rattle.schema_version.specs.declared.element.ElementState.TheVariants.{Absent}
use Rattle.schema_version.specs.declared.element.ElementDef.{ElementDef}
use Rattle.schema_version.specs.Version.{Version, element_at, state_or_absent}
use Rattle.element_state.specs.Consistent.{IsConsistent, DemandOf}
use Rattle.element_state.specs.Elements.{Empty, Demand}
use Rattle.element_state.specs.Kinds.{kind_meaning, kind_numbered}
use Rattle.element_state.specs.Sources.{source_in}
use Rattle.element_state.specs.Tables.{within}
use Rattle.replay.specs.declared.entry.Entry.{Entry}
use Rattle.replay.specs.declared.entry.What.TheVariants.{Publish}
use Rattle.replay.specs.Replay.{Facts, after}
use Rattle.world.specs.State.{State, facts_of, effect}
use Rattle.world.proofs.Invariant.{facts_after}
use Rattle.world_laws.specs.Found.{FindsConsistent, FindsExact, FindsEmpty}
use Rattle.world_laws.proofs.Newest.{consistent_newest}

pub finds_consistent : FindsConsistent
finds_consistent old new now step p =
    let entry : Entry = record { moment = now; what = Publish step } in
    let state : new ≡ effect old entry = p.accepted.2.state ∙ ap (effect old) p.accepted.2.entry in
    let facts : facts_of new ≡ after (facts_of old) entry = ap facts_of state ∙ facts_after old entry in
    let past : last_publication (facts_of new).line ≤ (facts_of new).moment = subst (λ (f : Facts). last_publication f.line ≤ f.moment) (sym facts) (omega arith) in
    let all : IsConsistent (facts_of new).newest (facts_of new).rows new.pairs = consistent_newest new (record { valid = p.valid; past = past; counted = p.counted }) p.agrees in
    subst (λ (r : Rows). IsConsistent (facts_of new).newest r old.pairs) (ap (λ (f : Facts). f.rows) facts)
    (subst (λ (q : Pairs). IsConsistent (facts_of new).newest (facts_of new).rows q) (ap (λ (s : State). s.pairs) state) all)

pub finds_exact : FindsExact
finds_exact old new now step number element p above at public =
    let all = finds_consistent old new now step p in
    subst (λ (q : ElementState). Demand (within element.table (kind_meaning number (source_in (facts_of new).newest element.kind))) q old.pairs (facts_of old).rows) public
    (subst (λ (o : Option ElementDef). DemandOf (facts_of new).newest number o old.pairs (facts_of old).rows) at (all.elements number above))

-- an absent element is one that the version lacks, or that it has as absent
absent_empty : (version : Version) (number : ℕ) (o : Option ElementDef) (pairs : Pairs) (rows : Rows) → state_or_absent o ≡ Absent → DemandOf version number o pairs rows → Empty number pairs
absent_empty version number None pairs rows is demand = demand
absent_empty version number (Some element) pairs rows is demand =
    subst (λ (n : ℕ). Empty n pairs) (kind_numbered number (source_in version element.kind))
    (subst (λ (q : ElementState). Demand (within element.table (kind_meaning number (source_in version element.kind))) q pairs rows) is demand)

pub finds_empty : FindsEmpty
finds_empty old new now step number p above is =
    let all = finds_consistent old new now step p in
    absent_empty (facts_of new).newest number (element_at (facts_of new).newest number) old.pairs (facts_of old).rows is (all.elements number above)
