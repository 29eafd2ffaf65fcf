use Rattle.std.proofs.Common.{sym, ap, ◌∙◌}
use Rattle.script_session.specs.Declare.{with_index}
use Rattle.script_session.proofs.Indexes.{split_more, added_at, in_list, at_end}
use Rattle.script_session.proofs.declare.add_index.Goals as goal

pub loop-place-preserved : goal.loop-place-preserved
loop-place-preserved c =
    let lt = in_list c.loop-place.place _ c.loop-place.tables.items _ c.loop-place-test.true c.as_slice-place-end.ensures.value c.loop-place.invariant.same in
    record {
      same = c.loop-place.invariant.same;
      split = split_more c.args.name c.args.table.now c.args.columns c.loop-place.tables.items c.loop-place.place c.index.result.now lt c.index.ensures (sym c.is_named.ensures ∙ c.if-is_named.false) c.loop-place.invariant.split;
    }

pub returns-then-is_named-clause-added : goal.returns-then-is_named-clause-added
returns-then-is_named-clause-added c =
    let lt = in_list c.loop-place.place _ c.loop-place.tables.items _ c.loop-place-test.true c.as_slice-place-end.ensures.value c.loop-place.invariant.same in
    ap (λ ts. with_index ts c.args.name c.args.table.now c.args.columns) (sym c.loop-place.invariant.same)
    ∙ added_at c.args.name c.args.table.now c.args.columns c.loop-place.tables.items c.loop-place.place c.index.result.now c.index_mut-definition.result.now c.push.new.self lt c.index.ensures c.index_mut-definition.ensures.value (sym c.is_named.ensures ∙ c.if-is_named.true)
    c.loop-place.invariant.split c.in_ok-push.ensures.items

pub returns-clause-added : goal.returns-clause-added
returns-clause-added c =
    at_end c.loop-place.place _ c.loop-place.tables.items c.args.tables.now.items c.args.name c.args.table.now c.args.columns c.loop-place.auto.place-end c.loop-place-test.false c.as_slice-place-end.ensures.value c.loop-place.invariant.same c.loop-place.invariant.split
