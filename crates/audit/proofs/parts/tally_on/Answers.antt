use Rattle.std.proofs.Common.{refl}
use Rattle.byte_map.specs.Walk.{HasNoNext}
use Rattle.audit.proofs.Divided.{none_after, parts_counted, parts_strings}
use Rattle.audit.proofs.parts.tally_on.Goals as goal

pub returns-clause-counts : goal.returns-clause-counts
returns-clause-counts g c =
    parts_counted c.args.schema.now (g.V.PairView.pairs c.args.view.now) _ _ _ refl refl (none_after c.next_at.result c.is_some.result _ c.is_some.ensures c.if-is_some.false c.next_at.ensures.none)
    c.in_ok-before.before c.in_ok-rows.rows c.in_ok-indexes.indexes c.in_ok-and.field-0 c.and-2.result c.in_ok-before.ensures.counts c.in_ok-rows.ensures.counts c.in_ok-indexes.ensures.counts c.in_ok-and.ensures c.and-2.ensures

pub returns-clause-strings : goal.returns-clause-strings
returns-clause-strings g c =
    parts_strings c.args.schema.now (g.V.PairView.pairs c.args.view.now) _ _ _ refl refl (none_after c.next_at.result c.is_some.result _ c.is_some.ensures c.if-is_some.false c.next_at.ensures.none)
    c.and-2.result c.in_ok-before.ensures.strings c.in_ok-rows.ensures.strings c.in_ok-indexes.ensures.strings
