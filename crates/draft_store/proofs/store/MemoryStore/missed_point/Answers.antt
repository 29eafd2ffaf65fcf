use Rattle.std.proofs.Common.{sym, subst, ◌∙◌, option_map, true≢false}
use Rattle.std.specs.FinMap as map
use Rattle.row_map.specs.Rows.{Bytes}
use Rattle.draft_store.specs.Apply.{MissesPoint, IsLeast}
use Rattle.draft_store.proofs.Least.{same_values, point_holds, point_missed}
use Rattle.draft_store.proofs.store.MemoryStore.missed_point.Goals as goal

pub returns-then-is_same : goal.returns-then-is_same
returns-then-is_same c =
    let same = (same_values (option_map (λ w. w.now) c.get.result) c.args.point.now.1 c.is_same.result c.is_same.ensures).0 c.if-is_same.true in
    point_holds c.args.self.now c.args.point.now ((λ i. map.get (sym c.self.view_is i) (sym c.as_slice.ensures i)) ∙ sym c.get.ensures ∙ same)

pub returns : goal.returns
returns c =
    let says = same_values (option_map (λ w. w.now) c.get.result) c.args.point.now.1 c.is_same.result c.is_same.ensures in
    subst (λ (k : Bytes). IsLeast (λ key. MissesPoint c.args.self.now key c.args.point.now) k) (sym c.in_ok-clone.ensures.cases)
    (point_missed c.args.self.now c.args.point.now (λ e. true≢false (sym (says.1 (c.get.ensures ∙ (λ i. map.get (c.self.view_is i) (c.as_slice.ensures i)) ∙ e)) ∙ c.if-is_same.false)))
