use Rattle.std.proofs.Common.{rules, ◌≡◌, ◌≤◌, ◌∙◌, ap, sym, subst, arith}
use Rattle.std.proofs.lemmas.List.Elements.{All-push, All-same}
use Rattle.std.proofs.lemmas.Grind.{common_steps}
use Rattle.locked_store.specs.Known.{Known}
use Rattle.locked_store.proofs.shared.merge_rights.Goals as goal

pub loop-handle-preserved : goal.loop-handle-preserved
loop-handle-preserved g c =
    let at = c.args.cut.now.at in
    let P : Known → Type 0 = λ h. h.cut ≤ at in
    let named : c.loop-handle.cut.name ≡ g.L.SharedLedger.cut_name = ap (λ w. w.name) c.loop-handle.invariant.4 ∙ c.requires.named in
    let known : c.handle.inside.cut.at ≤ c.loop-handle.cut.at = c.compare-in-Some.ensures.at_least (c.handle.invariant.1 ∙ sym named) in
    let bound : P c.in-Some.handle = subst P c.handle.view_is (omega (arith, known, ap (λ w. w.at) c.loop-handle.invariant.4)) in (
      grind (arith, common_steps),
      grind (arith, common_steps),
      grind (arith, common_steps),
      search rules,
      search rules,
      λ all. c.loop-handle.invariant.5 (All-same P c.loop-handle.handles.items _ c.in-Some.ensures.items (All-push P c.pop-in-loop-handle.new.self.items c.in-Some.handle all bound)),
    )
