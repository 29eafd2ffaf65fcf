use Rattle.std.proofs.Common.{Some, sym, ap, ◌∙◌, option_map, arith}
use Rattle.std.specs.Option.{option_copied}
use Rattle.reorganise.specs.declared.work.Progress.{Progress}
use Rattle.reorganise.specs.Left.{items_left}
use Rattle.world.proofs.Left.{left_held, few_left}
use Rattle.world.proofs.world.World.items_left.Goals as goal

pub count_left-requires : goal.count_left-requires
count_left-requires c =
    let at = sym c.begun_of.ensures ∙ ap option_copied c.in_ok-progress.was in
    let few = few_left c.self.inside c.args.self.now c.self.invariant c.self.view_is c.args.element c.in_ok-progress.progress.now _ at c.as_slice.ensures in
    omega (arith, few, c.len-len.ensures, c.len-len.type_inv)

pub returns : goal.returns
returns c =
    let at = sym c.begun_of.ensures ∙ ap option_copied c.in_ok-progress.was in
    let held = left_held c.self.inside c.args.self.now c.self.invariant c.self.view_is c.args.element c.in_ok-progress.progress.now _ at c.as_slice.ensures in
    ap Some (c.count_left.ensures ∙ sym held) ∙ sym (ap (option_map (λ (p : Progress). items_left p c.args.self.now.pairs)) at)
