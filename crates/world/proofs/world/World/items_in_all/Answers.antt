use Rattle.std.proofs.Common.{Some, sym, ap, ◌∙◌, option_map, length, arith}
use Rattle.std.specs.Option.{option_copied}
use Rattle.reorganise.specs.declared.work.Progress.{Progress}
use Rattle.reorganise.specs.ScanRanges.{items, scan_range_of}
use Rattle.world.proofs.Left.{all_held, few_in_all}
use Rattle.world.proofs.world.World.items_in_all.Goals as goal

pub count_all-requires : goal.count_all-requires
count_all-requires c =
    let at = sym c.begun_of.ensures ∙ ap option_copied c.in_ok-progress.was in
    let few = few_in_all c.self.inside c.args.self.now c.self.invariant c.self.view_is c.args.element c.in_ok-progress.progress.now _ at c.as_slice.ensures in
    omega (arith, few, c.len-len.ensures, c.len-len.type_inv)

pub returns : goal.returns
returns c =
    let at = sym c.begun_of.ensures ∙ ap option_copied c.in_ok-progress.was in
    let held = all_held c.self.inside c.args.self.now c.self.invariant c.self.view_is c.args.element c.in_ok-progress.progress.now _ at c.as_slice.ensures in
    ap Some (c.count_all.ensures ∙ sym held) ∙ sym (ap (option_map (λ (p : Progress). length (items (scan_range_of p.element p.kind) c.args.self.now.pairs))) at)
