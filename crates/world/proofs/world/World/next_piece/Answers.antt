use Rattle.std.proofs.Common.{sym, ap, ◌∙◌}
use Rattle.std.specs.Option.{option_copied, option_and_then}
use Rattle.reorganise.specs.declared.work.Progress.{Progress}
use Rattle.reorganise.specs.Left.{open_from}
use Rattle.world.proofs.Left.{few_pieces}
use Rattle.world.proofs.world.World.next_piece.Goals as goal

pub first_open-requires : goal.first_open-requires
first_open-requires c =
    few_pieces c.self.inside c.args.self.now c.self.invariant c.self.view_is c.args.element c.in_ok-progress.progress.now _ (sym c.begun_of.ensures ∙ ap option_copied c.in_ok-progress.was) c.as_slice.ensures

pub returns : goal.returns
returns c =
    c.first_open.ensures ∙ ap (open_from 0) c.as_slice.ensures
    ∙ sym (ap (option_and_then (λ (p : Progress). open_from 0 p.pieces)) (sym c.begun_of.ensures ∙ ap option_copied c.in_ok-progress.was))
