use Rattle.std.proofs.Common.{Some, sym, ap, ◌∙◌, option_map}
use Rattle.std.specs.Option.{option_copied}
use Rattle.schema_version.proofs.Tables.{grouped_place}
use Rattle.schema_version.proofs.schema.Schema.elements_of.Goals as goal

pub returns : goal.returns
returns c =
    ap Some c.as_slice.ensures
    ∙ sym (ap option_copied c.in_ok-own.was)
    ∙ c.group.ensures
    ∙ grouped_place c.args.self.now c.args.table c.in_ok-place.place c.in_ok-place.ensures.0 c.in_ok-place.ensures.1

pub returns-in_err-own : goal.returns-in_err-own
returns-in_err-own c =
    ap (option_map (λ own. own.now)) c.from_residual-in_err-own.ensures
    ∙ sym (ap option_copied c.in_err-own.was)
    ∙ c.group.ensures
    ∙ grouped_place c.args.self.now c.args.table c.in_ok-place.place c.in_ok-place.ensures.0 c.in_ok-place.ensures.1
