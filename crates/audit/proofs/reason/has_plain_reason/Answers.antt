use Rattle.std.proofs.Common.{rules}
use Rattle.audit.proofs.Elements.{made_numbered}
use Rattle.audit.proofs.reason.has_plain_reason.Goals as goal

pub returns-in-Some-Column : goal.returns-in-Some-Column
returns-in-Some-Column g c =
    let e = (made_numbered c.args.schema.now c.args.elements.now c.requires.made c.in-Some-Column.element _ c.find_element-found.ensures).0 in
    search rules
