use Rattle.std.proofs.Common.{◌≡◌, subst}
use Rattle.std.specs.Cmp.Lexicographic.{slice_cmp}
use Rattle.std.specs.BTreeSet.{insert_key}
use Rattle.row_query.proofs.Derived.{derived_is}
use Rattle.row_query.proofs.gather.add_key.Goals as goal

pub returns : goal.returns
returns c = subst (λ R. c.insert.new.self.keys ≡ insert_key R c.args.keys.now.keys c.args.key) (λ i. slice_cmp (λ v w. derived_is v w i)) c.in_ok-insert.ensures.keys
