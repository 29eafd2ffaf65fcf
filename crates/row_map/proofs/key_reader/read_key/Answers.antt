use Rattle.std.proofs.Common.{subst, ◌∙◌, ap, arith}
use Rattle.keycode.specs.Read.{Gives}
use Rattle.row_map.specs.ReadKey.{key_at}
use Rattle.row_map.proofs.KeyLaws.{found_from, key_again}
use Rattle.row_map.proofs.key_reader.read_key.Goals as goal

pub returns-clause-found : goal.returns-clause-found
returns-clause-found c = found_from c.args.bytes.now c.key.result (λ i. omega (arith, c.type_inv.bytes i)) c.key.ensures

pub returns-clause-only : goal.returns-clause-only
returns-clause-only c = λ k fits e. subst (Gives (λ x. x) c.key.result) (ap key_at e ∙ key_again k fits) c.key.ensures
