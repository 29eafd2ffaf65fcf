use Rattle.std.proofs.Common.{ℕ, ◌∙◌, sym, ap, subst, Bool}
use Rattle.std.specs.Bool.{Decides}
use Rattle.std.specs.List.{list_any}
use Rattle.schema_version.specs.Sound.{IsSoundVersion}
use Rattle.schema_version.specs.Version.{live}
use Rattle.world.specs.State.{facts_of}
use Rattle.rollout.specs.Due.{IsUnderWay}
use Rattle.rollout.proofs.Searches.{is_moving, under_way_decides}
use Rattle.rollout.proofs.candidates.is_under_way.Goals as goal

pub returns : goal.returns
returns c =
    let facts = facts_of c.args.world.now in
    let newest_is = c.get-schema.ensures ∙ c.newest.ensures in
    subst (λ (b : Bool). Decides b ((n : ℕ) × IsUnderWay facts n)) (sym (c.is_any_moving.ensures ∙ ap (list_any is_moving) (c.elements.ensures ∙ ap live newest_is)))
    (under_way_decides facts (subst IsSoundVersion newest_is c.lemma_known.ensures))
