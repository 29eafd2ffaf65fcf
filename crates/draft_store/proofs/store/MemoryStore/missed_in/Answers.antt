use Rattle.std.proofs.Common.{ap, subst, ◌∙◌}
use Rattle.drafts.proofs.Records.{laid_nothing}
use Rattle.row_map.specs.Expect.{Holds, IsConflict}
use Rattle.row_map.specs.Rows.{Bytes, Pairs}
use Rattle.row_map.specs.Writes.{Batch, laid}
use Rattle.draft_store.specs.Apply.{MissesRange, IsLeast}
use Rattle.draft_store.proofs.Least.{range_holds, range_missed}
use Rattle.draft_store.proofs.store.MemoryStore.missed_in.Goals as goal

pub returns-in-Ok-clause-kept : goal.returns-in-Ok-clause-kept
returns-in-Ok-clause-kept c = c.in-Ok.ensures.1 ∙ ap (λ (b : Batch). laid b c.self.inside.pairs) c.new.ensures ∙ laid_nothing c.self.inside.pairs ∙ c.self.view_is

pub returns-in-Ok-clause-least : goal.returns-in-Ok-clause-least
returns-in-Ok-clause-least c =
    subst (λ (pairs : Pairs). (key : Bytes) → ¬ (MissesRange pairs key c.args.part.now)) c.self.view_is
    (range_holds c.self.inside.pairs c.args.part.now (subst (λ e. Holds e c.self.inside.pairs) c.in_ok-expect.ensures c.in-Ok.ensures.0))

pub returns-in-Err-Conflict-clause-least : goal.returns-in-Err-Conflict-clause-least
returns-in-Err-Conflict-clause-least c =
    let conflict = rw c.in-Err-Conflict.field-0-is at c.in-Err-Conflict.ensures in
    subst (λ (pairs : Pairs). IsLeast (λ k. MissesRange pairs k c.args.part.now) c.in-Err-Conflict.key) c.self.view_is
    (range_missed c.self.inside.pairs c.args.part.now c.in-Err-Conflict.key (subst (λ e. IsConflict e c.self.inside.pairs c.in-Err-Conflict.key) c.in_ok-expect.ensures conflict.0))
