use Rattle.std.proofs.Common.{rules, ap, ◌∙◌}
use Rattle.std.specs.Prelude.{slice_index_or}
use Rattle.locked_store.proofs.Fresh.{fresh_more, of_counts}
use Rattle.locked_store.proofs.shared.Shared.new.Goals as goal

pub loop-id-preserved : goal.loop-id-preserved
loop-id-preserved g c = (
  search rules,
  search rules,
  search rules,
  (
    search rules,
    λ k d lt. ap (λ (hs : _). slice_index_or hs k d) c.push_reserved.ensures.items
        ∙ fresh_more c.loop-id.id c.log_len-since.result _ c.loop-id.handles.items _ c.loop-id.invariant.3
        (of_counts c.loop-id.id c.log_len-since.result _ _ _ _ _ c.split_one-rights.ensures.counts_none.0 c.split_one-rights.ensures.counts_none.1 c.split_one-rights.ensures.counts_none.2 (c.reached-cut.ensures.reached.1 ∙ c.loop-id.invariant.5.0)) k d lt,
  ),
  search rules,
  search rules,
  search rules,
  search rules,
)
