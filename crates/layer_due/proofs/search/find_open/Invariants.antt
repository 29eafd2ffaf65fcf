use Rattle.std.proofs.Common.{◌≡◌, take, None}
use Rattle.drafts.specs.declared.record.Reorg.{Reorg}
use Rattle.layer_due.specs.Records.{open_piece}
use Rattle.layer_due.proofs.Searches.{AllIn}
use Rattle.layer_due.proofs.search.find_open.Given as goal

abbrev pub invariant-loop-reorg : goal.invariant-loop-reorg
invariant-loop-reorg l = AllIn (λ (r : Reorg). open_piece l.records r.element.number ≡ None) (take l.reorg-index l.reorg-items)
