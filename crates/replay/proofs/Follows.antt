-- Any list of accepted calls keeps all.
use Rattle.std.proofs.Common.{ℕ, ◌≤◌, List, [], ◌∷◌, sym, subst}
use Rattle.replay.specs.declared.entry.Entry.{Entry}
use Rattle.replay.specs.declared.entry.What.{What}
use Rattle.replay.specs.declared.entry.What.TheVariants.{Lease as Granted, Txn, Publish, Begin, Piece}
use Rattle.replay.specs.Replay.{Facts, start, after, after_all, after_call}
use Rattle.replay.specs.Kept.{IsKept}
use Rattle.replay.specs.Headline.{MayFollow, AllFollow, Headline}
use Rattle.replay.proofs.Agree.{agrees}
use Rattle.replay.proofs.Openings.{lemma_begins_keep}
use Rattle.replay.proofs.Pieces.{lemma_pieces_keep}
use Rattle.replay.proofs.Publication.{lemma_publications_keep}
use Rattle.replay.proofs.Time.{lease_kept, opened_kept}
use Rattle.replay.proofs.Transaction.{txns_keep}

pub call_kept : (facts : Facts) (now : ℕ) (what : What) → facts.moment ≤ now → MayFollow facts now what → IsKept facts → IsKept (after_call facts now what)
call_kept facts now (Granted lease) later may kept = lease_kept facts now lease later kept
call_kept facts now (Txn lease ops) later may kept = subst (λ (w : What). IsKept (after_call facts now w)) (sym may.same) (txns_keep facts now may.prepared later may.due may.done kept).1
call_kept facts now (Publish step) later may kept = lemma_publications_keep facts now step later may.0 may.1 may.2 may.3 kept
call_kept facts now (Begin number pieces) later may kept = lemma_begins_keep facts now number pieces may.element may.work later may.there may.wants may.settled may.new may.count kept
call_kept facts now (Piece number piece cursor) later may kept = subst (λ (w : What). IsKept (after_call facts now w)) (sym may.same) (lemma_pieces_keep facts now number may.read later may.next kept).1

pub log_kept : (facts : Facts) (log : List Entry) → AllFollow facts log → IsKept facts → IsKept (after_all facts log)
log_kept facts [] follow kept = kept
log_kept facts (entry ∷ log) follow kept = log_kept (after facts entry) log follow.2 (call_kept facts entry.moment entry.what follow.0 follow.1 kept)

pub headline : Headline
headline opening log length sound follow = agrees (after_all (start opening) log) (log_kept (start opening) log follow (opened_kept opening length sound))
