use Rattle.std.proofs.Common.{◌≡◌, sym, subst, ◌∙◌, Option, rules}
use Rattle.std.specs.Prelude.{Result, Ok, Err}
use Rattle.reorganise.specs.declared.read.Reading.{Reading}
use Rattle.locked_store.specs.Piece.{ReadStep}
use Rattle.locked_store.specs.ReadFault.{ReadFault}
use Rattle.locked_store.specs.Answers.{no_place}
use Rattle.locked_store.specs.declared.fault.SharedFault.{SharedFault}
use Rattle.reorganise_workers.specs.declared.end.PieceEnd.{PieceEnd}
use Rattle.reorganise_workers.proofs.Ends.{IsUnread, stays, unread, was_read, of_another_kind}
use Rattle.reorganise_workers.proofs.attempt.next_items.Goals as goal

pub look-requires-clause-spent : goal.look-requires-clause-spent
look-requires-clause-spent g c =
    subst (λ (o : Option PieceEnd). IsUnread g.L.SharedLedger.start c.args.job.now c.args.piece o) (sym c.unread_end.ensures ∙ c.in-None.is)
    (unread g.L.SharedLedger.start c.args.me.now c.read_piece.new.me c.args.job.now c.args.piece c.in-Err.fault c.requires.seen c.requires.had c.in-Err.ensures)

pub returns-in-Some-clause-attempt : goal.returns-in-Some-clause-attempt
returns-in-Some-clause-attempt g c =
    subst (λ (o : Option PieceEnd). IsUnread g.L.SharedLedger.start c.args.job.now c.args.piece o) (sym c.unread_end.ensures ∙ c.in-Some.is)
    (unread g.L.SharedLedger.start c.args.me.now c.read_piece.new.me c.args.job.now c.args.piece c.in-Err.fault c.requires.seen c.requires.had c.in-Err.ensures)

pub returns-then-eq-clause-read : goal.returns-then-eq-clause-read
returns-then-eq-clause-read g c = was_read g.L.SharedLedger.start c.args.me.now c.read_piece.new.me c.args.job.now c.args.piece c.in-Ok.view c.requires.seen c.in-Ok.ensures

pub returns-else-eq-clause-attempt : goal.returns-else-eq-clause-attempt
returns-else-eq-clause-attempt g c =
    of_another_kind g.L.SharedLedger.start c.args.job.now c.args.piece c.in-Ok.view
    (was_read g.L.SharedLedger.start c.args.me.now c.read_piece.new.me c.args.job.now c.args.piece c.in-Ok.view c.requires.seen c.in-Ok.ensures)
    (search rules)

pub look-requires-clause-had : goal.look-requires-clause-had
look-requires-clause-had g c =
    stays g.L.SharedLedger.start c.args.job.now.most c.args.me.now c.read_piece.new.me (let r : Result Reading (SharedFault ReadFault) = Err c.in-Err.fault in r)
    (λ core r d. ReadStep core c.args.job.now.element c.args.piece c.args.job.now.limit r × (d ≡ core)) no_place c.in-Err.ensures c.requires.had

pub returns-in-Some-clause-had : goal.returns-in-Some-clause-had
returns-in-Some-clause-had g c =
    stays g.L.SharedLedger.start c.args.job.now.most c.args.me.now c.read_piece.new.me (let r : Result Reading (SharedFault ReadFault) = Err c.in-Err.fault in r)
    (λ core r d. ReadStep core c.args.job.now.element c.args.piece c.args.job.now.limit r × (d ≡ core)) no_place c.in-Err.ensures c.requires.had

pub returns-then-eq-clause-had : goal.returns-then-eq-clause-had
returns-then-eq-clause-had g c =
    stays g.L.SharedLedger.start c.args.job.now.most c.args.me.now c.read_piece.new.me (let r : Result Reading (SharedFault ReadFault) = Ok c.in-Ok.view in r)
    (λ core r d. ReadStep core c.args.job.now.element c.args.piece c.args.job.now.limit r × (d ≡ core)) no_place c.in-Ok.ensures c.requires.had

pub returns-else-eq-clause-had : goal.returns-else-eq-clause-had
returns-else-eq-clause-had g c =
    stays g.L.SharedLedger.start c.args.job.now.most c.args.me.now c.read_piece.new.me (let r : Result Reading (SharedFault ReadFault) = Ok c.in-Ok.view in r)
    (λ core r d. ReadStep core c.args.job.now.element c.args.piece c.args.job.now.limit r × (d ≡ core)) no_place c.in-Ok.ensures c.requires.had
