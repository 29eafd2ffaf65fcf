-- What an accepted call adds is the next entry, and what it leaves is the effect of that entry.
use Rattle.std.proofs.Common.{◌≡◌, ℕ, ◌≤◌, Some, Ok, Err, refl, sym, subst, ◌∙◌, arith}
use Rattle.replay.specs.declared.entry.Entry.{Entry}
use Rattle.replay.specs.declared.entry.What.{What}
use Rattle.replay.specs.declared.entry.What.TheVariants.{Lease as Granted, Txn, Publish, Begin, Piece}
use Rattle.world.specs.declared.committed.Committed.TheVariants as committed
use Rattle.world.specs.declared.entry.Receipt.{Receipt}
use Rattle.world.specs.declared.event.Event.TheVariants as event
use Rattle.world.specs.declared.event.Reply.TheVariants as reply
use Rattle.world.specs.Calls.{Appends, effective_moment}
use Rattle.world.specs.State.{State, facts_of}
use Rattle.replica.specs.Next.{IsNext, IsNextCall}
use Rattle.replica.specs.Laws.{AcceptedAreNext, AcceptedHaveEffect}
use Rattle.replica.proofs.Options.{some_one, none_some}

next_by : (old new : State) (moment : ℕ) (what : What) (receipt : Receipt) (entry : Entry) → Appends old (effective_moment old moment) what receipt new → IsNextCall old (effective_moment old moment) what → Some receipt.entry ≡ Some entry → IsNext old entry
next_by old new moment what receipt entry a next is =
    let later : (facts_of old).moment ≤ effective_moment old moment = omega arith in
    subst (IsNext old) (sym a.entry ∙ some_one is) (later, next)

pub accepted_next : AcceptedAreNext
accepted_next old new (event.Lease moment) (reply.Lease (Ok given)) entry known step is = next_by old new moment (Granted given.lease) given.receipt entry step.3 (step.0, step.1) is
accepted_next old new (event.Lease moment) (reply.Lease (Err fault)) entry known step is = none_some is
accepted_next old new (event.Commit moment prepared) (reply.Commit (Ok (committed.Done receipt))) entry known step is =
    next_by old new moment (Txn prepared.lease prepared.ops) receipt entry step.2
    (record { prepared = prepared; lease_is = refl; ops_are = refl; made = known; clear = step.0; done = step.1; holds = step.3 }) is
accepted_next old new (event.Commit moment prepared) (reply.Commit (Ok (committed.Refused op why))) entry known step is = none_some is
accepted_next old new (event.Commit moment prepared) (reply.Commit (Err refusal)) entry known step is = none_some is
accepted_next old new (event.Publish moment moves) (reply.Publish (Ok done)) entry known step is = next_by old new moment (Publish moves) done.1 entry step.2 step.0 is
accepted_next old new (event.Publish moment moves) (reply.Publish (Err fault)) entry known step is = none_some is
accepted_next old new (event.Begin moment element pieces) (reply.Begin (Ok receipt)) entry known step is = next_by old new moment (Begin element pieces) receipt entry step.1 step.0 is
accepted_next old new (event.Begin moment element pieces) (reply.Begin (Err fault)) entry known step is = none_some is
accepted_next old new (event.Piece moment read) (reply.Piece (Ok done)) entry known step is =
    next_by old new moment (Piece read.element.number read.piece read.key_range.high) done.receipt entry step.2
    (record { read = read; element_is = refl; piece_is = refl; cursor_is = refl; reading = known; clear = step.0; holds = step.3 }) is
accepted_next old new (event.Piece moment read) (reply.Piece (Err refusal)) entry known step is = none_some is
accepted_next old new (event.Query moment lease query) (reply.Query answer) entry known step is = none_some is
accepted_next old new (event.Lease moment) (reply.Commit answer) entry known step is = absurd step
accepted_next old new (event.Lease moment) (reply.Query answer) entry known step is = absurd step
accepted_next old new (event.Lease moment) (reply.Publish answer) entry known step is = absurd step
accepted_next old new (event.Lease moment) (reply.Begin answer) entry known step is = absurd step
accepted_next old new (event.Lease moment) (reply.Piece answer) entry known step is = absurd step
accepted_next old new (event.Commit moment prepared) (reply.Lease answer) entry known step is = absurd step
accepted_next old new (event.Commit moment prepared) (reply.Query answer) entry known step is = absurd step
accepted_next old new (event.Commit moment prepared) (reply.Publish answer) entry known step is = absurd step
accepted_next old new (event.Commit moment prepared) (reply.Begin answer) entry known step is = absurd step
accepted_next old new (event.Commit moment prepared) (reply.Piece answer) entry known step is = absurd step
accepted_next old new (event.Query moment lease query) (reply.Lease answer) entry known step is = absurd step
accepted_next old new (event.Query moment lease query) (reply.Commit answer) entry known step is = absurd step
accepted_next old new (event.Query moment lease query) (reply.Publish answer) entry known step is = absurd step
accepted_next old new (event.Query moment lease query) (reply.Begin answer) entry known step is = absurd step
accepted_next old new (event.Query moment lease query) (reply.Piece answer) entry known step is = absurd step
accepted_next old new (event.Publish moment moves) (reply.Lease answer) entry known step is = absurd step
accepted_next old new (event.Publish moment moves) (reply.Commit answer) entry known step is = absurd step
accepted_next old new (event.Publish moment moves) (reply.Query answer) entry known step is = absurd step
accepted_next old new (event.Publish moment moves) (reply.Begin answer) entry known step is = absurd step
accepted_next old new (event.Publish moment moves) (reply.Piece answer) entry known step is = absurd step
accepted_next old new (event.Begin moment element pieces) (reply.Lease answer) entry known step is = absurd step
accepted_next old new (event.Begin moment element pieces) (reply.Commit answer) entry known step is = absurd step
accepted_next old new (event.Begin moment element pieces) (reply.Query answer) entry known step is = absurd step
accepted_next old new (event.Begin moment element pieces) (reply.Publish answer) entry known step is = absurd step
accepted_next old new (event.Begin moment element pieces) (reply.Piece answer) entry known step is = absurd step
accepted_next old new (event.Piece moment read) (reply.Lease answer) entry known step is = absurd step
accepted_next old new (event.Piece moment read) (reply.Commit answer) entry known step is = absurd step
accepted_next old new (event.Piece moment read) (reply.Query answer) entry known step is = absurd step
accepted_next old new (event.Piece moment read) (reply.Publish answer) entry known step is = absurd step
accepted_next old new (event.Piece moment read) (reply.Begin answer) entry known step is = absurd step

pub accepted_effect : AcceptedHaveEffect
accepted_effect old new (event.Lease moment) (reply.Lease (Ok given)) step = step.3.state
accepted_effect old new (event.Lease moment) (reply.Lease (Err fault)) step = step.1
accepted_effect old new (event.Commit moment prepared) (reply.Commit (Ok (committed.Done receipt))) step = step.2.state
accepted_effect old new (event.Commit moment prepared) (reply.Commit (Ok (committed.Refused op why))) step = step.2
accepted_effect old new (event.Commit moment prepared) (reply.Commit (Err refusal)) step = step.0.1
accepted_effect old new (event.Query moment lease query) (reply.Query answer) step = step.1
accepted_effect old new (event.Publish moment moves) (reply.Publish (Ok done)) step = step.2.state
accepted_effect old new (event.Publish moment moves) (reply.Publish (Err fault)) step = step.1
accepted_effect old new (event.Begin moment element pieces) (reply.Begin (Ok receipt)) step = step.1.state
accepted_effect old new (event.Begin moment element pieces) (reply.Begin (Err fault)) step = step.1
accepted_effect old new (event.Piece moment read) (reply.Piece (Ok done)) step = step.2.state
accepted_effect old new (event.Piece moment read) (reply.Piece (Err refusal)) step = step.0.1
accepted_effect old new (event.Lease moment) (reply.Commit answer) step = absurd step
accepted_effect old new (event.Lease moment) (reply.Query answer) step = absurd step
accepted_effect old new (event.Lease moment) (reply.Publish answer) step = absurd step
accepted_effect old new (event.Lease moment) (reply.Begin answer) step = absurd step
accepted_effect old new (event.Lease moment) (reply.Piece answer) step = absurd step
accepted_effect old new (event.Commit moment prepared) (reply.Lease answer) step = absurd step
accepted_effect old new (event.Commit moment prepared) (reply.Query answer) step = absurd step
accepted_effect old new (event.Commit moment prepared) (reply.Publish answer) step = absurd step
accepted_effect old new (event.Commit moment prepared) (reply.Begin answer) step = absurd step
accepted_effect old new (event.Commit moment prepared) (reply.Piece answer) step = absurd step
accepted_effect old new (event.Query moment lease query) (reply.Lease answer) step = absurd step
accepted_effect old new (event.Query moment lease query) (reply.Commit answer) step = absurd step
accepted_effect old new (event.Query moment lease query) (reply.Publish answer) step = absurd step
accepted_effect old new (event.Query moment lease query) (reply.Begin answer) step = absurd step
accepted_effect old new (event.Query moment lease query) (reply.Piece answer) step = absurd step
accepted_effect old new (event.Publish moment moves) (reply.Lease answer) step = absurd step
accepted_effect old new (event.Publish moment moves) (reply.Commit answer) step = absurd step
accepted_effect old new (event.Publish moment moves) (reply.Query answer) step = absurd step
accepted_effect old new (event.Publish moment moves) (reply.Begin answer) step = absurd step
accepted_effect old new (event.Publish moment moves) (reply.Piece answer) step = absurd step
accepted_effect old new (event.Begin moment element pieces) (reply.Lease answer) step = absurd step
accepted_effect old new (event.Begin moment element pieces) (reply.Commit answer) step = absurd step
accepted_effect old new (event.Begin moment element pieces) (reply.Query answer) step = absurd step
accepted_effect old new (event.Begin moment element pieces) (reply.Publish answer) step = absurd step
accepted_effect old new (event.Begin moment element pieces) (reply.Piece answer) step = absurd step
accepted_effect old new (event.Piece moment read) (reply.Lease answer) step = absurd step
accepted_effect old new (event.Piece moment read) (reply.Commit answer) step = absurd step
accepted_effect old new (event.Piece moment read) (reply.Query answer) step = absurd step
accepted_effect old new (event.Piece moment read) (reply.Publish answer) step = absurd step
accepted_effect old new (event.Piece moment read) (reply.Begin answer) step = absurd step
