-- Cited by the contracts of World::run.
-- A run of events: one reply for each, in turn.
use Rattle.std.specs.Prelude.{◌≡◌, List, [], ◌∷◌}
use Rattle.world.specs.declared.event.Event.{Event}
use Rattle.world.specs.declared.event.Event.TheVariants as event
use Rattle.world.specs.declared.event.Reply.{Reply}
use Rattle.world.specs.declared.event.Reply.TheVariants as reply
use Rattle.world.specs.BeginReorg.{BeginStep}
use Rattle.world.specs.Calls.{LeaseStep, CommitStep}
use Rattle.world.specs.Piece.{PieceStep}
use Rattle.world.specs.Publish.{PublishStep}
use Rattle.world.specs.Query.{QueryStep}
use Rattle.world.specs.State.{State, Agrees, IsReplayed}

-- an event answers what its call answers, and leaves what that leaves
abbrev pub Happens : State → Event → Reply → State → Type 0
Happens old (event.Lease moment) (reply.Lease result) new = LeaseStep old moment result new
Happens old (event.Commit moment prepared) (reply.Commit result) new = CommitStep old moment prepared result new
Happens old (event.Query moment lease query) (reply.Query result) new = QueryStep old moment lease query result × (new ≡ old)
Happens old (event.Publish moment step) (reply.Publish result) new = PublishStep old moment step result new
Happens old (event.Begin moment element pieces) (reply.Begin result) new = BeginStep old moment element pieces result new
Happens old (event.Piece moment prepared) (reply.Piece result) new = PieceStep old moment prepared result new
Happens old event reply new = ⊥

-- after each event the pairs are those that the log gives, and the theorem holds
abbrev pub Runs : State → List Event → List Reply → State → Type 0
Runs old [] [] new = new ≡ old
Runs old (event ∷ events) (reply ∷ replies) new = (middle : State) × Happens old event reply middle × IsReplayed middle × Agrees middle × Runs middle events replies new
Runs old [] (reply ∷ replies) new = ⊥
Runs old (event ∷ events) [] new = ⊥
