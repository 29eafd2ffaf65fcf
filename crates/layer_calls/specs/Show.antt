-- Cited by the contracts of show and of the exported calls.
-- What a call gives, in the caller's bytes.
use Rattle.std.specs.Prelude.{◌≡◌, ℕ, List, length, Ok, Err}
use Rattle.handles.specs.Calls.{laid}
use Rattle.handles.specs.Statuses.{ok}
use Rattle.layer_calls.specs.Given.{Answer}
use Rattle.layer_calls.specs.declared.outcome.LayerOutcome.{LayerOutcome}

-- as much of the bytes as fits, with the reply's number and the length of all; or the call's refusal
abbrev pub Shows : Answer → List ℕ → LayerOutcome → List ℕ → Type 0
Shows (Ok reply) out outcome out' =
    (outcome ≡ record { status = ok; column = 0; number = reply.number; length = length reply.code }) × (out' ≡ laid out reply.code)
Shows (Err refusal) out outcome out' = (outcome ≡ refusal) × (out' ≡ out)
