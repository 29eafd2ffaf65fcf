-- One event more at the end of a run.
use Rattle.std.proofs.Common.{◌≡◌, List, [], ◌∷◌, ◌++◌, ◌+◌, length, refl, subst, arith}
use Rattle.world.specs.declared.event.Event.{Event}
use Rattle.world.specs.declared.event.Reply.{Reply}
use Rattle.world.specs.Run.{Happens, Runs}
use Rattle.world.specs.State.{State, Agrees, IsReplayed}

pub longer : {A : Type 0} (xs : List A) (x : A) → length (xs ++ x ∷ []) ≡ length xs + 1
longer [] x = refl
longer (y ∷ ys) x = omega (arith, longer ys x)

pub one_more : (old middle new : State) (events : List Event) (replies : List Reply) (event : Event) (reply : Reply) → Runs old events replies middle → Happens middle event reply new → IsReplayed new → Agrees new → Runs old (events ++ event ∷ []) (replies ++ reply ∷ []) new
one_more old middle new [] [] event reply runs happens replayed agrees = (new, subst (λ (s : State). Happens s event reply new) runs happens, replayed, agrees, refl)
one_more old middle new [] (r ∷ rs) event reply runs happens replayed agrees = absurd runs
one_more old middle new (e ∷ es) [] event reply runs happens replayed agrees = absurd runs
one_more old middle new (e ∷ es) (r ∷ rs) event reply runs happens replayed agrees = (runs.0, runs.1, runs.2, runs.3, one_more runs.0 middle new es rs event reply runs.4 happens replayed agrees)
