-- A transaction under the lease that its server has.
use Rattle.std.proofs.Common.{◌≡◌, ℕ, List, Option, Some, Bool, false, refl, sym, subst}
use Rattle.std.specs.FinMap as map
use Rattle.script_grammar.specs.declared.operation.Operation.{Operation}
use Rattle.script_replies.specs.State.{State}
use Rattle.script_session.specs.declared.session.ServerLease.{ServerLease}
use Rattle.script_session.specs.declared.session.Opened.{Opened}
use Rattle.script_session.specs.declared.session.Session.TheVariants.{Running}
use Rattle.script_session.specs.declared.txn.Transacted.{Transacted}
use Rattle.script_names.specs.Names.{resolved_all}
use Rattle.script_replies.specs.Texts.{line}
use Rattle.script_session.specs.Answer.{TxnUnder}
use Rattle.script_session.specs.Txn.{Transacts, transacted_text}

pub txn_under : (opened : Opened) (server : List ℕ) (held : ServerLease) (moment : ℕ) (operations : List Operation) (how : Transacted) (world : State) (text : List ℕ) (bad : Bool)
    → map.get opened.leases server ≡ Some held → Transacts opened.world held moment (resolved_all held.schema operations) how world
    → text ≡ line (transacted_text how) → bad ≡ false
    → TxnUnder opened (map.get opened.leases server) moment operations text bad (Running (record opened { world = world }))
txn_under opened server held moment operations how world text bad found done reported good =
    subst (λ (o : Option ServerLease). TxnUnder opened o moment operations text bad (Running (record opened { world = world }))) (sym found)
    (how, world, done, (reported, good), refl)
