-- Why a world that goes on from a checkpoint stays alike.
use Rattle.std.proofs.Common.{◌≡◌, ℕ, ◌+◌, ◌≤◌, List, [], ◌∷◌, ◌++◌, length, refl, sym, ap, subst, ◌∙◌, arith}
use Rattle.row_map.specs.Rows.{Pairs}
use Rattle.replay.specs.declared.entry.Entry.{Entry}
use Rattle.replay.specs.declared.entry.What.{What}
use Rattle.replay.specs.declared.entry.What.TheVariants.{Lease as Granted, Txn, Publish, Begin, Piece}
use Rattle.replay.specs.Replay.{Facts, after, after_call, pairs_by}
use Rattle.replay.specs.Headline.{MayFollow}
use Rattle.checkpoint.specs.Alike.{AreAlike}
use Rattle.checkpoint.proofs.Alike.{alike_go_on}
use Rattle.checkpoint.proofs.Answers.{alike_answer_alike}
use Rattle.checkpoint.proofs.Checkpoint.{checkpoints_keep}
use Rattle.world.specs.State.{State, facts_of, effect, entry_count, IsReplayed}
use Rattle.world.proofs.Invariant.{facts_after}
use Rattle.checkpoint_laws.specs.Later.{AreAlikeStates, CheckpointsOpenAlike, AcceptedGoOn, RunsGoOn, AlikeStatesAnswerAlike}

pairs_after : (facts : Facts) (now : ℕ) (what : What) → pairs_by facts facts.pairs what ≡ (after_call facts now what).pairs
pairs_after facts now (Granted lease) = refl
pairs_after facts now (Txn lease ops) = refl
pairs_after facts now (Publish step) = refl
pairs_after facts now (Begin number pieces) = refl
pairs_after facts now (Piece number piece cursor) = refl

replayed_after : (s : State) (entry : Entry) → IsReplayed s → IsReplayed (effect s entry)
replayed_after s entry is =
    ap (λ (p : Pairs). pairs_by (facts_of s) p entry.what) is ∙ pairs_after (facts_of s) entry.moment entry.what ∙ ap (λ (f : Facts). f.pairs) (sym (facts_after s entry))

pub checkpoints_open_alike : CheckpointsOpenAlike
checkpoints_open_alike state replayed kept = record { alike = checkpoints_keep (facts_of state) (entry_count state) kept; counted = omega arith; replayed = replayed; also_replayed = refl }

longer : (log : List Entry) (entry : Entry) → length (log ++ entry ∷ []) ≡ length log + 1
longer [] entry = refl
longer (e ∷ log) entry = omega (arith, longer log entry)

one_more : (one other : State) (entry : Entry) → entry_count other ≡ entry_count one → entry_count (effect other entry) ≡ entry_count (effect one entry)
one_more one other entry same = omega (arith, same, longer one.log entry, longer other.log entry)

alike_after : (one other : State) (entry : Entry) → AreAlikeStates one other → (facts_of one).moment ≤ entry.moment → MayFollow (facts_of one) entry.moment entry.what
    → MayFollow (facts_of other) entry.moment entry.what × AreAlikeStates (effect one entry) (effect other entry)
alike_after one other entry a later may =
    let next = alike_go_on (facts_of one) (facts_of other) entry a.alike later may in (
      next.0,
      record {
        alike = subst (λ (f : Facts). AreAlike f (facts_of (effect other entry))) (sym (facts_after one entry)) (subst (AreAlike (after (facts_of one) entry)) (sym (facts_after other entry)) next.1);
        counted = one_more one other entry a.counted;
        replayed = replayed_after one entry a.replayed;
        also_replayed = replayed_after other entry a.also_replayed;
      },
    )

pub accepted_go_on : AcceptedGoOn
accepted_go_on one other new now what receipt a is =
    let entry : Entry = record { moment = now; what = what } in
    let next = alike_after one other entry a is.later is.follows in (
      subst (λ (m : ℕ). m ≤ now) (sym (ap (λ (f : Facts). f.moment) a.alike.same)) is.later,
      next.0,
      subst (λ (e : Entry). AreAlikeStates new (effect other e)) (sym is.entry) (subst (λ (s : State). AreAlikeStates s (effect other entry)) (sym (is.state ∙ ap (effect one) is.entry)) next.1),
    )

pub runs_go_on : RunsGoOn
runs_go_on one other new [] a is = subst (λ (s : State). AreAlikeStates s other) (sym is) a
runs_go_on one other new (entry ∷ entries) a (receipt, middle, is, rest) =
    let next = accepted_go_on one other middle entry.moment entry.what receipt a is in
    runs_go_on middle (effect other entry) new entries (subst (λ (e : Entry). AreAlikeStates middle (effect other e)) is.entry next.2) rest

pub alike_states_answer_alike : AlikeStatesAnswerAlike
alike_states_answer_alike one other a = record {
  pairs = a.also_replayed ∙ ap (λ (f : Facts). f.pairs) a.alike.same ∙ sym a.replayed;
  facts = alike_answer_alike (facts_of one) (facts_of other) a.alike;
}
