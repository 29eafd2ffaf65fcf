-- Lines that did not end a run, and the one that did.
use Rattle.std.proofs.Common.{◌≡◌, ◌≤◌, ◌++◌, ◌∷◌, ◌+◌, ℕ, List, [], length, Option, Some, None, Result, Ok, Err, Bool, cond, not, ap, sym, subst, ◌∙◌, refl, arith, true, false, ◌&&◌, append_assoc, length-append, inl, inr, Bor}
use mir.Val.{bool_byte}
use Rattle.std.proofs.KnownBytes.{Appends-nil, Appends-trans}
use Rattle.std.proofs.lemmas.Iterator.{YieldsList}
use Rattle.std.proofs.lemmas.List.{append-nil}
use Rattle.std.specs.Io.KnownBytes.{Appends}
use Rattle.std.specs.Str.Iter.{lines_steps}
use Rattle.std.specs.Str.Lines.{lines}
use Rattle.std.specs.declared.str.Lines.{Lines}
use Rattle.script_session.specs.Session.{Session, empty}
use Rattle.script_session.specs.Replies.{Reply}
use Rattle.script.specs.OneLine.{IsAnswered, IsReplied}
use Rattle.script.specs.Script.{Replies, limit}
use Rattle.script.specs.Watched.{AnsweredUntil, IsStopped, Passing, is_wrong}
use Rattle.script.specs.declared.run.ScriptFault.{ScriptFault}
use Rattle.script.specs.declared.run.ScriptFault.TheVariants.{Read, TooLong, NotUtf8, Write, Memory}
use Rattle.script.specs.declared.watched.Ending.{Ending}
use Rattle.script.specs.declared.watched.Verdict.{Verdict}
use Rattle.script.proofs.Texts.{byte_is, cut_before, cut_within, goes_on, lines_fit, next_line, no_line}

-- they gave these replies
pub replied : (stops : Bool) (s : Session) (ls : List (List ℕ)) (text : List ℕ) (bad : ℕ) (t : Session) → Passing stops s ls text bad t → Replies s ls text bad t
replied stops s [] text bad t h = h
replied stops s (x ∷ ls) text bad t h = (h.0, h.1, h.2, h.3, h.4, h.5, replied stops h.2 ls h.3 h.4 t h.7, h.8, h.9)

passing_more : (stops : Bool) (s : Session) (ls : List (List ℕ)) (text : List ℕ) (bad : ℕ) (t : Session) (l reply : List ℕ) (b : Bool) (u : Session)
    → Passing stops s ls text bad t → Reply t l reply b u → (stops && is_wrong reply b) ≡ false → Passing stops s (ls ++ l ∷ []) (text ++ reply) (bad + cond b 1 0) u
passing_more stops s [] text bad t l reply b u h r p =
    (reply, b, u, [], 0, subst (λ v. Reply v l reply b u) h.2 r, p, (refl, refl, refl), ap (λ x. x ++ reply) h.0 ∙ sym (append-nil reply), ap (λ n. n + cond b 1 0) h.1 ∙ omega arith)
passing_more stops s (x ∷ ls) text bad t l reply b u h r p = (
  h.0,
  h.1,
  h.2,
  h.3 ++ reply,
  h.4 + cond b 1 0,
  h.5,
  h.6,
  passing_more stops h.2 ls h.3 h.4 t l reply b u h.7 r p,
  ap (λ y. y ++ reply) h.8 ∙ append_assoc {A = ℕ} h.0 h.3 reply,
  ap (λ n. n + cond b 1 0) h.9 ∙ omega arith,
)

-- So many lines of the input passed, and so many of them were bad; what they gave went out, and the iterator has the others left.
pub record Passed (stops : Bool) (input : List ℕ) (iter : Lines) (many bad : ℕ) (session : Session) (before after : Option (List ℕ)) : Type 0 where
  pub passed : List (List ℕ)
  pub left : List (List ℕ)
  pub out : List ℕ
  pub yields : YieldsList lines_steps (λ y. y.now) iter left
  pub is_all : lines input ≡ passed ++ left
  pub is_counted : many ≡ length passed
  pub is_out : Appends before after out
  pub passing : Passing stops empty passed out bad session

-- what the call promises
abbrev pub Ended : Bool → List ℕ → Option (List ℕ) → Option (List ℕ) → Result Ending ScriptFault → Type 0
Ended stops input before after result = (out : List ℕ) × Appends before after out × AnsweredUntil stops input out result

pub none_passed : (stops : Bool) (input : List ℕ) (iter : Lines) (session : Session) (before : Option (List ℕ)) → YieldsList lines_steps (λ y. y.now) iter (lines input) → session ≡ empty → Passed stops input iter 0 0 session before before
none_passed stops input iter session before yields new =
    record { passed = []; left = lines input; out = []; yields = yields; is_all = refl; is_counted = refl; is_out = Appends-nil before; passing = (refl, refl, new) }

pub few_passed : (stops : Bool) (input : List ℕ) (iter : Lines) (many bad : ℕ) (session : Session) (before after : Option (List ℕ)) → Passed stops input iter many bad session before after → length input ≤ limit → many ≤ limit + 1
few_passed stops input iter many bad session before after h few = omega (arith, lines_fit input h.passed h.left h.is_all few, h.is_counted)

-- one more line passed
pub passed_one : (stops : Bool) (input : List ℕ) (iter next : Lines) (x : Bor (List ℕ)) (many bad n : ℕ) (s t : Session) (before mid after : Option (List ℕ)) (verdict : Verdict)
    → Passed stops input iter many bad s before mid → lines_steps iter (Some x) next → IsReplied s x.now t mid after verdict
    → (stops && verdict.is_wrong) ≡ false → n ≡ bool_byte verdict.is_bad → Passed stops input next (many + 1) (bad + n) t before after
passed_one stops input iter next x many bad n s t before mid after verdict h step r goes count =
    let m = next_line iter h.left x next h.yields step in
    let text : List ℕ = h.out ++ r.reply in
    let ls : List (List ℕ) = h.passed ++ x.now ∷ [] in
    let passes : (stops && is_wrong r.reply verdict.is_bad) ≡ false = subst (λ w. (stops && w) ≡ false) r.is_judged goes in
    let P : ℕ → Type 0 = λ k. Passing stops empty ls text (bad + k) t in
    record {
      passed = ls;
      left = m.0;
      out = text;
      yields = m.2;
      is_all = goes_on h.passed h.left x.now m.0 (lines input) h.is_all m.1;
      is_counted = omega (arith, h.is_counted, length-append h.passed (x.now ∷ []));
      is_out = Appends-trans before mid after h.out r.reply h.is_out r.is_out;
      passing = subst P (sym (count ∙ byte_is verdict.is_bad)) (passing_more stops empty h.passed h.out bad s x.now r.reply verdict.is_bad t h.passing r.is_due passes);
    }

-- the line after them ended the run
pub ended_at : (stops : Bool) (input : List ℕ) (iter next : Lines) (x : Bor (List ℕ)) (many bad n : ℕ) (s t : Session) (before mid after : Option (List ℕ)) (verdict : Verdict) (refused : Bool)
    → Passed stops input iter many bad s before mid → lines_steps iter (Some x) next → IsReplied s x.now t mid after verdict
    → stops ≡ true → verdict.is_wrong ≡ true → n ≡ bool_byte verdict.is_bad → refused ≡ not verdict.is_bad
    → Ended stops input before after (Ok (record { lines = many + 1; bad = bad + n; is_refused = refused }))
ended_at stops input iter next x many bad n s t before mid after verdict refused h step r on wrong count same =
    let m = next_line iter h.left x next h.yields step in
    let stopped : IsStopped input h.passed h.out bad s (h.out ++ r.reply) (record { lines = many + 1; bad = bad + n; is_refused = refused }) = (x.now, m.0, r.reply, verdict.is_bad, t, h.is_all ∙ ap (λ y. h.passed ++ y) m.1, r.is_due, sym r.is_judged ∙ wrong, refl, ap (λ k. k + 1) h.is_counted, ap (λ k. bad + k) (count ∙ byte_is verdict.is_bad), same) in
    (h.out ++ r.reply, Appends-trans before mid after h.out r.reply h.is_out r.is_out, (h.passed, h.out, bad, s, h.passing, inr (on, stopped)))

-- no line ended it
pub ended_whole : (stops : Bool) (input : List ℕ) (iter next : Lines) (many bad : ℕ) (s : Session) (before after : Option (List ℕ))
    → Passed stops input iter many bad s before after → lines_steps iter None next
    → Ended stops input before after (Ok (record { lines = many; bad = bad; is_refused = false }))
ended_whole stops input iter next many bad s before after h step =
    let all : lines input ≡ h.passed = h.is_all ∙ ap (λ y. h.passed ++ y) (no_line iter h.left next h.yields step) ∙ append-nil h.passed in
    (h.out, h.is_out, (h.passed, h.out, bad, s, h.passing, inl (all, refl, h.is_counted, refl, refl)))

-- a fault at the line after them ended it
pub ended_faulty : (stops : Bool) (input : List ℕ) (iter next : Lines) (x : Bor (List ℕ)) (many bad : ℕ) (s t : Session) (before mid after : Option (List ℕ)) (fault : ScriptFault)
    → Passed stops input iter many bad s before mid → lines_steps iter (Some x) next → IsAnswered s x.now t mid after (Err fault) → Ended stops input before after (Err fault)
ended_faulty stops input iter next x many bad s t before mid after Read h step r = absurd r
ended_faulty stops input iter next x many bad s t before mid after TooLong h step r = absurd r
ended_faulty stops input iter next x many bad s t before mid after NotUtf8 h step r = absurd r
ended_faulty stops input iter next x many bad s t before mid after Write h step r =
    let m = next_line iter h.left x next h.yields step in
    let sent : List ℕ = r.is_out.0 in
    let replies = replied stops empty h.passed h.out bad s h.passing in (
      h.out ++ sent,
      Appends-trans before mid after h.out sent h.is_out r.is_out.2,
      cut_within input h.passed h.left h.out bad s x.now m.0 r.reply r.is_bad r.new sent r.is_out.1 h.is_all m.1 replies r.is_due r.is_out.3,
    )
ended_faulty stops input iter next x many bad s t before mid after Memory h step r =
    (h.out ++ [], Appends-trans before mid after h.out [] h.is_out r, rw append-nil (cut_before input h.passed h.left h.out bad s h.is_all (replied stops empty h.passed h.out bad s h.passing)))
