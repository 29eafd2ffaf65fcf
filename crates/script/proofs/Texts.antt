-- The replies to one more line.
use Rattle.std.proofs.Common.{◌≡◌, ◌++◌, ◌∷◌, ◌+◌, ◌≤◌, ℕ, List, [], length, Some, None, Bool, cond, ap, sym, subst, ◌∙◌, refl, arith, true, false, append_assoc, length-append, Bor, ◌==◌}
use mir.Val.{bool_byte}
use Rattle.std.proofs.lemmas.List.{append-nil}
use Rattle.std.proofs.lemmas.Iterator.{YieldsList}
use Rattle.std.specs.Str.Iter.{lines_steps}
use Rattle.std.specs.Str.Lines.{lines, lines_of_parts}
use Rattle.std.specs.List.{slice_split, count_by}
use Rattle.std.proofs.lemmas.List.Splits.{length-slice_split}
use Rattle.std.proofs.lemmas.Grind.{common_steps}
use Rattle.std.specs.declared.str.Lines.{Lines}
use Rattle.script_session.specs.Session.{Session, empty}
use Rattle.script_session.specs.Replies.{Reply}
use Rattle.script.specs.Script.{Replies, IsCutTextOf, limit}

one_more : (s : Session) (ls : List (List ℕ)) (text : List ℕ) (bad : ℕ) (t : Session) (l reply : List ℕ) (b : Bool) (u : Session) → Replies s ls text bad t → Reply t l reply b u → Replies s (ls ++ l ∷ []) (text ++ reply) (bad + cond b 1 0) u
one_more s [] text bad t l reply b u h r =
    (reply, b, u, [], 0, subst (λ v. Reply v l reply b u) h.2 r, (refl, refl, refl), ap (λ x. x ++ reply) h.0 ∙ sym (append-nil reply), ap (λ n. n + cond b 1 0) h.1 ∙ omega arith)
one_more s (x ∷ ls) text bad t l reply b u h r =
    (h.0, h.1, h.2, h.3 ++ reply, h.4 + cond b 1 0, h.5, one_more h.2 ls h.3 h.4 t l reply b u h.6 r, ap (λ y. y ++ reply) h.7 ∙ append_assoc {A = ℕ} h.0 h.3 reply, ap (λ n. n + cond b 1 0) h.8 ∙ omega arith)

-- The next line is the first of those that are left.
pub next_line : (s : Lines) (left : List (List ℕ)) (x : Bor (List ℕ)) (u : Lines) → YieldsList lines_steps (λ y. y.now) s left → lines_steps s (Some x) u → (more : List (List ℕ)) × (left ≡ x.now ∷ more) × YieldsList lines_steps (λ y. y.now) u more
next_line s [] x u y h = absurd (y.runs x u h)
next_line s (l ∷ ls) x u y h = let m = y.runs.1 x u h in (ls, ap (λ v. v ∷ ls) (sym m.0), record { runs = m.1 })

pub no_line : (s : Lines) (left : List (List ℕ)) (u : Lines) → YieldsList lines_steps (λ y. y.now) s left → lines_steps s None u → left ≡ []
no_line s [] u y h = refl
no_line s (l ∷ ls) u y h = absurd (y.runs.0 u h)

parts_few : (parts : List (List ℕ)) → length (lines_of_parts parts) ≤ length parts
parts_few [] = omega arith
parts_few (x ∷ []) = grind (arith, common_steps)
parts_few (x ∷ y ∷ more) = let h = parts_few (y ∷ more) in omega arith

counts_few : (p : ℕ → Bool) (bs : List ℕ) → count_by p bs ≤ length bs
counts_few p [] = omega arith
counts_few p (b ∷ bs) = let h = counts_few p bs in grind (arith, common_steps)

pub lines_few : (bs : List ℕ) → length (lines bs) ≤ length bs + 1
lines_few bs = omega (arith, parts_few (slice_split (λ b. b == 10) bs), length-slice_split (λ b. b == 10) bs, counts_few (λ b. b == 10) bs)

pub lines_fit : (bs : List ℕ) (prefix left : List (List ℕ)) → lines bs ≡ prefix ++ left → length bs ≤ limit → length prefix ≤ limit + 1
lines_fit bs prefix left e l = omega (arith, lines_few bs, ap length e, length-append prefix left)

pub cut_before : (input : List ℕ) (prefix left : List (List ℕ)) (out : List ℕ) (bad : ℕ) (s : Session) → lines input ≡ prefix ++ left → Replies empty prefix out bad s → IsCutTextOf input out
cut_before input prefix left out bad s e h = (prefix, left, out, bad, s, [], e, h, sym (append-nil out))

pub cut_within : (input : List ℕ) (prefix left : List (List ℕ)) (out : List ℕ) (bad : ℕ) (s : Session) (x : List ℕ) (more : List (List ℕ)) (reply : List ℕ) (b : Bool) (t : Session) (sent cut : List ℕ) → lines input ≡ prefix ++ left → left ≡ x ∷ more → Replies empty prefix out bad s → Reply s x reply b t → reply ≡ sent ++ cut → IsCutTextOf input (out ++ sent)
cut_within input prefix left out bad s x more reply b t sent cut e l h r c =
    (prefix ++ x ∷ [], more, out ++ reply, bad + cond b 1 0, t, cut, e ∙ ap (λ y. prefix ++ y) l ∙ sym (append_assoc {A = List ℕ} prefix (x ∷ []) more), one_more empty prefix out bad s x reply b t h r, ap (λ y. out ++ y) c ∙ sym (append_assoc {A = ℕ} out sent cut))

pub byte_is : (b : Bool) → bool_byte b ≡ cond b 1 0
byte_is true = refl
byte_is false = refl

pub byte_few : (b : Bool) (n : ℕ) → n ≡ bool_byte b → n ≤ 1
byte_few true n e = omega arith
byte_few false n e = omega arith

pub goes_on : (prefix left : List (List ℕ)) (x : List ℕ) (more all : List (List ℕ)) → all ≡ prefix ++ left → left ≡ x ∷ more → all ≡ (prefix ++ x ∷ []) ++ more
goes_on prefix left x more all e l = e ∙ ap (λ y. prefix ++ y) l ∙ sym (append_assoc {A = List ℕ} prefix (x ∷ []) more)
