-- One more line.
use Rattle.std.proofs.Common.{◌≡◌, ◌++◌, ◌∷◌, ◌+◌, ◌≤◌, ℕ, List, [], Option, Some, None, Result, Ok, Err, IfErr, IsErrAnd, OnErr, Bool, cond, length-append, ap, sym, subst, ◌∙◌, refl, arith, true, false, append_assoc, inl, inr}
use mathlib.Core.List.{map}
use mir.Val.{bool_byte}
use Rattle.std.specs.List.{concat}
use Rattle.std.specs.Io.KnownBytes.{Consumes, Appends, Keeps}
use Rattle.std.proofs.KnownBytes.{Consumes-trans, Appends-kept, Appends-trans}
use Rattle.std.proofs.lemmas.List.{append-nil, map-append}
use Rattle.std.proofs.lemmas.List.Folds.{concat-append}
use Rattle.prompt.specs.Lines.{HasRead, IsRaw, AreRaw, stripped}
use Rattle.prompt.specs.Conversation.{IsAnswered, AreAnswered, AppendsPrefix, Conversed, IsAwaited, IsCut, IsSoFar, IsUnanswered, IsWritten, is_quit, prompt_text}
use Rattle.prompt.specs.declared.fault.PromptFault.{PromptFault}
use Rattle.prompt.specs.declared.form.Form.{Form}
use Rattle.prompt.specs.declared.conversation.Summary.{Summary}
use Rattle.prompt.specs.declared.fault.PromptFault.TheVariants.{Read, Write, Memory}
use Rattle.prompt.specs.declared.state.PromptState.{PromptState}
use Rattle.prompt.specs.Save.{Keeping}

-- the text of one more answer
abbrev pub longer : Form → List ℕ → PromptState → List ℕ → List ℕ
longer form text t answer = text ++ (prompt_text form t.session ++ answer)

pub one_more : (keeps : Keeping) (form : Form) (s : PromptState) (ls : List (List ℕ)) (text : List ℕ) (bad : ℕ) (t : PromptState) (l answer : List ℕ) (b : Bool) (u : PromptState)
    → AreAnswered keeps form s ls text bad t → IsAnswered keeps form t l answer b u → is_quit l ≡ false
    → AreAnswered keeps form s (ls ++ l ∷ []) (longer form text t answer) (bad + cond b 1 0) u
one_more keeps form s [] text bad t l answer b u h r q = (
  answer,
  b,
  u,
  [],
  0,
  subst (λ v. IsAnswered keeps form v l answer b u) h.2 r,
  (refl, refl, refl),
  q,
  ap (λ x. x ++ (prompt_text form t.session ++ answer)) h.0 ∙ ap (λ v. prompt_text form v.session ++ answer) h.2 ∙ ap (λ x. prompt_text form s.session ++ x) (sym (append-nil answer)),
  ap (λ n. n + cond b 1 0) h.1 ∙ omega arith,
)
one_more keeps form s (x ∷ ls) text bad t l answer b u h r q = (
  h.0,
  h.1,
  h.2,
  longer form h.3 t answer,
  h.4 + cond b 1 0,
  h.5,
  one_more keeps form h.2 ls h.3 h.4 t l answer b u h.6 r q,
  h.7,
  ap (λ y. longer form y t answer) h.8 ∙ append_assoc {A = ℕ} (prompt_text form s.session) (h.0 ++ h.3) (prompt_text form t.session ++ answer) ∙ ap (λ y. prompt_text form s.session ++ y) (append_assoc {A = ℕ} h.0 h.3 (prompt_text form t.session ++ answer)),
  ap (λ n. n + cond b 1 0) h.9 ∙ omega arith,
)

byte_is : (b : Bool) → bool_byte b ≡ cond b 1 0
byte_is true = refl
byte_is false = refl

pub byte_few : (b : Bool) (n : ℕ) → n ≡ bool_byte b → n ≤ 1
byte_few true n e = omega arith
byte_few false n e = omega arith

pub one_more_counted : (keeps : Keeping) (form : Form) (s : PromptState) (ls : List (List ℕ)) (text : List ℕ) (bad : ℕ) (t : PromptState) (l answer : List ℕ) (b : Bool) (u : PromptState) (n : ℕ) → n ≡ bool_byte b
    → AreAnswered keeps form s ls text bad t → IsAnswered keeps form t l answer b u → is_quit l ≡ false
    → AreAnswered keeps form s (ls ++ l ∷ []) (longer form text t answer) (bad + n) u
one_more_counted keeps form s ls text bad t l answer b u n e h r q =
    let P : ℕ → Type 0 = λ k. AreAnswered keeps form s (ls ++ l ∷ []) (longer form text t answer) (bad + k) u in
    subst P (sym (e ∙ byte_is b)) (one_more keeps form s ls text bad t l answer b u h r q)

raw_more : (raws : List (List ℕ)) (raw : List ℕ) → AreRaw raws → IsRaw raw → AreRaw (raws ++ raw ∷ [])
raw_more [] raw h r = (r, tt)
raw_more (x ∷ raws) raw h r = (h.0, raw_more raws raw h.1 r)

-- One more line was read.
pub read_more : (input mid rest : Option (List ℕ)) (ls : List (List ℕ)) (raw l : List ℕ) → HasRead input ls mid → Consumes mid rest raw → IsRaw raw → l ≡ stripped raw → HasRead input (ls ++ l ∷ []) rest
read_more input mid rest ls raw l h c r e =
    let bytes = h.0 in
    let raws = h.2.0 in (
      bytes ++ raw,
      Consumes-trans _ _ _ bytes raw h.1 c,
      (
        raws ++ raw ∷ [],
        ap (λ x. x ++ raw) h.2.1 ∙ sym (concat-append raws (raw ∷ []) ∙ ap (λ x. concat raws ++ x) (append-nil raw)),
        raw_more raws raw h.2.2 r,
        ap (λ x. x ++ l ∷ []) h.2.3 ∙ ap (λ y. map stripped raws ++ y ∷ []) e ∙ sym (map-append stripped raws (raw ∷ [])),
      ),
    )

-- One more line was asked for and answered.
pub so_far-more : {keeps : Keeping} {start : PromptState} {form : Form} {input inner rest old mid at new : Option (List ℕ)} {n bad : ℕ} {s u : PromptState} {l : List ℕ} {b : Bool} (k : ℕ)
    → IsSoFar keeps start form input inner old mid n bad s → Appends mid at (prompt_text form s.session) → IsAwaited inner rest (Some l) → IsWritten keeps form s l b u at new → k ≡ bool_byte b
    → IsSoFar keeps start form input rest old new (n + 1) (bad + k) u
so_far-more {keeps} {start} {form} {input} {inner} {rest} {old} {mid} {at} {new} {n} {bad} {s} {u} {l} {b} k h p w t e = record {
  read = h.read ++ l ∷ [];
  text = longer form h.text s t.text;
  taken = read_more input inner rest h.read w.0.0 l h.taken w.0.1 w.0.2 w.0.3;
  written = Appends-trans old mid new h.text (prompt_text form s.session ++ t.text) h.written (Appends-trans mid at new (prompt_text form s.session) t.text p t.written);
  answered = one_more_counted keeps form start h.read h.text bad s l t.text b u k e h.answered t.answered w.1;
  count = let c = h.count in omega (arith, c, length-append h.read (l ∷ []));
}

pub at_end : {keeps : Keeping} {start : PromptState} {form : Form} {input inner old mid : Option (List ℕ)} {n bad : ℕ} {s : PromptState} (rest new handed : Option (List ℕ))
    → IsSoFar keeps start form input inner old mid n bad s → Appends mid new (prompt_text form s.session) → IsAwaited inner rest None → handed ≡ new → Conversed keeps start form input rest old new handed (Ok (record { lines = n; bad = bad }))
at_end {keeps} {start} {form} {inner = inner} {old = old} {mid = mid} {s = s} rest new handed h p w e =
    (h.read, inner, h.text ++ prompt_text form s.session, h.taken, w, (h.text, s, h.answered, refl), Appends-trans old mid new h.text (prompt_text form s.session) h.written p, h.count, e)

broken : {keeps : Keeping} {start : PromptState} {form : Form} {input inner old mid : Option (List ℕ)} {n bad : ℕ} {s : PromptState} (rest at new handed : Option (List ℕ)) (l : List ℕ) (kept : Type 0) (fault : PromptFault)
    → IsSoFar keeps start form input inner old mid n bad s → Appends mid at (prompt_text form s.session) → IsAwaited inner rest (Some l) → IsUnanswered keeps kept form s l at new fault → (kept → (at ≡ new) × (handed ≡ new))
    → Conversed keeps start form input rest old new handed (Err fault)
broken rest at new handed l kept Read h p w u k = absurd u
broken {inner = inner} {mid = mid} {n = n} {bad = bad} {s = s} rest at new handed l kept Write h p w u k = (n, bad, s, inner, mid, h, inl (inr (refl, record { line = l; at = at; prompt = p; awaited = w; cut = u })))
broken {keeps} {start} {form} {inner = inner} {mid = mid} {n = n} {bad = bad} {s = s} rest at new handed l kept Memory h p w u k =
    (n, bad, s, inner, mid, h, inl (inl (inr (record { shown = subst (λ x. Appends mid x (prompt_text form s.session)) (k u).0 p; handed_on = (k u).1; part = (w.0.0, w.0.1, w.0.2.0) }))))

-- The next line was read, and its answer failed.
pub broken_in_answer : {keeps : Keeping} {start : PromptState} {form : Form} {input inner old mid : Option (List ℕ)} {n bad : ℕ} {s : PromptState} (rest at new handed : Option (List ℕ)) (l : List ℕ) (kept : Type 0) (r : Result Summary PromptFault) (Q : PromptFault → Type 0) (fault : PromptFault)
    → IsErrAnd r Q → ((e : PromptFault) → Q e → e ≡ fault) → IsSoFar keeps start form input inner old mid n bad s → Appends mid at (prompt_text form s.session) → IsAwaited inner rest (Some l) → IsUnanswered keeps kept form s l at new fault
    → (kept → (at ≡ new) × (handed ≡ new)) → Conversed keeps start form input rest old new handed r
broken_in_answer rest at new handed l kept (Ok v) Q fault f is h p w u k = absurd f
broken_in_answer {keeps} {start} {form} {input} {old = old} rest at new handed l kept (Err e) Q fault f is h p w u k =
    subst (λ (x : PromptFault). Conversed keeps start form input rest old new handed (Err x)) (sym (is e f)) (broken rest at new handed l kept fault h p w u k)

-- ---- what one call wrote

pub on_err : {T E : Type 0} (r : Result T E) {P : Type 0} → P → OnErr r P
on_err (Ok x) p = tt
on_err (Err e) p = p

-- The writer failed in an answer.
pub cut_by_writer : {T : Type 0} {keeps : Keeping} {form : Form} {old : PromptState} {line : List ℕ} {before after : Option (List ℕ)} (kept : Type 0) (r : Result T PromptFault) (Q : PromptFault → Type 0) → IsErrAnd r Q → ((e : PromptFault) → Q e → e ≡ Write)
    → IsCut keeps form old line before after → IfErr r (λ e. IsUnanswered keeps kept form old line before after e)
cut_by_writer kept (Ok v) Q f is cut = absurd f
cut_by_writer {keeps = keeps} {form = form} {old = old} {line = line} {before = before} {after = after} kept (Err e) Q f is cut = subst (λ (x : PromptFault). IsUnanswered keeps kept form old line before after x) (sym (is e f)) cut

-- The whole prompt was written and kept.
pub prompt_kept : (before after flushed : Option (List ℕ)) (text prompt : List ℕ) → Appends before after text → text ≡ prompt → Keeps after flushed → Appends before flushed prompt
prompt_kept before after flushed text prompt a e k = Appends-kept before after flushed prompt (subst (Appends before after) e a) k

pub prompt_whole : (before after : Option (List ℕ)) (prompt : List ℕ) → Appends before after prompt → AppendsPrefix before after prompt
prompt_whole before after prompt a = (prompt, [], a, sym (append-nil prompt))
