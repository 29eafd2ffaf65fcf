-- The kinds of answer.
use Rattle.std.proofs.Common.{◌≡◌, ℕ, List, [], Bool, true, false, Option, Some, None, IfSome, refl, inl, inr, sym, subst}
use Rattle.std.specs.Str.{IsUtf8}
use Rattle.script_json.specs.Texts.{bad_line}
use Rattle.script_json.specs.Session.{Session}
use Rattle.script_json.specs.Replies.{Reply}
use Rattle.prompt.specs.declared.carry.CarryLine.{CarryLine}
use Rattle.prompt.specs.declared.form.Form.{Form}
use Rattle.prompt.specs.declared.state.PromptState.{PromptState}
use Rattle.prompt.specs.Conversation.{IsAnswered, IsCalm, IsTextOf, CarriedBy, carry_asked, is_view}
use Rattle.prompt.specs.LogCut.{CutIn, cut_remark, is_cut}
use Rattle.prompt.specs.Moment.{IsForeign, IsGiven}
use Rattle.prompt.specs.Save.{Keeping, SaveSays, file_of, is_save}
use Rattle.prompt.specs.Undo.{TakesBack, declared_after, is_undo}

pub answered_by : {keeps : Keeping} (form : Form) (old new : PromptState) (mid : Session) (line given reply remark text : List ℕ) (bad is_bad : Bool) → IsCalm old.session line → IsGiven old.session line given → Reply old.session given reply bad mid → new.session ≡ mid
    → new.declared ≡ declared_after mid old.declared given bad → IsTextOf form reply remark text → is_bad ≡ bad → IsAnswered keeps form old line text is_bad new
answered_by form old new mid line given reply remark text bad is_bad calm g r same d e b =
    let replied = subst (λ s. Reply old.session given reply is_bad s) (sym same) (subst (λ x. Reply old.session given reply x mid) (sym b) r) in
    let declared = subst (λ s. new.declared ≡ declared_after s old.declared given is_bad) (sym same) (subst (λ x. new.declared ≡ declared_after mid old.declared given x) (sym b) d) in
    record { reply = reply; remark = remark; written = e; kind = inl (calm, (given, g, replied, declared)) }

pub of_found : {X P : Type 0} (found : Option X) (x : X) → found ≡ Some x → IfSome found (λ _. P) → P
of_found {X} {P} found x is h = subst (λ (o : Option X). IfSome o (λ _. P)) is h

pub answered_view : {keeps : Keeping} (form : Form) (old : PromptState) (line remark text : List ℕ) (is_bad : Bool) → IsForeign line → carry_asked old.session line ≡ None → is_undo line ≡ false → is_cut line ≡ false → is_save line ≡ false → is_view line ≡ true → IsTextOf form [] remark text → is_bad ≡ false → IsAnswered keeps form old line text is_bad old
answered_view form old line remark text is_bad f calm kept whole unsaved v e b = record { reply = []; remark = remark; written = e; kind = inr (inl (refl, inl (f, (λ _. (calm, kept, whole, unsaved)), v, refl, b))) }

pub answered_bad : {keeps : Keeping} (form : Form) (old : PromptState) (line remark text : List ℕ) (is_bad : Bool) → (IsUtf8 line → ⊥) → IsTextOf form bad_line remark text → is_bad ≡ true → IsAnswered keeps form old line text is_bad old
answered_bad form old line remark text is_bad f e b = record { reply = bad_line; remark = remark; written = e; kind = inr (inl (refl, inr (f, refl, b))) }

pub answered_carried : {keeps : Keeping} (form : Form) (old new : PromptState) (line reply remark text : List ℕ) (carry : CarryLine) (is_bad : Bool) → IsForeign line → carry_asked old.session line ≡ Some carry → CarriedBy old.session (Some carry) reply new.session → new.declared ≡ old.declared
    → IsTextOf form reply remark text → is_bad ≡ false → IsAnswered keeps form old line text is_bad new
answered_carried form old new line reply remark text carry is_bad f asked h d e b =
    record { reply = reply; remark = remark; written = e; kind = inr (inr (inl (f, subst (λ (o : Option CarryLine). CarriedBy old.session o reply new.session) (sym asked) h, d, b))) }

pub answered_undone : {keeps : Keeping} (form : Form) (old new : PromptState) (line remark text : List ℕ) (taken : Option (List ℕ)) (is_bad : Bool) → IsForeign line → is_undo line ≡ true → TakesBack old taken new → IsTextOf form [] remark text → is_bad ≡ false → IsAnswered keeps form old line text is_bad new
answered_undone form old new line remark text taken is_bad f asked h e b = record { reply = []; remark = remark; written = e; kind = inr (inr (inr (inl (f, asked, (taken, h), refl, b)))) }

pub answered_cut : {keeps : Keeping} (form : Form) (old new : PromptState) (line remark text : List ℕ) (is_bad : Bool) → IsForeign line → is_cut line ≡ true → remark ≡ cut_remark old.session → CutIn old.session new.session → new.declared ≡ old.declared → IsTextOf form [] remark text → is_bad ≡ false
    → IsAnswered keeps form old line text is_bad new
answered_cut form old new line remark text is_bad f asked r h d e b = record { reply = []; remark = remark; written = e; kind = inr (inr (inr (inr (inl (f, asked, r, h, d, refl, b))))) }

pub answered_saved : {keeps : Keeping} (form : Form) (old : PromptState) (line remark text : List ℕ) (is_bad : Bool) → IsForeign line → is_save line ≡ true → SaveSays keeps old.session (file_of line) remark → IsTextOf form [] remark text → is_bad ≡ false
    → IsAnswered keeps form old line text is_bad old
answered_saved form old line remark text is_bad f asked s e b = record { reply = []; remark = remark; written = e; kind = inr (inr (inr (inr (inr (f, asked, s, refl, refl, b))))) }
