-- One more line is replied to.
use Rattle.std.proofs.Common.{◌≡◌, ◌++◌, ◌∷◌, ◌+◌, ◌<◌, ℕ, List, [], length, get_or, take, Bool, refl, sym, ap, subst, ◌∙◌}
use Rattle.std.proofs.lemmas.List.{take_more}
use Rattle.script_json.specs.Session.{Session}
use Rattle.script_json.specs.Replies.{Reply}
use Rattle.prompt.specs.Undo.{AreReplied}

replied_more : (old : Session) (lines : List (List ℕ)) (mid new : Session) (line reply : List ℕ) (bad : Bool) → AreReplied old lines mid → Reply mid line reply bad new → AreReplied old (lines ++ line ∷ []) new
replied_more old [] mid new line reply bad h r = (reply, bad, new, subst (λ (s : Session). Reply s line reply bad new) h r, refl)
replied_more old (l ∷ ls) mid new line reply bad h r = (h.0, h.1, h.2, h.3, replied_more h.2 ls mid new line reply bad h.4 r)

pub replied_at : (old : Session) (lines : List (List ℕ)) (i : ℕ) (mid new : Session) (line reply : List ℕ) (bad : Bool) → i < length lines → line ≡ get_or lines i line → AreReplied old (take i lines) mid → Reply mid line reply bad new
    → AreReplied old (take (i + 1) lines) new
replied_at old lines i mid new line reply bad lt is h r =
    let front : take (i + 1) lines ≡ take i lines ++ line ∷ [] = take_more lines i line lt ∙ ap (λ (x : List ℕ). take i lines ++ x ∷ []) (sym is) in
    subst (λ (l : List (List ℕ)). AreReplied old l new) (sym front) (replied_more old (take i lines) mid new line reply bad h r)
