use Rattle.std.proofs.Common.{◌≡◌, ◌∙◌, sym, ap, subst, Bool, true, false, List, ℕ, [], ◌∷◌, option_map}
use mir.Val.{bool_byte}
use Rattle.keycode.specs.declared.value.Value.TheVariants as value
use Rattle.keycode.specs.Code.{code}
use Rattle.row_keys.specs.inner.After.{IsAfter}
use Rattle.row_keys.proofs.after_value.Goals as goal

pub returns-in-Null : goal.returns-in-Null
returns-in-Null c = subst (λ (l : List ℕ). IsAfter l c.args.bytes.now (option_map (λ s. s.now) c.after.result)) (sym (ap code c.in-Null.is)) c.after.ensures

truth : (b : Bool) (n : ℕ) → n ≡ bool_byte b → code (value.Bool b) ≡ 4 ∷ n ∷ []
truth false n e = ap (λ m. 4 ∷ m ∷ []) (sym e)
truth true n e = ap (λ m. 4 ∷ m ∷ []) (sym e)

pub returns-in-Bool : goal.returns-in-Bool
returns-in-Bool c =
    subst (λ (l : List ℕ). IsAfter l c.args.bytes.now (option_map (λ s. s.now) c.after-in-Bool.result)) (sym (ap code c.in-Bool.is ∙ truth c.in-Bool.b c.from.result c.from.ensures)) c.after-in-Bool.ensures
