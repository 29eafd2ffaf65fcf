-- Each element stays on its way.
use Rattle.std.proofs.Common.{◌≡◌, ℕ, Option, Some, None, inl, inr, refl, sym, ap, subst, ◌∙◌, arith}
use Rattle.schema_version.specs.declared.element.ElementState.{ElementState}
use Rattle.schema_version.specs.declared.element.Way.{Way}
use Rattle.schema_version.specs.declared.element.Way.TheVariants.{Adding, Dropping}
use Rattle.schema_version.specs.declared.element.ElementDef.{ElementDef}
use Rattle.schema_version.specs.Version.{Version, element_at}
use Rattle.replay.specs.Replay.{Facts}
use Rattle.rollout.specs.Complete.{CallsGoOn}
use Rattle.rollout.specs.Left.{end_by, end_of, IsFurther, IsOnTheWay}

-- ---- one element

pub stays_further : (o : Option ElementDef) → IsFurther o o
stays_further None = refl
stays_further (Some e) = inl refl

pub further_on : (a b c : Option ElementDef) → IsFurther a b → IsFurther b c → IsFurther a c
further_on None b c none next = subst (λ (o : Option ElementDef). IsFurther o c) none next
further_on (Some e) None c out none = subst (λ (o : Option ElementDef). IsFurther (Some e) o) (sym none) out
further_on (Some e) (Some f) None (inl same) out = ap (λ (x : ElementDef). x.way) (sym same) ∙ out
further_on (Some e) (Some f) None (inr on) out = ap (λ (x : ElementDef). x.way) (sym on.0) ∙ out
further_on (Some e) (Some f) (Some g) (inl same) next = subst (λ (x : ElementDef). IsFurther (Some x) (Some g)) same next
further_on (Some e) (Some f) (Some g) (inr on) (inl same) = subst (λ (x : ElementDef). IsFurther (Some e) (Some x)) (sym same) (inr on)
further_on (Some e) (Some f) (Some g) (inr on) (inr next) =
    let a = on.1 in
    let b = next.1 in
    inr (next.0 ∙ ap (λ (x : ElementDef). record x { state = g.state }) on.0, omega (arith, a, b))

-- the state does not count for the end of a way
state_ends : (e : ElementDef) (s : ElementState) (w : Way) → end_by w (record e { state = s }) ≡ end_by w e
state_ends e s Adding = refl
state_ends e s Dropping = refl

pub further_ends : (a b : Option ElementDef) → IsFurther a b → end_of b ≡ end_of a
further_ends None b none = ap end_of none
further_ends (Some e) None out = sym (ap (λ (w : Way). end_by w e) out)
further_ends (Some e) (Some f) (inl same) = ap (λ (x : ElementDef). end_by x.way x) same
further_ends (Some e) (Some f) (inr on) = ap (λ (x : ElementDef). end_by x.way x) on.0 ∙ state_ends e f.state e.way

-- ---- all elements

pub same_way : (old new : Facts) → new.newest ≡ old.newest → IsOnTheWay old new
same_way old new same =
    record {
      elements = λ n. subst (λ (v : Version). IsFurther (element_at old.newest n) (element_at v n)) (sym same) (stays_further (element_at old.newest n));
      next = ap (λ (v : Version). v.next) same;
      tables = ap (λ (v : Version). v.tables) same;
    }

pub way_on : (a b c : Facts) → IsOnTheWay a b → IsOnTheWay b c → IsOnTheWay a c
way_on a b c first then =
    record {
      elements = λ n. further_on (element_at a.newest n) (element_at b.newest n) (element_at c.newest n) (first.elements n) (then.elements n);
      next = then.next ∙ first.next;
      tables = then.tables ∙ first.tables;
    }

pub way_ends : (old new : Facts) → IsOnTheWay old new → (n : ℕ) → end_of (element_at new.newest n) ≡ end_of (element_at old.newest n)
way_ends old new way n = further_ends (element_at old.newest n) (element_at new.newest n) (way.elements n)

pub calls_go_on : CallsGoOn
calls_go_on old middle new way completed n = completed n ∙ way_ends old middle way n
