use Rattle.std.proofs.Common.{List, ℕ, sym, ap, subst, ◌∙◌}
use Rattle.schema_version.specs.declared.element.ElementDef.{ElementDef}
use Rattle.schema_version.specs.Held.{IsHeld, holding}
use Rattle.schema_version.proofs.Makes.{all_made_held, all_made_is, all_made_next, done_is}
use Rattle.schema_version.proofs.apply.make_all.Goals as goal

pub returns-clause-held : goal.returns-clause-held
returns-clause-held c =
    let done = done_is c.loop-a.elements.entries c.args.elements.now.entries c.loop-a.next c.args.first c.loop-a.a-index c.args.moves.now c.loop-a-test.false c.loop-a.invariant.so_far in
    subst (λ (p : List (ℕ × ElementDef) × ℕ). IsHeld p.0 p.1) (sym done) (all_made_held c.args.elements.now.entries c.args.first c.args.moves.now c.requires.held c.requires.room)

pub returns-clause-after : goal.returns-clause-after
returns-clause-after c = λ version.
    let done = done_is c.loop-a.elements.entries c.args.elements.now.entries c.loop-a.next c.args.first c.loop-a.a-index c.args.moves.now c.loop-a-test.false c.loop-a.invariant.so_far in
    ap (λ (p : List (ℕ × ElementDef) × ℕ). holding version p.0 p.1) done ∙ all_made_is version c.args.elements.now.entries c.args.first c.args.moves.now c.requires.held c.requires.room

pub returns-clause-number : goal.returns-clause-number
returns-clause-number c =
    let done = done_is c.loop-a.elements.entries c.args.elements.now.entries c.loop-a.next c.args.first c.loop-a.a-index c.args.moves.now c.loop-a-test.false c.loop-a.invariant.so_far in
    ap (λ (p : List (ℕ × ElementDef) × ℕ). p.1) done ∙ all_made_next c.args.elements.now.entries c.args.first c.args.moves.now
