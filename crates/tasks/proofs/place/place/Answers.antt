use Rattle.std.proofs.Common.{rules, arith, ◌≡◌, ◌<◌, ◌++◌, ◌∷◌, [], List, ℕ, length, refl}
use Rattle.std.specs.Prelude.{vec_len}
use Rattle.std.proofs.lemmas.List.Elements.{All-set}
use Rattle.tasks.specs.Outcomes.{numbers_of}
use Rattle.tasks.proofs.Done.{held_more}
use Rattle.tasks.proofs.Places.{all_init, all_last, fewer_more, row_set, others_more, free_more}
use Rattle.tasks.proofs.place.place.Goals as goal

pub returns-clause-fits : goal.returns-clause-fits
returns-clause-fits g c plan new old = (c.loop-number.invariant.fits plan new old).1

pub loop-number-preserved : goal.loop-number-preserved
loop-number-preserved g c =
    let O : Type 0 = g.row.W-Outcome.Denot in
    let k : ℕ = c.in-Some.number in
    let o : O = c.in-Some.outcome in
    let n = vec_len c.args.outcomes.now in
    let os : List (ℕ × O) = c.loop-number.outcomes.items in
    let ds : List (ℕ × O) = c.pop.new.self.items in
    let done : List (ℕ × O) = c.loop-number.done.items in
    let whole = numbers_of c.args.done.items in
    let before = c.loop-number.invariant in
    let is : done ≡ ds ++ (k, o) ∷ [] = search rules in
    let below : k < n = all_last (λ (y : ℕ × O). y.0 < n) done ds (k, o) is before.inside in
    let here : k < length os = omega (arith, below, before.row.0) in
    record {
      len = before.len;
      row = row_set n os k o below before.row;
      inside = all_init (λ (y : ℕ × O). y.0 < n) done ds (k, o) is before.inside;
      fewer = fewer_more whole ds done k o is before.fewer;
      others = others_more whole c.args.outcomes.now.items os _ ds done k o is refl before.fewer before.others;
      fits = λ plan new old.
          let both = before.fits plan new old in
          let P : ℕ × O → Type 0 = λ y. g.W.Worker.fits plan y.0 y.1 in
          (all_init P done ds (k, o) is both.0, All-set P os k (k, o) (all_last P done ds (k, o) is both.0) both.1);
      counted = λ held once free.
          let was = before.counted held once free in
          let more = free_more held whole os ds done k o is here before.fewer once was.0 in
          (more.0, omega (arith, was.1, more.1, held_more held ds done k o is));
    }
