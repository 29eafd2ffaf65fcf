use Rattle.std.proofs.Common.{rules, ◌≡◌, ◌≢◌, [], Result, Err, sym, subst}
use Rattle.saved_world.specs.declared.fault.LoadedFault.{LoadedFault}
use Rattle.saved_world.specs.declared.fault.LoadedFault.TheVariants.{Page as OfPage}
use Rattle.saved_world.specs.inner.PagesRead.{GivesAll}
use Rattle.saved_world.proofs.Loads.{next_page, left_end, some_part, left_more, read_more, shorter, page_fits, none_of}
use Rattle.saved_world.proofs.read.read_pages.Goals as goal

pub returns-then-is_empty-2-clause-accepted : goal.returns-then-is_empty-2-clause-accepted
returns-then-is_empty-2-clause-accepted c = λ limit all sorted todo.
    let none : c.in-Some.part.now ≡ [] = none_of c.in-Some.part.now (search rules) in
    (left_end limit c.loop-part.loading c.loop-part.rest.now c.in-Some.part.now c.in-Some.more.now all c.in-Some.ensures.found (c.loop-part.invariant.left limit all sorted todo) none).1

pub returns-then-is_empty-clause-accepted : goal.returns-then-is_empty-clause-accepted
returns-then-is_empty-clause-accepted c = λ limit all sorted todo.
    let none : c.in-Some.part.now ≡ [] = none_of c.in-Some.part.now (search rules) in
    let some : c.in-Some.more.now ≢ [] = λ e. (search rules) in
    some (left_end limit c.loop-part.loading c.loop-part.rest.now c.in-Some.part.now c.in-Some.more.now all c.in-Some.ensures.found (c.loop-part.invariant.left limit all sorted todo) none).0

pub returns-in_err-add-clause-accepted : goal.returns-in_err-add-clause-accepted
returns-in_err-add-clause-accepted c = λ limit all sorted todo.
    let some : c.in-Some.part.now ≢ [] = λ e. (search rules) in
    let next = next_page limit c.loop-part.loading c.loop-part.rest.now c.in-Some.part.now c.in-Some.more.now all c.in-Some.ensures.found (c.loop-part.invariant.left limit all sorted todo) some in
    let fits = page_fits limit c.loop-part.loading c.in-Some.part.now c.in-Some.more.now all next sorted in
    let is : c.from_residual.result ≡ Err (OfPage c.in_err-add.field-0.0) = (search rules) in
    subst (λ (r : Result (Unit {0}) LoadedFault). GivesAll all r c.add.new.self) (sym is) (c.in_err-add.ensures.accepted next.page next.is_page.known fits next.code)

pub loop-part-smaller : goal.loop-part-smaller
loop-part-smaller c = shorter c.loop-part.rest.now c.in-Some.part.now c.in-Some.more.now c.in-Some.ensures.found

pub loop-part-preserved : goal.loop-part-preserved
loop-part-preserved c =
    let some : c.in-Some.part.now ≢ [] = λ e. (search rules) in
    let added = c.in_ok-add.ensures.read in
    record {
      read = read_more c.args.loading.now c.loop-part.loading c.add.new.self c.args.bytes.now c.loop-part.rest.now c.in-Some.part.now c.in-Some.more.now added.0 c.loop-part.invariant.read c.in-Some.ensures.found.code added.1.0 added.2 added.3;
      left = λ limit all sorted todo.
          let next = next_page limit c.loop-part.loading c.loop-part.rest.now c.in-Some.part.now c.in-Some.more.now all c.in-Some.ensures.found (c.loop-part.invariant.left limit all sorted todo) some in
          let fits = page_fits limit c.loop-part.loading c.in-Some.part.now c.in-Some.more.now all next sorted in
          left_more limit c.loop-part.loading c.add.new.self c.in-Some.part.now c.in-Some.more.now all next (c.in_ok-add.ensures.accepted next.page next.is_page.known fits next.code);
    }

pub returns-clause-accepted : goal.returns-clause-accepted
returns-clause-accepted c = λ limit all sorted todo. some_part limit c.loop-part.loading c.loop-part.rest.now all (c.loop-part.invariant.left limit all sorted todo) c.in_default.ensures.none
