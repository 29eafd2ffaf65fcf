use Rattle.std.proofs.Common.{◌≡◌, inr, refl, sym, ◌∙◌, true, false}
use Rattle.row_write.proofs.Keys.{marked_reads, same_keys}
use Rattle.row_write.proofs.read.check_keys.Goals as goal

pub returns-then-are_all-clause-read : goal.returns-then-are_all-clause-read
returns-then-are_all-clause-read c =
    marked_reads c.args.schema.now c.args.ops.now c.args.view.now c.args.marks.now c.requires.long c.requires.marked (sym c.are_all.ensures ∙ c.if-are_all.true)

pub returns-then-has_keys-clause-read : goal.returns-then-has_keys-clause-read
returns-then-has_keys-clause-read c = λ key value at. (c.in_ok-reads.ensures key).0 ((c.has_keys.ensures.0 c.if-has_keys.true key).1 (value, at))

pub returns-clause-missed : goal.returns-clause-missed
returns-clause-missed c =
    inr (
      refl,
      λ rows s.
          let same = c.has_keys.ensures.1 (same_keys c.args.schema.now c.args.ops.now c.args.view.now c.in_ok-reads.reads c.in_ok-reads.ensures rows s) in
          let wrong : true ≡ false = sym same ∙ c.if-has_keys.false in
          cc,
    )
