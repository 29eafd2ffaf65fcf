use Rattle.std.proofs.Common.{◌<◌, List, ℕ, length, sym, subst, arith}
use Rattle.byte_map.specs.Sorted.{IsFirstFrom}
use Rattle.page_map.proofs.Changes.{parted_at}
use Rattle.page_map.proofs.Full.{first_of_full, full_at, some_before}
use Rattle.page_map.proofs.chunks.count_before.Goals as goal

pub first_key-requires : goal.first_key-requires
first_key-requires c = subst (λ (p : List (List ℕ × List ℕ)). 0 < length p) (sym c.index-chunks-from.is) (full_at c.args.chunks.now c.args.from c.index-chunks-from.result c.requires.full (omega arith))

pub returns-then-from-chunks-clause-some : goal.returns-then-from-chunks-clause-some
returns-then-from-chunks-clause-some c =
    let full = subst (λ (p : List (List ℕ × List ℕ)). 0 < length p) (sym c.index-chunks-from.is) (full_at c.args.chunks.now c.args.from c.index-chunks-from.result c.requires.full (omega arith)) in
    let e = first_of_full c.index-chunks-from.result full in
    some_before c.args.chunks.now c.args.from c.index-chunks-from.result e.0 c.args.writes.now c.first_from.result (omega arith) c.index-chunks-from.is e.1
    (subst (λ k. IsFirstFrom c.args.writes.now k c.first_from.result) (c.first_key.ensures e.0 e.1) c.first_from.ensures)

pub returns-then-from-chunks-clause-parted : goal.returns-then-from-chunks-clause-parted
returns-then-from-chunks-clause-parted c =
    let full = subst (λ (p : List (List ℕ × List ℕ)). 0 < length p) (sym c.index-chunks-from.is) (full_at c.args.chunks.now c.args.from c.index-chunks-from.result c.requires.full (omega arith)) in
    let e = first_of_full c.index-chunks-from.result full in
    parted_at c.args.chunks.now c.args.from c.index-chunks-from.result e.0 c.args.writes.now c.first_from.result (omega arith) c.index-chunks-from.is e.1
    (subst (λ k. IsFirstFrom c.args.writes.now k c.first_from.result) (c.first_key.ensures e.0 e.1) c.first_from.ensures)
