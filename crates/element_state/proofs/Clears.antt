-- A piece of a clear, for the kinds that there are.
use Rattle.std.proofs.Common.{sym, subst}
use Rattle.element_state.specs.Items.{ClearFacts}
use Rattle.element_state.specs.Kinds.{kind_clear, kind_clears}
use Rattle.element_state.proofs.Reaches.{clear_piece_kept}
use Rattle.element_state.specs.Versions.{the_kinds, meaning_of, IsLawful, IsLawfulOf}
use Rattle.element_state.specs.Kept.{ClearKeeps}

pub clear_keeps : ClearKeeps
clear_keeps w n table source f old place to i is kind_is begun from_bound to_bound =
    let lawful : IsLawfulOf n table source = subst (IsLawful n) kind_is (i.lawful_newest n f is) in
    let facts : ClearFacts (meaning_of n f.kind) (kind_clear table n source)
    = subst (λ k. ClearFacts (meaning_of n k) (kind_clear table n source)) (sym kind_is) (kind_clears table n source lawful.lawful lawful.range) in
    clear_piece_kept the_kinds w n f old place to (kind_clear table n source) facts i is begun from_bound to_bound
