use Rattle.std.proofs.Common.{◌≡◌, ◌<◌, ◌≤◌, ◌⊎◌, length, subst, sym, ap, ◌∙◌, inl, inr, is_some, arith, eqb-true}
use Rattle.std.specs.FinMap as map
use Rattle.keycode.proofs.Fields.{IsBytes}
use Rattle.row_map.specs.Rows.{Bytes}
use Rattle.audit.proofs.LastMet.{row_by_look, no_row, not_none, some_mapped}
use Rattle.audit.proofs.encoded_rows.is_row_at.Goals as goal

pub returns-then-is_empty : goal.returns-then-is_empty
returns-then-is_empty g c = λ table below encoded.
    let here : IsBytes c.args.at.now = λ i. omega (arith, c.type_inv.at i) in
    let number : (length c.args.key.now ≡ 0) ⊎ (4 < length c.args.key.now) =
    elim c.then-is_empty.either [ inl none ↦ inl (eqb-true (length c.args.key.now) 0 (sym c.is_empty.ensures ∙ none)) | inr many ↦ inr many.1 ] in
    sym (no_row (g.V.PairView.pairs c.args.view.now) table c.args.key.now below c.requires.values (subst IsBytes encoded here) number)

pub returns : goal.returns
returns g c = λ table below encoded.
    let pairs = g.V.PairView.pairs c.args.view.now in
    let some : 1 ≤ length c.args.key.now = not_none (length c.args.key.now) (sym c.is_empty.ensures ∙ c.if-is_empty.false) in
    c.is_some.ensures
    ∙ some_mapped _ c.get_near.result (map.get pairs c.args.at.now) c.get_near.ensures
    ∙ ap (λ (at : Bytes). is_some (map.get pairs at)) encoded
    ∙ sym (row_by_look pairs table c.args.key.now below some c.if-key-gt4.false c.requires.values c.requires.short)
