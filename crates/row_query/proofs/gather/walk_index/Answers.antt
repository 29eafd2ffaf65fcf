use Rattle.std.proofs.Common.{◌≡◌, ◌++◌, ◌∷◌, [], List, Option, Some, None, refl, sym, ap, ◌∙◌}
use Rattle.std.specs.List.{filter_map, cons_option}
use Rattle.std.proofs.lemmas.List.Elements.{filter_map-append}
use Rattle.row_map.specs.declared.shape.Row.{Row}
use Rattle.row_query.specs.inner.Found.{row_in, one_row}
use Rattle.row_query.proofs.gather.walk_index.Goals as goal

one_more : {X : Type 0} (h : X → Option Row) (before rows : List Row) (xs : List X) (x : X) (o : Option Row) → rows ≡ before ++ one_row o → o ≡ h x → before ≡ filter_map h xs → rows ≡ filter_map h (xs ++ x ∷ [])
one_more h before rows xs x o made is so_far =
    made ∙ ap (λ before. before ++ one_row o) so_far ∙ ap (λ (more : List Row). filter_map h xs ++ more) (as_list o ∙ ap (λ o. cons_option o []) is) ∙ sym (filter_map-append h xs (x ∷ []))
  where
    as_list : (o : Option Row) → one_row o ≡ cons_option o []
    as_list None = refl
    as_list (Some row) = refl

pub loop-key-preserved : goal.loop-key-preserved
loop-key-preserved g c = one_more (row_in (g.V.PairView.pairs c.args.view.now) c.args.columns.now c.args.query.now) c.loop-key.rows.items c.add_found.new.rows.items c.loop-key.yielded c.in-Some.key c.in_ok-row_by_key.field-0
    c.in_ok-add_found.ensures c.in_ok-row_by_key.ensures c.loop-key.invariant
