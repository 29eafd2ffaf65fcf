use Rattle.std.proofs.Common.{◌↔◌, ◌∙◌, refl, sym, ap, subst, Bool, IsTrue, is_some}
use Rattle.std.specs.FinMap.{get}
use Rattle.std.specs.List.{list_all}
use Rattle.row_write.specs.inner.View.{keys_of, HaveSameKeys}
use Rattle.row_write.proofs.Keys.{keys_tell, same_lists}
use Rattle.row_write.proofs.read.has_keys.Goals as goal

pub returns-then-are_same_keys : goal.returns-then-are_same_keys
returns-then-are_same_keys c = (λ _. same_lists c.args.reads.now c.args.view.now (ap keys_of (sym c.entries.ensures.all) ∙ c.are_same_keys.ensures c.if-are_same_keys.true ∙ ap keys_of c.entries-2.ensures.all), λ _. refl)

pub returns : goal.returns
returns c =
    subst (λ (b : Bool). IsTrue b ↔ HaveSameKeys c.args.reads.now c.args.view.now) (sym c.are_both.ensures)
    (keys_tell c.args.reads.now c.args.view.now c.all_in-read.result c.all_in-visible.result
    (c.all_in-read.ensures ∙ ap (λ es. list_all (λ e. is_some (get c.args.view.now e.0)) es) c.entries-3.ensures.all)
    (c.all_in-visible.ensures ∙ ap (λ es. list_all (λ e. is_some (get c.args.reads.now e.0)) es) c.entries-4.ensures.all))
