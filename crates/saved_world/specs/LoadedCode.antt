-- Cited by the contracts of Loading.
-- How what was read of a checkpoint is distinguished from another.
use Rattle.std.specs.Prelude.{refl}
use Rattle.std.specs.Coded.{Coded, code_by, coded×, coded_list, coded_ℕ}
use Rattle.checkpoint_code.specs.Page.{Page}
use Rattle.checkpoint_code.specs.declared.head.Head.{Head}
use Rattle.checkpoint_code.specs.contracts.head.Head as head
use Rattle.saved_world.specs.Loading.{Loaded}

abbrev pub loaded_code : Coded Loaded
loaded_code =
    code_by (Head × Page) (coded× head.the_row.coded (coded_list (coded× (coded_list coded_ℕ) (coded_list coded_ℕ)))) (λ l. (l.head, l.pairs)) (λ t. record { head = t.0; pairs = t.1 }) (λ _. refl)
