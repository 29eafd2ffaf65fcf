use Rattle.std.proofs.Common.{◌≡◌, Global, Ok, Err, refl}
use Rattle.std.specs.Prelude.{IfOk}
use mathlib.Core.List.{map as each}
use Rattle.schema_version.specs.Held.{table_held}
use Rattle.schema_version.proofs.Copies.{same_tables, same_pairs}
use Rattle.schema_version.proofs.apply.copy_tables.Goals as goal

pub returns : goal.returns
returns c =
    elim c.clone.result as (λ r. c.clone.result ≡ r → IfOk r (λ n. each (table_held {Y = Global}) n.entries ≡ each (table_held {Y = Global}) c.args.tables.now.entries)) [
      | Ok n ↦ λ e. let h = rw e at c.clone.ensures.cases in same_tables c.args.tables.now.entries n.entries (λ s t same. same) (λ xs ys same. same_pairs xs ys same) h
      | Err x ↦ λ e. tt
    ] refl
