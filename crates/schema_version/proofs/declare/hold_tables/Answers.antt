use Rattle.std.proofs.Common.{ap, ◌∙◌, refl, Global}
use Rattle.std.specs.Prelude.{map}
use Rattle.std.specs.String.{string_eq}
use Rattle.schema_version.specs.declared.table.TableDef.{TableDef}
use Rattle.schema_version.specs.Held.{table_held}
use Rattle.schema_version.proofs.TablesHeld.{held_more}
use Rattle.schema_version.proofs.Copies.{same_pairs}
use Rattle.schema_version.proofs.declare.hold_tables.Goals as goal

pub loop-table-preserved : goal.loop-table-preserved
loop-table-preserved c =
    ap (map (table_held {Y = Global})) c.in_ok-insert.ensures.entries
    ∙ held_more (λ (t : TableDef). t.name) (λ t. t.key) {Y = Global} (string_eq {Z = Global}) (λ s t. refl) c.loop-table.held.entries c.args.tables.now c.loop-table.table-index c.into_string.result c.in_ok-clone-2.field-0 c.table-item.result
    c.requires c.loop-table-test.true c.table-item.is (c.into_string.ensures ∙ c.in_ok-clone.ensures.cases) (same_pairs c.table-item.result.key c.in_ok-clone-2.field-0 c.in_ok-clone-2.ensures.cases) c.loop-table.invariant
