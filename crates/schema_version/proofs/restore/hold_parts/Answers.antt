use Rattle.std.proofs.Common.{ap, ◌∙◌, refl, Global}
use Rattle.std.specs.Prelude.{map}
use Rattle.std.specs.String.{string_eq}
use Rattle.schema_version.specs.Held.{table_held}
use Rattle.schema_version.specs.Restored.{Part}
use Rattle.schema_version.proofs.TablesHeld.{held_more}
use Rattle.schema_version.proofs.Copies.{same_pairs}
use Rattle.schema_version.proofs.restore.hold_parts.Goals as goal

pub loop-part-preserved : goal.loop-part-preserved
loop-part-preserved c =
    ap (map (table_held {Y = Global})) c.in_ok-insert.ensures.entries
    ∙ held_more (λ (part : Part). part.0) (λ part. part.1) {Y = Global} (string_eq {Z = Global}) (λ s t. refl) c.loop-part.held.entries c.args.tables.now c.loop-part.part-index c.into_string.result c.in_ok-clone-2.field-0 c.part-item.result
    c.requires c.loop-part-test.true c.part-item.is (c.into_string.ensures ∙ c.in_ok-clone.ensures.cases) (same_pairs c.part-item.result.1 c.in_ok-clone-2.field-0 c.in_ok-clone-2.ensures.cases) c.loop-part.invariant
