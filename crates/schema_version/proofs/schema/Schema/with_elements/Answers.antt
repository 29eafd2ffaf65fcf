use Rattle.std.proofs.Common.{length, sym, ap, subst, ◌∙◌, arith, Global}
use Rattle.std.proofs.lemmas.List.{length-map}
use Rattle.std.specs.FinMap as map
use Rattle.schema_version.specs.Held.{table_held}
use Rattle.schema_version.specs.Version.{Version, grouped}
use Rattle.schema_version.specs.Sound.{IsSoundVersion}
use Rattle.schema_version.proofs.Equality.{encoding_is, grouped_is}
use Rattle.schema_version.proofs.schema.Schema.with_elements.Goals as goal

pub invariant_of-result : goal.invariant_of-result
invariant_of-result c =
    let same = c.in_ok-tables.ensures ∙ ap (λ (v : Version). v.tables) c.self.view_is in (
      omega (arith, length-map c.in_ok-tables.tables.entries (table_held {Y = Global}), length-map c.self.inside.tables.entries (table_held {Y = Global}), ap length c.in_ok-tables.ensures, c.self.invariant.0),
      c.requires.held,
      subst IsSoundVersion (λ i. record { tables = sym same i; elements = map.from_sorted c.args.elements.entries; next = c.args.next }) c.requires.sound,
      c.in_ok-encoding.ensures ∙ encoding_is c.in_ok-tables.tables.entries c.args.elements.entries c.args.next c.requires.held.rising,
      c.in_ok-by_table.ensures ∙ (λ i. grouped 1 ((c.as_slice.ensures ∙ c.values.ensures.rest) i) ((c.as_slice-2.ensures ∙ c.values-2.ensures.rest) i)) ∙ grouped_is c.in_ok-tables.tables.entries c.args.elements.entries c.requires.held.rising,
    )
