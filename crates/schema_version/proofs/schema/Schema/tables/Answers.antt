use Rattle.std.proofs.Common.{ap, ◌∙◌, ◌++◌, Global}
use Rattle.std.specs.Prelude.{map}
use Rattle.schema_version.specs.Version.{Version}
use Rattle.schema_version.specs.Restored.{part_of}
use Rattle.schema_version.proofs.Restored.{held_parts}
use Rattle.schema_version.specs.inner.RestoreTests.{paired}
use Rattle.std.specs.String.{string_bytes}
use Rattle.schema_version.proofs.schema.Schema.tables.Goals as goal

pub returns : goal.returns
returns c =
    c.new.ensures
    ∙ c.in_ok-push_parts.ensures
    ∙ ap (λ front. front ++ paired (map (string_bytes {Z = Global}) c.as_slice.result.now) c.as_slice-2.result.now) c.new-parts.ensures.items
    ∙ (λ i. paired (map (string_bytes {Z = Global}) ((c.as_slice.ensures ∙ c.keys.ensures.rest) i)) ((c.as_slice-2.ensures ∙ c.values.ensures.rest) i))
    ∙ held_parts {Y = Global} c.self.inside.tables.entries
    ∙ ap (λ (v : Version). map part_of v.tables) c.self.view_is
