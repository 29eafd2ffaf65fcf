-- A version that was read has values that may be stored, and so are as types say.
use Rattle.std.proofs.Common.{List, [], ◌∷◌}
use Rattle.std.specs.List.{AllByRecursion}
use Rattle.keycode.specs.Valid.{IsValue, IsStorable}
use Rattle.schema_version.specs.declared.element.ElementDef.{ElementDef}
use Rattle.schema_version.specs.declared.element.Kind.{Kind}
use Rattle.schema_version.specs.declared.element.Kind.TheVariants.{Index, Optional, Required}
use Rattle.schema_version.specs.Version.{Version}
use Rattle.entry_code.specs.Known.{IsKind}
use Rattle.entry_code.specs.Parts.{IsElement}
use Rattle.drafts.specs.declared.record.Record.TheVariants.{Version as OfVersion}
use Rattle.record_code.specs.Records.{IsKnown, HasRecord}

known_kind : (kind : Kind) → IsKind IsStorable kind → IsKind IsValue kind
known_kind (Index columns) is = is
known_kind (Optional type) is = is
known_kind (Required type fallback) is = (is.0, is.1.0)

known_element : (e : ElementDef) → IsElement IsStorable e → IsElement IsValue e
known_element e is = (is.0, (is.1.0, (is.1.1.0, (known_kind e.kind is.1.1.1.0, is.1.1.1.1))))

known_elements : (es : List ElementDef) → AllByRecursion (IsElement IsStorable) es → AllByRecursion (IsElement IsValue) es
known_elements [] is = tt
known_elements (e ∷ es) is = (known_element e is.0, known_elements es is.1)

pub known_version : (v : Version) → IsKnown IsStorable (OfVersion v) → HasRecord (OfVersion v)
known_version v known = (known.0, (known.1.0, ((known.1.1.0.0, known_elements _ known.1.1.0.1), known.1.1.1)))
