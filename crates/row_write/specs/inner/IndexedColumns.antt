-- Cited by private functions alone: lemma_served.
-- What a version's elements are, as far as writing rows goes.
use Rattle.std.specs.Prelude.{◌≡◌, ℕ, ◌≤◌, Some, Contains}
use Rattle.schema_version.specs.declared.element.ElementDef.{ElementDef}
use Rattle.schema_version.specs.Names.{max_elements}
use Rattle.schema_version.specs.Version.{Version, element_at, indexed_columns}
use Rattle.schema_version.specs.Moves.{IsFairKind}
use Rattle.row_write.specs.Prepare.{HasColumn}

-- an element stands under its number, its kind may be, and an index lists public columns of its table
pub record IsServed (version : Version) : Type 0 where
  pub own : (number : ℕ) (element : ElementDef) → element_at version number ≡ Some element → element.number ≡ number
  pub first : (number : ℕ) (element : ElementDef) → element_at version number ≡ Some element → 1 ≤ number
  pub given : (number : ℕ) (element : ElementDef) → element_at version number ≡ Some element → number ≤ max_elements
  pub fair : (number : ℕ) (element : ElementDef) → element_at version number ≡ Some element → IsFairKind element.kind
  pub columns : (number : ℕ) (element : ElementDef) → element_at version number ≡ Some element → (column : ℕ) → Contains (indexed_columns element.kind) column → HasColumn version element.table column
