-- Cited by the contracts of Key, Key::name.
-- A key as numbers: its kind, and then what names the record.
use Rattle.std.specs.Prelude.{ℕ, List, [], ◌∷◌}
use Rattle.drafts.specs.declared.key.KeyName.{KeyName}
use Rattle.drafts.specs.declared.key.KeyName.TheVariants.{Version, Reorg, Cursor, Mark}

abbrev pub numbers : KeyName → List ℕ
numbers (Version number) = 0 ∷ number ∷ []
numbers (Reorg element) = 1 ∷ element ∷ []
numbers (Cursor element piece) = 2 ∷ element ∷ piece ∷ []
numbers (Mark name) = 3 ∷ name
