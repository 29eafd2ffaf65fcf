-- The cell of a row as it is printed.
use Rattle.std.proofs.Common.{◌≡◌, ℕ, ◌==◌, ◌++◌, append_assoc, codes, List, Option, ap, ◌∙◌}
use Rattle.std.specs.List.{find}
use Rattle.script_grammar.specs.Print.{value_text}
use Rattle.keycode.specs.declared.value.Value.{Value}
use Rattle.row_map.specs.declared.shape.Row.{Row}
use Rattle.script_replies.specs.Rows.{value_or_null, cell_text}

-- a name, the sign and the value, one after the other
pub cell_reported : (old a b new name : List ℕ) (row : Row) (column : ℕ × List ℕ) (cell : Option (ℕ × Value)) (cells : List (ℕ × Value)) → a ≡ old ++ name → b ≡ a ++ codes " = " → new ≡ b ++ value_text (value_or_null cell)
    → name ≡ column.1 → cell ≡ find (λ (c : ℕ × Value). c.0 == column.0) cells → cells ≡ row.cells → new ≡ old ++ cell_text row column
cell_reported old a b new name row column cell cells a_is b_is new_is named found all =
    new_is
    ∙ ap (λ (t : List ℕ). t ++ value_text (value_or_null cell)) (b_is ∙ ap (λ (t : List ℕ). t ++ codes " = ") a_is ∙ append_assoc {A = ℕ} old name (codes " = "))
    ∙ append_assoc {A = ℕ} old (name ++ codes " = ") (value_text (value_or_null cell))
    ∙ ap (λ (n : List ℕ). old ++ (n ++ codes " = " ++ value_text (value_or_null cell))) named
    ∙ ap (λ (o : Option (ℕ × Value)). old ++ (column.1 ++ codes " = " ++ value_text (value_or_null o))) (found ∙ ap (find (λ (c : ℕ × Value). c.0 == column.0)) all)
