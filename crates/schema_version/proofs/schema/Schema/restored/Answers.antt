use Rattle.std.proofs.Common.{◌≡◌, true, false, inl, inr, refl, sym, ap, subst, ◌∙◌, length, arith, Global}
use Rattle.std.proofs.lemmas.Result.{err_from_is_err_and}
use Rattle.std.proofs.lemmas.List.{length-map}
use Rattle.std.specs.FinMap as finite
use Rattle.schema_version.specs.Held.{table_held, IsHeld}
use Rattle.schema_version.specs.Sound.{IsSoundVersion}
use Rattle.schema_version.specs.Version.{grouped}
use Rattle.schema_version.specs.Restored.{table_with}
use Rattle.schema_version.specs.inner.RestoreTests.{are_parts}
use Rattle.schema_version.proofs.Lists.{not_both}
use Rattle.schema_version.proofs.Equality.{encoding_is, grouped_is}
use Rattle.schema_version.proofs.Restored.{decides, held, distinct_tables, rise}
use Rattle.schema_version.proofs.schema.Schema.restored.Goals as goal

pub returns-then-not-are_parts-clause-refused : goal.returns-then-not-are_parts-clause-refused
returns-then-not-are_parts-clause-refused c =
    let e : are_parts c.args.tables.now c.args.elements.now c.args.next ≡ false = cc in
    inr (refl, λ r. not_both ((decides c.args.tables.now c.args.elements.now c.args.next).1 r) e)

pub hold_parts-requires : goal.hold_parts-requires
hold_parts-requires c = let e : are_parts c.args.tables.now c.args.elements.now c.args.next ≡ true = cc in distinct_tables c.args.tables.now c.args.elements.now c.args.next e

pub hold_elements-requires : goal.hold_elements-requires
hold_elements-requires c = let e : are_parts c.args.tables.now c.args.elements.now c.args.next ≡ true = cc in record { rising = rise c.args.tables.now c.args.elements.now c.args.next e }

pub returns-clause-restorable : goal.returns-clause-restorable
returns-clause-restorable c = let e : are_parts c.args.tables.now c.args.elements.now c.args.next ≡ true = cc in (decides c.args.tables.now c.args.elements.now c.args.next).0 e

pub invariant_of-result : goal.invariant_of-result
invariant_of-result c =
    let e : are_parts c.args.tables.now c.args.elements.now c.args.next ≡ true = cc in
    let r = (decides c.args.tables.now c.args.elements.now c.args.next).0 e in
    let few = r.sound.few_tables in
    let entries = c.in_ok-elements.ensures in
    let tables = c.in_ok-tables.ensures in
    let is_held = subst (λ es. IsHeld es c.args.next) (sym entries) (held c.args.tables.now c.args.elements.now c.args.next r) in (
      omega (arith, few, length-map c.in_ok-tables.tables.entries (table_held {Y = Global}), length-map c.args.tables.now table_with, ap length tables),
      is_held,
      subst IsSoundVersion (λ i. record { tables = sym tables i; elements = finite.from_sorted (sym entries i); next = c.args.next }) r.sound,
      c.in_ok-encoding.ensures ∙ encoding_is c.in_ok-tables.tables.entries c.in_ok-elements.elements.entries c.args.next is_held.rising,
      c.in_ok-by_table.ensures ∙ (λ i. grouped 1 ((c.as_slice.ensures ∙ c.values.ensures.rest) i) ((c.as_slice-2.ensures ∙ c.values-2.ensures.rest) i)) ∙ grouped_is c.in_ok-tables.tables.entries c.in_ok-elements.elements.entries is_held.rising,
    )

pub returns-in_err-tables-clause-refused : goal.returns-in_err-tables-clause-refused
returns-in_err-tables-clause-refused c =
    let e : are_parts c.args.tables.now c.args.elements.now c.args.next ≡ true = cc in
    let p = err_from_is_err_and c.from_residual.result c.from_residual.ensures.1 in
    rw (p.1, p.2) (inl (refl, (decides c.args.tables.now c.args.elements.now c.args.next).0 e))

pub returns-in_err-elements-clause-refused : goal.returns-in_err-elements-clause-refused
returns-in_err-elements-clause-refused c =
    let e : are_parts c.args.tables.now c.args.elements.now c.args.next ≡ true = cc in
    let p = err_from_is_err_and c.from_residual-in_err-elements.result c.from_residual-in_err-elements.ensures.1 in
    rw (p.1, p.2) (inl (refl, (decides c.args.tables.now c.args.elements.now c.args.next).0 e))

pub returns-in_err-encoding-clause-refused : goal.returns-in_err-encoding-clause-refused
returns-in_err-encoding-clause-refused c =
    let e : are_parts c.args.tables.now c.args.elements.now c.args.next ≡ true = cc in
    let p = err_from_is_err_and c.from_residual-in_err-encoding.result c.from_residual-in_err-encoding.ensures.1 in
    rw (p.1, p.2) (inl (refl, (decides c.args.tables.now c.args.elements.now c.args.next).0 e))

pub returns-in_err-by_table-clause-refused : goal.returns-in_err-by_table-clause-refused
returns-in_err-by_table-clause-refused c =
    let e : are_parts c.args.tables.now c.args.elements.now c.args.next ≡ true = cc in
    let p = err_from_is_err_and c.from_residual-in_err-by_table.result c.from_residual-in_err-by_table.ensures.1 in
    rw (p.1, p.2) (inl (refl, (decides c.args.tables.now c.args.elements.now c.args.next).0 e))
