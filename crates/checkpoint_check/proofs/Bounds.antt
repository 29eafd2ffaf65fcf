-- Whether bytes are the key of an item, and so a bound of a piece.
use Rattle.std.specs.Prelude.{◌≡◌, ℕ, Bool, true, List, Option, Some, None, IfSome, refl}
use Rattle.std.specs.Bool.{Decides}
use Rattle.std.proofs.Common.{sym, ap, subst, ◌∙◌, inl, inr, eqb-true, eq-eqb, true≢false}
use Rattle.keycode.specs.declared.value.Value.{Value}
use Rattle.row_map.specs.declared.key.KeyOf.{KeyOf}
use Rattle.row_map.specs.declared.key.KeyOf.TheVariants.{Exists, Column, Index}
use Rattle.row_map.specs.Keys.{IsKey, key_code}
use Rattle.row_map.specs.Rows.{Bytes}
use Rattle.row_map.proofs.KeyLaws.{key_again}
use Rattle.schema_version.specs.declared.element.ElementDef.{ElementDef}
use Rattle.schema_version.specs.declared.element.Kind.{Kind}
use Rattle.schema_version.specs.declared.element.Kind.TheVariants.{Index as IndexKind, Optional, Required}
use Rattle.schema_version.specs.declared.element.Work.{Work}
use Rattle.schema_version.specs.declared.element.Work.TheVariants.{Fill, Clear}
use Rattle.reorganise.specs.Laws.{IsPieceBound}
use Rattle.reorganise.specs.ScanRanges.{scan_range_of, cleared, start, end, IsItemKey}
use Rattle.audit.specs.Encoded.{found, key_read}
use Rattle.checkpoint_check.specs.inner.Pieces.{names_row, names_entry, names_cleared, names_item}

abbrev IsRowKey : ℕ → Bytes → Type 0
IsRowKey table x = (key : List Value) × IsKey (Exists table key) × (x ≡ key_code (Exists table key))

abbrev IsEntryKey : ℕ → Bytes → Type 0
IsEntryKey number x = (values : List Value) × IsKey (Index number values) × (x ≡ key_code (Index number values))

-- what a key is read as, if it is one
abbrev IsReadOf : Bytes → Option KeyOf → Type 0
IsReadOf x read = IfSome read (λ k. IsKey k × (x ≡ key_code k))

row_of : (table : ℕ) (x : Bytes) (read : Option KeyOf) → IsReadOf x read → names_row table read ≡ true → IsRowKey table x
row_of table x None form e = absurd (true≢false (sym e))
row_of table x (Some (Column t p n)) form e = absurd (true≢false (sym e))
row_of table x (Some (Index n values)) form e = absurd (true≢false (sym e))
row_of table x (Some (Exists t p)) form e = subst (λ (y : ℕ). IsRowKey y x) (eqb-true t table e) (p, form.0, form.1)

entry_of : (number : ℕ) (x : Bytes) (read : Option KeyOf) → IsReadOf x read → names_entry number read ≡ true → IsEntryKey number x
entry_of number x None form e = absurd (true≢false (sym e))
entry_of number x (Some (Exists t p)) form e = absurd (true≢false (sym e))
entry_of number x (Some (Column t p n)) form e = absurd (true≢false (sym e))
entry_of number x (Some (Index n values)) form e = subst (λ (y : ℕ). IsEntryKey y x) (eqb-true n number e) (values, form.0, form.1)

module _ (x : Bytes) (read : Option KeyOf) (reads : read ≡ key_read x) (form : IsReadOf x read) where
  row_decided : (table : ℕ) → Decides (names_row table read) (IsRowKey table x)
  row_decided table = (
    row_of table x read form,
    λ r. ap (names_row table) (reads ∙ ap key_read r.2 ∙ ap found (key_again (Exists table r.0) r.1)) ∙ eq-eqb table table refl,
  )

  entry_decided : (number : ℕ) → Decides (names_entry number read) (IsEntryKey number x)
  entry_decided number = (
    entry_of number x read form,
    λ r. ap (names_entry number) (reads ∙ ap key_read r.2 ∙ ap found (key_again (Index number r.0) r.1)) ∙ eq-eqb number number refl,
  )

  cleared_decided : (e : ElementDef) (kind : Kind) → Decides (names_cleared kind e read) (IsItemKey (cleared kind e) x)
  cleared_decided e (IndexKind columns) = entry_decided e.number
  cleared_decided e (Optional type) = row_decided e.table
  cleared_decided e (Required type fallback) = row_decided e.table

  pub item_decided : (e : ElementDef) (work : Work) (b : Bool) → b ≡ names_item e work read → Decides b (IsItemKey (scan_range_of e work) x)
  item_decided e Fill b is = subst (λ (y : Bool). Decides y (IsItemKey (scan_range_of e Fill) x)) (sym is) (row_decided e.table)
  item_decided e Clear b is = subst (λ (y : Bool). Decides y (IsItemKey (scan_range_of e Clear) x)) (sym is) (cleared_decided e e.kind)

-- a bound that is at no end of the range is an item's key
pub bound_decided : (e : ElementDef) (work : Work) (x : Bytes) (b : Bool) → ¬ (x ≡ start (scan_range_of e work)) → ¬ (x ≡ end (scan_range_of e work)) → Decides b (IsItemKey (scan_range_of e work) x) → Decides b (IsPieceBound (scan_range_of e work) x)
bound_decided e work x b not_low not_high item = (λ yes. inr (inr (item.0 yes)), back)
  where
    back : IsPieceBound (scan_range_of e work) x → b ≡ true
    back (inl low) = absurd (not_low low)
    back (inr (inl high)) = absurd (not_high high)
    back (inr (inr key)) = item.1 key
