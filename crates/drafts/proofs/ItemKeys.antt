-- Which keys are of items.
use Rattle.std.proofs.Common.{◌≡◌, Bool, true, Ok, refl, sym, ap, ◌∙◌, eq-eqb}
use Rattle.std.specs.Bool.{Decides}
use Rattle.row_map.specs.declared.key.KeyOf.{KeyOf}
use Rattle.row_map.specs.declared.key.KeyOf.TheVariants.{Exists, Index as IndexKey}
use Rattle.row_map.specs.Keys.{key_code, IsKey}
use Rattle.row_map.specs.ReadKey.{key_at}
use Rattle.row_map.specs.Rows.{Bytes}
use Rattle.row_map.proofs.KeyLaws.{key_again, same_key}
use Rattle.schema_version.specs.declared.element.Kind.{Kind}
use Rattle.schema_version.specs.declared.element.Kind.TheVariants.{Index, Optional, Required}
use Rattle.schema_version.specs.declared.element.ElementDef.{ElementDef}
use Rattle.schema_version.specs.declared.element.Work.{Work}
use Rattle.schema_version.specs.declared.element.Work.TheVariants.{Fill, Clear}
use Rattle.reorganise.specs.ScanRanges.{scan_range_of, cleared, is_item_read, IsItemKey}
use Rattle.reorganise.proofs.Bounds.{item_formed}

-- what a key reads as, and of which the test holds
pub record HasRead (test : KeyOf → Bool) (x : Bytes) : Type 0 where
  pub read : KeyOf
  pub form : IsKey read
  pub encoded : x ≡ key_code read
  pub passes : test read ≡ true

pub item_read : (element : ElementDef) (work : Work) (x : Bytes) → IsItemKey (scan_range_of element work) x → HasRead (λ k. is_item_read (scan_range_of element work) (Ok k)) x
item_read element Fill x i = record { read = Exists element.table i.0; form = i.1; encoded = i.2; passes = eq-eqb element.table element.table refl }
item_read element Clear x i = by element.kind i
  where
    by : (kind : Kind) → IsItemKey (cleared kind element) x → HasRead (λ k. is_item_read (cleared kind element) (Ok k)) x
    by (Index columns) i = record { read = IndexKey element.number i.0; form = i.1; encoded = i.2; passes = eq-eqb element.number element.number refl }
    by (Optional type) i = record { read = Exists element.table i.0; form = i.1; encoded = i.2; passes = eq-eqb element.table element.table refl }
    by (Required type fallback) i = record { read = Exists element.table i.0; form = i.1; encoded = i.2; passes = eq-eqb element.table element.table refl }

-- the test of what a key reads as decides whether it is an item's
pub decides_item : (element : ElementDef) (work : Work) (x : Bytes) (k : KeyOf) (b : Bool) → IsKey k → x ≡ key_code k → b ≡ is_item_read (scan_range_of element work) (Ok k) → Decides b (IsItemKey (scan_range_of element work) x)
decides_item element work x k b form encoded is = (
  λ passes. item_formed (scan_range_of element work) x (record { key = k; form = form; encoded = encoded })
      (ap (is_item_read (scan_range_of element work)) (ap key_at encoded ∙ key_again k form) ∙ sym is ∙ passes),
  λ item.
      let h = item_read element work x item in
      is ∙ ap (λ (r : KeyOf). is_item_read (scan_range_of element work) (Ok r)) (same_key k h.read form h.form (sym encoded ∙ h.encoded)) ∙ h.passes,
)
