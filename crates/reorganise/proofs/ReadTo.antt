-- Reading a piece as far as a key.
use Rattle.std.proofs.Common.{◌≡◌, ℕ, Bool, true, [], ◌∷◌, ◌++◌, refl, sym, ap, subst, ◌∙◌, append-nil, drop, List, inl, inr, eq-eqb}
use Rattle.std.specs.FinMap as map
use Rattle.std.specs.Bool.{Decides}
use Rattle.std.specs.Prelude.{◌⊎◌}
use Rattle.row_map.specs.declared.key.KeyOf.TheVariants.{Exists, Index as IndexKey}
use Rattle.row_map.proofs.KeyLaws.{key_again}
use Rattle.row_map.specs.Rows.{Bytes, Pairs}
use Rattle.row_map.specs.Walk.{key_range, after}
use Rattle.row_map.specs.Ranges.{is_within}
use Rattle.row_map.specs.declared.expect.KeyRange.{KeyRange}
use Rattle.reorganise.specs.declared.scan_range.ScanRange.{ScanRange}
use Rattle.reorganise.specs.declared.scan_range.ScanRange.TheVariants.{Rows, Entries}
use Rattle.schema_version.specs.declared.element.ElementDef.{ElementDef}
use Rattle.schema_version.specs.declared.element.Work.{Work}
use Rattle.reorganise.specs.ScanRanges.{scan_range_of, is_item, is_item_read, IsItemKey}
use Rattle.reorganise.specs.Pieces.{part, ComesTo, IsReading}
use Rattle.reorganise.proofs.Items.{Pair}
use Rattle.reorganise.proofs.KeyRanges.{no_part}
use Rattle.reorganise.proofs.Order.{le, le_trans, le_itself, le_after, after_le, join, begins, first_reached, first_below, part_more, same_part, get-part, some_in}

-- what has been copied of the pairs between two keys, and what is left of them
pub record IsCopied (pairs : Pairs) (low high : Bytes) (so_far : Pairs) (behind : List Pair) : Type 0 where
  pub at : Bytes
  pub ahead : key_range pairs at high ≡ behind
  pub begun : le low at ≡ true
  pub bounded : le at high ≡ true
  pub all : so_far ≡ part pairs low at

pub copied_first : (pairs : Pairs) (low high : Bytes) (so_far : Pairs) (behind : List Pair) → le low high ≡ true → so_far ≡ map.empty → behind ≡ key_range pairs low high → IsCopied pairs low high so_far behind
copied_first pairs low high so_far behind below none is = record { at = low; ahead = sym is; begun = le_itself low; bounded = below; all = none ∙ no_part pairs low }

module _ (pairs : Pairs) (low high : Bytes) (some : Pairs) (ahead : List Pair) (so_far : IsCopied pairs low high some ahead) where
  pub copied_more : (p : Pair) (behind : List Pair) → ahead ≡ p ∷ behind → (more : Pairs) → more ≡ map.insert some p.0 p.1 → IsCopied pairs low high more behind
  copied_more p behind is more more_is =
      let f = begins pairs so_far.at high p behind (so_far.ahead ∙ is) in
      record {
        at = after p.0;
        ahead = ap (drop 1) (sym f ∙ so_far.ahead ∙ is);
        begun = le_trans low p.0 (after p.0) (le_trans low so_far.at p.0 so_far.begun (first_reached pairs so_far.at high p f)) (le_after p.0);
        bounded = after_le p.0 high (first_below pairs so_far.at high p f);
        all = more_is ∙ ap (λ (m : Pairs). map.insert m p.0 p.1) so_far.all ∙ part_more pairs low so_far.at high p f so_far.begun;
      }

  pub copied_all : ahead ≡ [] → some ≡ part pairs low high
  copied_all none =
      let whole : key_range pairs low high ≡ key_range pairs low so_far.at = join pairs low so_far.at high so_far.begun so_far.bounded ∙ ap (λ l. key_range pairs low so_far.at ++ l) (so_far.ahead ∙ none) ∙ append-nil (key_range pairs low so_far.at) in
      so_far.all ∙ same_part pairs low so_far.at low high (sym whole)

-- the key of an item is tested as one
pub item_tested : (scan_range : ScanRange) (x : Bytes) → IsItemKey scan_range x → is_item scan_range x ≡ true
item_tested (Rows table) x i = ap (is_item (Rows table)) i.2 ∙ ap (is_item_read (Rows table)) (key_again (Exists table i.0) i.1) ∙ eq-eqb table table refl
item_tested (Entries number) x i = ap (is_item (Entries number)) i.2 ∙ ap (is_item_read (Entries number)) (key_again (IndexKey number i.0) i.1) ∙ eq-eqb number number refl

pub read_to_made : (pairs : Pairs) (cursor to high : Bytes) (element : ElementDef) (kind : Work) (piece : ℕ) (low first end last : Bytes) (some : Pairs) → ComesTo (scan_range_of element kind) cursor high to → first ≡ cursor → end ≡ to → last ≡ high → some ≡ part pairs cursor to
    → IsReading (record { element = element; kind = kind; piece = piece; low = low; high = last; key_range = record { low = first; high = end; pairs = some } })
read_to_made pairs cursor to high element kind piece low first end last some comes first_is end_is last_is some_is =
    subst (λ (s : KeyRange). IsReading (record { element = element; kind = kind; piece = piece; low = low; high = last; key_range = s })) (λ i. record { low = sym first_is i; high = sym end_is i; pairs = sym some_is i })
    (subst (λ (h : Bytes). IsReading (record { element = element; kind = kind; piece = piece; low = low; high = h; key_range = record { low = cursor; high = to; pairs = part pairs cursor to } })) (sym last_is)
    (record { comes = comes; inside = λ key value at. (some_in (is_within cursor to key) (map.get pairs key) value (sym (get-part pairs cursor to key) ∙ at)).0 }))

pub or_item : (scan_range : ScanRange) (high to : Bytes) (b : Bool) → (to ≡ high → ⊥) → Decides b (IsItemKey scan_range to) → Decides b ((to ≡ high) ⊎ IsItemKey scan_range to)
or_item scan_range high to b differ h = (λ e. inr (h.0 e), λ o. elim o [ inl e ↦ absurd (differ e) | inr i ↦ h.1 i ])
