-- Reading the pairs of so many items.
use Rattle.std.proofs.Common.{◌≡◌, ℕ, ◌+◌, Bool, true, [], ◌∷◌, ◌++◌, length, Some, None, refl, sym, ap, subst, ◌∙◌, append-nil, arith, length-append, slice_get, unwrap_or, drop, List, inl, inr}
use Rattle.std.specs.FinMap as map
use Rattle.std.specs.declared.cmp.Ordering.TheVariants.{Less}
use Rattle.std.proofs.lemmas.Option.{slice_get_past, slice_get-get_or}
use Rattle.std.proofs.lemmas.List.Elements.{filter_map-append}
use Rattle.std.proofs.Math.Seq.{get_or-append_seam}
use Rattle.keycode.specs.Order.{bytes_cmp}
use Rattle.row_map.specs.Rows.{Bytes, Pairs}
use Rattle.row_map.specs.Walk.{key_range, after}
use Rattle.row_map.specs.declared.expect.KeyRange.{KeyRange}
use Rattle.reorganise.specs.declared.scan_range.ScanRange.{ScanRange}
use Rattle.row_map.specs.Ranges.{is_within}
use Rattle.schema_version.specs.declared.element.ElementDef.{ElementDef}
use Rattle.schema_version.specs.declared.element.Work.{Work}
use Rattle.reorganise.specs.ScanRanges.{scan_range_of, is_item, item_key, item_keys, IsItemKey}
use Rattle.reorganise.specs.Pieces.{part, next_cursor, key_range_read, ComesTo, IsReading}
use Rattle.reorganise.proofs.Items.{Pair, Begins, one_item, item_keys-cons}
use Rattle.reorganise.proofs.Order.{le, le_trans, le_itself, less_le, le_after, after_le, join, key_range_itself, begins, first_before, first_more, first_reached, first_below, part_more, same_part, entries-part, get-part, some_in}

-- what has been read before `at`, when `left` more items may come
pub record IsRead (scan_range : ScanRange) (pairs : Pairs) (cursor high : Bytes) (limit : ℕ) (at : Bytes) (left : ℕ) (so_far : Pairs) : Type 0 where
  pub begun : le cursor at ≡ true
  pub bounded : le at high ≡ true
  pub all : so_far ≡ part pairs cursor at
  pub counted : length (item_keys scan_range (key_range pairs cursor at)) + left ≡ limit

-- nothing lies between a key and itself
pub no_part : (pairs : Pairs) (a : Bytes) → map.empty ≡ part pairs a a
no_part pairs a = sym (map.empty_of_len (part pairs a a) (map.len-entries (part pairs a a) ∙ ap length (entries-part pairs a a ∙ key_range_itself pairs a)))

-- what has been read, and the pairs that are left to read
pub record IsUnderway (scan_range : ScanRange) (pairs : Pairs) (cursor high : Bytes) (limit : ℕ) (left : ℕ) (so_far : Pairs) (behind : List Pair) : Type 0 where
  pub at : Bytes
  pub ahead : key_range pairs at high ≡ behind
  pub read : IsRead scan_range pairs cursor high limit at left so_far

-- nothing is read at first
pub none_read : (scan_range : ScanRange) (pairs : Pairs) (cursor high : Bytes) (limit : ℕ) (at : Bytes) (so_far : Pairs) → bytes_cmp cursor high ≡ Less → at ≡ cursor → so_far ≡ map.empty → IsRead scan_range pairs cursor high limit at limit so_far
none_read scan_range pairs cursor high limit at so_far below is none =
    let empty = key_range_itself pairs cursor in
    subst (λ x. IsRead scan_range pairs cursor high limit x limit so_far) (sym is) (record {
      begun = le_itself cursor;
      bounded = less_le cursor high below;
      all = none ∙ no_part pairs cursor;
      counted = omega (arith, ap (λ l. length (item_keys scan_range l)) empty);
    })

module _ (scan_range : ScanRange) (pairs : Pairs) (cursor high : Bytes) (limit : ℕ) (at : Bytes) (left : ℕ) (some : Pairs) (so_far : IsRead scan_range pairs cursor high limit at left some) where
  -- no pair is left below the upper bound
  pub read_to_end : key_range pairs at high ≡ [] → (low end : Bytes) → low ≡ cursor → end ≡ high → record { low = low; high = end; pairs = some } ≡ key_range_read scan_range pairs cursor high limit
  read_to_end none low end low_is end_is =
      let whole : key_range pairs cursor high ≡ key_range pairs cursor at = join pairs cursor at high so_far.begun so_far.bounded ∙ ap (λ l. key_range pairs cursor at ++ l) none ∙ append-nil (key_range pairs cursor at) in
      let past : slice_get (item_keys scan_range (key_range pairs cursor at)) limit ≡ None = slice_get_past (item_keys scan_range (key_range pairs cursor at)) limit (omega (arith, so_far.counted)) in
      let to : next_cursor scan_range pairs cursor high limit ≡ high = ap (λ l. unwrap_or (slice_get (item_keys scan_range l) limit) high) whole ∙ ap (λ o. unwrap_or o high) past in
      λ i. record { low = low_is i; high = (end_is ∙ sym to) i; pairs = (so_far.all ∙ same_part pairs cursor at cursor high (sym whole) ∙ ap (part pairs cursor) (sym to)) i }

  pub comes_to_end : (end : Bytes) → end ≡ high → ComesTo scan_range cursor high end
  comes_to_end end is = subst (ComesTo scan_range cursor high) (sym is) (record { onward = le_trans cursor at high so_far.begun so_far.bounded; bounded = le_itself high; ends = inl refl })

  -- the item after so many
  pub read_to_item : (p : Pair) → Begins pairs at high p → left ≡ 0 → is_item scan_range p.0 ≡ true → (low end : Bytes) → low ≡ cursor → end ≡ p.0 → record { low = low; high = end; pairs = some } ≡ key_range_read scan_range pairs cursor high limit
  read_to_item p f none item low end low_is end_is =
      let before = item_keys scan_range (key_range pairs cursor at) in
      let behind = item_keys scan_range (key_range pairs (after p.0) high) in
      let parts : item_keys scan_range (key_range pairs cursor high) ≡ before ++ p.0 ∷ behind =
      ap (item_keys scan_range) (join pairs cursor at high so_far.begun so_far.bounded)
      ∙ filter_map-append (item_key scan_range) (key_range pairs cursor at) (key_range pairs at high)
      ∙ ap (λ l. before ++ item_keys scan_range l) f
      ∙ ap (λ l. before ++ l) (item_keys-cons scan_range p (key_range pairs (after p.0) high) true item) in
      let here : slice_get (before ++ p.0 ∷ behind) limit ≡ Some p.0 =
      ap (slice_get (before ++ p.0 ∷ behind)) (omega (arith, so_far.counted, none))
      ∙ slice_get-get_or (before ++ p.0 ∷ behind) (length before) [] (omega (arith, length-append before (p.0 ∷ behind)))
      ∙ ap (λ x. Some x) (get_or-append_seam before p.0 behind []) in
      let to : next_cursor scan_range pairs cursor high limit ≡ p.0 = ap (λ l. unwrap_or (slice_get l limit) high) parts ∙ ap (λ o. unwrap_or o high) here in
      λ i. record { low = low_is i; high = (end_is ∙ sym to) i; pairs = (so_far.all ∙ same_part pairs cursor at cursor p.0 (sym (first_before pairs at high p f cursor so_far.begun)) ∙ ap (part pairs cursor) (sym to)) i }

  pub comes_to_item : (p : Pair) → Begins pairs at high p → IsItemKey scan_range p.0 → (end : Bytes) → end ≡ p.0 → ComesTo scan_range cursor high end
  comes_to_item p f item end is =
      subst (ComesTo scan_range cursor high) (sym is) (record {
        onward = le_trans cursor at p.0 so_far.begun (first_reached pairs at high p f);
        bounded = less_le p.0 high (first_below pairs at high p f);
        ends = inr item;
      })

  -- one pair more
  pub read_more : (p : Pair) → Begins pairs at high p → (b : Bool) → is_item scan_range p.0 ≡ b → (more : Pairs) → more ≡ map.insert some p.0 p.1 → (next : Bytes) → next ≡ after p.0
      → (rest : ℕ) → length (one_item b p) + rest ≡ left → IsRead scan_range pairs cursor high limit next rest more
  read_more p f b item more more_is next next_is rest rest_is =
      let keys : item_keys scan_range (key_range pairs cursor (after p.0)) ≡ item_keys scan_range (key_range pairs cursor at) ++ (one_item b p ++ []) =
      ap (item_keys scan_range) (first_more pairs at high p f cursor so_far.begun) ∙ filter_map-append (item_key scan_range) (key_range pairs cursor at) (p ∷ []) ∙ ap (λ l. item_keys scan_range (key_range pairs cursor at) ++ l) (item_keys-cons scan_range p [] b item) in
      subst (λ x. IsRead scan_range pairs cursor high limit x rest more) (sym next_is) (record {
        begun = le_trans cursor p.0 (after p.0) (le_trans cursor at p.0 so_far.begun (first_reached pairs at high p f)) (le_after p.0);
        bounded = after_le p.0 high (first_below pairs at high p f);
        all = more_is ∙ ap (λ (m : Pairs). map.insert m p.0 p.1) so_far.all ∙ part_more pairs cursor at high p f so_far.begun;
        counted = omega (arith, so_far.counted, rest_is, ap length keys, length-append (item_keys scan_range (key_range pairs cursor at)) (one_item b p ++ []), length-append (one_item b p) []);
      })

-- ---- on the way, with the pairs that are left

pub underway_first : (scan_range : ScanRange) (pairs : Pairs) (cursor high : Bytes) (limit : ℕ) (so_far : Pairs) (behind : List Pair) → bytes_cmp cursor high ≡ Less → so_far ≡ map.empty → behind ≡ key_range pairs cursor high
    → IsUnderway scan_range pairs cursor high limit limit so_far behind
underway_first scan_range pairs cursor high limit so_far behind below none is =
    record { at = cursor; ahead = sym is; read = none_read scan_range pairs cursor high limit cursor so_far below refl none }

module _ (scan_range : ScanRange) (pairs : Pairs) (cursor high : Bytes) (limit left : ℕ) (some : Pairs) (ahead : List Pair) (so_far : IsUnderway scan_range pairs cursor high limit left some ahead) where
  pub underway_next : (p : Pair) (behind : List Pair) → ahead ≡ p ∷ behind → Begins pairs so_far.at high p
  underway_next p behind is = begins pairs so_far.at high p behind (so_far.ahead ∙ is)

  pub underway_none : ahead ≡ [] → key_range pairs so_far.at high ≡ []
  underway_none is = so_far.ahead ∙ is

  pub underway_more : (p : Pair) (behind : List Pair) → ahead ≡ p ∷ behind → (b : Bool) → is_item scan_range p.0 ≡ b → (more : Pairs) → more ≡ map.insert some p.0 p.1
      → (rest : ℕ) → length (one_item b p) + rest ≡ left → IsUnderway scan_range pairs cursor high limit rest more behind
  underway_more p behind is b item more more_is rest rest_is =
      let begun = underway_next p behind is in
      record {
        at = after p.0;
        ahead = ap (drop 1) (sym begun ∙ so_far.ahead ∙ is);
        read = read_more scan_range pairs cursor high limit so_far.at left some so_far.read p begun b item more more_is (after p.0) refl rest rest_is;
      }

-- what was read is a reading
pub reading_made : (scan_range : ScanRange) (pairs : Pairs) (cursor high : Bytes) (limit : ℕ) (element : ElementDef) (kind : Work) (piece : ℕ) (low end : Bytes) (read : KeyRange)
    → scan_range ≡ scan_range_of element kind → high ≡ end → read ≡ key_range_read scan_range pairs cursor high limit → ComesTo scan_range cursor high read.high
    → IsReading (record { element = element; kind = kind; piece = piece; low = low; high = end; key_range = read })
reading_made scan_range pairs cursor high limit element kind piece low end read scan_range_is end_is read_is comes = record {
  comes =
      subst (λ r. ComesTo r read.low end read.high) scan_range_is
      (subst (λ e. ComesTo scan_range read.low e read.high) end_is
      (subst (λ x. ComesTo scan_range x high read.high) (sym (ap (λ (s : KeyRange). s.low) read_is)) comes));
  inside =
      subst (λ (s : KeyRange). (key value : Bytes) → map.get s.pairs key ≡ Some value → is_within s.low s.high key ≡ true) (sym read_is)
      (λ key value at.
      let to = next_cursor scan_range pairs cursor high limit in
      (some_in (is_within cursor to key) (map.get pairs key) value (sym (get-part pairs cursor to key) ∙ at)).0);
}
