-- The records after an act that was due, and what is then left.
use Rattle.std.proofs.Common.{◌≡◌, ℕ, ◌+◌, ◌<◌, ◌≤◌, ◌==◌, ◌&&◌, Bool, true, false, cond, List, [], ◌∷◌, Option, Some, None, inl, inr, refl, sym, ap, ap₂, subst, ◌∙◌, arith, Contains, eq-eqb, ne_eqb, filter, length, option_map, is_some, not, true≢false}
use Rattle.std.specs.Prelude.{◌≢◌}
use Rattle.std.specs.List.{find}
use Rattle.std.specs.FinMap as map
use Rattle.byte_map.specs.Writes.{written_all}
use Rattle.schema_version.specs.declared.element.ElementDef.{ElementDef}
use Rattle.schema_version.specs.declared.step.Move.{Move}
use Rattle.schema_version.specs.Edges.{wanted_work}
use Rattle.schema_version.specs.Version.{element_at, live}
use Rattle.schema_version.proofs.Lists.{here_or_later}
use Rattle.schema_version.proofs.Live.{live_has}
use Rattle.element_state.proofs.Whole.{number_one}
use Rattle.reorganise.specs.declared.work.Span.{Span}
use Rattle.reorganise.specs.ScanRanges.{scan_range_of, start, end}
use Rattle.drafts.specs.declared.newest.Newest.{Newest}
use Rattle.drafts.specs.declared.record.Reorg.{Reorg}
use Rattle.drafts.specs.declared.record.Record.{Record}
use Rattle.drafts.specs.declared.record.Record.TheVariants.{Reorg as OfReorg, Cursor as OfCursor}
use Rattle.drafts.specs.Calls.{Beginning, Division, reorg_of, starts, close_draft, divide_draft}
use Rattle.drafts.specs.Publish.{found_in}
use Rattle.drafts.specs.Store.{Control, Key, version_key, reorg_key, cursor_key, Store, applied}
use Rattle.drafts.proofs.Records.{here, apart, put_here, put_apart, other_kind, other_number, one_zero, two_zero, zero_one, zero_two, one_two, two_one}
use Rattle.layer_due.specs.Records.{Records, Cursor, cursor_in, is_of}
use Rattle.layer_due.specs.Due.{IsDue}
use Rattle.layer_due.specs.Applies.{HasRecords}
use Rattle.layer_due.specs.Lowers.{is_wanting, begins_left, started, divided, closed, IsLowered, DuesLower}
use Rattle.layer_due.specs.declared.act.Act.{Act}
use Rattle.layer_due.specs.declared.act.Act.TheVariants as act

-- ---- lists

module _ {A : Type 0} (f g : A → Bool) (weaker : (x : A) → f x ≡ true → g x ≡ true) where
  pub no_more : (xs : List A) → length (filter f xs) ≤ length (filter g xs)
  no_more [] = omega arith
  no_more (x ∷ xs) =
      let rest = no_more xs in
      elim (f x) as (λ b. f x ≡ b → length (cond b (x ∷ filter f xs) (filter f xs)) ≤ length (cond (g x) (x ∷ filter g xs) (filter g xs))) [
        | true ↦ λ t. subst (λ b. length (x ∷ filter f xs) ≤ length (cond b (x ∷ filter g xs) (filter g xs))) (sym (weaker x t)) (omega (arith, rest))
        | false ↦ λ _. elim (g x) as (λ b. length (filter f xs) ≤ length (cond b (x ∷ filter g xs) (filter g xs))) [ true ↦ omega (arith, rest) | false ↦ rest ]
      ] refl

  pub fewer : (xs : List A) (x : A) → Contains xs x → f x ≡ false → g x ≡ true → length (filter f xs) < length (filter g xs)
  fewer [] x (k, below, is) lost had = absurd (omega (arith, below))
  fewer (y ∷ ys) x there lost had =
      elim (here_or_later y x ys there) [
        | inl same ↦
            let rest = no_more ys in
            subst (λ b. length (cond b (y ∷ filter f ys) (filter f ys)) < length (cond (g y) (y ∷ filter g ys) (filter g ys))) (sym (ap f same ∙ lost))
            (subst (λ b. length (filter f ys) < length (cond b (y ∷ filter g ys) (filter g ys))) (sym (ap g same ∙ had)) (omega (arith, rest)))
        | inr more ↦
            let rest = fewer ys x more lost had in
            elim (f y) as (λ b. f y ≡ b → length (cond b (y ∷ filter f ys) (filter f ys)) < length (cond (g y) (y ∷ filter g ys) (filter g ys))) [
              | true ↦ λ t. subst (λ b. length (y ∷ filter f ys) < length (cond b (y ∷ filter g ys) (filter g ys))) (sym (weaker y t)) (omega (arith, rest))
              | false ↦ λ _. elim (g y) as (λ b. length (filter f ys) < length (cond b (y ∷ filter g ys) (filter g ys))) [ true ↦ omega (arith, rest) | false ↦ rest ]
            ] refl
      ]

-- ---- records that are put

same_of : (n : ℕ) → (n == n) ≡ true
same_of n = eq-eqb n n refl

put_cursor : (c : Control) (cursors : List Cursor) (cursor : Cursor) → ((e p : ℕ) → map.get c (cursor_key e p) ≡ option_map OfCursor (cursor_in cursors e p))
    → (e p : ℕ) → map.get (map.insert c (cursor_key cursor.element cursor.piece) (OfCursor cursor.key)) (cursor_key e p) ≡ option_map OfCursor (cursor_in (cursor ∷ cursors) e p)
put_cursor c cursors cursor before e p =
    elim (number_one e cursor.element) [
      | inl s ↦ elim (number_one p cursor.piece) [
        | inl t ↦
            ap₂ (λ (x y : ℕ). map.get (map.insert c (cursor_key cursor.element cursor.piece) (OfCursor cursor.key)) (cursor_key x y)) s t
            ∙ put_here c (cursor_key cursor.element cursor.piece) (OfCursor cursor.key)
            ∙ sym (ap (λ b. option_map OfCursor (option_map (λ (x : Cursor). x.key) (cond b (Some cursor) (map_find e p)))) (both e p (sym s) (sym t)))
        | inr ne ↦ other (λ same. ne (second_of same)) (ap (λ b. (cursor.element == e) && b) (ne_eqb cursor.piece p (λ u. ne (sym u))) ∙ off (cursor.element == e))
      ]
      | inr ne ↦ other (λ same. ne (first_of same)) (ap (λ b. b && (cursor.piece == p)) (ne_eqb cursor.element e (λ u. ne (sym u))))
    ]
  where
    map_find : ℕ → ℕ → Option Cursor
    map_find x y = find (is_of x y) cursors

    both : (x y : ℕ) → cursor.element ≡ x → cursor.piece ≡ y → is_of x y cursor ≡ true
    both x y s t = ap₂ (λ a b. a && b) (eq-eqb cursor.element x s) (eq-eqb cursor.piece y t)

    off : (b : Bool) → (b && false) ≡ false
    off true = refl
    off false = refl

    first_of : cursor_key e p ≡ cursor_key cursor.element cursor.piece → e ≡ cursor.element
    first_of same = cc

    second_of : cursor_key e p ≡ cursor_key cursor.element cursor.piece → p ≡ cursor.piece
    second_of same = cc

    other : cursor_key e p ≢ cursor_key cursor.element cursor.piece → is_of e p cursor ≡ false → map.get (map.insert c (cursor_key cursor.element cursor.piece) (OfCursor cursor.key)) (cursor_key e p) ≡ option_map OfCursor (cursor_in (cursor ∷ cursors) e p)
    other ne not_its =
        put_apart c (cursor_key cursor.element cursor.piece) (cursor_key e p) (OfCursor cursor.key) ne ∙ before e p
        ∙ sym (ap (λ b. option_map OfCursor (option_map (λ (x : Cursor). x.key) (cond b (Some cursor) (map_find e p)))) not_its)

put_reorg : (c : Control) (reorgs : List Reorg) (reorg : Reorg) → ((e : ℕ) → map.get c (reorg_key e) ≡ option_map OfReorg (found_in reorgs e))
    → (e : ℕ) → map.get (map.insert c (reorg_key reorg.element.number) (OfReorg reorg)) (reorg_key e) ≡ option_map OfReorg (found_in (reorg ∷ reorgs) e)
put_reorg c reorgs reorg before e =
    elim (number_one e reorg.element.number) [
      | inl s ↦
          ap (λ (x : ℕ). map.get (map.insert c (reorg_key reorg.element.number) (OfReorg reorg)) (reorg_key x)) s ∙ put_here c (reorg_key reorg.element.number) (OfReorg reorg)
          ∙ sym (ap (λ b. option_map OfReorg (cond b (Some reorg) (found_in reorgs e))) (eq-eqb reorg.element.number e (sym s)))
      | inr ne ↦
          put_apart c (reorg_key reorg.element.number) (reorg_key e) (OfReorg reorg) (other_number 1 e reorg.element.number ne) ∙ before e
          ∙ sym (ap (λ b. option_map OfReorg (cond b (Some reorg) (found_in reorgs e))) (ne_eqb reorg.element.number e (λ u. ne (sym u))))
    ]

-- the cursors of pieces that begin
starts_apart : (c : Control) (e k : ℕ) (spans : List Span) (q : Key) → ((j : ℕ) → q ≢ cursor_key e j) → map.get (written_all c (starts e k spans)) q ≡ map.get c q
starts_apart c e k [] q ne = refl
starts_apart c e k (s ∷ ss) q ne = starts_apart (map.insert c (cursor_key e k) (OfCursor s.cursor)) e (k + 1) ss q ne ∙ put_apart c (cursor_key e k) q (OfCursor s.cursor) (ne k)

put_starts : (c : Control) (cursors : List Cursor) (n k : ℕ) (spans : List Span) → ((e p : ℕ) → map.get c (cursor_key e p) ≡ option_map OfCursor (cursor_in cursors e p))
    → (e p : ℕ) → map.get (written_all c (starts n k spans)) (cursor_key e p) ≡ option_map OfCursor (cursor_in (started n k spans cursors) e p)
put_starts c cursors n k [] before = before
put_starts c cursors n k (s ∷ ss) before =
    put_starts (map.insert c (cursor_key n k) (OfCursor s.cursor)) (record { element = n; piece = k; key = s.cursor } ∷ cursors) n (k + 1) ss
    (put_cursor c cursors (record { element = n; piece = k; key = s.cursor }) before)

-- ---- the acts

-- a begin in one piece is a division without keys
abbrev pub whole : Beginning → Division
whole b =
    record {
      newest = b.newest;
      progress = record {
        element = b.element;
        kind = b.work;
        pieces = record { low = start (scan_range_of b.element b.work); high = end (scan_range_of b.element b.work); cursor = start (scan_range_of b.element b.work) } ∷ [];
      };
    }

module _ (store : Store) (records : Records) (has : HasRecords store records) where
  -- a begin in these pieces
  module _ (d : Division) where
    abbrev n : ℕ
    n = d.progress.element.number

    abbrev rk : Key
    rk = reorg_key d.progress.element.number

    abbrev begun_reorg : Record
    begun_reorg = OfReorg (reorg_of d.progress)

    abbrev c1 : Control
    c1 = map.insert store.control rk begun_reorg

    version_stays : (v : ℕ) → map.get (written_all c1 (starts n 0 d.progress.pieces)) (version_key v) ≡ map.get store.control (version_key v)
    version_stays v = starts_apart c1 n 0 d.progress.pieces (version_key v) (λ j. other_kind 0 2 _ _ zero_two) ∙ put_apart store.control rk (version_key v) begun_reorg (other_kind 0 1 _ _ zero_one)

    divide_has : HasRecords (applied (divide_draft d) store) (divided records d)
    divide_has = record {
      newest = version_stays _ ∙ has.newest;
      none_after = version_stays _ ∙ has.none_after;
      previous = ap is_some (version_stays _) ∙ has.previous;
      reorgs = λ e. starts_apart c1 n 0 d.progress.pieces (reorg_key e) (λ j. other_kind 1 2 _ _ one_two) ∙ put_reorg store.control records.reorgs (reorg_of d.progress) has.reorgs e;
      cursors = put_starts c1 records.cursors n 0 d.progress.pieces (λ e p. put_apart store.control rk (cursor_key e p) begun_reorg (other_kind 2 1 _ _ two_one) ∙ has.cursors e p);
    }

    still_wants : (e : ElementDef) → is_wanting (divided records d) e ≡ true → is_wanting records e ≡ true
    still_wants e =
        elim (d.progress.element.number == e.number) as (λ t. (is_some (wanted_work e) && not (is_some (cond t (Some (reorg_of d.progress)) (found_in records.reorgs e.number)))) ≡ true → is_wanting records e ≡ true) [
          | true ↦ λ h. absurd (true≢false (sym h ∙ off (is_some (wanted_work e))))
          | false ↦ λ h. h
        ]
      where
        off : (t : Bool) → (t && false) ≡ false
        off true = refl
        off false = refl

    divide_lowers : d.newest ≡ records.newest → element_at d.newest.schema n ≡ Some d.progress.element → wanted_work d.progress.element ≡ Some d.progress.kind → found_in records.reorgs n ≡ None
        → begins_left (divided records d) < begins_left records
    divide_lowers newest_is there wants new =
        fewer (is_wanting (divided records d)) (is_wanting records) still_wants (live records.newest.schema) d.progress.element
        (live_has records.newest.schema n d.progress.element (ap (λ (v : Newest). element_at v.schema n) (sym newest_is) ∙ there))
        (ap (λ t. is_some (wanted_work d.progress.element) && not (is_some (cond t (Some (reorg_of d.progress)) (found_in records.reorgs n)))) (same_of n) ∙ ap (λ o. is_some o && false) wants)
        (ap₂ (λ o found. is_some o && not (is_some found)) wants new)

  close_has : HasRecords (applied (close_draft records.newest) store) (closed records)
  close_has = record {
    newest = apart store.control (version_key records.newest.before) _ None (other_number 0 _ _ (λ e. absurd (omega (arith, e)))) ∙ has.newest;
    none_after = apart store.control (version_key records.newest.before) _ None (other_number 0 _ _ (λ e. absurd (omega (arith, e)))) ∙ has.none_after;
    previous = ap is_some (here store.control (version_key records.newest.before) None);
    reorgs = λ e. apart store.control (version_key records.newest.before) _ None (other_kind 1 0 _ _ one_zero) ∙ has.reorgs e;
    cursors = λ e p. apart store.control (version_key records.newest.before) _ None (other_kind 2 0 _ _ two_zero) ∙ has.cursors e p;
  }

  lowered : (steps : List (List Move)) (due : Act) → IsDue records steps due → IsLowered store records due
  lowered steps (act.Begin number) is = (
    λ b newest_is number_is made. (divide_has (whole b), divide_lowers (whole b) newest_is made.there made.wants (ap (found_in records.reorgs) number_is ∙ is.0.new)),
    λ d newest_is number_is made. (divide_has d, divide_lowers d newest_is made.there made.wants (ap (found_in records.reorgs) number_is ∙ is.0.new)),
  )
  lowered steps act.Close is = (close_has, refl)
  lowered steps act.Publish is = tt
  lowered steps (act.Work number piece) is = λ read bounds from.
      let to = OfCursor read.key_range.high in
      let ck = cursor_key read.element.number read.piece in (
        record {
          newest = put_apart store.control ck _ to (other_kind 0 2 _ _ zero_two) ∙ has.newest;
          none_after = put_apart store.control ck _ to (other_kind 0 2 _ _ zero_two) ∙ has.none_after;
          previous = ap is_some (put_apart store.control ck _ to (other_kind 0 2 _ _ zero_two)) ∙ has.previous;
          reorgs = λ e. put_apart store.control ck (reorg_key e) to (other_kind 1 2 _ _ one_two) ∙ has.reorgs e;
          cursors = put_cursor store.control records.cursors (record { element = read.element.number; piece = read.piece; key = read.key_range.high }) has.cursors;
        },
        refl,
        ap₂ (λ s t. option_map (λ (x : Cursor). x.key) (cond (s && t) (Some (record { element = read.element.number; piece = read.piece; key = read.key_range.high })) (find (is_of number piece) records.cursors)))
            (eq-eqb read.element.number number from.number_is) (eq-eqb read.piece piece from.piece_is),
      )
  lowered steps act.Nothing is = tt

pub dues_lower : DuesLower
dues_lower store records steps due has is = lowered store records has steps due is
