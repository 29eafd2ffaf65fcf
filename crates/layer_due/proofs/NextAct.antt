-- The act that is due next, as a call whose draft the store applies.
use Rattle.std.proofs.Common.{◌≡◌, ℕ, ◌≤◌, ◌⊎◌, inl, inr, Bool, true, false, cond, List, [], ◌∷◌, Option, Some, None, refl, sym, ap, ap₂, subst, ◌∙◌, arith, Contains, length, option_map, is_some, not, slice_get, true≢false}
use Rattle.std.specs.Prelude.{◌&&◌}
use Rattle.std.specs.FinMap as map
use Rattle.std.proofs.lemmas.List.{length-map}
use Rattle.std.proofs.lemmas.Option.{slice_get-map}
use Rattle.keycode.specs.Order.{bytes_cmp}
use Rattle.row_map.specs.Expect.{Holds, Misses}
use Rattle.row_map.specs.Rows.{Bytes}
use Rattle.row_map.specs.Ranges.{is_within}
use Rattle.schema_version.specs.declared.element.ElementDef.{ElementDef}
use Rattle.schema_version.specs.declared.step.Move.{Move}
use Rattle.schema_version.specs.declared.step.Move.TheVariants.{Enter, Go, Turn}
use Rattle.schema_version.specs.Edges.{wanted_work}
use Rattle.schema_version.specs.Moves.{IsAllowed}
use Rattle.schema_version.specs.Version.{Version, element_at, live}
use Rattle.schema_version.proofs.Lists.{here, later, here_or_later}
use Rattle.schema_version.proofs.Live.{live_has, live_from}
use Rattle.reorganise.specs.declared.read.Reading.{Reading}
use Rattle.reorganise.specs.declared.work.Span.{Span}
use Rattle.reorganise.specs.Batches.{expect_of}
use Rattle.reorganise.specs.Pieces.{view_to, IsReading}
use Rattle.reorganise.proofs.Order.{get-part, some_in, and_true, le_itself}
use Rattle.replay.specs.Kept.{IsKept, IsInPiece}
use Rattle.replay.specs.Replay.{Facts}
use Rattle.replay.proofs.Pieces.{at_place as have_at_place}
use Rattle.drafts.specs.declared.record.Record.TheVariants.{Cursor as OfCursor}
use Rattle.drafts.specs.declared.record.Reorg.{Reorg}
use Rattle.drafts.specs.Calls.{Beginning, Close, Begin, Piece, Publish, max_versions}
use Rattle.drafts.specs.Made.{working}
use Rattle.drafts.specs.Mirror.{Mirrors, reorg_of, piece_of}
use Rattle.drafts.specs.Publish.{found_in, publication}
use Rattle.drafts.specs.Store.{Store}
use Rattle.drafts.proofs.Opens.{none_some}
use Rattle.drafts.proofs.Ready.{all_ready}
use Rattle.layer_due.specs.Records.{Records, cursor_in, open_in, open_piece}
use Rattle.layer_due.specs.Due.{IsWanting, NoneWants, NoneOpen, AreReady, IsNextReady, IsDue}
use Rattle.layer_due.specs.Applies.{HasRecords, IsReadFrom}
use Rattle.layer_due.specs.Course.{ArePlanned, GoesOn}
use Rattle.layer_due.specs.Lowers.{is_wanting}
use Rattle.layer_due.specs.declared.act.Act.TheVariants as act
use Rattle.layer_due.proofs.Applied.{due_applies}
use Rattle.layer_due.proofs.Onward.{AllEnded, ready, all_ended, begun_reorg, IsBegunReorg, newest, at_place, first_below}
use Rattle.layer_due.proofs.Same.{cursor_by}
use Rattle.layer_due.proofs.Searches.{AllIn, none_open}

-- ---- searches

-- one of a list passes the test, or none does
module _ {A : Type 0} (test : A → Bool) where
  one_more_item : (x : A) (xs : List A) → ((y : A) × Contains xs y × (test y ≡ true)) ⊎ AllIn (λ (y : A). test y ≡ false) xs → (b : Bool) → test x ≡ b
      → ((y : A) × Contains (x ∷ xs) y × (test y ≡ true)) ⊎ AllIn (λ (y : A). test y ≡ false) (x ∷ xs)
  one_more_item x xs rest true is = inl (x, here x xs, is)
  one_more_item x xs (inl found) false is = inl (found.0, later x found.0 xs found.1, found.2)
  one_more_item x xs (inr none) false is = inr (λ y there. elim (here_or_later x y xs there) [ inl same ↦ subst (λ (z : A). test z ≡ false) same is | inr more ↦ none y more ])

  some_or_none : (xs : List A) → ((x : A) × Contains xs x × (test x ≡ true)) ⊎ AllIn (λ (x : A). test x ≡ false) xs
  some_or_none [] = inr (λ x there. absurd (omega (arith, there.1)))
  some_or_none (x ∷ xs) = one_more_item x xs (some_or_none xs) (test x) refl

there_is : {A : Type 0} (o : Option A) → is_some o ≡ true → (x : A) × (o ≡ Some x)
there_is None e = absurd cc
there_is (Some x) e = (x, refl)

not_there : {A : Type 0} (o : Option A) → is_some o ≡ false → o ≡ None
not_there None e = refl
not_there (Some x) e = absurd cc

not_some : {A : Type 0} (o : Option A) → not (is_some o) ≡ true → o ≡ None
not_some None e = refl
not_some (Some x) e = absurd cc

-- the reorganisations of a step have ended, or one has not
ended_or_not : (records : Records) (step : List Move) → AllEnded records step ⊎ (¬ (AreReady records step))
ended_or_not records [] = inl tt
ended_or_not records (move ∷ step) = by move (ended_or_not records step)
  where
    by : (move : Move) → AllEnded records step ⊎ (¬ (AreReady records step)) → AllEnded records (move ∷ step) ⊎ (¬ (AreReady records (move ∷ step)))
    by move (inr not_ready) = inr (λ r. not_ready r.1)
    by (Enter fresh to) (inl rest) = inl (tt, rest)
    by (Turn number) (inl rest) = inl (tt, rest)
    by (Go number to) (inl rest) = at (open_piece records number) refl
      where
        at : (o : Option ℕ) → open_piece records number ≡ o → AllEnded records (Go number to ∷ step) ⊎ (¬ (AreReady records (Go number to ∷ step)))
        at None is = inl (is, rest)
        at (Some piece) is = inr (λ r. none_some (sym r.0.1 ∙ is))

module _ (facts : Facts) (store : Store) (records : Records) (k : IsKept facts) (m : Mirrors facts store) (has : HasRecords store records) where
  abbrev schema : Version
  schema = records.newest.schema

  own : (n : ℕ) (element : ElementDef) → element_at schema n ≡ Some element → element.number ≡ n
  own n element at = (k.sound.elements n element (ap (λ (v : Version). element_at v n) (newest facts store records k m has) ∙ at)).own

  some_wants : ((number : ℕ) × IsWanting records number) ⊎ NoneWants records
  some_wants = elim (some_or_none (is_wanting records) (live schema)) [
    | inl found ↦
        let at = live_from schema found.0 found.1 in
        let both = and_true (is_some (wanted_work found.0)) (not (is_some (found_in records.reorgs found.0.number))) found.2 in
        let work = there_is (wanted_work found.0) both.0 in
        inl (at.0, record { element = found.0; there = at.1; work = work.0; wants = work.1; new = subst (λ (n : ℕ). found_in records.reorgs n ≡ None) (own at.0 found.0 at.1) (not_some (found_in records.reorgs found.0.number) both.1) })
    | inr none ↦ inr (λ number w.
        true≢false (sym (ap₂ (λ a b. is_some a && not (is_some b)) w.wants (ap (found_in records.reorgs) (own number w.element w.there) ∙ w.new)) ∙ none w.element (live_has schema number w.element w.there)))
  ]

  some_open : ((number : ℕ) × (piece : ℕ) × (open_piece records number ≡ Some piece)) ⊎ NoneOpen records
  some_open = elim (some_or_none (λ (reorg : Reorg). is_some (open_piece records reorg.element.number)) records.reorgs) [
    | inl found ↦ let piece = there_is (open_piece records found.0.element.number) found.2 in inl (found.0.element.number, piece.0, piece.1)
    | inr none ↦ inr (none_open records (λ reorg there. not_there (open_piece records reorg.element.number) (none reorg there)))
  ]

  -- ---- the calls

  module _ (keys : List Bytes) (steps : List (List Move)) where
    close : (number : ℕ) → IsWanting records number → records.previous_is_open ≡ true → GoesOn keys store records steps
    close number wanting is_open =
        let due : IsDue records steps act.Close = ((number, wanting), is_open) in
        record { call = Close records.newest; is_act = refl; turn = record { drafted = tt; applies = due_applies store records steps act.Close has due; has = has; does = due } }

    begin : (number : ℕ) → IsWanting records number → records.previous_is_open ≡ false → GoesOn keys store records steps
    begin number wanting is_closed =
        let b : Beginning = record { newest = records.newest; element = wanting.element; work = wanting.work } in
        let number_is = own number wanting.element wanting.there in
        let due : IsDue records steps (act.Begin number) = (wanting, is_closed) in
        record {
          call = Begin b;
          is_act = refl;
          turn = record {
            drafted = record { there = ap (element_at schema) number_is ∙ wanting.there; wants = wanting.wants };
            applies = due_applies store records steps (act.Begin number) has due b refl number_is;
            has = has;
            does = subst (λ (n : ℕ). IsDue records steps (act.Begin n)) (sym number_is) due;
          };
        }

    publish : (step : List Move) (more : List (List Move)) → steps ≡ step ∷ more → NoneWants records → AreReady records step → IsAllowed schema step → records.newest.before ≤ max_versions → GoesOn keys store records steps
    publish step more is none are_ready allowed few =
        let due : IsDue records steps act.Publish = (none, subst (IsNextReady records) (sym is) are_ready) in
        let applied = due_applies store records steps act.Publish has due step more is in
        record {
          call = Publish (publication records.newest step records.reorgs);
          is_act = refl;
          turn = record {
            drafted = record { few = few; allowed = allowed; finished = λ number to element there at. all_ready schema (found_in records.reorgs) step applied.0 number to element there at };
            applies = applied.1;
            has = has;
            does = (due, (more, is));
          };
        }

    -- ---- a piece, read to its end

    module _ (number piece : ℕ) (reorg : Reorg) (b : IsBegunReorg facts store records k m has number reorg) (span : Span) (at : slice_get b.progress.pieces piece ≡ Some span)
        (found : found_in records.reorgs number ≡ Some reorg) where
      abbrev read : Reading
      read = view_to b.progress store.pairs piece span.high span

      abbrev bounds : List (Bytes × Bytes)
      bounds = (reorg_of b.progress).bounds

      is_reading : IsReading read
      is_reading = record {
        comes = record { onward = have_at_place IsInPiece b.progress.pieces piece span (k.in_pieces number b.progress b.here).cursors at; bounded = le_itself span.high; ends = inl refl };
        inside = λ key value there. (some_in (is_within span.cursor span.high key) (map.get store.pairs key) value (sym (get-part store.pairs span.cursor span.high key) ∙ there)).0;
      }

      cursor_is : cursor_in records.cursors number piece ≡ Some span.cursor
      cursor_is = cursor_by (cursor_in records.cursors number piece) (Some span.cursor) (
          sym (has.cursors number piece) ∙ m.cursors number piece
          ∙ ap (λ o. option_map (λ (s : Span). OfCursor s.cursor) (piece_of o piece)) b.here ∙ ap (option_map (λ (s : Span). OfCursor s.cursor)) at
          )

      from : IsReadFrom records number piece read bounds
      from = record { number_is = b.number_is; piece_is = refl; reorg = found ∙ sym (ap Some b.same); cursor = cursor_is }

      holds : Holds (expect_of read.key_range) store.pairs
      holds key = by
        where
          by : Misses (expect_of read.key_range) store.pairs key → ⊥
          by (inl h) = none_some (sym (map.get-empty bytes_cmp key) ∙ h.1)
          by (inr h) = h.1 (sym (get-part store.pairs span.cursor span.high key ∙ ap (λ t. cond t (map.get store.pairs key) None) h.0))

      work : NoneWants records → ¬ (IsNextReady records steps) → open_piece records number ≡ Some piece → GoesOn keys store records steps
      work none not_ready is_open = record {
        call = Piece (working read bounds);
        is_act = refl;
        turn = record {
          drafted = record { read_so = is_reading; bounds = slice_get-map (λ (s : Span). (s.low, s.high)) b.progress.pieces piece ∙ ap (option_map (λ (s : Span). (s.low, s.high))) at };
          applies = due_applies store records steps (act.Work number piece) has (none, not_ready, is_open, (span.cursor, cursor_is)) read bounds from holds;
          has = has;
          does = (subst (λ (n : ℕ). IsDue records steps (act.Work n piece)) (sym b.number_is) (none, not_ready, is_open, (span.cursor, cursor_is)), inl refl);
        };
      }

    worked : (number piece : ℕ) → open_piece records number ≡ Some piece → NoneWants records → ¬ (IsNextReady records steps) → GoesOn keys store records steps
    worked number piece is_open none not_ready = by (found_in records.reorgs number) refl
      where
        by : (o : Option Reorg) → found_in records.reorgs number ≡ o → GoesOn keys store records steps
        by None is = none_some (sym (ap (open_in records.cursors number) is) ∙ is_open)
        by (Some reorg) is =
            let b = begun_reorg facts store records k m has number reorg is in
            let below = first_below records.cursors number 0 piece reorg.bounds (sym (ap (open_in records.cursors number) is) ∙ is_open) in
            let pieces : length b.progress.pieces ≡ length reorg.bounds = sym (length-map b.progress.pieces (λ (s : Span). (s.low, s.high))) ∙ ap (λ (r : Reorg). length r.bounds) b.same in
            let at = at_place b.progress.pieces piece (omega (arith, below, pieces)) in
            work number piece reorg b at.0 at.1 is none not_ready is_open

    pub next_act : ArePlanned schema steps → records.newest.before ≤ max_versions → IsDue records steps act.Nothing ⊎ GoesOn keys store records steps
    next_act planned few = elim some_wants [
      | inl w ↦ inr (by_close w.0 w.1 records.previous_is_open refl)
      | inr none ↦ by_steps none steps refl planned
    ]
      where
        by_close : (number : ℕ) → IsWanting records number → (b : Bool) → records.previous_is_open ≡ b → GoesOn keys store records steps
        by_close number wanting true is = close number wanting is
        by_close number wanting false is = begin number wanting is

        by_steps : NoneWants records → (left : List (List Move)) → steps ≡ left → ArePlanned schema left → IsDue records steps act.Nothing ⊎ GoesOn keys store records steps
        by_steps none [] is are_planned = elim some_open [
          | inl found ↦ inr (worked found.0 found.1 found.2 none (λ r. subst (IsNextReady records) is r))
          | inr closed ↦ inl (none, is, closed)
        ]
        by_steps none (step ∷ more) is are_planned = elim (ended_or_not records step) [
          | inl ended ↦ inr (publish step more is none (ready facts store records k m has none step [] step are_planned.0 refl ended) are_planned.0 few)
          | inr not_ready ↦ elim some_open [
            | inl found ↦ inr (worked found.0 found.1 found.2 none (λ r. not_ready (subst (IsNextReady records) is r)))
            | inr closed ↦ absurd (not_ready (ready facts store records k m has none step [] step are_planned.0 refl (all_ended records closed step)))
          ]
        ]
