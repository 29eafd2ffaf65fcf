-- Each comparison of an act's draft holds as long as the records are those that were found.
use Rattle.std.proofs.Common.{◌≡◌, ℕ, ◌+◌, true, false, cond, List, [], ◌∷◌, ◌++◌, Option, Some, None, inl, inr, refl, sym, ap, subst, ◌∙◌, option_map, is_some}
use Rattle.std.specs.List.{AllByRecursion}
use Rattle.std.specs.Cmp.{Equal-is}
use Rattle.std.specs.FinMap as map
use Rattle.keycode.specs.Order.{bytes_cmp}
use Rattle.keycode.proofs.Orders.{bytes_cmp-IsAntisymmetric}
use Rattle.row_map.specs.Expect.{Holds}
use Rattle.row_map.specs.Rows.{Bytes, Pairs}
use Rattle.schema_version.specs.declared.step.Move.{Move}
use Rattle.schema_version.specs.declared.step.Move.TheVariants.{Enter, Go, Turn}
use Rattle.drafts.specs.declared.newest.Newest.{Newest}
use Rattle.drafts.specs.Calls.{nothing, bounds_in, ends, move_reads, newest_reads, step_reads}
use Rattle.drafts.specs.Publish.{found_in, AreReady as AreBegun}
use Rattle.drafts.specs.Store.{Key, version_key, reorg_key, cursor_key, Store, IsThere}
use Rattle.drafts.specs.declared.record.Record.{Record}
use Rattle.drafts.specs.declared.record.Record.TheVariants.{Version as OfVersion, Reorg as OfReorg, Cursor as OfCursor}
use Rattle.drafts.specs.declared.record.Reorg.{Reorg}
use Rattle.layer_due.specs.Records.{Records, cursor_in, is_at, first_open, open_in}
use Rattle.layer_due.specs.Due.{HasEnded, AreReady, IsNextReady, IsDue}
use Rattle.layer_due.specs.declared.act.Act.{Act}
use Rattle.layer_due.specs.declared.act.Act.TheVariants as act
use Rattle.layer_due.specs.Applies.{HasRecords, IsApplied, DueApplies}

none_some : {A B : Type 0} {x : A} → None ≡ Some x → B
none_some e = absurd cc

nothing_holds : (pairs : Pairs) → Holds nothing pairs
nothing_holds pairs key (inl miss) = none_some (sym (map.get-empty bytes_cmp key) ∙ miss.1)
nothing_holds pairs key (inr wrong) = absurd wrong

not_there : {A : Type 0} (o : Option A) → is_some o ≡ false → o ≡ None
not_there None e = refl
not_there (Some x) e = absurd cc

all_of_both : {A : Type 0} (P : A → Type 0) (xs ys : List A) → AllByRecursion P xs → AllByRecursion P ys → AllByRecursion P (xs ++ ys)
all_of_both P [] ys all more = more
all_of_both P (x ∷ xs) ys all more = (all.0, all_of_both P xs ys all.1 more)

at_says : (o : Option Bytes) (high : Bytes) → is_at o high ≡ true → o ≡ Some high
at_says None high e = absurd cc
at_says (Some key) high e = ap Some (bytes_cmp-IsAntisymmetric key high ((Equal-is (bytes_cmp key high)).0 e))

module _ (store : Store) (records : Records) (has : HasRecords store records) where
  abbrev AreThere : List (Key × Option Record) → Type 0
  AreThere = AllByRecursion (IsThere store.control)

  newest_there : (newest : Newest) → newest ≡ records.newest → AreThere (newest_reads newest)
  newest_there newest is = (
    ap (λ (n : Newest). map.get store.control (version_key (n.before + 1))) is ∙ has.newest ∙ ap (λ (n : Newest). Some (OfVersion n.schema)) (sym is),
    (ap (λ (n : Newest). map.get store.control (version_key (n.before + 2))) is ∙ has.none_after, tt),
  )

  ends_there : (number piece : ℕ) (bounds : List (Bytes × Bytes)) → first_open records.cursors number piece bounds ≡ None → AreThere (ends number piece bounds)
  ends_there number piece [] none = tt
  ends_there number piece (bound ∷ bounds) none =
      elim (is_at (cursor_in records.cursors number piece) bound.1) as (λ b. is_at (cursor_in records.cursors number piece) bound.1 ≡ b → cond b (first_open records.cursors number (piece + 1) bounds) (Some piece) ≡ None → AreThere (ends number piece (bound ∷ bounds))) [
        | true ↦ λ at rest. (has.cursors number piece ∙ ap (option_map OfCursor) (at_says (cursor_in records.cursors number piece) bound.1 at), ends_there number (piece + 1) bounds rest)
        | false ↦ λ _ left. none_some (sym left)
      ] refl none

  pieces_there : (number : ℕ) (found : Option Reorg) → open_in records.cursors number found ≡ None → AreThere (ends number 0 (bounds_in found))
  pieces_there number None none = tt
  pieces_there number (Some reorg) none = ends_there number 0 reorg.bounds none

  move_there : (move : Move) → HasEnded records move → AreThere (move_reads (found_in records.reorgs) move)
  move_there (Enter fresh to) ended = tt
  move_there (Go number to) ended = (has.reorgs number, pieces_there number (found_in records.reorgs number) ended)
  move_there (Turn number) ended = (has.reorgs number, tt)

  step_there : (step : List Move) → AreReady records step → AreThere (step_reads (found_in records.reorgs) step)
  step_there [] ready = tt
  step_there (move ∷ step) ready = all_of_both (IsThere store.control) (move_reads (found_in records.reorgs) move) (step_reads (found_in records.reorgs) step) (move_there move ready.0.1) (step_there step ready.1)

  begun : (step : List Move) → AreReady records step → AreBegun records.newest.schema (found_in records.reorgs) step
  begun [] ready = tt
  begun (move ∷ step) ready = (ready.0.0, begun step ready.1)

  applies : (steps : List (List Move)) (due : Act) → IsDue records steps due → IsApplied store records steps due
  applies steps (act.Begin number) is = λ b newest_is number_is. record {
    control = all_of_both (IsThere store.control) (newest_reads b.newest) ((version_key b.newest.before, None) ∷ (reorg_key b.element.number, None) ∷ []) (newest_there b.newest newest_is) (
      ap (λ (n : Newest). map.get store.control (version_key n.before)) newest_is ∙ not_there (map.get store.control (version_key records.newest.before)) (has.previous ∙ is.1),
      (ap (λ (n : ℕ). map.get store.control (reorg_key n)) number_is ∙ has.reorgs number ∙ ap (option_map OfReorg) is.0.new, tt),
    );
    pairs = nothing_holds store.pairs;
  }
  applies steps act.Close is = record { control = newest_there records.newest refl; pairs = nothing_holds store.pairs }
  applies steps act.Publish is = λ step more steps_are.
      let ready : AreReady records step = subst (IsNextReady records) steps_are is.1 in (
        begun step ready,
        record {
          control = all_of_both (IsThere store.control) (newest_reads records.newest) (step_reads (found_in records.reorgs) step) (newest_there records.newest refl) (step_there step ready);
          pairs = nothing_holds store.pairs;
        },
      )
  applies steps (act.Work number piece) is = λ read bounds from holds. record {
    control = (
      ap (λ (n : ℕ). map.get store.control (reorg_key n)) from.number_is ∙ has.reorgs number ∙ ap (option_map OfReorg) from.reorg,
      (ap (λ (n : ℕ). map.get store.control (cursor_key n read.piece)) from.number_is ∙ ap (λ (n : ℕ). map.get store.control (cursor_key number n)) from.piece_is ∙ has.cursors number piece ∙ ap (option_map OfCursor) from.cursor, tt),
    );
    pairs = holds;
  }
  applies steps act.Nothing is = tt

pub due_applies : DueApplies
due_applies store records steps due has is = applies store records has steps due is
