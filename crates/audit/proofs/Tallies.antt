-- Sums of what pairs count for, and the audit that they come to.
use Rattle.std.proofs.Common.{◌≡◌, ℕ, suc, ◌+◌, ◌-◌, ◌<◌, ◌≤◌, get_or, not, cond, List, [], ◌∷◌, ◌++◌, Result, Ok, Err, IfOk, refl, sym, ap, subst, ◌∙◌, add_assoc, zero-add, add-zero, arith}
use Rattle.std.specs.Prelude.{count_by, sum_by}
use Rattle.std.specs.FinMap as map
use Rattle.std.specs.List.{AllByRecursion}
use Rattle.std.proofs.lemmas.List.Recursion.{is_sum_by}
use Rattle.keycode.proofs.Orders.{bytes_cmp-IsAntisymmetric}
use Rattle.row_map.specs.Rows.{Bytes, Pairs}
use Rattle.schema_version.specs.Sound.{IsSoundVersion}
use Rattle.schema_version.specs.Version.{Version}
use Rattle.audit.specs.declared.counts.Counts.{Counts}
use Rattle.audit.specs.declared.report.CheckReport.{CheckReport}
use Rattle.audit.specs.Audit.{Pair, IsAudit, is_exists_pair, missing_beside, has_reason}
use Rattle.audit.specs.Encoded.{key_read}
use Rattle.audit.specs.Meaning.{AreByteStrings}
use Rattle.audit.specs.inner.RowCounts.{IsByteString, AreStrings, AllStrings, given_beside, has_plain_reason, judged, added, tally}
use Rattle.audit.proofs.Counting.{counted_from_rows}
use Rattle.audit.proofs.Zero.{all_found}

abbrev none : Counts
none = record { rows = 0; missing = 0; other = 0; given = 0 }

none_added : (a : Counts) → added none a ≡ a
none_added a = λ i. record { rows = zero-add a.rows i; missing = zero-add a.missing i; other = zero-add a.other i; given = zero-add a.given i }

added_none : (a : Counts) → added a none ≡ a
added_none a = λ i. record { rows = add-zero a.rows i; missing = add-zero a.missing i; other = add-zero a.other i; given = add-zero a.given i }

added_assoc : (a b c : Counts) → added (added a b) c ≡ added a (added b c)
added_assoc a b c = λ i. record {
  rows = add_assoc a.rows b.rows c.rows i;
  missing = add_assoc a.missing b.missing c.missing i;
  other = add_assoc a.other b.other c.other i;
  given = add_assoc a.given b.given c.given i;
}

-- ---- pairs of strings of bytes

pub all_bytes : (bytes : Bytes) → ((i : ℕ) → get_or bytes i 0 < 256) → IsByteString bytes
all_bytes [] below = tt
all_bytes (b ∷ bytes) below = (below 0, all_bytes bytes (λ i. below (suc i)))

pub strings_begun : (total ahead : List Pair) → ahead ≡ total → AllStrings ahead → AllStrings total
strings_begun total ahead is all = subst AllStrings is all

pub strings_more : (total here next : List Pair) (p : Pair) → here ≡ p ∷ next → AreStrings p → (AllStrings here → AllStrings total) → AllStrings next → AllStrings total
strings_more total here next p found own so_far rest = so_far (subst AllStrings (sym found) (own, rest))

pub strings_done : (total here : List Pair) → here ≡ [] → (AllStrings here → AllStrings total) → AllStrings total
strings_done total here none_left so_far = so_far (subst AllStrings (sym none_left) tt)

pub strings_of : (pairs : Pairs) → AllStrings (map.entries pairs) → AreByteStrings pairs
strings_of pairs all = all_found bytes_cmp-IsAntisymmetric (λ (x w : Bytes). AreStrings (x, w)) pairs all

pub strings_told : {E : Type 0} (pairs : Pairs) (walk : List Pair) → walk ≡ map.entries pairs → (r : Result Counts E) → IfOk r (λ counts. AllStrings walk) → IfOk r (λ counts. AreByteStrings pairs)
strings_told pairs walk is (Ok counts) all = strings_of pairs (subst AllStrings is all)
strings_told pairs walk is (Err fault) all = tt

pub strings_both : (xs ys : List Pair) → AllStrings xs → AllStrings ys → AllStrings (xs ++ ys)
strings_both [] ys all more = more
strings_both (x ∷ xs) ys all more = (all.0, strings_both xs ys all.1 more)

-- ---- the counts

module _ (version : Version) (pairs : Pairs) where
  pub tally_begun : (total counts : Counts) (ahead : List Pair) → counts ≡ none → tally version pairs ahead ≡ total → added counts (tally version pairs ahead) ≡ total
  tally_begun total counts ahead none_is ahead_is =
      ap (λ (r : Counts). added r (tally version pairs ahead)) none_is
      ∙ none_added (tally version pairs ahead)
      ∙ ahead_is

  pub tally_more : (total counts more sum : Counts) (here next : List Pair) (p : Pair) → here ≡ p ∷ next
      → more ≡ judged version pairs p → sum ≡ added counts more → added counts (tally version pairs here) ≡ total → added sum (tally version pairs next) ≡ total
  tally_more total counts more sum here next p found more_is sum_is so_far =
      ap (λ (r : Counts). added r (tally version pairs next)) (sum_is ∙ ap (added counts) more_is)
      ∙ added_assoc counts (judged version pairs p) (tally version pairs next)
      ∙ ap (λ (l : List Pair). added counts (tally version pairs l)) (sym found)
      ∙ so_far

  pub tally_done : (total counts : Counts) (here : List Pair) → here ≡ [] → added counts (tally version pairs here) ≡ total → counts ≡ total
  tally_done total counts here none_left so_far =
      sym (added_none counts)
      ∙ ap (λ (l : List Pair). added counts (tally version pairs l)) (sym none_left)
      ∙ so_far

  -- the counts of some pairs and of those after them
  pub tally_both : (xs ys : List Pair) → tally version pairs (xs ++ ys) ≡ added (tally version pairs xs) (tally version pairs ys)
  tally_both [] ys = sym (none_added (tally version pairs ys))
  tally_both (x ∷ xs) ys = ap (added (judged version pairs x)) (tally_both xs ys) ∙ sym (added_assoc (judged version pairs x) (tally version pairs xs) (tally version pairs ys))

  -- the counts of a tally are those of its parts
  record IsTally (es : List Pair) (counts : Counts) : Type 0 where
    rows : counts.rows ≡ count_by is_exists_pair es
    missing : counts.missing ≡ sum_by (missing_beside version pairs) es
    other : counts.other ≡ count_by (λ pair. not (has_plain_reason version pairs (key_read pair.0))) es
    given : counts.given ≡ sum_by (λ pair. given_beside version pairs (key_read pair.0)) es

  tally_is : (es : List Pair) → IsTally es (tally version pairs es)
  tally_is es = record {
    rows = is_sum_by (λ (l : List Pair). (tally version pairs l).rows) (λ pair. cond (is_exists_pair pair) 1 0) refl (λ x xs. refl) es;
    missing = is_sum_by (λ (l : List Pair). (tally version pairs l).missing) (missing_beside version pairs) refl (λ x xs. refl) es;
    other = is_sum_by (λ (l : List Pair). (tally version pairs l).other) (λ pair. cond (not (has_plain_reason version pairs (key_read pair.0))) 1 0) refl (λ x xs. refl) es;
    given = is_sum_by (λ (l : List Pair). (tally version pairs l).given) (λ pair. given_beside version pairs (key_read pair.0)) refl (λ x xs. refl) es;
  }

  module _ (sound : IsSoundVersion version) (strings : AreByteStrings pairs) where
    abbrev extra : ℕ
    extra = count_by (λ pair. not (has_reason version pairs pair)) (map.entries pairs)

    split : (counts : Counts) → counts ≡ tally version pairs (map.entries pairs) → counts.other ≡ extra + counts.given
    split counts is =
        let all : IsTally (map.entries pairs) counts = subst (IsTally (map.entries pairs)) (sym is) (tally_is (map.entries pairs)) in
        all.other ∙ counted_from_rows version sound pairs strings ∙ ap (λ (n : ℕ). extra + n) (sym all.given)

    -- no more pairs are given than there are
    pub given_within : (counts : Counts) → counts ≡ tally version pairs (map.entries pairs) → counts.given ≤ counts.other
    given_within counts is = omega (arith, split counts is)

    pub audit_from : (counts : Counts) (report : CheckReport) → counts ≡ tally version pairs (map.entries pairs) → report.rows ≡ counts.rows → report.missing ≡ counts.missing → report.extra ≡ counts.other - counts.given → IsAudit version pairs report
    audit_from counts report is rows missing over =
        let all : IsTally (map.entries pairs) counts = subst (IsTally (map.entries pairs)) (sym is) (tally_is (map.entries pairs)) in
        record { rows = rows ∙ all.rows; missing = missing ∙ all.missing; extra = omega (arith, over, split counts is) }
