-- Sums of what the pairs of a page count for.
use Rattle.std.proofs.Common.{◌≡◌, ℕ, ◌+◌, not, cond, Bool, true, false, List, [], ◌∷◌, Option, refl, sym, ap, ◌∙◌, add_assoc, zero-add, add-zero}
use Rattle.std.specs.Prelude.{count_by, sum_by}
use Rattle.std.proofs.lemmas.List.Recursion.{is_sum_by}
use Rattle.row_map.specs.Rows.{Bytes, Pairs}
use Rattle.schema_version.specs.Version.{Version}
use Rattle.audit.specs.declared.report.CheckReport.{CheckReport}
use Rattle.audit.specs.Audit.{Pair, is_exists_pair, missing_beside, has_reason}
use Rattle.page_check.specs.Page.{is_on_page, on_page, IsPageAudit}
use Rattle.page_check.specs.inner.Counted.{judged, added, counted}

abbrev none : CheckReport
none = record { rows = 0; missing = 0; extra = 0 }

none_added : (a : CheckReport) → added none a ≡ a
none_added a = λ i. record { rows = zero-add a.rows i; missing = zero-add a.missing i; extra = zero-add a.extra i }

added_none : (a : CheckReport) → added a none ≡ a
added_none a = λ i. record { rows = add-zero a.rows i; missing = add-zero a.missing i; extra = add-zero a.extra i }

added_assoc : (a b c : CheckReport) → added (added a b) c ≡ added a (added b c)
added_assoc a b c = λ i. record {
  rows = add_assoc a.rows b.rows c.rows i;
  missing = add_assoc a.missing b.missing c.missing i;
  extra = add_assoc a.extra b.extra c.extra i;
}

module _ (version : Version) (store : Pairs) where
  -- what pairs come to in turn is the sum of what each counts for
  pub counted_is : (es : List Pair) → IsPageAudit version store es (counted version store es)
  counted_is es = record {
    rows = is_sum_by (λ (l : List Pair). (counted version store l).rows) (λ pair. cond (is_exists_pair pair) 1 0) refl (λ x xs. refl) es;
    missing = is_sum_by (λ (l : List Pair). (counted version store l).missing) (missing_beside version store) refl (λ x xs. refl) es;
    extra = is_sum_by (λ (l : List Pair). (counted version store l).extra) (λ pair. cond (not (has_reason version store pair)) 1 0) refl (λ x xs. refl) es;
  }

  module _ (low : Bytes) (to : Option Bytes) where
    pub page_begun : (report : CheckReport) (ahead all : List Pair) → report ≡ none → ahead ≡ all → added report (counted version store (on_page low to ahead)) ≡ counted version store (on_page low to all)
    page_begun report ahead all none_is ahead_is =
        ap (λ (r : CheckReport). added r (counted version store (on_page low to ahead))) none_is
        ∙ none_added (counted version store (on_page low to ahead))
        ∙ ap (λ (l : List Pair). counted version store (on_page low to l)) ahead_is

    pub page_more : (total report more sum : CheckReport) (here next : List Pair) (p : Pair) → here ≡ p ∷ next → is_on_page low to p.0 ≡ true → more ≡ judged version store p → sum ≡ added report more
        → added report (counted version store (on_page low to here)) ≡ total → added sum (counted version store (on_page low to next)) ≡ total
    page_more total report more sum here next p found on more_is sum_is so_far =
        ap (λ (r : CheckReport). added r (counted version store (on_page low to next))) (sum_is ∙ ap (added report) more_is)
        ∙ added_assoc report (judged version store p) (counted version store (on_page low to next))
        ∙ ap (λ (b : Bool). added report (counted version store (cond b (p ∷ on_page low to next) (on_page low to next)))) (sym on)
        ∙ ap (λ (l : List Pair). added report (counted version store (on_page low to l))) (sym found)
        ∙ so_far

    pub page_passed : (total report : CheckReport) (here next : List Pair) (p : Pair) → here ≡ p ∷ next → is_on_page low to p.0 ≡ false
        → added report (counted version store (on_page low to here)) ≡ total → added report (counted version store (on_page low to next)) ≡ total
    page_passed total report here next p found off so_far =
        ap (λ (b : Bool). added report (counted version store (cond b (p ∷ on_page low to next) (on_page low to next)))) (sym off)
        ∙ ap (λ (l : List Pair). added report (counted version store (on_page low to l))) (sym found)
        ∙ so_far

    pub page_done : (total report : CheckReport) (here : List Pair) → here ≡ [] → added report (counted version store (on_page low to here)) ≡ total → report ≡ total
    page_done total report here none_left so_far =
        sym (added_none report)
        ∙ ap (λ (l : List Pair). added report (counted version store (on_page low to l))) (sym none_left)
        ∙ so_far
