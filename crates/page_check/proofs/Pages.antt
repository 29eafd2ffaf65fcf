-- Pages that follow one another come to the audit of the store.
use Rattle.std.proofs.Common.{◌≡◌, ℕ, ◌+◌, ◌≤◌, ◌&&◌, Bool, true, false, not, cond, List, [], ◌∷◌, Option, Some, None, refl, sym, ap, subst, ◌∙◌, arith, add-zero, true≢false}
use Rattle.std.specs.Prelude.{count_by, sum_by}
use Rattle.std.specs.FinMap as map
use Rattle.std.specs.Ordering.{is_le, is_lt}
use Rattle.std.proofs.lemmas.List.Sums.{sum_by-cons}
use Rattle.keycode.specs.Order.{bytes_cmp}
use Rattle.row_map.specs.Rows.{Bytes, Pairs}
use Rattle.schema_version.specs.Sound.{IsSoundVersion}
use Rattle.schema_version.specs.Version.{Version}
use Rattle.reorganise.proofs.Order.{le, le_trans, lt_is, from_is}
use Rattle.audit.specs.declared.report.CheckReport.{CheckReport}
use Rattle.audit.specs.Audit.{Pair, IsAudit, is_exists_pair, missing_beside, has_reason}
use Rattle.page_check.specs.Page.{is_on_page, on_page, page_of, IsPageAudit}
use Rattle.page_check.specs.Needs.{IsPageRead}
use Rattle.page_check.specs.Whole.{CheckedPage, IsChecked, AreChecked, total, PagesAreTheAudit, NoPageCountsMore}
use Rattle.page_check.proofs.Same.{page_same}

-- ---- a part of the store, and what comes after

not_of_not : (b : Bool) → not b ≡ false → b ≡ true
not_of_not true e = refl
not_of_not false e = absurd (true≢false e)

one : (a c : Bool) (n : ℕ) → (c ≡ false → a ≡ true) → cond a n 0 ≡ cond (a && c) n 0 + cond (not c) n 0
one true true n h = sym (add-zero n)
one true false n h = omega arith
one false true n h = refl
one false false n h = absurd (true≢false (sym (h refl)))

-- a key that is not below the end of a page is not below its beginning
after_page : (low to key : Bytes) → le low to ≡ true → is_lt (bytes_cmp key to) ≡ false → not (is_lt (bytes_cmp key low)) ≡ true
after_page low to key rise above = from_is low key ∙ le_trans low to key rise (sym (from_is to key) ∙ ap not above)

module _ (f : Pair → ℕ) where
  taken : (b : Bool) (e : Pair) (es : List Pair) → sum_by f (cond b (e ∷ es) es) ≡ cond b (f e) 0 + sum_by f es
  taken true e es = sum_by-cons f e es
  taken false e es = omega arith

  pub split : (low to : Bytes) → le low to ≡ true → (es : List Pair) → sum_by f (on_page low None es) ≡ sum_by f (on_page low (Some to) es) + sum_by f (on_page to None es)
  split low to rise [] = refl
  split low to rise (e ∷ es) =
      let whole : sum_by f (on_page low None (e ∷ es)) ≡ cond (is_on_page low None e.0) (f e) 0 + sum_by f (on_page low None es) = taken (is_on_page low None e.0) e (on_page low None es) in
      let here : sum_by f (on_page low (Some to) (e ∷ es)) ≡ cond (is_on_page low (Some to) e.0) (f e) 0 + sum_by f (on_page low (Some to) es) = taken (is_on_page low (Some to) e.0) e (on_page low (Some to) es) in
      let later : sum_by f (on_page to None (e ∷ es)) ≡ cond (is_on_page to None e.0) (f e) 0 + sum_by f (on_page to None es) = taken (is_on_page to None e.0) e (on_page to None es) in
      let own : cond (is_on_page low None e.0) (f e) 0 ≡ cond (is_on_page low (Some to) e.0) (f e) 0 + cond (is_on_page to None e.0) (f e) 0 =
      one (not (is_lt (bytes_cmp e.0 low))) (is_lt (bytes_cmp e.0 to)) (f e) (after_page low to e.0 rise) in
      let rest = split low to rise es in
      parts _ _ _ _ _ _ _ _ _ whole here later own rest
    where
      parts : (a b c x y z p q r : ℕ) → a ≡ x + p → b ≡ y + q → c ≡ z + r → x ≡ y + z → p ≡ q + r → a ≡ b + c
      parts a b c x y z p q r e f g h i = omega (arith, e, f, g, h, i)

at_most : (b : Bool) (n : ℕ) → cond b n 0 ≤ n
at_most true n = omega arith
at_most false n = omega arith

-- a page is a part of the store
part : (f : Pair → ℕ) (low : Bytes) (to : Option Bytes) (es : List Pair) → sum_by f (on_page low to es) ≤ sum_by f es
part f low to [] = omega arith
part f low to (e ∷ es) =
    let whole : sum_by f (e ∷ es) ≡ f e + sum_by f es = sum_by-cons f e es in
    let here : sum_by f (on_page low to (e ∷ es)) ≡ cond (is_on_page low to e.0) (f e) 0 + sum_by f (on_page low to es) = taken f (is_on_page low to e.0) e (on_page low to es) in
    let own : cond (is_on_page low to e.0) (f e) 0 ≤ f e = at_most (is_on_page low to e.0) (f e) in
    let rest = part f low to es in
    within _ _ _ _ _ _ whole here own rest
  where
    within : (a b x y p q : ℕ) → a ≡ x + p → b ≡ y + q → y ≤ x → q ≤ p → b ≤ a
    within a b x y p q e f g h = omega (arith, e, f, g, h)

not_below : (key : Bytes) → is_on_page [] None key ≡ true
not_below [] = refl
not_below (b ∷ key) = refl

-- from the first key on there are all
pub all_from : (es : List Pair) → on_page [] None es ≡ es
all_from [] = refl
all_from (e ∷ es) = ap (λ (b : Bool). cond b (e ∷ on_page [] None es) (on_page [] None es)) (not_below e.0) ∙ ap (λ (l : List Pair). e ∷ l) (all_from es)

-- ---- the law

module _ (version : Version) (sound : IsSoundVersion version) (store : Pairs) where
  one_page : (low : Bytes) (page : CheckedPage) → IsChecked version store low page → IsPageAudit version store (page_of store low page.to) page.report
  one_page low page h =
      page_same version sound store page.read (page_of store low page.to) page.report h.0.rows h.0.given
      (subst (λ (pairs : List Pair). IsPageAudit version page.read pairs page.report) h.0.page h.1)

  joined : (low to : Bytes) (a b : CheckReport) → le low to ≡ true → IsPageAudit version store (page_of store low (Some to)) a → IsPageAudit version store (page_of store to None) b
      → IsPageAudit version store (page_of store low None) (record { rows = a.rows + b.rows; missing = a.missing + b.missing; extra = a.extra + b.extra })
  joined low to a b rise here later = record {
    rows = sums _ _ _ _ _ here.rows later.rows (split (λ pair. cond (is_exists_pair pair) 1 0) low to rise (map.entries store));
    missing = sums _ _ _ _ _ here.missing later.missing (split (missing_beside version store) low to rise (map.entries store));
    extra = sums _ _ _ _ _ here.extra later.extra (split (λ pair. cond (not (has_reason version store pair)) 1 0) low to rise (map.entries store));
  }
    where
      sums : (a b p q all : ℕ) → a ≡ p → b ≡ q → all ≡ p + q → a + b ≡ all
      sums a b p q all e f g = omega (arith, e, f, g)

  pages_from : (low : Bytes) (pages : List CheckedPage) → AreChecked version store low pages → IsPageAudit version store (page_of store low None) (total pages)
  pages_from low [] h = absurd h
  pages_from low (page ∷ []) h =
      let last : IsPageAudit version store (page_of store low None) page.report = subst (λ (to : Option Bytes). IsPageAudit version store (page_of store low to) page.report) h.1 (one_page low page h.0) in
      record { rows = add-zero page.report.rows ∙ last.rows; missing = add-zero page.report.missing ∙ last.missing; extra = add-zero page.report.extra ∙ last.extra }
  pages_from low (page ∷ next ∷ pages) h =
      joined low h.1.0 page.report (total (next ∷ pages)) h.1.2
      (subst (λ (to : Option Bytes). IsPageAudit version store (page_of store low to) page.report) h.1.1 (one_page low page h.0))
      (pages_from h.1.0 (next ∷ pages) h.1.3)

pub pages_are_the_audit : PagesAreTheAudit
pages_are_the_audit version store pages sound h =
    let all : IsPageAudit version store (map.entries store) (total pages) =
    subst (λ (pairs : List Pair). IsPageAudit version store pairs (total pages)) (all_from (map.entries store)) (pages_from version sound store [] pages h) in
    record { rows = all.rows; missing = all.missing; extra = all.extra }

pub no_page_counts_more : NoPageCountsMore
no_page_counts_more version store low page report sound h audit =
    let own : IsPageAudit version store (page_of store low page.to) page.report = one_page version sound store low page h in (
      less _ _ _ _ own.rows audit.rows (part (λ pair. cond (is_exists_pair pair) 1 0) low page.to (map.entries store)),
      less _ _ _ _ own.missing audit.missing (part (missing_beside version store) low page.to (map.entries store)),
      less _ _ _ _ own.extra audit.extra (part (λ pair. cond (not (has_reason version store pair)) 1 0) low page.to (map.entries store)),
    )
  where
    less : (a b p q : ℕ) → a ≡ p → b ≡ q → p ≤ q → a ≤ b
    less a b p q e f g = omega (arith, e, f, g)
