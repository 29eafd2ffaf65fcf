-- Pages read one after another.
use Rattle.std.proofs.Common.{◌≡◌, ◌≢◌, ℕ, ◌<◌, T, List, [], ◌∷◌, ◌++◌, length, refl, sym, ap, subst, ◌∙◌, append_assoc, arith}
use Rattle.std.specs.List.{AllByRecursion}
use Rattle.std.specs.FinMap.Entries.{below_all}
use Rattle.std.proofs.lemmas.List.{append-nil, length-append}
use Rattle.byte_map.specs.Order.{bytes_cmp}
use Rattle.byte_map.proofs.Order.{both, first, second}
use Rattle.byte_map.specs.Sorted.{IsSorted}
use Rattle.entry_code.specs.Code.{u64_code, bytes_code}
use Rattle.entry_code.specs.Known.{IsByteString}
use Rattle.entry_code.specs.Parts.{pairs_code}
use Rattle.checkpoint_code.specs.Page.{Page}
use Rattle.saved_world.specs.Loading.{Loaded, with_page}
use Rattle.saved_world.specs.Parts.{IsPartAt, HasNoPart}
use Rattle.saved_world.specs.Saved.{IsPageOf, page_part, pages_code, end_part, joined}
use Rattle.saved_world.specs.inner.PagesRead.{AreReadTo, AreLeft}
use Rattle.saved_world.proofs.Joins.{joined_one, code_one}

-- ---- what was read so far

pub read_start : (old : Loaded) (bytes : List ℕ) → AreReadTo old bytes old bytes
read_start old bytes = record { pages = []; is = λ i. record { head = old.head; pairs = sym (append-nil old.pairs) i }; code = refl; sorted = λ sorted. sorted }

pub read_more : (old now next : Loaded) (bytes rest part more : List ℕ) (page : Page) → AreReadTo old bytes now rest → rest ≡ bytes_code part ++ more → part ≡ pairs_code page → IsSorted (now.pairs ++ page) → next ≡ with_page now page → AreReadTo old bytes next more
read_more old now next bytes rest part more page so_far at is goes_on more_is =
    record {
      pages = so_far.pages ++ page ∷ [];
      is =
          more_is
          ∙ ap (λ (l : Loaded). with_page l page) so_far.is
          ∙ (λ i. record { head = old.head; pairs = (append_assoc old.pairs (joined so_far.pages) page ∙ ap (λ (l : Page). old.pairs ++ l) (sym (joined_one so_far.pages page))) i });
      code =
          so_far.code
          ∙ ap (λ (l : List ℕ). pages_code so_far.pages ++ l) (at ∙ ap (λ (p : List ℕ). bytes_code p ++ more) is)
          ∙ sym (append_assoc (pages_code so_far.pages) (page_part page) more)
          ∙ ap (λ (l : List ℕ). l ++ more) (sym (code_one so_far.pages page));
      sorted = λ sorted. subst (λ (l : Loaded). IsSorted l.pairs) (sym more_is) goes_on;
    }

pub read_at : (old now : Loaded) (bytes rest other : List ℕ) → AreReadTo old bytes now rest → rest ≡ other → AreReadTo old bytes now other
read_at old now bytes rest other so_far same = subst (AreReadTo old bytes now) same so_far

-- ---- what is still to be read, of pages that were written

no_bytes : IsByteString []
no_bytes = omega arith

page_first : (p : Page) (ps : List Page) → pages_code (p ∷ ps) ++ end_part ≡ page_part p ++ (pages_code ps ++ end_part)
page_first p ps = append_assoc (page_part p) (pages_code ps) end_part

-- one page is next
pub record IsNext (limit : ℕ) (now : Loaded) (part more : List ℕ) (all : Page) : Type 0 where
  pub page : Page
  pub is_page : IsPageOf limit page
  pub code : part ≡ pairs_code page
  pub others : List Page
  pub are_pages : AllByRecursion (IsPageOf limit) others
  pub joins : now.pairs ++ (page ++ joined others) ≡ all
  pub behind : more ≡ pages_code others ++ end_part

module _ (limit : ℕ) (now : Loaded) (rest part more : List ℕ) (all : Page) (at : IsPartAt rest part more) where
  pub next_page : AreLeft limit now rest all → part ≢ [] → IsNext limit now part more all
  next_page todo some = by todo.left todo.are_pages todo.joins todo.code
    where
      by : (left : List Page) → AllByRecursion (IsPageOf limit) left → now.pairs ++ joined left ≡ all → rest ≡ pages_code left ++ end_part → IsNext limit now part more all
      by [] are joins code = absurd (some (sym (at.only [] [] no_bytes (code ∙ sym (append-nil end_part))).0))
      by (p ∷ ps) are joins code =
          let only = at.only (pairs_code p) (pages_code ps ++ end_part) are.0.short (code ∙ page_first p ps) in
          record { page = p; is_page = are.0; code = sym only.0; others = ps; are_pages = are.1; joins = joins; behind = sym only.1 }

  pub left_end : AreLeft limit now rest all → part ≡ [] → (more ≡ []) × (now.pairs ≡ all)
  left_end todo none = by todo.left todo.are_pages todo.joins todo.code
    where
      by : (left : List Page) → AllByRecursion (IsPageOf limit) left → now.pairs ++ joined left ≡ all → rest ≡ pages_code left ++ end_part → (more ≡ []) × (now.pairs ≡ all)
      by [] are joins code = (sym (at.only [] [] no_bytes (code ∙ sym (append-nil end_part))).1, sym (append-nil now.pairs) ∙ joins)
      by (p ∷ ps) are joins code =
          let only = at.only (pairs_code p) (pages_code ps ++ end_part) are.0.short (code ∙ page_first p ps) in
          let empty : pairs_code p ≡ [] = only.0 ∙ none in
          absurd cc

pub some_part : (limit : ℕ) (now : Loaded) (rest : List ℕ) (all : Page) → AreLeft limit now rest all → ¬ (HasNoPart rest)
some_part limit now rest all todo none = by todo.left todo.are_pages todo.code
  where
    by : (left : List Page) → AllByRecursion (IsPageOf limit) left → rest ≡ pages_code left ++ end_part → ⊥
    by [] are code = none [] [] no_bytes (code ∙ sym (append-nil end_part))
    by (p ∷ ps) are code = none (pairs_code p) (pages_code ps ++ end_part) are.0.short (code ∙ page_first p ps)

pub left_more : (limit : ℕ) (now next : Loaded) (part more : List ℕ) (all : Page) (is : IsNext limit now part more all) → next ≡ with_page now is.page → AreLeft limit next more all
left_more limit now next part more all is added =
    record {
      left = is.others;
      are_pages = is.are_pages;
      joins = ap (λ (l : Loaded). l.pairs ++ joined is.others) added ∙ append_assoc now.pairs is.page (joined is.others) ∙ is.joins;
      code = is.behind;
    }

-- ---- what the loop needs

pub shorter : (rest part more : List ℕ) → IsPartAt rest part more → length more < length rest
unfolding bytes_code u64_code
shorter rest part more at = omega (arith, ap length at.code, length-append (u64_code (length part) ++ part) more, length-append (u64_code (length part)) part)

below_before : (k : List ℕ) (xs ys : Page) → T (below_all bytes_cmp k (xs ++ ys)) → T (below_all bytes_cmp k xs)
below_before k [] ys below = tt
below_before k (x ∷ xs) ys below = both _ _ (first _ _ below) (below_before k xs ys (second _ _ below))

sorted_before : (xs ys : Page) → IsSorted (xs ++ ys) → IsSorted xs
sorted_before [] ys sorted = tt
sorted_before (x ∷ xs) ys sorted = both _ _ (below_before x.0 xs ys (first _ _ sorted)) (sorted_before xs ys (second _ _ sorted))

-- the next page goes on where the last one ended
pub page_fits : (limit : ℕ) (now : Loaded) (part more : List ℕ) (all : Page) (is : IsNext limit now part more all) → IsSorted all → IsSorted (now.pairs ++ is.page)
page_fits limit now part more all is sorted =
    sorted_before (now.pairs ++ is.page) (joined is.others) (subst IsSorted (sym (append_assoc now.pairs is.page (joined is.others) ∙ is.joins)) sorted)

pub none_of : (xs : List ℕ) → length xs ≡ 0 → xs ≡ []
none_of [] is = refl
none_of (x ∷ xs) is = absurd (omega (arith, is))
