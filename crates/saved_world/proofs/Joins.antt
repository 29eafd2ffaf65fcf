-- Pages written one after another.
use Rattle.std.proofs.Common.{◌≡◌, ◌≢◌, ℕ, zero, suc, ◌≤◌, ◌<◌, List, [], ◌∷◌, ◌++◌, length, take, drop, refl, sym, ap, subst, ◌∙◌, append_assoc, arith}
use Rattle.std.specs.List.{AllByRecursion}
use Rattle.std.proofs.lemmas.List.{append-nil, take-append-drop, length-take, length-drop}
use Rattle.std.proofs.lemmas.Grind.{flat_map-append}
use Rattle.entry_code.specs.Code.{bytes_code}
use Rattle.entry_code.specs.Known.{IsByteString}
use Rattle.checkpoint_code.specs.Page.{Page}
use Rattle.saved_world.specs.Pages.{IsNextPage}
use Rattle.saved_world.specs.Saved.{IsPageOf, page_part, pages_code, joined}
use Rattle.saved_world.specs.inner.Pushes.{ArePushed}

pub joined_one : (pages : List Page) (page : Page) → joined (pages ++ page ∷ []) ≡ joined pages ++ page
joined_one pages page = flat_map-append (λ (p : Page). p) pages (page ∷ []) ∙ ap (λ (l : Page). joined pages ++ l) (append-nil page)

pub code_one : (pages : List Page) (page : Page) → pages_code (pages ++ page ∷ []) ≡ pages_code pages ++ page_part page
code_one pages page = flat_map-append page_part pages (page ∷ []) ∙ ap (λ (l : List ℕ). pages_code pages ++ l) (append-nil (page_part page))

all_one : (P : Page → Type 0) (pages : List Page) (page : Page) → AllByRecursion P pages → P page → AllByRecursion P (pages ++ page ∷ [])
all_one P [] page are is = (is, tt)
all_one P (p ∷ ps) page are is = (are.0, all_one P ps page are.1 is)

-- ---- pages that are pushed

pub push_start : (limit : ℕ) (before : List ℕ) (all : Page) → ArePushed limit before before all all
push_start limit before all = record { pages = []; are_pages = tt; joins = refl; code = sym (append-nil before) }

some_taken : (n : ℕ) (left : Page) → 1 ≤ n → left ≢ [] → 1 ≤ length (take n left)
some_taken n [] some is = absurd (is refl)
some_taken zero (p ∷ ps) some is = absurd (omega (arith, some))
some_taken (suc n) (p ∷ ps) some is = omega arith

pub push_more : (before out out' bytes : List ℕ) (all left left' : Page) → ArePushed 1000 before out all left → IsNextPage 1000 left bytes left' → out' ≡ out ++ bytes_code bytes → IsByteString bytes → ArePushed 1000 before out' all left'
push_more before out out' bytes all left left' so_far next pushed short =
    let page = take 1000 left in
    record {
      pages = so_far.pages ++ page ∷ [];
      are_pages = all_one (IsPageOf 1000) so_far.pages page so_far.are_pages (record {
        some = some_taken 1000 left (omega arith) next.some;
        few = omega (arith, length-take 1000 left);
        known = next.known;
        short = subst IsByteString next.code short;
      });
      joins = (λ i. joined_one so_far.pages page i ++ next.left i) ∙ append_assoc (joined so_far.pages) page (drop 1000 left) ∙ ap (λ (l : Page). joined so_far.pages ++ l) (take-append-drop 1000 left) ∙ so_far.joins;
      code =
          pushed
          ∙ (λ i. so_far.code i ++ bytes_code (next.code i))
          ∙ append_assoc before (pages_code so_far.pages) (page_part page)
          ∙ ap (λ (l : List ℕ). before ++ l) (sym (code_one so_far.pages page));
    }

pub push_end : (limit : ℕ) (before out : List ℕ) (all left : Page) → ArePushed limit before out all left → left ≡ [] → ArePushed limit before out all []
push_end limit before out all left so_far none = subst (ArePushed limit before out all) none so_far

pub fewer_left : (left left' : Page) (bytes : List ℕ) → IsNextPage 1000 left bytes left' → length left' < length left
fewer_left left left' bytes next = (let some = some_taken 1000 left (omega arith) next.some in omega (arith, some, ap length next.left, length-drop 1000 left, length-take 1000 left))
