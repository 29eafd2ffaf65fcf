-- A line with a moment put into it, a line that begins with `explain query`, and the names of `check TABLE.NAME`.
use Rattle.std.proofs.Common.{Bor, lit<, Option, inl, inr, Some, None, unwrap_or, ◌≡◌, ◌≢◌, ◌++◌, ◌<◌, ℕ, suc, List, [], ◌∷◌, Bool, true, false, not, length, get_or, codes, Result, Ok, Err, IfOk, ap, refl, sym, subst, ◌∙◌, arith}
use Rattle.std.specs.Prelude.{if◌then◌else◌}
use Rattle.std.specs.Bool.{Decides}
use Rattle.std.specs.List.{starts_with}
use Rattle.std.proofs.Math.Dec.{eqb}
use Rattle.std.proofs.lemmas.Bool.{false≢true}
use Rattle.std.proofs.lemmas.Bool.Decides.{eqb_tells}
use Rattle.std.proofs.lemmas.Str.Pattern.{IsSplitOnceResult, split_after}
use Rattle.std.specs.Option.{MatchOption}
use Rattle.script_session.specs.declared.session.Opened.{Opened}
use Rattle.script_views.specs.Check.{HasNo, HasNoSpace, IsCheckLine}
use Rattle.script_views.specs.Explain.{timed, ShowsPathIn}

not_equal : (a b : ℕ) → a ≢ b → eqb a b ≡ false
not_equal a b apart = elim (eqb_tells a b) [ inl w ↦ absurd (apart w.1) | inr w ↦ w.0 ]

after_colon : (b : ℕ) (bs : List ℕ) → b ≢ 58 → timed (b ∷ bs) ≡ b ∷ timed bs
after_colon b bs apart = ap (λ (t : Bool). if t then codes " at 0:" ++ bs else b ∷ timed bs) (not_equal b 58 apart)

pub timed_alone : (bs : List ℕ) → HasNo 58 bs → timed bs ≡ bs
timed_alone [] none = refl
timed_alone (b ∷ bs) none = after_colon b bs (none 0 (omega arith)) ∙ ap (λ xs. b ∷ xs) (timed_alone bs (λ i small. none (suc i) (omega arith)))

timed_at : (front back : List ℕ) → HasNo 58 front → timed (front ++ 58 ∷ back) ≡ front ++ (codes " at 0:" ++ back)
timed_at [] back none = refl
timed_at (b ∷ bs) back none =
    after_colon b (bs ++ 58 ∷ back) (none 0 (omega arith)) ∙ ap (λ xs. b ∷ xs) (timed_at bs back (λ i small. none (suc i) (omega arith)))

pub timed_split : {X E : Type 0} (bytes : X → List ℕ) (result : Result X E) (line front back : List ℕ) → (line ≡ front ++ 58 ∷ back) × HasNo 58 front → IfOk result (λ text. bytes text ≡ front ++ (codes " at 0:" ++ back))
    → IfOk result (λ text. bytes text ≡ timed line)
timed_split bytes (Ok text) line front back cut made = made ∙ sym (ap timed cut.0 ∙ timed_at front back cut.1)
timed_split bytes (Err short) line front back cut made = tt

pub timed_whole : {X E : Type 0} (bytes : X → List ℕ) (result : Result X E) (line : List ℕ) → HasNo 58 line → IfOk result (λ text. bytes text ≡ line) → IfOk result (λ text. bytes text ≡ timed line)
timed_whole bytes (Ok text) line none made = made ∙ sym (timed_alone line none)
timed_whole bytes (Err short) line none made = tt

pub begins : (r : Bool) (line rest : List ℕ) → r ≡ starts_with eqb line (codes "explain query") → line ≡ codes "explain query" ++ rest → r ≡ false → ⊥
begins r line rest is same unset = false≢true (sym unset ∙ is ∙ ap (λ (l : List ℕ). starts_with eqb l (codes "explain query")) same)

of_some : {X : Type 0} (x y : X) → Some x ≡ Some y → x ≡ y
of_some x y e = ap (λ o. unwrap_or o x) e

-- what is shown of a query is shown of the same query, however it is cut
pub shown_of : (Shows : List ℕ → Type 0) (query rest : List ℕ) → Shows query → Some query ≡ Some rest → Shows rest
shown_of Shows query rest shows same = subst Shows (of_some query rest same) shows

none_is_some : {X : Type 0} (x : X) → None ≡ Some x → ⊥
none_is_some x e = cc e

pub not_begun : (opened : Opened) (line : List ℕ) → ((rest : List ℕ) → line ≡ codes "explain query" ++ rest → None ≡ Some (codes "query" ++ rest)) → ShowsPathIn opened line None
not_begun opened line never = λ rest same. absurd (none_is_some (codes "query" ++ rest) (never rest same))

-- the first dot cuts the names apart
pub cut_names : (names table name : List ℕ) (r : Option (Bor (List ℕ) × Bor (List ℕ))) → IsSplitOnceResult 46 names r → names ≡ table ++ 46 ∷ name → HasNo 46 table
    → MatchOption r ⊥ (λ x. (x.0.now ≡ table) × (x.1.now ≡ name))
cut_names names table name r cut same none = split_after 46 names table name r cut (lit< tt) same none

-- no space, and a tab if and only if one is found
pub bare_by : (bytes : List ℕ) (tab : Bool) → HasNo 32 bytes → (tab ≡ true → (k : ℕ) × (k < length bytes) × (get_or bytes k 0 ≡ 9)) × ((k : ℕ) → k < length bytes → get_or bytes k 0 ≡ 9 → tab ≡ true)
    → Decides (not tab) (HasNoSpace bytes)
bare_by bytes true none found = ((λ e. absurd (false≢true e)), λ bare. let at = found.0 refl in absurd (bare.0 at.0 at.1 at.2))
bare_by bytes false none found = ((λ _. ((λ i small is. false≢true (found.1 i small is)), none)), λ _. refl)

-- what follows `check ` is cut at its first dot
pub check_line : (line rest names table name : List ℕ) → line ≡ codes "check " ++ rest → names ≡ rest → (names ≡ table ++ 46 ∷ name) × HasNo 46 table → HasNoSpace table → HasNoSpace name → IsCheckLine line
check_line line rest names table name begun after cut bare_table bare_name =
    (table, name, record { no_tab = bare_table.0; no_space = bare_table.1; no_dot = cut.1 }, bare_name, begun ∙ ap (λ (l : List ℕ). codes "check " ++ l) (sym after ∙ cut.0))
