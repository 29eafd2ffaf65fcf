-- How many elements of a batch enter after so many steps, and the numbers that they get.
use Rattle.std.specs.Prelude.{◌≡◌, ℕ, suc, ◌+◌, ◌<◌, ◌≤◌, List, [], ◌∷◌, ◌++◌, take, drop, Bool, true, false, ◌==◌, nat_lt, count_by, cond, refl}
use Rattle.std.proofs.Common.{ap, ◌∙◌, inl, inr, arith}
use Rattle.std.proofs.lemmas.List.Sums.{sum_by-append, sum_by-cons}
use Rattle.std.proofs.lemmas.List.{take-append-drop}
use Rattle.std.proofs.lemmas.Bool.{cases_lt}
use Rattle.std.proofs.lemmas.Bool.Decides.{Decides-eqb, Decides-ltb}
use Rattle.change_plan.specs.declared.change.Change.{Change}
use Rattle.change_plan.specs.declared.change.Change.TheVariants.{AddIndex, AddColumn}
use Rattle.change_plan.specs.Refusals.{is_addition}
use Rattle.change_plan.specs.Schedule.{wait_in, enters_at, enters_before}

-- ---- counts

pub count_first : (test : Change → Bool) (x : Change) (xs : List Change) → count_by test (x ∷ xs) ≡ cond (test x) 1 0 + count_by test xs
count_first test x xs = sum_by-cons (λ y. cond (test y) 1 0) x xs

pub count_split : (test : Change → Bool) (xs before after : List Change) (x : Change) → xs ≡ before ++ x ∷ after → count_by test xs ≡ count_by test before + (cond (test x) 1 0 + count_by test after)
count_split test xs before after x e = ap (count_by test) e ∙ sum_by-append (λ y. cond (test y) 1 0) before (x ∷ after) ∙ ap (λ c. count_by test before + c) (count_first test x after)

pub one_if : (b : Bool) → b ≡ true → ◌≡◌ {A = ℕ} (cond b 1 0) 1
one_if b e = ap (λ c. cond c 1 0) e

pub count_two : (one two both : Change → Bool) → ((x : Change) → ◌≡◌ {A = ℕ} (cond (both x) 1 0) (cond (one x) 1 0 + cond (two x) 1 0)) → (xs : List Change) → count_by both xs ≡ count_by one xs + count_by two xs
count_two one two both h [] = refl
count_two one two both h (x ∷ xs) = omega (arith, count_two one two both h xs, h x, count_first both x xs, count_first one x xs, count_first two x xs)

pub count_within : (one two whole : Change → Bool) → ((x : Change) → cond (one x) 1 0 + cond (two x) 1 0 ≤ cond (whole x) 1 0) → (xs : List Change) → count_by one xs + count_by two xs ≤ count_by whole xs
count_within one two whole h [] = omega arith
count_within one two whole h (x ∷ xs) = omega (arith, count_within one two whole h xs, h x, count_first whole x xs, count_first one x xs, count_first two x xs)

pub count_none : (test : Change → Bool) → ((x : Change) → test x ≡ false) → (xs : List Change) → count_by test xs ≡ 0
count_none test h [] = refl
count_none test h (x ∷ xs) = let no_x : ◌≡◌ {A = ℕ} (cond (test x) 1 0) 0 = ap (λ b. cond b 1 0) (h x) in omega (arith, count_first test x xs, no_x, count_none test h xs)

-- ---- who waits fewer steps, and who as many

is_false : (b : Bool) → (b ≡ true → ⊥) → b ≡ false
is_false true h = absurd (h refl)
is_false false h = refl

less : (n wait : ℕ) → n < wait → ◌≡◌ {A = ℕ} (cond (nat_lt n wait) 1 0) 1
less n wait lt = one_if (nat_lt n wait) ((Decides-ltb n wait).1 lt)

pub not_less : (n wait : ℕ) → wait ≤ n → nat_lt n wait ≡ false
not_less n wait le = is_false (nat_lt n wait) (λ t. let lt : n < wait = (Decides-ltb n wait).0 t in omega (arith, lt, le))

no_less : (n wait : ℕ) → wait ≤ n → ◌≡◌ {A = ℕ} (cond (nat_lt n wait) 1 0) 0
no_less n wait le = ap (λ b. cond b 1 0) (not_less n wait le)

same : (n wait : ℕ) → n ≡ wait → ◌≡◌ {A = ℕ} (cond (n == wait) 1 0) 1
same n wait e = one_if (n == wait) ((Decides-eqb n wait).1 e)

no_same : (n wait : ℕ) → (n ≡ wait → ⊥) → ◌≡◌ {A = ℕ} (cond (n == wait) 1 0) 0
no_same n wait ne = ap (λ b. cond b 1 0) (is_false (n == wait) (λ t. ne ((Decides-eqb n wait).0 t)))

-- who waits fewer than one step more waits fewer, or as many
less_or_same : (n wait : ℕ) → ◌≡◌ {A = ℕ} (cond (nat_lt n (suc wait)) 1 0) (cond (nat_lt n wait) 1 0 + cond (n == wait) 1 0)
less_or_same n wait = elim (cases_lt n wait) [
  | inl lt ↦ omega (arith, less n (suc wait) (omega (arith, lt)), less n wait lt, no_same n wait (λ e. omega (arith, lt, e)))
  | inr le ↦ elim (cases_lt wait n) [
    | inl lt ↦ omega (arith, no_less n (suc wait) (omega (arith, lt)), no_less n wait le, no_same n wait (λ e. omega (arith, lt, e)))
    | inr ge ↦ omega (arith, less n (suc wait) (omega (arith, ge)), no_less n wait le, same n wait (omega (arith, le, ge)))
  ]
]

-- and fewer than any greater number
less_than_more : (n wait more : ℕ) → wait < more → cond (nat_lt n wait) 1 0 + cond (n == wait) 1 0 ≤ cond (nat_lt n more) 1 0
less_than_more n wait more lt = elim (cases_lt n more) [
  | inl below ↦ omega (arith, less n more below, less_or_same n wait, one_at_most (nat_lt n (suc wait)))
  | inr above ↦ omega (arith, no_less n (suc wait) (omega (arith, lt, above)), less_or_same n wait)
]
  where
    one_at_most : (b : Bool) → cond b 1 0 ≤ 1
    one_at_most true = omega arith
    one_at_most false = omega arith

module _ (all : List Change) where
  pub each_next : (wait : ℕ) (x : Change) → ◌≡◌ {A = ℕ} (cond (enters_before all (suc wait) x) 1 0) (cond (enters_before all wait x) 1 0 + cond (enters_at all wait x) 1 0)
  each_next wait (AddIndex table name columns) = less_or_same (wait_in all table columns) wait
  each_next wait (AddColumn table name kind) = less_or_same 0 wait
  each_next wait change = refl

  pub before_next : (wait : ℕ) (xs : List Change) → count_by (enters_before all (suc wait)) xs ≡ count_by (enters_before all wait) xs + count_by (enters_at all wait) xs
  before_next wait xs = count_two (enters_before all wait) (enters_at all wait) (enters_before all (suc wait)) (each_next wait) xs

  each_more : (wait more : ℕ) → wait < more → (x : Change) → cond (enters_before all wait x) 1 0 + cond (enters_at all wait x) 1 0 ≤ cond (enters_before all more x) 1 0
  each_more wait more lt (AddIndex table name columns) = less_than_more (wait_in all table columns) wait more lt
  each_more wait more lt (AddColumn table name kind) = less_than_more 0 wait more lt
  each_more wait more lt change = omega arith

  -- those that wait so many steps are numbered before those that wait more
  pub before_more : (wait more : ℕ) → wait < more → (xs : List Change) → count_by (enters_before all wait) xs + count_by (enters_at all wait) xs ≤ count_by (enters_before all more) xs
  before_more wait more lt xs = count_within (enters_before all wait) (enters_at all wait) (enters_before all more) (each_more wait more lt) xs

  one_of : (n wait : ℕ) → cond (nat_lt n wait) 1 0 + cond (n == wait) 1 0 ≤ 1
  one_of n wait = elim (cases_lt n (suc wait)) [
    | inl lt ↦ omega (arith, less n (suc wait) lt, less_or_same n wait)
    | inr le ↦ omega (arith, no_less n (suc wait) le, less_or_same n wait)
  ]

  pub each_addition : (wait : ℕ) (x : Change) → cond (enters_before all wait x) 1 0 + cond (enters_at all wait x) 1 0 ≤ cond (is_addition x) 1 0
  each_addition wait (AddIndex table name columns) = one_of (wait_in all table columns) wait
  each_addition wait (AddColumn table name kind) = one_of 0 wait
  each_addition wait change = omega arith

  -- all of them are additions
  pub all_additions : (wait : ℕ) (xs : List Change) → count_by (enters_before all wait) xs + count_by (enters_at all wait) xs ≤ count_by is_addition xs
  all_additions wait xs = count_within (enters_before all wait) (enters_at all wait) is_addition (each_addition wait) xs

  pub none_before : (xs : List Change) → count_by (enters_before all 0) xs ≡ 0
  none_before xs = count_none (enters_before all 0) none xs
    where
      none : (x : Change) → enters_before all 0 x ≡ false
      none (AddIndex table name columns) = not_less (wait_in all table columns) 0 (omega arith)
      none (AddColumn table name kind) = not_less 0 0 (omega arith)
      none change = refl

  -- ---- room

  taken_few : (test : Change → Bool) (place : ℕ) (xs : List Change) → count_by test (take place xs) ≤ count_by test xs
  taken_few test place xs = let parts : count_by test (take place xs ++ drop place xs) ≡ count_by test (take place xs) + count_by test (drop place xs) = sum_by-append (λ y. cond (test y) 1 0) (take place xs) (drop place xs) in
      let whole : count_by test (take place xs ++ drop place xs) ≡ count_by test xs = ap (count_by test) (take-append-drop place xs) in
      omega arith

  -- a batch that leaves room leaves room for each of its numbers
  pub number_room : (next place wait most : ℕ) → next + count_by is_addition all ≤ most → (next + count_by (enters_before all wait) all) + count_by (enters_at all wait) (take place all) ≤ most
  number_room next place wait most room = omega (arith, room, all_additions wait all, taken_few (enters_at all wait) place all)
