-- A condition has a token at least, so as many conditions as tokens are no bound.
use Rattle.std.proofs.Common.{◌≡◌, ℕ, ◌+◌, ◌<◌, ◌≤◌, Bool, true, false, List, [], ◌∷◌, ap, refl, arith, length, Option, Some, None, codes, if◌then◌else◌}
use Rattle.std.specs.Option.{option_map}
use Rattle.script_tokens.specs.declared.token.Token.{Token}
use Rattle.script_tokens.specs.declared.token.Mark.{Mark}
use Rattle.script_tokens.specs.declared.token.Mark.TheVariants as mark
use Rattle.script_grammar.specs.declared.selection.Condition.{Condition}
use Rattle.script_grammar.specs.declared.selection.Condition.TheVariants.{Key, Between}
use Rattle.script_tokens.specs.Productions.{is_mark, is_word, first_by, after_first, name_in, value_in, cut_at, cut_brackets, each_between, value_of, ◌>>=◌}
use Rattle.script_grammar.specs.Commands.{tuple_at, key_condition_at, compared, compared_at, between_at, comparison_at, column_condition_at, condition_at, and_more, conditions_within, conditions_of, IsJoined}

-- what a production leaves of the tokens is shorter than n
abbrev Leaves : {A : Type 0} → ℕ → Option (A × List Token) → Type 0
Leaves n None = Unit {0}
Leaves n (Some x) = length x.1 < n

-- the same of a production that gives the rest alone
abbrev LeavesRest : ℕ → Option (List Token) → Type 0
LeavesRest n None = Unit {0}
LeavesRest n (Some ts) = length ts < n

abbrev with_rest : {A : Type 0} → List Token → Option A → Option (A × List Token)
with_rest ts o = option_map (λ a. (a, ts)) o

first_step : {A : Type 0} (o : Option A) (t : Token) (ts : List Token) → Leaves (length (t ∷ ts)) (with_rest ts o)
first_step None t ts = tt
first_step (Some a) t ts = omega arith

first_leaves : {A : Type 0} (f : Token → Option A) (ts : List Token) → Leaves (length ts) (first_by f ts)
first_leaves f [] = tt
first_leaves f (t ∷ ts) = first_step (f t) t ts

after_step : (found : Bool) (t : Token) (ts : List Token) → LeavesRest (length (t ∷ ts)) (if found then Some ts else None)
after_step true t ts = omega arith
after_step false t ts = tt

after_leaves : (p : Token → Bool) (ts : List Token) → LeavesRest (length ts) (after_first p ts)
after_leaves p [] = tt
after_leaves p (t ∷ ts) = after_step (p t) t ts

-- one production after another
then_leaves : {A B : Type 0} (n : ℕ) (o : Option (A × List Token)) (f : A × List Token → Option (B × List Token)) → Leaves n o → ((x : A × List Token) → length x.1 < n → Leaves n (f x)) → Leaves n (o >>= f)
then_leaves n None f h g = tt
then_leaves n (Some x) f h g = g x h

rest_then_leaves : {B : Type 0} (n : ℕ) (o : Option (List Token)) (f : List Token → Option (B × List Token)) → LeavesRest n o → ((ts : List Token) → length ts < n → Leaves n (f ts)) → Leaves n (o >>= f)
rest_then_leaves n None f h g = tt
rest_then_leaves n (Some x) f h g = g x h

any_then_leaves : {A B : Type 0} (n : ℕ) (o : Option A) (f : A → Option (B × List Token)) → ((x : A) → Leaves n (f x)) → Leaves n (o >>= f)
any_then_leaves n None f g = tt
any_then_leaves n (Some x) f g = g x

-- a larger bound
leaves_less : {A : Type 0} (m n : ℕ) (o : Option (A × List Token)) → m ≤ n → Leaves m o → Leaves n o
leaves_less m n None le h = tt
leaves_less m n (Some x) le h = omega (arith, h, le)

rest_leaves_less : (m n : ℕ) (o : Option (List Token)) → m ≤ n → LeavesRest m o → LeavesRest n o
rest_leaves_less m n None le h = tt
rest_leaves_less m n (Some x) le h = omega (arith, h, le)

abbrev with_token : Token → Option (List Token × List Token) → Option (List Token × List Token)
with_token t cut = option_map (λ x. (t ∷ x.0, x.1)) cut

cut_step : (found : Bool) (t : Token) (ts : List Token) (cut : Option (List Token × List Token)) → Leaves (length ts) cut → Leaves (length (t ∷ ts)) (if found then Some ([], ts) else with_token t cut)
cut_step true t ts cut h = omega arith
cut_step false t ts None h = tt
cut_step false t ts (Some x) h = omega (arith, h)

cut_leaves : (m : Mark) (ts : List Token) → Leaves (length ts) (cut_at m ts)
unfolding cut_at
cut_leaves m [] = tt
cut_leaves m (t ∷ ts) = cut_step (is_mark m t) t ts (cut_at m ts) (cut_leaves m ts)

bracketed_leaves : (ts : List Token) → Leaves (length ts) (cut_brackets ts)
unfolding cut_brackets
bracketed_leaves ts = rest_then_leaves (length ts) (after_first (is_mark mark.Open) ts) (cut_at mark.Close) (after_leaves (is_mark mark.Open) ts) (λ inner lt. leaves_less (length inner) (length ts) (cut_at mark.Close inner) (omega (arith, lt)) (cut_leaves mark.Close inner))

tuple_leaves : (ts : List Token) → Leaves (length ts) (tuple_at ts)
unfolding tuple_at
tuple_leaves ts = then_leaves (length ts) (cut_brackets ts) _ (bracketed_leaves ts) (λ x lt. any_then_leaves (length ts) (each_between mark.Comma value_of x.0) (λ values. Some (values, x.1)) (λ values. lt))

key_condition_leaves : (ts : List Token) → Leaves (length ts) (key_condition_at ts)
unfolding key_condition_at
key_condition_leaves ts =
    rest_then_leaves (length ts) (after_first (is_mark mark.Equal) ts) (λ behind. tuple_at behind >>= λ key. Some (Key key.0, key.1)) (after_leaves (is_mark mark.Equal) ts)
    (λ behind lt. then_leaves (length ts) (tuple_at behind) (λ key. Some (Key key.0, key.1)) (leaves_less (length behind) (length ts) (tuple_at behind) (omega (arith, lt)) (tuple_leaves behind)) (λ key less. less))

compared_leaves : (t : Token) (column : List ℕ) (ts : List Token) → Leaves (length ts) (compared_at t column ts)
unfolding compared_at
compared_leaves t column ts =
    then_leaves (length ts) (first_by value_in ts) (λ value. compared t column value.0 >>= λ condition. Some (condition, value.1)) (first_leaves value_in ts)
    (λ value less. any_then_leaves (length ts) (compared t column value.0) (λ condition. Some (condition, value.1)) (λ condition. less))

between_leaves : (column : List ℕ) (ts : List Token) → Leaves (length ts) (between_at column ts)
unfolding between_at
between_leaves column ts =
    then_leaves (length ts) (first_by value_in ts) (λ low. after_first (is_word (codes "and")) low.1 >>= λ behind. first_by value_in behind >>= λ high. Some (Between column (Some low.0) (Some high.0), high.1)) (first_leaves value_in ts)
    (λ low lt. rest_then_leaves (length ts) (after_first (is_word (codes "and")) low.1) (λ behind. first_by value_in behind >>= λ high. Some (Between column (Some low.0) (Some high.0), high.1)) (rest_leaves_less (length low.1) (length ts) (after_first (is_word (codes "and")) low.1) (omega (arith, lt)) (after_leaves (is_word (codes "and")) low.1))
    (λ behind less. then_leaves (length ts) (first_by value_in behind) (λ high. Some (Between column (Some low.0) (Some high.0), high.1)) (leaves_less (length behind) (length ts) (first_by value_in behind) (omega (arith, less)) (first_leaves value_in behind)) (λ high last. last)))

if_leaves : {A : Type 0} (n : ℕ) (found : Bool) (o p : Option (A × List Token)) → Leaves n o → Leaves n p → Leaves n (if found then o else p)
if_leaves n true o p h k = h
if_leaves n false o p h k = k

-- a token more
one_more : {A : Type 0} (t : Token) (ts : List Token) (o : Option (A × List Token)) → Leaves (length ts) o → Leaves (length (t ∷ ts)) o
one_more t ts o h = leaves_less (length ts) (length (t ∷ ts)) o (omega arith) h

comparison_leaves : (column : List ℕ) (ts : List Token) → Leaves (length ts) (comparison_at column ts)
unfolding comparison_at
comparison_leaves column [] = tt
comparison_leaves column (t ∷ ts) =
    if_leaves (length (t ∷ ts)) (is_word (codes "between") t) (between_at column ts) (compared_at t column ts) (one_more t ts (between_at column ts) (between_leaves column ts)) (one_more t ts (compared_at t column ts) (compared_leaves t column ts))

column_condition_leaves : (ts : List Token) → Leaves (length ts) (column_condition_at ts)
unfolding column_condition_at
column_condition_leaves ts =
    then_leaves (length ts) (first_by name_in ts) (λ column. comparison_at column.0 column.1) (first_leaves name_in ts)
    (λ column lt. leaves_less (length column.1) (length ts) (comparison_at column.0 column.1) (omega (arith, lt)) (comparison_leaves column.0 column.1))

condition_leaves : (ts : List Token) → Leaves (length ts) (condition_at ts)
unfolding condition_at
condition_leaves [] = tt
condition_leaves (t ∷ ts) =
    if_leaves (length (t ∷ ts)) (is_word (codes "key") t) (key_condition_at ts) (column_condition_at (t ∷ ts)) (one_more t ts (key_condition_at ts) (key_condition_leaves ts)) (column_condition_leaves (t ∷ ts))

-- two bounds that are large enough
abbrev Conditions : Type 0
Conditions = Option (List Condition)

more_same : (f g : List Token → Conditions) (behind : List Token) → ((ts : List Token) → length ts < length behind → f ts ≡ g ts) → and_more f behind ≡ and_more g behind
more_same f g [] h = refl
more_same f g (t ∷ ts) h = ap (λ o. if is_word (codes "and") t then o else None) (h ts (omega arith))

-- a condition, and those after it
abbrev joined : (List Token → Conditions) → Option (Condition × List Token) → Conditions
joined f o = o >>= λ x. option_map (λ more. x.0 ∷ more) (and_more f x.1)

joined_same : (f g : List Token → Conditions) (n : ℕ) (o : Option (Condition × List Token)) → Leaves n o → ((ts : List Token) → length ts + 1 < n → f ts ≡ g ts) → joined f o ≡ joined g o
joined_same f g n None l h = refl
joined_same f g n (Some x) l h = ap (option_map (λ more. x.0 ∷ more)) (more_same f g x.1 (λ ts lt. h ts (omega (arith, lt, l))))

same_within : (bs cs ts : List Token) → length ts ≤ length bs → length ts ≤ length cs → conditions_within bs ts ≡ conditions_within cs ts
unfolding conditions_within condition_at
same_within [] [] ts h k = refl
same_within [] (c ∷ cs) [] h k = refl
same_within [] (c ∷ cs) (t ∷ ts) h k = absurd (omega (arith, h))
same_within (b ∷ bs) [] [] h k = refl
same_within (b ∷ bs) [] (t ∷ ts) h k = absurd (omega (arith, k))
same_within (b ∷ bs) (c ∷ cs) ts h k = joined_same (conditions_within bs) (conditions_within cs) (length ts) (condition_at ts) (condition_leaves ts) (λ us lt. same_within bs cs us (omega (arith, lt, h)) (omega (arith, lt, k)))

pub unbounded : (ts : List Token) → IsJoined ts
unfolding conditions_within condition_at
unbounded [] = refl
unbounded (t ∷ ts) = joined_same (conditions_within ts) conditions_of (length (t ∷ ts)) (condition_at (t ∷ ts)) (condition_leaves (t ∷ ts)) (λ us lt. same_within ts us us (omega (arith, lt)) (omega arith))
