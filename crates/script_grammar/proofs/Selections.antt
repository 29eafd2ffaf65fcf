-- Steps of the loops that read the columns and the conditions of a selection.
use Rattle.std.proofs.Common.{◌≡◌, ℕ, ◌+◌, ◌<◌, ◌≤◌, Bool, true, false, List, [], ◌∷◌, ◌++◌, ◌∙◌, sym, ap, refl, arith, length, get_or, drop, Option, Some, None, append_assoc, codes, if◌then◌else◌}
use Rattle.std.proofs.lemmas.List.{drop_more, at_drop_all}
use Rattle.std.proofs.lemmas.Bool.Decides.{nat_tests}
use Rattle.std.specs.Bool.{◌==◌}
use Rattle.std.specs.Option.{option_map}
use Rattle.script_tokens.specs.declared.token.Token.{Token}
use Rattle.script_tokens.specs.declared.token.Mark.TheVariants as mark
use Rattle.script_tokens.specs.declared.fault.LineFault.{LineFault}
use Rattle.script_grammar.specs.declared.selection.Condition.{Condition}
use Rattle.script_tokens.specs.Productions.{is_mark, is_word, first_by, after_first, name_in, ◌>>=◌, Fails}
use Rattle.script_grammar.specs.Commands.{begins_with, columns_at, condition_at, and_more, conditions_within}
use Rattle.script_tokens.proofs.Cuts.{onto, onto_more, fails_on}

abbrev pub Names : Type 0
Names = Option (List (List ℕ) × List Token)

-- the names that were read before, and those that are read of the rest
abbrev pub ahead : List (List ℕ) → Names → Names
ahead before found = option_map (λ x. (before ++ x.0, x.1)) found

-- a column before others
abbrev with_column : List ℕ → Names → Names
with_column column found = option_map (λ x. (column ∷ x.0, x.1)) found

-- a name, and the tokens after it
abbrev with_rest : List Token → Option (List ℕ) → Option (List ℕ × List Token)
with_rest ts name = option_map (λ a. (a, ts)) name

ahead_more : (before : List (List ℕ)) (column : List ℕ) (found : Names) → ahead (before ++ column ∷ []) found ≡ ahead before (with_column column found)
ahead_more before column None = refl
ahead_more before column (Some x) = ap (λ a. Some (a, x.1)) (append_assoc {A = List ℕ} before (column ∷ []) x.0)

-- a name, and what follows it
abbrev named : List ℕ → List Token → Names
named column [] = Some (column ∷ [], [])
named column (u ∷ ts) = if is_mark mark.Comma u then with_column column (columns_at ts) else Some (column ∷ [], u ∷ ts)

columns_at-cons : (t : Token) (ts : List Token) → columns_at (t ∷ ts) ≡ (name_in t >>= λ column. named column ts)
unfolding columns_at
columns_at-cons t [] = refl
columns_at-cons t (u ∷ ts) = refl

columns_at-nil : columns_at [] ≡ None
unfolding columns_at
columns_at-nil = refl

named_step : (o : Option (List ℕ)) (ts : List Token) (column : List ℕ) (behind : List Token) → with_rest ts o ≡ Some (column, behind) → (o >>= λ a. named a ts) ≡ named column behind
named_step None ts column behind h = absurd (cc)
named_step (Some a) ts column behind h = let e : ◌≡◌ {A = List ℕ × List Token} (a, ts) (column, behind) = cc in ap (λ x. named x.0 x.1) e

columns_named : (ts : List Token) (column : List ℕ) (behind : List Token) → first_by name_in ts ≡ Some (column, behind) → columns_at ts ≡ named column behind
columns_named [] column behind h = absurd (cc)
columns_named (t ∷ ts) column behind h = columns_at-cons t ts ∙ named_step (name_in t) ts column behind h

nameless_step : (o : Option (List ℕ)) (ts : List Token) → with_rest ts o ≡ None → (o >>= λ a. named a ts) ≡ None
nameless_step None ts h = refl
nameless_step (Some a) ts h = absurd (cc)

columns_nameless : (ts : List Token) → first_by name_in ts ≡ None → columns_at ts ≡ None
columns_nameless [] h = columns_at-nil
columns_nameless (t ∷ ts) h = columns_at-cons t ts ∙ nameless_step (name_in t) ts h

comma_step : (found : Bool) (column : List ℕ) (u : Token) (ts : List Token) → found ≡ true → (if found then with_column column (columns_at ts) else Some (column ∷ [], u ∷ ts)) ≡ with_column column (columns_at ts)
comma_step true column u ts h = refl
comma_step false column u ts h = absurd (cc)

comma_named : (column : List ℕ) (behind : List Token) → begins_with (is_mark mark.Comma) behind ≡ true → named column behind ≡ with_column column (columns_at (drop 1 behind))
comma_named column [] h = absurd (cc)
comma_named column (u ∷ ts) h = comma_step (is_mark mark.Comma u) column u ts h

end_step : (found : Bool) (column : List ℕ) (u : Token) (ts : List Token) → found ≡ false → (if found then with_column column (columns_at ts) else Some (column ∷ [], u ∷ ts)) ≡ Some (column ∷ [], u ∷ ts)
end_step true column u ts h = absurd (cc)
end_step false column u ts h = refl

end_named : (column : List ℕ) (behind : List Token) → begins_with (is_mark mark.Comma) behind ≡ false → named column behind ≡ Some (column ∷ [], behind)
end_named column [] h = refl
end_named column (u ∷ ts) h = end_step (is_mark mark.Comma u) column u ts h

pub columns_more : (before : List (List ℕ)) (ts : List Token) (column : List ℕ) (behind : List Token) (total : Names) → first_by name_in ts ≡ Some (column, behind) → begins_with (is_mark mark.Comma) behind ≡ true → ahead before (columns_at ts) ≡ total → ahead (before ++ column ∷ []) (columns_at (drop 1 behind)) ≡ total
columns_more before ts column behind total h comma so_far =
    ahead_more before column (columns_at (drop 1 behind)) ∙ sym (ap (ahead before) (columns_named ts column behind h ∙ comma_named column behind comma)) ∙ so_far

pub columns_end : (before : List (List ℕ)) (ts : List Token) (column : List ℕ) (behind : List Token) (total : Names) → first_by name_in ts ≡ Some (column, behind) → begins_with (is_mark mark.Comma) behind ≡ false → ahead before (columns_at ts) ≡ total → total ≡ Some (before ++ column ∷ [], behind)
columns_end before ts column behind total h comma so_far = sym so_far ∙ ap (ahead before) (columns_named ts column behind h ∙ end_named column behind comma)

pub columns_fail : (e : LineFault) (before : List (List ℕ)) (ts : List Token) (total : Names) → Fails e (first_by name_in ts) → ahead before (columns_at ts) ≡ total → Fails e total
columns_fail e before ts total h so_far = fails_on e (first_by name_in ts) total (λ none. sym so_far ∙ ap (ahead before) (columns_nameless ts none)) h

abbrev Conditions : Type 0
Conditions = Option (List Condition)

abbrev step : List Token → Option (Condition × List Token) → Conditions
step bs o = o >>= λ x. option_map (λ more. x.0 ∷ more) (and_more (conditions_within bs) x.1)

conditions_within-cons : (b : Token) (bs ts : List Token) → conditions_within (b ∷ bs) ts ≡ step bs (condition_at ts)
unfolding conditions_within
conditions_within-cons b bs ts = refl

conditions_within-nil : (ts : List Token) → conditions_within [] ts ≡ None
unfolding conditions_within
conditions_within-nil ts = refl

-- what is read with the bound's tokens from i on
conditions_here : (bs : List Token) (i : ℕ) (b : Token) (ts : List Token) → i < length bs → conditions_within (drop i bs) ts ≡ step (drop (i + 1) bs) (condition_at ts)
conditions_here bs i b ts lt = ap (λ a. conditions_within a ts) (drop_more bs i b lt) ∙ conditions_within-cons (get_or bs i b) (drop (i + 1) bs) ts

and_step : (f : List Token → Conditions) (found : Bool) (ts more : List Token) → (if found then Some ts else None) ≡ Some more → (if found then f ts else None) ≡ f ts
and_step f true ts more h = refl
and_step f false ts more h = absurd (cc)

and_behind : (f : List Token → Conditions) (behind more : List Token) → after_first (is_word (codes "and")) behind ≡ Some more → and_more f behind ≡ f (drop 1 behind)
and_behind f [] more h = absurd (cc)
and_behind f (t ∷ ts) more h = and_step f (is_word (codes "and") t) ts more h

no_and_step : (f : List Token → Conditions) (found : Bool) (ts : List Token) → (if found then Some ts else None) ≡ None → (if found then f ts else None) ≡ None
no_and_step f true ts h = absurd (cc)
no_and_step f false ts h = refl

no_and : (f : List Token → Conditions) (behind : List Token) → (length behind == 0) ≡ false → after_first (is_word (codes "and")) behind ≡ None → and_more f behind ≡ None
no_and f [] some h = absurd (cc)
no_and f (t ∷ ts) some h = no_and_step f (is_word (codes "and") t) ts h

at_no_more : (f : List Token → Conditions) (behind : List Token) → (length behind == 0) ≡ true → and_more f behind ≡ Some []
at_no_more f [] h = refl
at_no_more f (t ∷ ts) h = absurd (grind (arith, nat_tests))

pub conditions_more : (before : List Condition) (bs : List Token) (i : ℕ) (b : Token) (ts : List Token) (condition : Condition) (behind more : List Token) (total : Conditions) → i < length bs → condition_at ts ≡ Some (condition, behind) → after_first (is_word (codes "and")) behind ≡ Some more → onto before (conditions_within (drop i bs) ts) ≡ total → onto (before ++ condition ∷ []) (conditions_within (drop (i + 1) bs) (drop 1 behind)) ≡ total
conditions_more before bs i b ts condition behind more total lt h joined so_far =
    onto_more before condition (conditions_within (drop (i + 1) bs) (drop 1 behind))
    ∙ sym (ap (onto before) (conditions_here bs i b ts lt ∙ ap (step (drop (i + 1) bs)) h ∙ ap (option_map (λ xs. condition ∷ xs)) (and_behind (conditions_within (drop (i + 1) bs)) behind more joined)))
    ∙ so_far

pub conditions_end : (before : List Condition) (bs : List Token) (i : ℕ) (b : Token) (ts : List Token) (condition : Condition) (behind : List Token) (total : Conditions) → i < length bs → condition_at ts ≡ Some (condition, behind) → (length behind == 0) ≡ true → onto before (conditions_within (drop i bs) ts) ≡ total → total ≡ Some (before ++ condition ∷ [])
conditions_end before bs i b ts condition behind total lt h empty so_far =
    sym so_far ∙ ap (onto before) (conditions_here bs i b ts lt ∙ ap (step (drop (i + 1) bs)) h ∙ ap (option_map (λ xs. condition ∷ xs)) (at_no_more (conditions_within (drop (i + 1) bs)) behind empty))

pub conditions_fail : (e : LineFault) (before : List Condition) (bs : List Token) (i : ℕ) (b : Token) (ts : List Token) (total : Conditions) → i < length bs → Fails e (condition_at ts) → onto before (conditions_within (drop i bs) ts) ≡ total → Fails e total
conditions_fail e before bs i b ts total lt h so_far =
    fails_on e (condition_at ts) total (λ none. sym so_far ∙ ap (onto before) (conditions_here bs i b ts lt ∙ ap (step (drop (i + 1) bs)) none)) h

pub conditions_unjoined : (e : LineFault) (before : List Condition) (bs : List Token) (i : ℕ) (b : Token) (ts : List Token) (condition : Condition) (behind : List Token) (total : Conditions) → i < length bs → condition_at ts ≡ Some (condition, behind) → (length behind == 0) ≡ false → Fails e (after_first (is_word (codes "and")) behind) → onto before (conditions_within (drop i bs) ts) ≡ total → Fails e total
conditions_unjoined e before bs i b ts condition behind total lt h some unjoined so_far =
    fails_on e (after_first (is_word (codes "and")) behind) total (λ none. sym so_far ∙ ap (onto before) (conditions_here bs i b ts lt ∙ ap (step (drop (i + 1) bs)) h ∙ ap (option_map (λ xs. condition ∷ xs)) (no_and (conditions_within (drop (i + 1) bs)) behind some none))) unjoined

pub conditions_out : (before : List Condition) (bs : List Token) (i : ℕ) (ts : List Token) (total : Conditions) → length bs ≤ i → onto before (conditions_within (drop i bs) ts) ≡ total → total ≡ None
conditions_out before bs i ts total le so_far = sym so_far ∙ ap (onto before) (at_drop_all (λ a. conditions_within a ts) bs i le ∙ conditions_within-nil ts)
