-- Steps of the loops that cut tokens at a mark, and read the parts.
use Rattle.std.proofs.Common.{◌≡◌, ℕ, ◌+◌, ◌<◌, ◌≤◌, Bool, true, false, List, [], ◌∷◌, ◌++◌, ◌∙◌, sym, ap, refl, length, get_or, take, drop, Option, Some, None, append_assoc, if◌then◌else◌}
use Rattle.std.proofs.lemmas.List.{append-nil, drop_more, take_more, at_drop_all}
use Rattle.std.specs.Option.{option_map}
use Rattle.script_tokens.specs.declared.token.Token.{Token}
use Rattle.script_tokens.specs.declared.token.Mark.{Mark}
use Rattle.script_tokens.specs.declared.fault.LineFault.{LineFault}
use Rattle.script_tokens.specs.declared.fault.LineFault.TheVariants as fault
use Rattle.script_tokens.specs.Productions.{is_mark, cut_at, with_first, parts, each, ◌>>=◌, Fails}

abbrev pub Cut : Type 0
Cut = Option (List Token × List Token)

-- the tokens before a cut, with others in start of them
abbrev pub behind : List Token → Cut → Cut
behind prefix cut = option_map (λ x. (prefix ++ x.0, x.1)) cut

abbrev step : Bool → Token → List Token → Cut → Cut
step found t ts cut = if found then Some ([], ts) else option_map (λ x. (t ∷ x.0, x.1)) cut

cut_at-cons : (m : Mark) (t : Token) (ts : List Token) (found : Bool) → is_mark m t ≡ found → cut_at m (t ∷ ts) ≡ step found t ts (cut_at m ts)
unfolding cut_at
cut_at-cons m t ts found h = ap (λ b. step b t ts (cut_at m ts)) h

cut_here : (m : Mark) (ts : List Token) (i : ℕ) (t : Token) (found : Bool) → i < length ts → t ≡ get_or ts i t → is_mark m t ≡ found → cut_at m (drop i ts) ≡ step found t (drop (i + 1) ts) (cut_at m (drop (i + 1) ts))
cut_here m ts i t found lt is h = ap (cut_at m) (drop_more ts i t lt ∙ ap (λ u. u ∷ drop (i + 1) ts) (sym is)) ∙ cut_at-cons m t (drop (i + 1) ts) found h

pub cut_hit : (m : Mark) (ts : List Token) (i : ℕ) (t : Token) → i < length ts → t ≡ get_or ts i t → is_mark m t ≡ true → behind (take i ts) (cut_at m (drop i ts)) ≡ cut_at m ts → Some (take i ts, drop (i + 1) ts) ≡ cut_at m ts
cut_hit m ts i t lt is h so_far = sym (ap (behind (take i ts)) (cut_here m ts i t true lt is h) ∙ ap (λ a. Some (a, drop (i + 1) ts)) (append-nil (take i ts))) ∙ so_far

behind_more : (prefix : List Token) (t : Token) (cut : Cut) → behind (prefix ++ t ∷ []) cut ≡ behind prefix (option_map (λ x. (t ∷ x.0, x.1)) cut)
behind_more prefix t None = refl
behind_more prefix t (Some x) = ap (λ a. Some (a, x.1)) (append_assoc {A = Token} prefix (t ∷ []) x.0)

pub cut_miss : (m : Mark) (ts : List Token) (i : ℕ) (t : Token) → i < length ts → t ≡ get_or ts i t → is_mark m t ≡ false → behind (take i ts) (cut_at m (drop i ts)) ≡ cut_at m ts → behind (take (i + 1) ts) (cut_at m (drop (i + 1) ts)) ≡ cut_at m ts
cut_miss m ts i t lt is h so_far =
    ap (λ a. behind a (cut_at m (drop (i + 1) ts))) (take_more ts i t lt ∙ ap (λ u. take i ts ++ u ∷ []) (sym is))
    ∙ behind_more (take i ts) t (cut_at m (drop (i + 1) ts))
    ∙ sym (ap (behind (take i ts)) (cut_here m ts i t false lt is h)) ∙ so_far

cut_nil : (m : Mark) → cut_at m [] ≡ None
unfolding cut_at
cut_nil m = refl

pub cut_none : (m : Mark) (ts : List Token) (i : ℕ) → length ts ≤ i → behind (take i ts) (cut_at m (drop i ts)) ≡ cut_at m ts → None ≡ cut_at m ts
cut_none m ts i le so_far = sym (ap (behind (take i ts)) (at_drop_all (cut_at m) ts i le ∙ cut_nil m)) ∙ so_far

-- the parts of tokens that have no such mark, and of those that have one
last_step : (found : Bool) (t : Token) (cut : Cut) (ps : List (List Token)) (ts : List Token) → (cut ≡ None → ps ≡ ts ∷ []) → step found t ts cut ≡ None → (if found then [] ∷ ps else with_first t ps) ≡ (t ∷ ts) ∷ []
last_step true t cut ps ts more h = absurd (cc)
last_step false t None ps ts more h = ap (with_first t) (more refl)
last_step false t (Some x) ps ts more h = absurd (cc)

pub parts_last : (m : Mark) (ts : List Token) → cut_at m ts ≡ None → parts m ts ≡ ts ∷ []
unfolding parts cut_at
parts_last m [] h = refl
parts_last m (t ∷ ts) h = last_step (is_mark m t) t (cut_at m ts) (parts m ts) ts (parts_last m ts) h

more_step : (m : Mark) (found : Bool) (t : Token) (cut : Cut) (ts prefix back : List Token) → ((a b : List Token) → cut ≡ Some (a, b) → parts m ts ≡ a ∷ parts m b) → step found t ts cut ≡ Some (prefix, back) → (if found then [] ∷ parts m ts else with_first t (parts m ts)) ≡ prefix ∷ parts m back
more_step m true t cut ts prefix back more h = let e : ◌≡◌ {A = List Token × List Token} ([], ts) (prefix, back) = cc in ap (λ x. x.0 ∷ parts m x.1) e
more_step m false t None ts prefix back more h = absurd (cc)
more_step m false t (Some x) ts prefix back more h =
    let e : ◌≡◌ {A = List Token × List Token} (t ∷ x.0, x.1) (prefix, back) = cc in ap (with_first t) (more x.0 x.1 refl) ∙ ap (λ y. y.0 ∷ parts m y.1) e

pub parts_more : (m : Mark) (ts prefix back : List Token) → cut_at m ts ≡ Some (prefix, back) → parts m ts ≡ prefix ∷ parts m back
unfolding parts cut_at
parts_more m [] prefix back h = absurd (cc)
parts_more m (t ∷ ts) prefix back h = more_step m (is_mark m t) t (cut_at m ts) ts prefix back (parts_more m ts) h

-- what was read before, and what is read of the parts that are left
abbrev pub onto : {A : Type 0} → List A → Option (List A) → Option (List A)
onto before rest = option_map (λ more. before ++ more) rest

pub onto_more : {A : Type 0} (before : List A) (x : A) (rest : Option (List A)) → onto (before ++ x ∷ []) rest ≡ onto before (option_map (λ xs. x ∷ xs) rest)
onto_more before x None = refl
onto_more before x (Some more) = ap Some (append_assoc before (x ∷ []) more)

each-cons : {A : Type 0} (f : List Token → Option A) (p : List Token) (ps : List (List Token)) → each f (p ∷ ps) ≡ (f p >>= λ x. option_map (λ xs. x ∷ xs) (each f ps))
unfolding each
each-cons f p ps = refl

each-nil : {A : Type 0} (f : List Token → Option A) → each f [] ≡ Some []
unfolding each
each-nil f = refl

each_at : {A : Type 0} (f : List Token → Option A) (p : List Token) (ps : List (List Token)) (x : A) → f p ≡ Some x → each f (p ∷ ps) ≡ option_map (λ xs. x ∷ xs) (each f ps)
each_at f p ps x h = each-cons f p ps ∙ ap (λ o. o >>= λ y. option_map (λ xs. y ∷ xs) (each f ps)) h

each_stops : {A : Type 0} (f : List Token → Option A) (p : List Token) (ps : List (List Token)) → f p ≡ None → each f (p ∷ ps) ≡ None
each_stops f p ps h = each-cons f p ps ∙ ap (λ o. o >>= λ y. option_map (λ xs. y ∷ xs) (each f ps)) h

pub each_more : {A : Type 0} (m : Mark) (f : List Token → Option A) (before : List A) (ts prefix back : List Token) (x : A) (total : Option (List A)) → cut_at m ts ≡ Some (prefix, back) → f prefix ≡ Some x → onto before (each f (parts m ts)) ≡ total → onto (before ++ x ∷ []) (each f (parts m back)) ≡ total
each_more m f before ts prefix back x total cut h so_far =
    onto_more before x (each f (parts m back)) ∙ sym (ap (onto before) (ap (each f) (parts_more m ts prefix back cut) ∙ each_at f prefix (parts m back) x h)) ∙ so_far

-- a fault of a part is the fault of all
pub fails_on : {A B : Type 0} (e : LineFault) (a : Option A) (b : Option B) → (a ≡ None → b ≡ None) → Fails e a → Fails e b
fails_on fault.Memory a b h f = tt
fails_on fault.Malformed a b h f = h f

pub each_fails : {A : Type 0} (e : LineFault) (m : Mark) (f : List Token → Option A) (before : List A) (ts prefix back : List Token) (total : Option (List A)) → cut_at m ts ≡ Some (prefix, back) → Fails e (f prefix) → onto before (each f (parts m ts)) ≡ total → Fails e total
each_fails e m f before ts prefix back total cut h so_far =
    fails_on e (f prefix) total (λ none. sym so_far ∙ ap (onto before) (ap (each f) (parts_more m ts prefix back cut) ∙ each_stops f prefix (parts m back) none)) h

pub each_last : {A : Type 0} (m : Mark) (f : List Token → Option A) (before : List A) (ts : List Token) (x : A) (total : Option (List A)) → cut_at m ts ≡ None → f ts ≡ Some x → onto before (each f (parts m ts)) ≡ total → total ≡ Some (before ++ x ∷ [])
each_last m f before ts x total cut h so_far = sym so_far ∙ ap (onto before) (ap (each f) (parts_last m ts cut) ∙ each_at f ts [] x h ∙ ap (option_map (λ xs. x ∷ xs)) (each-nil f))

pub each_last_fails : {A : Type 0} (e : LineFault) (m : Mark) (f : List Token → Option A) (before : List A) (ts : List Token) (total : Option (List A)) → cut_at m ts ≡ None → Fails e (f ts) → onto before (each f (parts m ts)) ≡ total → Fails e total
each_last_fails e m f before ts total cut h so_far =
    fails_on e (f ts) total (λ none. sym so_far ∙ ap (onto before) (ap (each f) (parts_last m ts cut) ∙ each_stops f ts [] none)) h
