-- Lists of worker slots, of which the last worker comes first.
use Rattle.std.proofs.Common.{◌≡◌, ℕ, ◌+◌, ◌<◌, ◌≤◌, List, [], ◌∷◌, ◌++◌, length, map, reverse, All, zero, suc, ◌-◌, refl, sym, ap, ◌∙◌, subst, sum_by, arith}
use Rattle.std.proofs.lemmas.List.{map-append, reverse-append, reverse-reverse, length-reverse, get_or-reverse}
use Rattle.std.proofs.lemmas.List.Elements.{All-same, All-nil}
use Rattle.std.proofs.lemmas.List.Sums.{sum_by-append, sum_by-cons}
use Rattle.claims.specs.Seats.{Drawer, all_drawn}
use Rattle.tasks.specs.Outcomes.{held_in, held_all, IsOnPlan}

pub reverse_push : {S W : Type 0} (f : S → W) (ss : List S) (s : S) → reverse (map f (ss ++ s ∷ [])) ≡ f s ∷ reverse (map f ss)
reverse_push f ss s = ap reverse (map-append f ss (s ∷ [])) ∙ reverse-append (map f ss) (f s ∷ [])

pub held_all_push : {O : Type 0} (held : O → ℕ) (lists : List (List (ℕ × O))) (os : List (ℕ × O)) → held_all held (lists ++ os ∷ []) ≡ held_all held lists + held_in held os
held_all_push held [] os = omega arith
held_all_push held (l ∷ lists) os = omega (arith, held_all_push held lists os)

reverse_cons : {W : Type 0} (w : W) (ws : List W) → reverse (w ∷ ws) ≡ reverse ws ++ w ∷ []
reverse_cons w ws = reverse-append (w ∷ []) ws

pub map_reverse : {W A : Type 0} (f : W → A) (ws : List W) → map f (reverse ws) ≡ reverse (map f ws)
map_reverse f [] = refl
map_reverse f (w ∷ ws) =
    ap (map f) (reverse_cons w ws) ∙ map-append f (reverse ws) (w ∷ []) ∙ ap (λ l. l ++ f w ∷ []) (map_reverse f ws) ∙ sym (reverse_cons (f w) (map f ws))

pub sum_reverse : {W : Type 0} (f : W → ℕ) (ws : List W) → sum_by f (reverse ws) ≡ sum_by f ws
sum_reverse f [] = refl
sum_reverse f (w ∷ ws) =
    ap (sum_by f) (reverse_cons w ws) ∙ omega (arith, sum_by-append f (reverse ws) (w ∷ []), sum_by-cons f w [], sum_by-cons f w ws, sum_reverse f ws)

nil_left : (xs ys : List ℕ) → xs ++ ys ≡ [] → xs ≡ []
nil_left [] ys e = refl
nil_left (x ∷ xs) ys e = absurd (cc)

nil_right : (xs ys : List ℕ) → xs ++ ys ≡ [] → ys ≡ []
nil_right [] ys e = e
nil_right (x ∷ xs) ys e = absurd (cc)

-- the last of the seats that have drawn nothing has drawn nothing, nor have the others
pub idle_init : (ss : List Drawer) (s : Drawer) → all_drawn (ss ++ s ∷ []) ≡ [] → all_drawn ss ≡ []
idle_init [] s e = refl
idle_init (x ∷ ss) s e = ap (λ l. l ++ all_drawn ss) (nil_left x.drawn _ e) ∙ idle_init ss s (nil_right x.drawn _ e)

pub idle_last : (ss : List Drawer) (s : Drawer) → all_drawn (ss ++ s ∷ []) ≡ [] → s.drawn ≡ []
idle_last [] s e = nil_left s.drawn [] e
idle_last (x ∷ ss) s e = idle_last ss s (nil_right x.drawn _ e)

pub held_all_last : {S O : Type 0} (held : O → ℕ) (done : S → List (ℕ × O)) (all init : List S) (s : S) → all ≡ init ++ s ∷ [] → held_all held (map done all) ≡ held_all held (map done init) + held_in held (done s)
held_all_last held done all init s is = ap (λ l. held_all held (map done l)) is ∙ ap (held_all held) (map-append done init (s ∷ [])) ∙ held_all_push held (map done init) (done s)

-- from the workers that were handed in to those that come back

map_map : {S W A : Type 0} (f : S → W) (g : W → A) (ss : List S) → map g (map f ss) ≡ map (λ s. g (f s)) ss
map_map f g [] = refl
map_map f g (s ∷ ss) = ap (λ l. g (f s) ∷ l) (map_map f g ss)

pub same_back : {S W A : Type 0} (worker : S → W) (id : W → A) (ss zs : List S) (handed back : List W) → reverse (map worker ss) ≡ handed → back ≡ reverse (map worker zs)
    → map (λ s. id (worker s)) zs ≡ map (λ s. id (worker s)) ss → map id back ≡ map id handed
same_back worker id ss zs handed back from to same =
    ap (map id) to ∙ map_reverse id (map worker zs) ∙ ap reverse (map_map worker id zs ∙ same ∙ sym (map_map worker id ss)) ∙ sym (map_reverse id (map worker ss)) ∙ ap (map id) from

none_held : {S O : Type 0} (held : O → ℕ) (done : S → List (ℕ × O)) (ss : List S) → All (λ s. done s ≡ []) ss → held_all held (map done ss) ≡ 0
none_held held done [] idle = refl
none_held held done (s ∷ ss) idle = omega (arith, ap (held_in held) (idle 0 s (omega arith)), none_held held done ss (λ k d lt. idle (suc k) d (omega arith)))

pub counted_back : {S W O : Type 0} (worker : S → W) (done : S → List (ℕ × O)) (count kept_receipts : W → ℕ) (held : O → ℕ) (ss zs : List S) (handed back : List W) (total : ℕ)
    → reverse (map worker ss) ≡ handed → back ≡ reverse (map worker zs) → All (λ s. done s ≡ []) ss → total ≡ held_all held (map done zs)
    → sum_by count (map worker zs) + sum_by kept_receipts (map worker ss) + held_all held (map done ss) ≡ sum_by count (map worker ss) + sum_by kept_receipts (map worker zs) + held_all held (map done zs)
    → sum_by count back + sum_by kept_receipts handed ≡ sum_by count handed + sum_by kept_receipts back + total
counted_back worker done count kept_receipts held ss zs handed back total from to idle total_is work =
    let counts : sum_by count handed ≡ sum_by count (map worker ss) = ap (sum_by count) (sym from) ∙ sum_reverse count (map worker ss) in
    let keeps : sum_by kept_receipts handed ≡ sum_by kept_receipts (map worker ss) = ap (sum_by kept_receipts) (sym from) ∙ sum_reverse kept_receipts (map worker ss) in
    let counts_back : sum_by count back ≡ sum_by count (map worker zs) = ap (sum_by count) to ∙ sum_reverse count (map worker zs) in
    let keeps_back : sum_by kept_receipts back ≡ sum_by kept_receipts (map worker zs) = ap (sum_by kept_receipts) to ∙ sum_reverse kept_receipts (map worker zs) in
    omega (arith, none_held held done ss idle)

pub tried_back : {S W O : Type 0} (worker : S → W) (done : S → List (ℕ × O)) (failed : W → ℕ) (reported : O → ℕ) (ss zs : List S) (handed back : List W) (total : ℕ)
    → reverse (map worker ss) ≡ handed → back ≡ reverse (map worker zs) → All (λ s. done s ≡ []) ss → total ≡ held_all reported (map done zs)
    → sum_by failed (map worker ss) + held_all reported (map done zs) ≤ sum_by failed (map worker zs) + held_all reported (map done ss)
    → sum_by failed handed + total ≤ sum_by failed back
tried_back worker done failed reported ss zs handed back total from to idle total_is work =
    let fails : sum_by failed handed ≡ sum_by failed (map worker ss) = ap (sum_by failed) (sym from) ∙ sum_reverse failed (map worker ss) in
    let fails_back : sum_by failed back ≡ sum_by failed (map worker zs) = ap (sum_by failed) to ∙ sum_reverse failed (map worker zs) in
    omega (arith, none_held reported done ss idle)

each_mapped : {S W : Type 0} (f : S → W) (P : W → Type 0) (ss : List S) → All P (map f ss) → All (λ s. P (f s)) ss
each_mapped f P [] all k d lt = absurd (omega arith)
each_mapped f P (s ∷ ss) all zero d lt = all 0 (f s) (omega arith)
each_mapped f P (s ∷ ss) all (suc k) d lt = each_mapped f P ss (λ j e l. all (suc j) e (omega arith)) k d (omega arith)

each_reversed : {W : Type 0} (P : W → Type 0) (ws : List W) → All P ws → All P (reverse ws)
each_reversed P ws all k d lt =
    let inside : k < length ws = omega (arith, length-reverse ws) in
    subst P (sym (get_or-reverse ws k d inside)) (all (length ws - 1 - k) d (omega arith))

-- worker slots at the start, whose workers are all on one plan
pub on_start : {S W P O : Type 0} (worker : S → W) (done : S → List (ℕ × O)) (plan_of : W → P) (fits : P → ℕ → O → Type 0) (plan : P) (ss : List S) (handed : List W)
    → reverse (map worker ss) ≡ handed → All (λ s. done s ≡ []) ss → All (λ w. plan_of w ≡ plan) handed
    → All (λ s. IsOnPlan plan_of fits plan (worker s) (done s)) ss
on_start worker done plan_of fits plan ss handed from idle all =
    let same : map worker ss ≡ reverse handed = sym (reverse-reverse (map worker ss)) ∙ ap reverse from in
    let on : All (λ w. plan_of w ≡ plan) (map worker ss) = All-same (λ w. plan_of w ≡ plan) (map worker ss) (reverse handed) same (each_reversed (λ w. plan_of w ≡ plan) handed all) in
    λ k d lt. (each_mapped worker (λ w. plan_of w ≡ plan) ss on k d lt, All-same (λ o. fits plan o.0 o.1) _ [] (idle k d lt) (All-nil (λ o. fits plan o.0 o.1)))

-- workers of worker slots that are all on one plan come back on that plan

mapped_each : {S W : Type 0} (f : S → W) (P : W → Type 0) (ss : List S) → All (λ s. P (f s)) ss → All P (map f ss)
mapped_each f P [] all k d lt = absurd (omega arith)
mapped_each f P (s ∷ ss) all zero d lt = all 0 s (omega arith)
mapped_each f P (s ∷ ss) all (suc k) d lt = mapped_each f P ss (λ j e l. all (suc j) e (omega arith)) k d (omega arith)

pub at_end : {S W P O : Type 0} (worker : S → W) (done : S → List (ℕ × O)) (plan_of : W → P) (fits : P → ℕ → O → Type 0) (plan : P) (zs : List S) (back : List W)
    → back ≡ reverse (map worker zs) → All (λ s. IsOnPlan plan_of fits plan (worker s) (done s)) zs → All (λ w. plan_of w ≡ plan) back
at_end worker done plan_of fits plan zs back to on =
    All-same (λ w. plan_of w ≡ plan) back (reverse (map worker zs)) to (each_reversed (λ w. plan_of w ≡ plan) (map worker zs) (mapped_each worker (λ w. plan_of w ≡ plan) zs (λ k d lt. (on k d lt).0)))
