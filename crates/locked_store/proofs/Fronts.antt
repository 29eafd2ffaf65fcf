-- Handles that went with workers and come back have risen.
use Rattle.std.proofs.Common.{◌≡◌, ℕ, zero, suc, ◌≤◌, List, [], ◌∷◌, ◌++◌, length, map, reverse, All, refl, sym, ap, ◌∙◌, subst, arith}
use Rattle.std.proofs.lemmas.List.{reverse-append, reverse-reverse, map-append}
use Rattle.std.proofs.lemmas.List.Elements.{All-head, All-tail, All-push, All-same}
use Rattle.locked_store.specs.Known.{Known, HaveRisen}

reverse_cons : {A : Type 0} (x : A) (xs : List A) → reverse (x ∷ xs) ≡ reverse xs ++ x ∷ []
reverse_cons x xs = reverse-append (x ∷ []) xs

map_reverse : {A B : Type 0} (f : A → B) (xs : List A) → map f (reverse xs) ≡ reverse (map f xs)
map_reverse f [] = refl
map_reverse f (x ∷ xs) = ap (map f) (reverse_cons x xs) ∙ map-append f (reverse xs) (x ∷ []) ∙ ap (λ l. l ++ f x ∷ []) (map_reverse f xs) ∙ sym (reverse_cons (f x) (map f xs))

all_reverse : {A : Type 0} (P : A → Type 0) (xs : List A) → All P xs → All P (reverse xs)
all_reverse P [] all = all
all_reverse P (x ∷ xs) all = All-same P (reverse (x ∷ xs)) (reverse xs ++ x ∷ []) (reverse_cons x xs) (All-push P (reverse xs) x (all_reverse P xs (All-tail P x xs all)) (All-head P x xs all))

-- what each worker came with is the front of its handle
came_with : {W : Type 0} (handle : W → Known) (first : W → ℕ) (ws : List W) → All (λ w. first w ≡ (handle w).front) ws → map first ws ≡ map (λ (h : Known). h.front) (map handle ws)
came_with handle first [] all = refl
came_with handle first (w ∷ ws) all =
    let head : first w ≡ (handle w).front = All-head (λ v. first v ≡ (handle v).front) w ws all in
    let tail : map first ws ≡ map (λ (h : Known). h.front) (map handle ws) = came_with handle first ws (All-tail (λ v. first v ≡ (handle v).front) w ws all) in cc

risen_since : {W : Type 0} (handle : W → Known) (first : W → ℕ) (hs : List Known) (ws : List W) → map first ws ≡ map (λ (h : Known). h.front) hs → All (λ w. first w ≤ (handle w).front) ws
    → HaveRisen hs (map handle ws)
risen_since handle first [] ws same all k d lt = absurd (omega arith)
risen_since handle first (h ∷ hs) [] same all k d lt = absurd (cc)
risen_since handle first (h ∷ hs) (w ∷ ws) same all zero d lt =
    let head : first w ≡ h.front = cc in omega (arith, head, All-head (λ v. first v ≤ (handle v).front) w ws all)
risen_since handle first (h ∷ hs) (w ∷ ws) same all (suc k) d lt =
    let tail : map first ws ≡ map (λ (h : Known). h.front) hs = cc in risen_since handle first hs ws tail (All-tail (λ v. first v ≤ (handle v).front) w ws all) k d (omega arith)

-- the workers have the handles from the last one on, and give them back so
pub back_risen : {W : Type 0} (handle : W → Known) (first : W → ℕ) (handles back : List Known) (ws ps : List W) → map handle ws ≡ reverse handles → All (λ w. first w ≡ (handle w).front) ws
    → map first ps ≡ map first ws → All (λ w. first w ≤ (handle w).front) ps → back ≡ reverse (map handle ps) → HaveRisen handles back
back_risen handle first handles back ws ps staff came same risen is =
    let front : Known → ℕ = λ h. h.front in
    let fronts : map first (reverse ps) ≡ map front handles =
    map_reverse first ps ∙ ap reverse (same ∙ came_with handle first ws came ∙ ap (map front) staff ∙ map_reverse front handles) ∙ reverse-reverse (map front handles) in
    subst (HaveRisen handles) (map_reverse handle ps ∙ sym is) (risen_since handle first handles (reverse ps) fronts (all_reverse (λ w. first w ≤ (handle w).front) ps risen))

-- one after the other
pub risen_on : (handles mid back : List Known) → length mid ≡ length handles → HaveRisen handles mid → HaveRisen mid back → HaveRisen handles back
risen_on handles mid back same first then k d lt = omega (arith, first k d lt, then k d (omega (arith, same, lt)))

-- the last one has risen
last_risen : (others : List Known) (before after : Known) → before.front ≤ after.front → HaveRisen (others ++ before ∷ []) (others ++ after ∷ [])
last_risen [] before after rises zero d lt = rises
last_risen [] before after rises (suc k) d lt = absurd (omega arith)
last_risen (h ∷ others) before after rises zero d lt = omega arith
last_risen (h ∷ others) before after rises (suc k) d lt = last_risen others before after rises k d (omega arith)

pub one_risen : (old new others : List Known) (before after : Known) → old ≡ others ++ before ∷ [] → new ≡ others ++ after ∷ [] → before.front ≤ after.front → HaveRisen old new
one_risen old new others before after old_is new_is rises =
    subst (λ l. HaveRisen l new) (sym old_is) (subst (HaveRisen (others ++ before ∷ [])) (sym new_is) (last_risen others before after rises))
