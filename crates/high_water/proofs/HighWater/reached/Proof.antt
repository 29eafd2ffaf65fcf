-- `reached` takes what is known from the number, which stays.
use Rattle.high_water.proofs.Walks.{◌≡◌, [], ◌∷◌, refl, proved, leaves, token, Token, token_made, full_share, emp, ftrue, flft, named, numbers, latest, at_least, fact, fact_i, latest_shows, ‵, raw, ◌⊛◌, ◌$◌, ◌∵◌, !, qed, by, move, keep, use0, use1, split, join, fsplit, fsplit3, fjoin, group, enter, no_more, and_then, returns, alloc_all, pass_all, free_all, look_at, get, sets, agg, MutRef, mut_vals, mut_Tells, plain, nothing, opens, closes, Stays, walk_of, stay_ref, Goes-ref}
use Rattle.high_water.specs.contracts.HighWater.{the_row as R}
use Rattle.high_water.specs.contracts.Reached.{the_row as K}
use Rattle.high_water.specs.contracts.HighWater.reached as f
use Rattle.high_water.proofs.HighWater.reached.Statement.{statement}
use Rattle.high_water.proofs.HighWater.reached.Code as code

abbrev stayed : Stays f.ended.signature.params f.ended.kept
stayed = (stay_ref (0 ∷ []) tt (plain (λ _. R)), tt)

pub reached_spec : {M : Type 1} → statement M
reached_spec 𝓤 𝓛 𝓜 𝓡 wired =
    let c = f.clauses 𝓛 𝓜.mem 𝓡.returns in let W = walk_of 𝓛 f.ended stayed c in
    proved 𝓛 f.ended stayed c 𝓜 𝓡 (Goes-ref 𝓛 1 0 tt (plain (λ _. R)), tt)
    f.Key.name code.function (code.unfolded 𝓤 𝓛.H 𝓜 𝓡 wired)
    (λ κs. (mut_vals, tt)) (λ κs. (mut_Tells (named 0) κs.0 R, tt)) (λ κs qs bounds a _ are.
    let b = a.0.ref_ptr.0 in let o = a.0.ref_ptr.1 in let h = a.0.now in let vs = mut_vals a.0 in
    let y : W.Ghost = ((κs, qs, bounds, a, (vs, tt)), tt) in let known : K.Denot = record { marker = record {}; name = h.name; at = h.at } in
    let Same : Type 0 = h ≡ h in let Is : Type 0 = (known.name ≡ h.name) × (known.at ≡ h.at) in
    qed 𝓛 (((‵ (flft κs.0 qs.0) ⊛ ‵ ftrue) ⊛ ‵ ((MutRef (named 0) κs.0 R).own_val a.0 vs) ⊛ ‵ ftrue) ∷ ‵ ftrue ∷ []) ∵
    split ! $ split ! $ move ! (2 ∷ []) $ split ! $ keep ! (0 ∷ 2 ∷ []) $
    enter ! _ _ _ _ _ $ alloc_all ! (λ l. pass_all ! refl ((tt, tt), tt) $
    fsplit3 ! $ move ! (1 ∷ 2 ∷ 3 ∷ []) $ opens ! tt R b o (λ us. move ! (1 ∷ []) $ fsplit ! $ move ! (1 ∷ []) $
    -- [the number; the token; the struct's cell; the open borrow, in three entries]
    use1 𝓛 (‵ (latest numbers full_share h.name h.at) ⊛ ‵ (at_least numbers h.name h.at)) (latest_shows numbers 𝓛 full_share h.name h.at h.at (numbers.same h.at)) $ split ! $
    move ! (2 ∷ 0 ∷ []) $ fjoin ! $ move ! (2 ∷ 0 ∷ 3 ∷ 4 ∷ 5 ∷ []) $ closes ! tt R h us b o $
    sets ! (agg ! (no_more !)) refl (tt, tt) $ sets ! (agg ! (and_then ! (get ! refl) (no_more !))) refl (tt, (tt, tt)) $ returns ! (look_at ! 0 refl) $ free_all ! refl $
    -- [self, in two parts; the token of its lifetime; what is known; self's first part]
    move ! (3 ∷ []) $ use0 𝓛 (‵ (Token.own_val (record {}, tt) (token ∷ []))) (token_made 𝓛) $ fjoin ! $ move ! (4 ∷ 1 ∷ 2 ∷ []) $ group ! 3 $
    nothing ! $ move ! (1 ∷ 0 ∷ []) $ join ! $ nothing ! $ move ! (3 ∷ 0 ∷ []) $ join ! $
    use0 𝓛 (raw (fact 𝓤 Is)) (fact_i 𝓤 Is (emp 𝓤) (refl, refl)) $ use0 𝓛 (raw (fact 𝓤 Same)) (fact_i 𝓤 Same (emp 𝓤) refl) $ join ! $
    keep ! (1 ∷ 2 ∷ 3 ∷ 0 ∷ []) $ by ! (leaves 𝓛 f.ended stayed c y token known (h, tt) (tt, tt)))))
