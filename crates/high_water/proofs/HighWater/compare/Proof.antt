-- `compare` reads the number beside what is known.
use Rattle.high_water.proofs.Walks.{◌≡◌, ◌≤◌, [], ◌∷◌, refl, proved, leaves, full_share, emp, ftrue, flft, named, vunit, numbers, latest, at_least, fact, fact_i, bounded, ‵, raw, ◌⊛◌, given, ◌$◌, ◌∵◌, !, qed, by, move, keep, use0, use2, split, join, fsplit, fsplit3, fjoin, feq_i, learn, group, enter, of_opd, unit_lit, returns, alloc_all, pass_all, free_all, look_at, sets, MutRef, mut_vals, mut_Tells, plain, nothing, opens, closes, Stays, walk_of, stay_ref, Goes-ref}
use Rattle.high_water.specs.contracts.HighWater.{the_row as R}
use Rattle.high_water.specs.contracts.Reached.{the_row as K}
use Rattle.high_water.specs.contracts.HighWater.compare as f
use Rattle.high_water.proofs.HighWater.compare.Statement.{statement}
use Rattle.high_water.proofs.HighWater.compare.Code as code

abbrev stayed : Stays f.ended.signature.params f.ended.kept
stayed = (stay_ref (0 ∷ []) tt (plain (λ _. R)), (stay_ref (1 ∷ []) tt (plain (λ _. K)), tt))

pub compare_spec : {M : Type 1} → statement M
compare_spec 𝓤 𝓛 𝓜 𝓡 wired =
    let c = f.clauses 𝓛 𝓜.mem 𝓡.returns in let W = walk_of 𝓛 f.ended stayed c in
    proved 𝓛 f.ended stayed c 𝓜 𝓡 (Goes-ref 𝓛 2 0 tt (plain (λ _. R)), (Goes-ref 𝓛 2 1 tt (plain (λ _. K)), tt))
    f.Key.name code.function (code.unfolded 𝓤 𝓛.H 𝓜 𝓡 wired)
    (λ κs. (mut_vals, (mut_vals, tt))) (λ κs. (mut_Tells (named 0) κs.0 R, (mut_Tells (named 1) κs.1.0 K, tt))) (λ κs qs bounds a _ are.
    let b = a.0.ref_ptr.0 in let o = a.0.ref_ptr.1 in let h = a.0.now in let vs = mut_vals a.0 in
    let b' = a.1.0.ref_ptr.0 in let o' = a.1.0.ref_ptr.1 in let k = a.1.0.now in let ws = mut_vals a.1.0 in
    let y : W.Ghost = ((κs, qs, bounds, a, (vs, (ws, tt))), tt) in let Same : Type 0 = (h ≡ h) × (k ≡ k) in let Least : Type 0 = k.name ≡ h.name → k.at ≤ h.at in
    qed 𝓛 (((‵ (flft κs.0 qs.0) ⊛ ‵ (flft κs.1.0 qs.1.0) ⊛ ‵ ftrue) ⊛ ‵ ((MutRef (named 0) κs.0 R).own_val a.0 vs) ⊛ ‵ ((MutRef (named 1) κs.1.0 K).own_val a.1.0 ws) ⊛ ‵ ftrue) ∷ ‵ ftrue ∷ []) ∵
    split ! $ split ! $ move ! (1 ∷ []) $ split ! $ move ! (3 ∷ []) $ split ! $ move ! (1 ∷ []) $ split ! $ keep ! (2 ∷ 5 ∷ 0 ∷ 3 ∷ []) $
    enter ! _ _ _ _ _ $ alloc_all ! (λ l. pass_all ! refl ((tt, tt), ((tt, tt), tt)) $
    fsplit3 ! $ move ! (1 ∷ 2 ∷ 3 ∷ []) $ opens ! tt R b o (λ us. move ! (6 ∷ []) $ fsplit3 ! $ move ! (1 ∷ 2 ∷ 9 ∷ []) $ opens ! tt K b' o' (λ us'.
    move ! (7 ∷ []) $ fsplit ! $ move ! (3 ∷ []) $ fsplit ! $ move ! (3 ∷ 1 ∷ []) $
    -- [the number; what is known; the token of each; known's cell and open borrow; known's first part; self's cell and open borrow; self's first part]
    use2 𝓛 (given Least (‵ (latest numbers full_share h.name h.at) ⊛ ‵ (at_least numbers k.name k.at))) (bounded 𝓛 h.name h.at k.at k.name) $ learn ! (λ least. split ! $
    move ! (3 ∷ 0 ∷ []) $ fjoin ! $ move ! (2 ∷ 1 ∷ []) $ fjoin ! $ move ! (2 ∷ 0 ∷ 3 ∷ 4 ∷ 5 ∷ []) $ closes ! tt K k us' b' o' $ move ! (5 ∷ 3 ∷ 6 ∷ 7 ∷ 8 ∷ []) $ closes ! tt R h us b o $
    sets ! (of_opd ! (unit_lit !)) refl (tt, tt) $ returns ! (look_at ! 0 refl) $ free_all ! refl $
    -- [self, in two parts; the token of its lifetime; known, in two parts; the token of its lifetime; known's first part; self's first part]
    move ! (6 ∷ 3 ∷ 4 ∷ []) $ group ! 3 $ nothing ! $ move ! (1 ∷ 0 ∷ []) $ join ! $ move ! (5 ∷ 1 ∷ 2 ∷ []) $ group ! 3 $ join ! $
    nothing ! $ move ! (3 ∷ 0 ∷ []) $ join ! $ move ! (2 ∷ 0 ∷ []) $ join ! $ feq_i ! _ (vunit ∷ []) _ refl $
    use0 𝓛 (raw (fact 𝓤 Least)) (fact_i 𝓤 Least (emp 𝓤) least) $ use0 𝓛 (raw (fact 𝓤 Same)) (fact_i 𝓤 Same (emp 𝓤) (refl, refl)) $ join ! $
    keep ! (2 ∷ 3 ∷ 1 ∷ 0 ∷ []) $ by ! (leaves 𝓛 f.ended stayed c y vunit tt (h, (k, tt)) (tt, (tt, tt))))))))
