-- `raise` moves the number up.
use Rattle.high_water.proofs.Walks.{◌≤◌, [], ◌∷◌, refl, w64, proved, full_share, via, ftrue, flft, named, vunit, numbers, latest, fact, latest_grows, ‵, raw, ◌⊛◌, later, ◌$◌, ◌∵◌, !, qed, done, move, keep, use1, split, join, fsplit, fsplit3, fjoin, feq_i, await, suffices, frame, group, basic, enter, of_opd, unit_lit, returns, alloc_all, pass_all, free_all, look_at, sets, u64, yes, uint_vals, uint_Tells, MutRef, mut_vals, mut_Tells, plain, nothing, opens, closes, heard, Stays, walk_of, says, stay_dropped, Goes-dropped, stay_ref, Goes-ref, ends_at}
use Rattle.high_water.specs.contracts.HighWater.{the_row as R}
use Rattle.high_water.specs.contracts.HighWater.raise as f
use Rattle.high_water.proofs.HighWater.raise.Statement.{statement}
use Rattle.high_water.proofs.HighWater.raise.Code as code

abbrev stayed : Stays f.ended.signature.params f.ended.kept
stayed = (stay_ref (0 ∷ []) tt (plain (λ _. R)), (stay_dropped (plain (λ _. u64)) yes, tt))

pub raise_spec : {M : Type 1} → statement M
raise_spec 𝓤 𝓛 𝓜 𝓡 wired =
    let c = f.clauses 𝓛 𝓜.mem 𝓡.returns in let W = walk_of 𝓛 f.ended stayed c in
    proved 𝓛 f.ended stayed c 𝓜 𝓡 (Goes-ref 𝓛 1 0 tt (plain (λ _. R)), (Goes-dropped 𝓛 1 (plain (λ _. u64)) yes (λ κs x w. refl), tt))
    f.Key.name code.function (code.unfolded 𝓤 𝓛.H 𝓜 𝓡 wired)
    (λ κs. (mut_vals, (uint_vals w64, tt))) (λ κs. (mut_Tells (named 0) κs.0 R, (uint_Tells w64, tt))) (λ κs qs bounds a _ are.
    let b = a.0.ref_ptr.0 in let o = a.0.ref_ptr.1 in let h = a.0.now in let vs = mut_vals a.0 in let to = a.1.0 in let ws = uint_vals w64 to in
    let y : W.Ghost = ((κs, qs, bounds, a, (vs, (ws, tt))), tt) in let high : R.Denot = record h { at = to } in
    qed 𝓛 (((‵ (flft κs.0 qs.0) ⊛ ‵ ftrue) ⊛ ‵ ((MutRef (named 0) κs.0 R).own_val a.0 vs) ⊛ ‵ (u64.own_val to ws) ⊛ ‵ ftrue) ∷ raw (fact 𝓤 (h.at ≤ to)) ∷ []) ∵
    move ! (1 ∷ []) $ heard ! _ (λ up. split ! $ split ! $ move ! (2 ∷ []) $ split ! $ keep ! (0 ∷ 2 ∷ []) $
    enter ! _ _ _ _ _ $ alloc_all ! (λ l. pass_all ! refl ((tt, tt), ((tt, record { fits = are.1.0.1 }), tt)) $
    fsplit3 ! $ move ! (1 ∷ 2 ∷ 3 ∷ []) $ opens ! tt R b o (λ us. move ! (1 ∷ []) $ fsplit ! $ move ! (1 ∷ []) $
    -- [the number; the token; the struct's cell; the open borrow, in three entries]
    use1 𝓛 (later (‵ (latest numbers full_share h.name to))) (via 𝓤 _ (latest_grows numbers 𝓛 h.name h.at to up) (basic 𝓛 _)) $ await ! tt $
    move ! (1 ∷ []) $ fjoin ! $ move ! (1 ∷ []) $ closes ! tt R high us b o $
    sets ! (of_opd ! (unit_lit !)) refl (tt, tt) $ returns ! (look_at ! 0 refl) $ free_all ! refl $ move ! (3 ∷ []) $
    suffices ! _ (ends_at 𝓛 f.ended stayed c y vunit tt (high, (tt, tt)) (tt, (tt, tt))) $ says ! (refl, refl) $
    group ! 3 $ nothing ! $ nothing ! $ join ! $ move ! (1 ∷ 0 ∷ []) $ join ! $ nothing ! $ move ! (2 ∷ 0 ∷ []) $ join ! $ frame ! $ frame ! $
    feq_i ! _ (vunit ∷ []) _ refl $ done !))))
