-- `new` makes the number.
use Rattle.high_water.proofs.Walks.{ℕ, [], ◌∷◌, refl, proved, token, Token, token_made, full_share, via, ftrue, numbers, latest, latest_new, ‵, raw, some, later, ◌$◌, ◌∵◌, !, qed, done, keep, use0, fjoin, pick, await, suffices, basic, enter, no_more, and_then, returns, alloc_all, pass_all, free_all, look_at, get, sets, agg, nothing, on_entry, Stays, walk_of, says, ends_at}
use Rattle.high_water.specs.contracts.HighWater.new as f
use Rattle.high_water.proofs.HighWater.new.Statement.{statement}
use Rattle.high_water.proofs.HighWater.new.Code as code

abbrev stayed : Stays f.ended.signature.params f.ended.kept
stayed = tt

pub new_spec : {M : Type 1} → statement M
new_spec 𝓤 𝓛 𝓜 𝓡 wired =
    let c = f.clauses 𝓛 𝓜.mem 𝓡.returns in let W = walk_of 𝓛 f.ended stayed c in
    proved 𝓛 f.ended stayed c 𝓜 𝓡 tt f.Key.name code.function (code.unfolded 𝓤 𝓛.H 𝓜 𝓡 wired)
    (λ κs. tt) (λ κs. tt) (λ κs qs bounds a _ are.
    let y : W.Ghost = ((κs, qs, bounds, a, tt), tt) in
    qed 𝓛 (raw (on_entry 𝓛 f.signature κs qs a tt) ∷ ‵ ftrue ∷ []) ∵ keep ! [] $
    enter ! _ _ _ _ _ $ alloc_all ! (λ l. pass_all ! refl tt $
    use0 𝓛 (later (some (λ (γ : ℕ). ‵ (latest numbers full_share γ 0)))) (via 𝓤 _ (latest_new numbers 𝓛 0) (basic 𝓛 _)) $ await ! tt $ pick ! (λ γ.
    sets ! (agg ! (no_more !)) refl (tt, tt) $ sets ! (agg ! (and_then ! (get ! refl) (no_more !))) refl (tt, (tt, tt)) $
    returns ! (look_at ! 0 refl) $ free_all ! refl $
    suffices ! _ (ends_at 𝓛 f.ended stayed c y token (record { marker = record {}; name = γ; at = 0 }) tt tt) $ says ! refl $
    use0 𝓛 (‵ (Token.own_val (record {}, tt) (token ∷ []))) (token_made 𝓛) $ fjoin ! $
    nothing ! $ nothing ! $ done !)))
