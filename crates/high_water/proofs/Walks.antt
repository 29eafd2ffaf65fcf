-- The names that the proofs by hand cite, passed on from one place.
pub use Rattle.std.proofs.Common.{◌≡◌, ℕ, ◌≤◌, [], ◌∷◌, refl, w64}
pub use Rattle.std.proofs.raw_atomic.Walks.{proved, leaves}
pub use Rattle.high_water.proofs.Bounds.{bounded}
pub use Rattle.high_water.proofs.Token.{token, Token, token_made}
pub use base.Fraction.{full_share}
pub use base.Logic.{emp, via}
pub use base.Fml.{ftrue, flft}
pub use base.Growing.{numbers, latest, at_least}
pub use mir.Syntax.{named}
pub use mir.Val.{vunit}
pub use contract.Monad.{fact, fact_i}
pub use types.Growing.{latest_new, latest_grows, latest_shows}
pub use types.Kit.{‵, raw, ◌⊛◌, given, some, later, ◌$◌, ◌∵◌, !, qed, by, done, move, keep, use0, use1, use2, split, join, fsplit, fsplit3, fjoin, feq_i, learn, pick, await, suffices, frame, group}
pub use types.Owned.{basic}
pub use types.Run.{enter, of_opd, unit_lit, no_more, and_then, returns}
pub use types.ByLocal.{alloc_all, pass_all, free_all, look_at, get, sets}
pub use types.Part.{agg}
pub use denote.Builtin.{u64}
pub use denote.Exit.{yes}
pub use denote.Plain.{uint_vals, uint_Tells}
pub use denote.Ref.{MutRef, mut_vals, mut_Tells}
pub use denote.Signature.{plain}
pub use denote.Steps.{nothing, opens, closes, heard}
pub use denote.Triple.Entry.{on_entry}
pub use denote.Triple.Walked.{Stays, walk_of, says, stay_dropped, Goes-dropped, stay_ref, Goes-ref, ends_at}
