-- What is kept as time goes by: once no lease on the version before the newest can be in force, it no longer counts.
use Rattle.std.proofs.Common.{◌≡◌, ℕ, ◌≤◌, [], ◌∷◌, Option, Some, None, refl, sym, ap, subst, ◌∙◌, inl, Bool, true, false, cond, arith, nat_lt}
use Rattle.std.proofs.lemmas.Bool.{ltb-true, lt-ltb}
use Rattle.std.specs.Prelude.{◌≢◌, zero, suc}
use Rattle.std.specs.List.{All}
use Rattle.std.specs.FinMap as map
use Rattle.lease.specs.declared.lease.Lease.{Lease}
use Rattle.lease.specs.Timeline.{IsLength, max_moment, earliest, opened as line_opened}
use Rattle.schema_version.specs.declared.element.ElementState.TheVariants.{Absent, Public}
use Rattle.schema_version.specs.Sound.{IsSoundVersion}
use Rattle.schema_version.specs.Version.{Version}
use Rattle.element_state.specs.Consistent.{AreLawfulRows}
use Rattle.element_state.specs.Core.{Core, Invariant, JoinedAt, NeverPublic}
use Rattle.element_state.proofs.Opening.{opened_holds}
use Rattle.element_state.specs.Schemas.{Entry, state_of}
use Rattle.element_state.specs.Versions.{ElementKind, the_kinds, schema_of}
use Rattle.replay.specs.declared.entry.What.TheVariants.{Lease as Granted}
use Rattle.replay.specs.Replay.{Opening, Facts, start, after, before_of}
use Rattle.replay.specs.Kept.{IsKept, used_before, core_at, all_passed}
use Rattle.replay.proofs.Soundness.{lawful}

none_some : {A B : Type 0} (v : A) → None ≡ Some v → B
none_some v e = absurd cc

-- ---- a version that is joined to itself

pub joined_itself : (n : ℕ) (o : Option (Entry ElementKind)) → JoinedAt the_kinds n o o
joined_itself n None = tt
joined_itself n (Some e) = (refl, inl refl)

absent_public : Absent ≡ Public → ⊥
absent_public e = absurd cc

pub never_public : (next n : ℕ) (o : Option (Entry ElementKind)) → NeverPublic the_kinds next n o → state_of o ≢ Public
never_public next n None h = absent_public
never_public next n (Some e) h = h.1

-- the version before the newest need not count
pub retired : (w : Core ElementKind) → Invariant the_kinds w → Invariant the_kinds (record w { before = w.newest })
retired w i = record {
  held = i.held;
  formed = i.formed;
  lawful_before = i.lawful_newest;
  lawful_newest = i.lawful_newest;
  joined = λ n. joined_itself n (map.get w.newest n);
  before = i.newest;
  newest = i.newest;
  reached = λ n p at.
      let r = i.reached n p at in
      record { kind = r.kind; entry = r.entry; entry_is = r.entry_is; kind_is = r.kind_is; filled = r.filled; run_before = r.run_newest; run_newest = r.run_newest; passed = r.passed };
  bare = λ n never. ((i.bare n never).0, never_public w.next n (map.get w.newest n) never);
}

-- ---- time goes by

-- the facts at a later moment
abbrev pub at : Facts → ℕ → Facts
at facts now = record facts { moment = now }

-- which version counts beside the newest, by whether a moment is before the end of the last lease on it
abbrev counts : Facts → Bool → Version
counts facts b = cond b (before_of facts) facts.newest

abbrev core_by : Facts → Bool → Core ElementKind
core_by facts b = record {
  before = schema_of (counts facts b);
  newest = schema_of facts.newest;
  next = facts.newest.next;
  progress = all_passed facts.progress;
  pairs = facts.pairs;
  rows = facts.rows;
}

-- what is kept of the version that counts beside the newest
record Beside (facts : Facts) (b : Bool) : Type 0 where
  pub sound : IsSoundVersion (counts facts b)
  pub tables : (counts facts b).tables ≡ facts.newest.tables
  pub core_kept : Invariant the_kinds (core_by facts b)
  pub rows : AreLawfulRows (counts facts b) facts.rows

-- it may stop to count, and doesn't begin to count again
beside_later : (facts : Facts) (b c : Bool) → IsKept facts → (c ≡ true → b ≡ true) → Beside facts b → Beside facts c
beside_later facts b false k less h = record { sound = k.sound; tables = refl; core_kept = retired (core_by facts b) h.core_kept; rows = k.rows }
beside_later facts true true k less h = h
beside_later facts false true k less h = absurd (false_true (less refl))
  where
    false_true : false ≡ true → ⊥
    false_true e = absurd cc

before_more : (m n end : ℕ) → m ≤ n → nat_lt n end ≡ true → nat_lt m end ≡ true
before_more m n end le lt = lt-ltb m end (omega (arith, le, ltb-true n end lt))

pub kept_later : (facts : Facts) (now : ℕ) → facts.moment ≤ now → IsKept facts → IsKept (at facts now)
kept_later facts now later k =
    let h : Beside facts (nat_lt facts.moment (earliest facts.line)) = record { sound = k.sound_before; tables = k.tables; core_kept = k.core_kept; rows = k.rows_before } in
    let g = beside_later facts (nat_lt facts.moment (earliest facts.line)) (nat_lt now (earliest facts.line)) k (before_more facts.moment now (earliest facts.line) later) h in
    record {
      counted = k.counted;
      valid = k.valid;
      since = omega (arith, k.since, later);
      sound = k.sound;
      sound_before = g.sound;
      tables = g.tables;
      core_kept = g.core_kept;
      rows = k.rows;
      rows_before = g.rows;
      begun = k.begun;
      different = k.different;
      in_pieces = k.in_pieces;
    }

pub lease_kept : (facts : Facts) (now : ℕ) (lease : Lease) → facts.moment ≤ now → IsKept facts → IsKept (after facts (record { moment = now; what = Granted lease }))
lease_kept facts now lease later k = kept_later facts now later k

-- ---- opening

first_moment : All (λ moment. moment ≤ max_moment) (0 ∷ [])
first_moment zero d lt = omega arith
first_moment (suc k) d lt = absurd (omega (arith, lt))

one_of : (b : Bool) (version : Version) → cond b version version ≡ version
one_of true version = refl
one_of false version = refl

pub opened_kept : (opening : Opening) → IsLength opening.length → IsSoundVersion opening.schema → IsKept (start opening)
opened_kept opening within sound =
    let same : used_before (start opening) 0 ≡ opening.schema = one_of (nat_lt 0 (earliest (line_opened opening.length))) opening.schema in
    let none : AreLawfulRows opening.schema map.empty = λ key cells there. none_some cells (sym (map.get-empty _ key) ∙ there) in
    record {
      counted = refl;
      valid = record { within = within; in_turn = refl; moments = first_moment };
      since = omega arith;
      sound = sound;
      sound_before = subst IsSoundVersion (sym same) sound;
      tables = ap (λ (v : Version). v.tables) same;
      core_kept = subst (λ (v : Version). Invariant the_kinds (record (core_at (start opening) 0) { before = schema_of v })) (sym same) (opened_holds the_kinds (schema_of opening.schema) opening.schema.next (lawful opening.schema sound));
      rows = none;
      rows_before = subst (λ (v : Version). AreLawfulRows v map.empty) (sym same) none;
      begun = tt;
      different = tt;
      in_pieces = λ number progress there. none_some progress there;
    }
