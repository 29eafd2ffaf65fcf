-- Why transactions of many operations, and begins, keep what the core keeps.
use Rattle.std.specs.Prelude.{◌≡◌, ◌≢◌, ◌⊎◌, ℕ, IsTrue, List, [], ◌∷◌, Some, refl}
use Rattle.std.specs.FinMap.{get, insert, nat_cmp-IsAntisymmetric}
use Rattle.std.specs.Cmp.{nat_cmp_total}
use Rattle.std.proofs.Common.{sym, ap, subst, ◌∙◌, inl, inr}
use Rattle.row_map.specs.Rows.{Bytes, Rows, Pairs}
use Rattle.byte_map.proofs.Written.{written_all-append, written_here, written_apart, same_or_apart}
use Rattle.element_state.specs.Elements.{Change, rows_after}
use Rattle.element_state.specs.Exists.{row_key}
use Rattle.element_state.specs.Schemas.{Entry, Schema, state_of, Kinds, version_writes}
use Rattle.schema_version.specs.declared.element.Work.{Work}
use Rattle.schema_version.specs.declared.element.Work.TheVariants.{Fill, Clear}
use Rattle.element_state.specs.Core.{InPassedSpans, Core, Passed, MayRun, Reached, Invariant, committed}
use Rattle.element_state.proofs.Events.{commit_kept}
use Rattle.element_state.specs.lemmas.Apart.{some_one}
use Rattle.element_state.specs.Whole.{fresh_spans, RunsAll, rows_after_all, all_writes, committed_all}

pub number_one : (x y : ℕ) → (x ≡ y) ⊎ (x ≢ y)
number_one x y = same_or_apart nat_cmp_total nat_cmp-IsAntisymmetric x y

pub nothing_passed : (lows : List Bytes) (x : Bytes) → InPassedSpans (fresh_spans lows) x → ⊥
nothing_passed [] x h = h
nothing_passed (l ∷ ls) x h = elim h [ inl s ↦ s.0 s.1 | inr t ↦ nothing_passed ls x t ]

module _ {K : Type 0} (ks : Kinds K) where
  pub commit_all_kept : (cs : List Change) (w : Core K) (s : Schema K) → (s ≡ w.before) ⊎ (s ≡ w.newest) → RunsAll ks s w.rows cs → Invariant ks w → Invariant ks (committed_all ks w s cs)
  commit_all_kept [] w s used runs i = i
  commit_all_kept (c ∷ cs) w s used runs i =
      let rest = commit_all_kept cs (committed ks w s c) s used runs.1 (commit_kept ks w s c used runs.0 i) in
      subst (λ P. Invariant ks (record w { pairs = P; rows = rows_after_all ks (rows_after w.rows c) cs })) (sym (written_all-append w.pairs (version_writes ks s c) (all_writes ks s cs))) rest

  none_passed : (n : ℕ) (k : K) (work : Work) (lows : List Bytes) (P : Pairs) (R : Rows) → Passed ks n k work (fresh_spans lows) P R
  none_passed n k Fill lows P R = λ j at. absurd (nothing_passed lows (row_key j) at)
  none_passed n k Clear lows P R = λ x own at. absurd (nothing_passed lows x at)

  -- a reorganisation begins where every usable version has the state for it
  pub begin_kept : (w : Core K) (n : ℕ) (f : Entry K) (work : Work) (lows : List Bytes) → get w.newest n ≡ Some f → (work ≡ Fill → IsTrue ((ks.meaning n f.kind).filled))
      → MayRun ks work f.kind (state_of (get w.before n)) → MayRun ks work f.kind (state_of (get w.newest n)) → Invariant ks w
      → Invariant ks (record w { progress = insert w.progress n (record { work = work; spans = fresh_spans lows }) })
  begin_kept w n f work lows is filled may_before may_newest i = record {
    held = i.held;
    formed = i.formed;
    lawful_before = i.lawful_before;
    lawful_newest = i.lawful_newest;
    joined = i.joined;
    before = i.before;
    newest = i.newest;
    bare = i.bare;
    reached = λ j p at. elim (number_one j n) [
      | inl e ↦
          let p_is : record { work = work; spans = fresh_spans lows } ≡ p
          = some_one _ p (sym (written_here nat_cmp_total nat_cmp-IsAntisymmetric w.progress n (Some (record { work = work; spans = fresh_spans lows }))) ∙ ap (get (insert w.progress n (record { work = work; spans = fresh_spans lows }))) (sym e) ∙ at) in
          subst (λ y. Reached ks y p w.before w.newest w.pairs w.rows) (sym e) (subst (λ y. Reached ks n y w.before w.newest w.pairs w.rows) p_is (record {
            kind = f.kind;
            entry = f;
            entry_is = is;
            kind_is = refl;
            filled = filled;
            run_before = may_before;
            run_newest = may_newest;
            passed = none_passed n f.kind work lows w.pairs w.rows;
          }))
      | inr ne ↦ i.reached j p (sym (written_apart nat_cmp_total nat_cmp-IsAntisymmetric w.progress n (Some (record { work = work; spans = fresh_spans lows })) j ne) ∙ at)
    ];
  }
