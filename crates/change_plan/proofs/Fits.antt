-- Each schedule of a batch that can be planned fits the version and the other schedules.
use Rattle.std.specs.Prelude.{◌≡◌, List, Bool, true, false, not, if◌then◌else◌, Contains, refl}
use Rattle.std.proofs.Common.{sym, ap, subst, ◌∙◌, true≢false}
use Rattle.schema_version.specs.Edges.{is_filled}
use Rattle.schema_version.specs.declared.element.Kind.{Kind}
use Rattle.schema_version.specs.Version.{Version, element_at}
use Rattle.schema_version.specs.Sound.{IsSoundVersion}
use Rattle.change_plan.specs.declared.change.Change.{Change}
use Rattle.change_plan.specs.Refusals.{IsPlannable}
use Rattle.change_plan.specs.declared.schedule.StatePath.TheVariants.{PlainIn, FilledIn}
use Rattle.change_plan.specs.declared.schedule.Schedule.{Schedule}
use Rattle.change_plan.specs.Schedule.{schedules}
use Rattle.change_plan.proofs.Named.{ordered}
use Rattle.change_plan.proofs.Leaving.{departs}
use Rattle.change_plan.proofs.Schedules.{is_in, suits, departure, here}
use Rattle.change_plan.proofs.ScheduleRules.{AreSchedules}
use Rattle.change_plan.proofs.Batch.{From, NewIndex, NewColumn, Leaves, comes_in, one_is, apart_is, number_is}
use Rattle.change_plan.proofs.Places.{place_of, has_change, Place}
use Rattle.change_plan.proofs.ColumnsFit.{covered, columns_fit}
use Rattle.change_plan.proofs.AddedFits.{added_is}

module _ (old : Version) (sound : IsSoundVersion old) (all : List Change) (plannable : IsPlannable old all) where
  suits_in : (kind : Kind) (filled : Bool) → is_filled kind ≡ filled → suits (if filled then FilledIn else PlainIn) kind ≡ true
  suits_in kind true is = is
  suits_in kind false is = ap not is

  pub kind_is : (schedule : Schedule) → Contains (schedules old all) schedule → suits schedule.state_path schedule.fresh.kind ≡ true
  kind_is schedule has = pick p.place.from_change
    where
      p : Place old sound all plannable schedule
      p = place_of old sound all plannable schedule has

      pick : From old all p.place.before p.place.change schedule → suits schedule.state_path schedule.fresh.kind ≡ true
      pick (NewIndex table name columns change is) = ap (λ (t : Schedule). suits t.state_path t.fresh.kind) is
      pick (NewColumn table name kind change is) = ap (λ (t : Schedule). suits t.state_path t.fresh.kind) is ∙ suits_in kind (is_filled kind) refl
      pick (Leaves e found is) = ap (λ (t : Schedule). suits t.state_path t.fresh.kind) is ∙ (departs old sound all plannable p.place.change (has_change old sound all plannable schedule p) e found).fits

  pub out_is : (schedule : Schedule) → Contains (schedules old all) schedule → is_in schedule.state_path ≡ false → element_at old schedule.number ≡ here schedule.number schedule.fresh (departure schedule.state_path)
  out_is schedule has out = pick p.place.from_change
    where
      p : Place old sound all plannable schedule
      p = place_of old sound all plannable schedule has

      pick : From old all p.place.before p.place.change schedule → element_at old schedule.number ≡ here schedule.number schedule.fresh (departure schedule.state_path)
      pick (NewIndex table name columns change is) = absurd (true≢false (ap (λ (t : Schedule). is_in t.state_path) (sym is) ∙ out))
      pick (NewColumn table name kind change is) = absurd (true≢false (sym (comes_in kind) ∙ ap (λ (t : Schedule). is_in t.state_path) (sym is) ∙ out))
      pick (Leaves e found is) =
          let d = departs old sound all plannable p.place.change (has_change old sound all plannable schedule p) e found in
          subst (λ (t : Schedule). element_at old t.number ≡ here t.number t.fresh (departure t.state_path)) (sym is) (d.there ∙ sym d.stands)

  pub are_schedules : AreSchedules old (schedules old all)
  are_schedules = record {
    numbered = (ordered sound);
    one = one_is old sound all plannable;
    apart = λ done rest schedule other split among. apart_is old sound all plannable done rest schedule other split among;
    number = number_is old all;
    schedule = λ schedule has. record { kind = kind_is schedule has; out = out_is schedule has; added = added_is old sound all plannable schedule has; columns = columns_fit old sound all plannable schedule has; covered = covered old sound all plannable schedule has };
  }
