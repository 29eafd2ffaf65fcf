-- What the tests find is what makes a checkpoint sound, and nothing less.
use Rattle.std.specs.Prelude.{◌≡◌, Bool, true, List, [], ◌∷◌, refl}
use Rattle.std.specs.Bool.{Decides}
use Rattle.std.specs.FinMap as map
use Rattle.std.specs.List.{AllByRecursion}
use Rattle.std.proofs.Common.{sym, ap, ◌∙◌}
use Rattle.keycode.proofs.Orders.{bytes_cmp-IsAntisymmetric}
use Rattle.row_map.specs.Rows.{Bytes, Pairs}
use Rattle.schema_version.specs.declared.element.ElementDef.{ElementDef}
use Rattle.schema_version.specs.Version.{Version}
use Rattle.schema_version.specs.Sound.{IsSoundVersion}
use Rattle.element_state.specs.lemmas.Apart.{some_one}
use Rattle.reorganise.specs.declared.work.Progress.{Progress}
use Rattle.replay.specs.Kept.{IsBegun}
use Rattle.audit.specs.inner.RowCounts.{AreStrings}
use Rattle.audit.proofs.Zero.{all_found}
use Rattle.checkpoint.specs.Sound.{AreSoundElements, AreSoundPairs, AreSoundReorganisations}
use Rattle.checkpoint_check.specs.inner.Beside.{AreBeside, HaveSameKinds}
use Rattle.checkpoint_check.specs.inner.Judged.{AllStrings, AreGood}
use Rattle.checkpoint_check.specs.inner.Passed.{IsTested, AreTested}
use Rattle.checkpoint_check.proofs.Accepts.{all_good}
use Rattle.checkpoint_check.proofs.Done.{all_reached, all_in_pieces}
use Rattle.checkpoint_check.proofs.Found.{all_tested}
use Rattle.checkpoint_check.proofs.Needed.{are_beside}
use Rattle.checkpoint_check.proofs.Versions.{joined, hidden}

pub own_kinds : (version : Version) → HaveSameKinds version version
own_kinds version n d e at also = ap (λ (x : ElementDef). x.kind) (some_one d e (sym at ∙ also))

pub elements_decided : (before newest : Version) (b : Bool) → IsSoundVersion before → IsSoundVersion newest → Decides b (AreBeside before newest) → Decides b (AreSoundElements before newest)
elements_decided before newest b sound sound_newest beside = (
  λ yes. record {
    newest_sound = sound_newest;
    before_sound = sound;
    tables = (beside.0 yes).tables;
    joined = joined before newest sound sound_newest (beside.0 yes);
    hidden = hidden before newest sound sound_newest (beside.0 yes);
  },
  λ s. beside.1 (are_beside before newest sound sound_newest s.tables s.joined s.hidden),
)

-- ---- begun reorganisations

begun_of : (before newest : Version) (P : Pairs) (begun : List Progress) → AllByRecursion (IsTested before newest P) begun → AllByRecursion (IsBegun newest) begun
begun_of before newest P [] tested = tt
begun_of before newest P (p ∷ ps) tested = (tested.0.begun, begun_of before newest P ps tested.1)

pub reorganisations_decided : (before newest : Version) (P : Pairs) (begun : List Progress) (b : Bool) → IsSoundVersion newest → AllStrings (map.entries P) → AreSoundPairs before newest P → Decides b (AreTested before newest P begun) → Decides b (AreSoundReorganisations before newest P begun)
reorganisations_decided before newest P begun b sound strings pairs tested =
    let bytes = all_found bytes_cmp-IsAntisymmetric (λ (x w : Bytes). AreStrings (x, w)) P strings in
    let good : AreGood newest newest P (map.entries P) = all_good newest newest sound sound P bytes pairs.by_newest in (
      λ yes. let t = tested.0 yes in record {
        are_begun = begun_of before newest P begun t.tested;
        different = t.different;
        in_pieces = all_in_pieces before newest P begun t.tested;
        passed = all_reached before newest sound (own_kinds newest) P good begun t.tested;
      },
      λ s. tested.1 (record {
        tested = all_tested before newest sound P bytes pairs.by_newest begun s.are_begun s.in_pieces s.passed s.different;
        different = s.different;
      }),
    )
