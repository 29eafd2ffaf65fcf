-- Bad pairs are refused as such if the versions and their elements are sound.
use Rattle.std.specs.Prelude.{◌≡◌, ◌<◌, Bool, true, false}
use Rattle.std.specs.Bool.{Decides}
use Rattle.std.proofs.Common.{sym, ◌∙◌, subst, inr, arith, true≢false}
use Rattle.collections.specs.Refusal.{IsRefusal}
use Rattle.schema_version.specs.Version.{Version}
use Rattle.checkpoint.specs.Checkpoint.{Checkpoint}
use Rattle.checkpoint.specs.Sound.{AreSoundVersions, AreSoundElements, AreSoundPairs, beside}
use Rattle.checkpoint_check.specs.declared.fault.CheckpointFault.{CheckpointFault}
use Rattle.checkpoint_check.specs.declared.fault.CheckpointFault.TheVariants.{BadVersions, BadElements, BadPairs, BadReorganisations, Memory}
use Rattle.checkpoint_check.specs.Refusals.{rank, Condition}

pub bad_pairs : (c : Checkpoint) (before : Version) → before ≡ beside c → AreSoundVersions c.moment c.line c.before → AreSoundElements before c.newest → (sound : Bool) → Decides sound (AreSoundPairs before c.newest c.pairs) → sound ≡ false
    → IsRefusal rank (Condition c) Memory BadPairs
bad_pairs c before same versions elements sound decides bad = (inr (λ pairs. true≢false (sym (decides.1 (subst (λ (v : Version). AreSoundPairs v c.newest c.pairs) (sym same) pairs)) ∙ bad)), first)
  where
    first : (other : CheckpointFault) → rank other < rank BadPairs → ¬ (Condition c other)
    first BadVersions lt not = not versions
    first BadElements lt not = not (subst (λ (v : Version). AreSoundElements v c.newest) same elements)
    first BadPairs lt not = absurd (omega (arith, lt))
    first BadReorganisations lt not = absurd (omega (arith, lt))
    first Memory lt not = not
