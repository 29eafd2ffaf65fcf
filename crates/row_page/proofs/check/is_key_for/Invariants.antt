use Rattle.std.proofs.Common.{◌≡◌, drop}
use Rattle.row_page.specs.inner.Fits.{key_fits}
use Rattle.row_page.proofs.check.is_key_for.Given as goal

abbrev pub invariant-loop-i : goal.invariant-loop-i
invariant-loop-i l = key_fits (drop l.i l.columns) (drop l.i l.key) ≡ key_fits l.columns l.key
