-- What row writes need of a version is true of every sound one.
use Rattle.std.proofs.Common.{arith}
use Rattle.schema_version.specs.Version.{Version}
use Rattle.schema_version.specs.Sound.{IsSoundVersion}
use Rattle.row_write.specs.inner.IndexedColumns.{IsServed}

pub served_from : (v : Version) → IsSoundVersion v → IsServed v
served_from v sound = record {
  own = λ n e at. (sound.elements n e at).own;
  first = λ n e at. (sound.elements n e at).first;
  given = λ n e at. (let below = (sound.elements n e at).given in let few = sound.few_elements in omega (arith, below, few));
  fair = λ n e at. (sound.elements n e at).fair;
  columns = λ n e at column there. (let p = (sound.elements n e at).columns column there in (p.1, record { element = p.0; known = p.2; home = p.3; column = p.4; public = p.5 }));
}
