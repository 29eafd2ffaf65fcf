use Rattle.std.proofs.Common.{refl}
use Rattle.entry_code.specs.Code.{u32_code, u64_code, bytes_code, list_code}
use Rattle.entry_code.proofs.laws.codes_say.Goals as goal

pub returns : goal.returns
unfolding u32_code u64_code bytes_code list_code
returns c =
    record {
      lease = refl;
      transaction = refl;
      publication = refl;
      begin = refl;
      piece = refl;
      ops = refl;
      step = refl;
      opening = refl;
      query = refl;
      rows = refl;
      changes = refl;
      plan = refl;
      version = refl;
      fill = refl;
      points = refl;
      draft = refl;
    }
