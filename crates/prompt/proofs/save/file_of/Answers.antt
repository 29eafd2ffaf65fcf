use Rattle.std.proofs.Common.{rules, None}
use Rattle.std.proofs.lemmas.Str.Pattern.{split_once_first}
use Rattle.prompt.proofs.SavedFile.{no_file}
use Rattle.prompt.proofs.save.file_of.Goals as goal

pub returns-in-None : goal.returns-in-None
returns-in-None c = no_file c.args.line.now c.trim.result.now c.trim.ensures.trim (split_once_first 32 c.trim.result.now None c.in-None.ensures.cases (search rules))
