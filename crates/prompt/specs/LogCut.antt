-- Cited by the contracts of is_cut, cut_text and cut_log, and by the definitions of Conversation.
-- The line `cut`, which gives the memory of the log's entries back, and says of how many.
use Rattle.std.specs.Prelude.{◌≡◌, ◌++◌, ℕ, List, length, Bool, codes}
use Rattle.std.specs.Fmt.{decimal}
use Rattle.script_json.specs.Session.{Session}
use Rattle.script_json.specs.SessionVariants.TheVariants.{Declaring, Running}
use Rattle.script_tokens.specs.Tokens.{tokens_of}
use Rattle.script_json.specs.State.{cut_here, entries_kept, entry_count}
use Rattle.prompt.specs.Alone.{is_alone}

-- the word `cut` alone
abbrev pub is_cut : List ℕ → Bool
is_cut line = is_alone (codes "cut") (tokens_of line)

-- what a cut of this session says: how many of the log's entries are in memory, and how many there were ever
abbrev pub cut_remark : Session → List ℕ
cut_remark (Declaring d) = codes "there is no log yet: declare tables, then `open`"
cut_remark (Running r) = codes "gave " ++ (decimal (length (entries_kept r.world)) ++ (codes " of the log's " ++ (decimal (entry_count r.world) ++ codes " entries back")))

-- None of the log's entries is in memory any more, and all else is as it was; before `open` nothing changes.
abbrev pub CutIn : Session → Session → Type 0
CutIn (Declaring d) new = new ≡ Declaring d
CutIn (Running r) new = new ≡ Running (record r { world = cut_here r.world })
