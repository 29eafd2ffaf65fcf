-- Cited by the contracts of the functions of save.rt and of save_line, and by the definitions of Conversation.
-- The line `save FILE`, and what it says came of it.
use Rattle.std.specs.Prelude.{◌≡◌, ◌⊎◌, ◌++◌, ◌∷◌, ◌==◌, ℕ, List, [], Bool, true, false, codes}
use Rattle.std.specs.Fmt.{decimal}
use Rattle.std.specs.List.{after_first}
use Rattle.std.specs.Str.{bytes_eq, trim, trim_start}
use Rattle.checkpoint.specs.Checkpoint.{Checkpoint, checkpoint_of}
use Rattle.script_json.specs.Session.{Session}
use Rattle.script_json.specs.SessionVariants.TheVariants.{Declaring, Running}
use Rattle.script_json.specs.State.{State, entry_count, facts_of}
use Rattle.prompt.specs.Moment.{first_word}

-- the first word is `save`, whatever white space is around the line
abbrev pub is_save : List ℕ → Bool
is_save line = bytes_eq (first_word (trim line)) (codes "save")

-- what follows the first word
abbrev pub file_of : List ℕ → List ℕ
file_of line = trim_start (after_first (λ b. b == 32) (trim line))

-- which file, by its name, was given which checkpoint to keep, and whether it kept it
abbrev pub Keeping : Type 1
Keeping = List ℕ → Checkpoint → Bool → Type 0

-- the checkpoint of a world
abbrev pub checkpoint_here : State → Checkpoint
checkpoint_here world = checkpoint_of (entry_count world) (facts_of world)

-- the file was given the checkpoint of this world, and kept it
abbrev pub IsSaved : Keeping → State → List ℕ → List ℕ → Type 0
IsSaved keeps world file remark =
    (remark ≡ file ++ (codes " has the state after entry " ++ decimal (entry_count world))) × keeps file (checkpoint_here world) true

-- The file is not saved: memory ran out before it was given the checkpoint, or it was given that and did not keep it. The reason is then an
-- error's own text, of which no contract speaks.
abbrev pub IsUnsaved : Keeping → State → List ℕ → List ℕ → Type 0
IsUnsaved keeps world file remark =
    (reason : List ℕ) × (remark ≡ file ++ (codes " is not saved: " ++ reason)) × ((reason ≡ codes "out of memory") ⊎ keeps file (checkpoint_here world) false)

-- what `save` says of a session and a file
abbrev pub SaveSays : Keeping → Session → List ℕ → List ℕ → Type 0
SaveSays keeps (Declaring d) file remark = remark ≡ codes "nothing is open yet: declare tables, then `open`"
SaveSays keeps (Running r) [] remark = remark ≡ codes "save wants the name of a file"
SaveSays keeps (Running r) (b ∷ bs) remark = IsSaved keeps r.world (b ∷ bs) remark ⊎ IsUnsaved keeps r.world (b ∷ bs) remark
