-- Cited by the contracts of converse and of the functions below it.
-- What is read and written, line by line.
use Rattle.std.specs.Prelude.{◌≡◌, ◌⊎◌, ◌++◌, ◌∷◌, ◌+◌, ◌-◌, ◌^◌, ◌==◌, ◌||◌, ◌&&◌, ⊤, ℕ, zero, suc, List, [], length, Option, Some, None, Result, Ok, Err, Bool, true, false, not, nat_lt, cond, codes, if◌then◌else◌}
use Rattle.std.specs.Fmt.{decimal}
use Rattle.std.specs.Io.KnownBytes.{Appends}
use Rattle.std.specs.List.{flat_map}
use Rattle.std.specs.Str.{IsUtf8, bytes_eq, trim}
use Rattle.lease.specs.Timeline.{newest}
use Rattle.script_grammar.specs.Print.{hex}
use Rattle.script_json.specs.Answer.{IsAnswerText}
use Rattle.script_json.specs.Texts.{bad_line}
use Rattle.script_json.specs.Replies.{Reply}
use Rattle.script_json.specs.Session.{Session}
use Rattle.script_json.specs.SessionVariants.TheVariants.{Declaring, Running}
use Rattle.script_tokens.specs.declared.token.Mark.TheVariants.{Dot}
use Rattle.script_tokens.specs.declared.token.Token.{Token}
use Rattle.script_tokens.specs.Productions.{is_mark, is_word}
use Rattle.script_tokens.specs.Tokens.{tokens_of}
use Rattle.script_json.specs.State.{facts_of}
use Rattle.prompt.specs.Carry.{CarriesOn, carry_in}
use Rattle.prompt.specs.declared.carry.CarryLine.{CarryLine}
use Rattle.prompt.specs.Lines.{HasRead, IsNext, IsReadInPart}
use Rattle.prompt.specs.LogCut.{CutIn, cut_remark, is_cut}
use Rattle.prompt.specs.Moment.{IsForeign, IsGiven, first_word}
use Rattle.prompt.specs.declared.conversation.Summary.{Summary}
use Rattle.prompt.specs.declared.fault.PromptFault.{PromptFault}
use Rattle.prompt.specs.declared.fault.PromptFault.TheVariants.{Read, Write, Memory}
use Rattle.prompt.specs.declared.form.Form.{Form}
use Rattle.prompt.specs.declared.form.Form.TheVariants.{Plain, Shown, Json}
use Rattle.prompt.specs.declared.state.PromptState.{PromptState}
use Rattle.prompt.specs.Save.{Keeping, SaveSays, file_of, is_save}
use Rattle.prompt.specs.Undo.{TakesBack, declared_after, is_undo}

-- the word `quit` or `exit` alone, or `.quit`
abbrev pub quits : Option (List Token) → Bool
quits None = false
quits (Some []) = false
quits (Some (t ∷ [])) = is_word (codes "quit") t || is_word (codes "exit") t
quits (Some (t ∷ u ∷ [])) = is_mark Dot t && is_word (codes "quit") u
quits (Some (t ∷ u ∷ v ∷ ts)) = false

-- a line that ends the conversation: one of these, or the bytes of `\q`
abbrev pub is_quit : List ℕ → Bool
is_quit line = bytes_eq line (92 ∷ 113 ∷ []) || quits (tokens_of line)

-- what an opened session is asked for by a line that no script has: to carry changes on
abbrev pub carry_asked : Session → List ℕ → Option CarryLine
carry_asked (Declaring d) line = None
carry_asked (Running r) line = carry_in (tokens_of line)

-- the line asks neither to carry changes on, nor to take a declaration back, nor to cut the log, nor to save
abbrev pub IsCalm : Session → List ℕ → Type 0
IsCalm session line = IsForeign line → (carry_asked session line ≡ None) × (is_undo line ≡ false) × (is_cut line ≡ false) × (is_save line ≡ false)

-- the session's reply to what it is given, which is kept if it is a declaration
abbrev pub Replied : PromptState → List ℕ → List ℕ → Bool → PromptState → Type 0
Replied old line reply bad new =
    IsCalm old.session line
    × ((given : List ℕ) × IsGiven old.session line given × Reply old.session given reply bad new.session × (new.declared ≡ declared_after new.session old.declared given bad))

-- the first words of the lines that show a view of the session
abbrev pub is_view_word : List ℕ → Bool
is_view_word word =
    (bytes_eq word (codes "help") || bytes_eq word (codes "describe") || bytes_eq word (codes "check") || bytes_eq word (codes "leases") || bytes_eq word (codes "progress"))
    || (bytes_eq word (codes "plan") || bytes_eq word (codes "timeline") || bytes_eq word (codes "explain") || bytes_eq word (codes "advance") || bytes_eq word (codes "finish") || bytes_eq word (codes "rows") || bytes_eq word (codes "try"))

-- such a line, whatever white space is around it
abbrev pub is_view : List ℕ → Bool
is_view line = is_view_word (first_word (trim line))

-- A line that has no reply, since it shows a view, or that is no UTF-8, and so bad. The session is not given it.
abbrev pub Passed : PromptState → List ℕ → List ℕ → Bool → PromptState → Type 0
Passed old line reply bad new =
    (new ≡ old) × ((IsForeign line × IsCalm old.session line × (is_view line ≡ true) × (reply ≡ []) × (bad ≡ false)) ⊎ ((IsUtf8 line → ⊥) × (reply ≡ bad_line) × (bad ≡ true)))

abbrev pub CarriedBy : Session → Option CarryLine → List ℕ → Session → Type 0
CarriedBy old None reply new = ⊥
CarriedBy (Declaring d) (Some carry) reply new = ⊥
CarriedBy (Running old) (Some carry) reply (Declaring d) = ⊥
CarriedBy (Running old) (Some carry) reply (Running new) = CarriesOn old carry reply new

-- a line that asks an opened session to carry changes on: it does so, by the call and at the moment of the line
abbrev pub Carried : PromptState → List ℕ → List ℕ → Bool → PromptState → Type 0
Carried old line reply bad new =
    IsForeign line × CarriedBy old.session (carry_asked old.session line) reply new.session × (new.declared ≡ old.declared) × (bad ≡ false)

-- the line `undo`, which is answered by a remark alone: the last declaration is taken back
abbrev pub Undone : PromptState → List ℕ → List ℕ → Bool → PromptState → Type 0
Undone old line reply bad new =
    IsForeign line × (is_undo line ≡ true) × ((taken : Option (List ℕ)) × TakesBack old taken new) × (reply ≡ []) × (bad ≡ false)

-- the line `cut`, which is answered by a remark alone: the memory of the log's entries is given back, and the remark says of how many
abbrev pub LogCut : PromptState → List ℕ → List ℕ → List ℕ → Bool → PromptState → Type 0
LogCut old line remark reply bad new =
    IsForeign line × (is_cut line ≡ true) × (remark ≡ cut_remark old.session) × CutIn old.session new.session × (new.declared ≡ old.declared) × (reply ≡ []) × (bad ≡ false)

-- a line `save FILE`, which is answered by a remark alone, and changes nothing here: the file was given the checkpoint if the remark says so
abbrev pub Saved : Keeping → PromptState → List ℕ → List ℕ → List ℕ → Bool → PromptState → Type 0
Saved keeps old line remark reply bad new =
    IsForeign line × (is_save line ≡ true) × SaveSays keeps old.session (file_of line) remark × (new ≡ old) × (reply ≡ []) × (bad ≡ false)

-- a byte of a remark, each of whose lines begins with `# `
abbrev pub remark_byte : ℕ → List ℕ
remark_byte b = if b == 10 then b ∷ codes "# " else b ∷ []

abbrev pub remark_text : List ℕ → List ℕ
remark_text [] = []
remark_text (b ∷ bs) = codes "# " ++ flat_map remark_byte (b ∷ bs) ++ codes "\n"

-- a byte that controls a terminal; a line feed ends a line
abbrev pub is_control : ℕ → Bool
is_control b = (b == 127) || (nat_lt b 32 && not (b == 10))

-- `\x1b`
abbrev pub escaped_byte : ℕ → List ℕ
escaped_byte b = codes "\\x" ++ hex (b ∷ [])

-- a byte as a terminal is shown it
abbrev pub visible_byte : ℕ → List ℕ
visible_byte b = if is_control b then escaped_byte b else b ∷ []

-- A reply and its remarks in a form. What an object of JSON has besides them is said by no contract.
abbrev pub IsTextOf : Form → List ℕ → List ℕ → List ℕ → Type 0
IsTextOf Plain reply remark text = text ≡ reply ++ remark_text remark
IsTextOf Shown reply remark text = text ≡ flat_map visible_byte (reply ++ remark_text remark)
IsTextOf Json reply remark text = IsAnswerText reply remark text

-- What is written for a line in a form, which leaves new: the reply, and remarks.
pub record IsAnswered (keeps : Keeping) (form : Form) (old : PromptState) (line text : List ℕ) (bad : Bool) (new : PromptState) : Type 0 where
  pub reply : List ℕ
  pub remark : List ℕ
  pub written : IsTextOf form reply remark text
  pub kind : Replied old line reply bad new ⊎ Passed old line reply bad new ⊎ Carried old line reply bad new ⊎ Undone old line reply bad new ⊎ LogCut old line remark reply bad new ⊎ Saved keeps old line remark reply bad new

-- the newest version and the moment, where they are shown
abbrev pub prompt_text : Form → Session → List ℕ
prompt_text Plain session = []
prompt_text Json session = []
prompt_text Shown (Declaring d) = codes "> "
prompt_text Shown (Running r) = codes "v" ++ decimal (newest (facts_of r.world).line) ++ codes " @" ++ decimal (facts_of r.world).moment ++ codes "> "

-- From old, the lines in answer may be given this text, each after a prompt, with so many bad lines, and leave new. None of them ends the conversation.
abbrev pub AreAnswered : Keeping → Form → PromptState → List (List ℕ) → List ℕ → ℕ → PromptState → Type 0
AreAnswered keeps form old [] text bad new = (text ≡ []) × (bad ≡ 0) × (new ≡ old)
AreAnswered keeps form old (l ∷ ls) text bad new =
    (answer : List ℕ) × (is_bad : Bool) × (mid : PromptState) × (more : List ℕ) × (others : ℕ)
    × IsAnswered keeps form old l answer is_bad mid × AreAnswered keeps form mid ls more others new
    × (is_quit l ≡ false) × (text ≡ prompt_text form old.session ++ (answer ++ more)) × (bad ≡ cond is_bad 1 0 + others)

-- All that is written from this state until a line is waited for: the answers, and the next prompt.
abbrev pub IsTranscript : Keeping → PromptState → Form → List (List ℕ) → List ℕ → ℕ → Type 0
IsTranscript keeps start form lines out bad =
    (text : List ℕ) × (new : PromptState) × AreAnswered keeps form start lines text bad new × (out ≡ text ++ prompt_text form new.session)

-- what is read at the end: nothing more, or a line that ends the conversation
abbrev pub Ends : Option (List ℕ) → Option (List ℕ) → Type 0
Ends input rest = IsNext input rest None ⊎ ((line : List ℕ) × IsNext input rest (Some line) × (is_quit line ≡ true))

-- known bytes grew by a start of the text
abbrev pub AppendsPrefix : Option (List ℕ) → Option (List ℕ) → List ℕ → Type 0
AppendsPrefix old new text = (out : List ℕ) × (cut : List ℕ) × Appends old new out × (text ≡ out ++ cut)

-- the next line that is to be answered; none at the end, and at a line that ends the conversation
abbrev pub IsAwaited : Option (List ℕ) → Option (List ℕ) → Option (List ℕ) → Type 0
IsAwaited input rest None = Ends input rest
IsAwaited input rest (Some line) = IsNext input rest (Some line) × (is_quit line ≡ false)

-- The line was answered, which leaves new, and all of the answer was written.
pub record IsWritten (keeps : Keeping) (form : Form) (old : PromptState) (line : List ℕ) (bad : Bool) (new : PromptState) (before after : Option (List ℕ)) : Type 0 where
  pub text : List ℕ
  pub answered : IsAnswered keeps form old line text bad new
  pub written : Appends before after text

-- What an answer that was cut leaves: a start of it was written.
pub record IsCut (keeps : Keeping) (form : Form) (old : PromptState) (line : List ℕ) (before after : Option (List ℕ)) : Type 0 where
  pub text : List ℕ
  pub bad : Bool
  pub new : PromptState
  pub answered : IsAnswered keeps form old line text bad new
  pub written : AppendsPrefix before after text

-- Lines that were read and answered in turn from the start, each after a prompt: all of that was written, and they leave the state.
pub record IsSoFar (keeps : Keeping) (start : PromptState) (form : Form) (input rest old new : Option (List ℕ)) (lines bad : ℕ) (state : PromptState) : Type 0 where
  pub read : List (List ℕ)
  pub text : List ℕ
  pub taken : HasRead input read rest
  pub written : Appends old new text
  pub answered : AreAnswered keeps form start read text bad state
  pub count : lines ≡ length read

-- a fault that is not the writer's
abbrev pub IsReaders : PromptFault → Type 0
IsReaders Read = ⊤
IsReaders Write = ⊥
IsReaders Memory = ⊤

-- The whole prompt was written and handed on, and then a part of the next line was read, or all of it.
pub record IsAsked (prompt : List ℕ) (input rest old new handed : Option (List ℕ)) : Type 0 where
  pub shown : Appends old new prompt
  pub handed_on : handed ≡ new
  pub part : IsReadInPart input rest

-- Why the next line was not read: the reader failed; the writer did, before anything more was read; or memory ran out, before the prompt or after it.
abbrev pub IsUnasked : List ℕ → Option (List ℕ) → Option (List ℕ) → Option (List ℕ) → Option (List ℕ) → Option (List ℕ) → PromptFault → Type 0
IsUnasked prompt input rest old new handed Read = IsAsked prompt input rest old new handed
IsUnasked prompt input rest old new handed Write = AppendsPrefix old new prompt × (rest ≡ input)
IsUnasked prompt input rest old new handed Memory = (Appends old new [] × (rest ≡ input)) ⊎ IsAsked prompt input rest old new handed

-- Why a line was not answered: the writer failed in the answer; or memory ran out, and the writer was kept.
abbrev pub IsUnanswered : Keeping → Type 0 → Form → PromptState → List ℕ → Option (List ℕ) → Option (List ℕ) → PromptFault → Type 0
IsUnanswered keeps kept form old line before after Read = ⊥
IsUnanswered keeps kept form old line before after Write = IsCut keeps form old line before after
IsUnanswered keeps kept form old line before after Memory = kept

-- The prompt was written, the next line was read, and a start of its answer was written.
pub record IsCutAfter (keeps : Keeping) (form : Form) (state : PromptState) (input rest old new : Option (List ℕ)) : Type 0 where
  pub line : List ℕ
  pub at : Option (List ℕ)
  pub prompt : Appends old at (prompt_text form state.session)
  pub awaited : IsAwaited input rest (Some line)
  pub cut : IsCut keeps form state line at new

-- How it ends early, after lines that were answered: the next line was not read; or the writer failed in its answer.
abbrev pub IsBroken : Keeping → Form → PromptState → Option (List ℕ) → Option (List ℕ) → Option (List ℕ) → Option (List ℕ) → Option (List ℕ) → PromptFault → Type 0
IsBroken keeps form state input rest old new handed fault =
    IsUnasked (prompt_text form state.session) input rest old new handed fault ⊎ ((fault ≡ Write) × IsCutAfter keeps form state input rest old new)

-- as many lines were answered as can be counted
abbrev pub IsSpent : ℕ → Option (List ℕ) → Option (List ℕ) → Option (List ℕ) → Option (List ℕ) → PromptFault → Type 0
IsSpent lines input rest old new fault = (lines ≡ 2 ^ 64 - 1) × (rest ≡ input) × Appends old new [] × (fault ≡ Read)

-- What was read and written from the start, and how the call ends. What was handed on is known where nothing was written since the writer was asked to.
abbrev pub Conversed : Keeping → PromptState → Form → Option (List ℕ) → Option (List ℕ) → Option (List ℕ) → Option (List ℕ) → Option (List ℕ) → Result Summary PromptFault → Type 0
Conversed keeps start form input rest old new handed (Ok s) =
    (lines : List (List ℕ)) × (mid : Option (List ℕ)) × (out : List ℕ)
    × HasRead input lines mid × Ends mid rest × IsTranscript keeps start form lines out s.bad × Appends old new out × (s.lines ≡ length lines) × (handed ≡ new)
Conversed keeps start form input rest old new handed (Err fault) =
    (lines : ℕ) × (bad : ℕ) × (state : PromptState) × (mid : Option (List ℕ)) × (at : Option (List ℕ))
    × IsSoFar keeps start form input mid old at lines bad state × (IsBroken keeps form state mid rest at new handed fault ⊎ IsSpent lines mid rest at new fault)

abbrev pub with_bad : ℕ → ℕ
with_bad zero = 0
with_bad (suc n) = 1

-- the exit status
abbrev pub status_of : Result Summary PromptFault → ℕ
status_of (Ok s) = with_bad s.bad
status_of (Err Read) = 3
status_of (Err Write) = 4
status_of (Err Memory) = 5
