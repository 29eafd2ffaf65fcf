-- Cited by the contracts of carry_of, advance_line, finish_line, carry_on and of the functions below them, and by the definitions of Conversation.
-- The lines `advance` and `finish`: which call each makes, at which moment, and what it replies.
use Rattle.std.specs.Prelude.{◌≡◌, ℕ, List, [], ◌∷◌, ◌++◌, Bool, true, false, Option, Some, None, Result, Ok, Err, codes, unwrap_or, if◌then◌else◌}
use Rattle.std.specs.Fmt.{decimal}
use Rattle.std.specs.Option.{option_map, option_and_then}
use Rattle.rollout.specs.Advance.{AdvanceStep}
use Rattle.rollout.specs.Complete.{CompleteStep}
use Rattle.rollout.specs.declared.advanced.Advanced.{Advanced}
use Rattle.rollout.specs.declared.advanced.Advanced.TheVariants as advanced
use Rattle.rollout.specs.declared.advanced.AdvanceFault.{AdvanceFault}
use Rattle.rollout.specs.declared.advanced.AdvanceFault.TheVariants as fault
use Rattle.schema_version.specs.Version.{Version}
use Rattle.script_json.specs.Texts.{line, refused}
use Rattle.script_json.specs.Opened.{Opened}
use Rattle.script_tokens.specs.declared.token.Token.{Token}
use Rattle.script_tokens.specs.Productions.{is_word, count_in}
use Rattle.script_json.specs.Names.{element_name}
use Rattle.script_json.specs.State.{facts_of}
use Rattle.prompt.specs.declared.carry.CarryLine.{CarryLine}

-- ---- the lines

-- whether a word asks for all acts, by `finish`, or for one, by `advance`
abbrev pub carry_word : Token → Option Bool
carry_word token = if is_word (codes "advance") token then Some false else (if is_word (codes "finish") token then Some true else None)

-- nothing, or `at M`
abbrev pub moment_in : List Token → Option (Option ℕ)
moment_in [] = Some None
moment_in (word ∷ []) = None
moment_in (word ∷ number ∷ []) = if is_word (codes "at") word then option_map Some (count_in number) else None
moment_in (word ∷ number ∷ more ∷ others) = None

-- `advance` or `finish`, alone or with `at M`
abbrev pub carry_in : Option (List Token) → Option CarryLine
carry_in None = None
carry_in (Some []) = None
carry_in (Some (word ∷ tokens)) = option_and_then (λ is_finish. option_map (λ at. record { is_finish = is_finish; at = at }) (moment_in tokens)) (carry_word word)

-- ---- the replies

abbrev pub fault_name : AdvanceFault → List ℕ
fault_name fault.BadCount = codes "BadCount"
fault_name fault.MomentTooLarge = codes "MomentTooLarge"
fault_name fault.VersionsSpent = codes "VersionsSpent"
fault_name fault.Memory = codes "Memory"

-- whether a piece has ended, or has more items
abbrev pub piece_word : Bool → List ℕ
piece_word true = codes " done"
piece_word false = codes " more"

-- what was done: `ok begun people.by_town`, `ok version 3`, `ok piece people.by_town more`, `ok waiting 30`, `ok finished`
abbrev pub act_words : Version → Advanced → List ℕ
act_words version (advanced.Began element receipt) = codes "ok begun " ++ element_name version element
act_words version (advanced.Published number receipt) = codes "ok version " ++ decimal number
act_words version (advanced.Worked element done) = codes "ok piece " ++ element_name version element ++ piece_word done.ended
act_words version (advanced.Waiting until) = codes "ok waiting " ++ decimal until
act_words version advanced.Finished = codes "ok finished"

abbrev pub advanced_words : Version → Result Advanced AdvanceFault → List ℕ
advanced_words version (Ok done) = act_words version done
advanced_words version (Err fault) = refused (fault_name fault)

-- `ok finished END`, with the moment of the end
abbrev pub finished_words : Result ℕ AdvanceFault → List ℕ
finished_words (Ok end) = codes "ok finished " ++ decimal end
finished_words (Err fault) = refused (fault_name fault)

-- ---- the calls

-- The leases and what was prepared are as before; the kept plan is forgotten.
abbrev pub KeepsRest : Opened → Opened → Type 0
KeepsRest old new = (new.leases ≡ old.leases) × (new.pending ≡ old.pending) × (new.plan ≡ [])

-- the world took one step of `rollout::advance`, and the reply says which
abbrev pub IsAdvanced : Opened → ℕ → List ℕ → Opened → Type 0
IsAdvanced old moment reply new =
    (outcome : Result Advanced AdvanceFault) × AdvanceStep old.world moment 1 1000 outcome new.world × KeepsRest old new × (reply ≡ line (advanced_words (facts_of new.world).newest outcome))

-- the world took the steps of `rollout::complete`, and the reply says when they ended
abbrev pub IsFinished : Opened → ℕ → List ℕ → Opened → Type 0
IsFinished old moment reply new =
    (outcome : Result ℕ AdvanceFault) × CompleteStep old.world moment 1 1000 outcome new.world × KeepsRest old new × (reply ≡ line (finished_words outcome))

abbrev pub CarriesBy : Bool → Opened → ℕ → List ℕ → Opened → Type 0
CarriesBy false old moment reply new = IsAdvanced old moment reply new
CarriesBy true old moment reply new = IsFinished old moment reply new

-- the call that the line names, at its moment or else at that of the log's last entry
pub record CarriesOn (old : Opened) (carry : CarryLine) (reply : List ℕ) (new : Opened) : Type 0 where
  pub by : CarriesBy carry.is_finish old (unwrap_or carry.at (facts_of old.world).moment) reply new
