-- Pieces and reorganisations of an element that was looked up in the newest version.
use Rattle.std.proofs.Common.{◌≡◌, ℕ, List, Result, Bool, false, refl, subst, ap, ◌∙◌}
use Rattle.script_grammar.specs.declared.element.ElementName.{ElementName}
use Rattle.script_names.specs.Names.{numbered}
use Rattle.script_replies.specs.WorkFault.{WorkFault}
use Rattle.script_replies.specs.WorkOff.{WorkStep}
use Rattle.schema_version.specs.Version.{Version, element_at}
use Rattle.script_replies.specs.BeginReorg.{BeginStep}
use Rattle.script_replies.specs.State.{State, facts_of}
use Rattle.script_replies.specs.Receipt.{Receipt}
use Rattle.script_replies.specs.BeginFault.{BeginFault}
use Rattle.script_session.specs.Pieces.{ReadsPiece, read_text}
use Rattle.script_replies.specs.Reorganisations.{work_word, begun_words, begun_text, worked_text}
use Rattle.script_session.specs.Answer.{PieceUnder, Begun, Worked, piece_kept}
use Rattle.script_replies.specs.Texts.{line}
use Rattle.script_session.specs.declared.pieces.PieceRead.{PieceRead}
use Rattle.script_session.specs.declared.session.Opened.{Opened}
use Rattle.script_session.specs.declared.session.Session.TheVariants.{Running}

-- the number that was looked up
looked_up : (old : Opened) (element : ElementName) (schema : Version) (number : ℕ) → schema ≡ (facts_of old.world).newest → number ≡ numbered schema element → number ≡ numbered (facts_of old.world).newest element
looked_up old element schema number newest named = named ∙ ap (λ (v : Version). numbered v element) newest

pub piece_under : (old : Opened) (work : List ℕ) (element : ElementName) (schema : Version) (number piece limit : ℕ) (how : PieceRead) (text : List ℕ) (bad : Bool) (next : Opened)
    → schema ≡ (facts_of old.world).newest → number ≡ numbered schema element → ReadsPiece old.world number piece limit how → text ≡ line (read_text how) → bad ≡ false → next ≡ piece_kept old work how
    → PieceUnder old work (numbered (facts_of old.world).newest element) piece limit text bad (Running next)
piece_under old work element schema number piece limit how text bad next newest named read reported good kept =
    subst (λ (n : ℕ). PieceUnder old work n piece limit text bad (Running next)) (looked_up old element schema number newest named)
    (how, read, (reported, good), ap Running kept)

pub begun_under : (old : Opened) (element : ElementName) (schema other : Version) (number moment pieces : ℕ) (result : Result Receipt BeginFault) (world : State) (text : List ℕ) (word : List ℕ) (bad : Bool)
    → schema ≡ (facts_of old.world).newest → number ≡ numbered schema element → other ≡ (facts_of old.world).newest → word ≡ work_word (element_at other number) → BeginStep old.world moment number pieces result world
    → text ≡ line (begun_words word pieces result) → bad ≡ false
    → Begun old (numbered (facts_of old.world).newest element) moment pieces text bad (Running (record old { world = world }))
begun_under old element schema other number moment pieces result world text word bad newest named also worded step reported good =
    let work : word ≡ work_word (element_at (facts_of old.world).newest number) = worded ∙ ap (λ (v : Version). work_word (element_at v number)) also in
    let said : text ≡ line (begun_text (facts_of old.world).newest number pieces result) = reported ∙ ap (λ (w : List ℕ). line (begun_words w pieces result)) work in
    subst (λ (n : ℕ). Begun old n moment pieces text bad (Running (record old { world = world }))) (looked_up old element schema number newest named)
    (result, world, step, (said, good), refl)

pub worked_under : (old : Opened) (element : ElementName) (schema : Version) (number moment limit : ℕ) (result : Result ℕ WorkFault) (world : State) (text : List ℕ) (bad : Bool)
    → schema ≡ (facts_of old.world).newest → number ≡ numbered schema element → WorkStep old.world number moment limit result world → text ≡ line (worked_text result) → bad ≡ false
    → Worked old (numbered (facts_of old.world).newest element) moment limit text bad (Running (record old { world = world }))
worked_under old element schema number moment limit result world text bad newest named step reported good =
    subst (λ (n : ℕ). Worked old n moment limit text bad (Running (record old { world = world }))) (looked_up old element schema number newest named)
    (result, world, step, (reported, good), refl)
