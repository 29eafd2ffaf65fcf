-- What is shown of a query under a lease, and of the check of an element.
use Rattle.std.proofs.Common.{◌≡◌, ◌++◌, ℕ, List, Option, Some, None, Result, Ok, Err, IfOk, codes, option_map, ap, sym, subst, ◌∙◌}
use Rattle.std.specs.Option.{MatchOption}
use Rattle.audit.specs.Audit.{numbered}
use Rattle.element_check.specs.Check.{IsElementCheck}
use Rattle.element_check.specs.declared.report.ElementReport.{ElementReport}
use Rattle.schema_version.specs.declared.element.ElementDef.{ElementDef}
use Rattle.schema_version.specs.declared.element.ElementState.{ElementState}
use Rattle.schema_version.specs.Version.{Version}
use Rattle.script_grammar.specs.declared.selection.Selection.{Selection}
use Rattle.script_session.specs.Names.{table_number, element_number}
use Rattle.script_session.specs.declared.session.ServerLease.{ServerLease}
use Rattle.script_session.specs.State.{State, facts_of}
use Rattle.script_views.specs.Check.{IsElementText, ShowsElement, check_text, number_of, state_at}
use Rattle.script_session.specs.Names.{asked}
use Rattle.script_views.specs.Explain.{ExplainsQuery, ExplainsUnder}
use Rattle.script_views.specs.Unknown.{SaysUnknown}

pub explained_under : {X E H : Type 0} (bytes : X → List ℕ) (view : H → ServerLease) (result : Result X E) (held : Option H) (one : H) (version : Version) (selection : Selection) → held ≡ Some one → version ≡ (view one).schema
    → IfOk result (λ text. ExplainsQuery version (asked version selection) (bytes text)) → IfOk result (λ text. ExplainsUnder (option_map view held) selection (bytes text))
explained_under {H = H} bytes view (Ok text) held one version selection same is shown =
    subst (λ (o : Option H). ExplainsUnder (option_map view o) selection (bytes text)) (sym same) (subst (λ (v : Version). ExplainsQuery v (asked v selection) (bytes text)) is shown)
explained_under bytes view (Err short) held one version selection same is shown = tt

-- what the check of an element finds
abbrev pub IsFound : Version → State → ℕ → Option ElementReport → Type 0
IsFound version world number found =
    MatchOption found (numbered version number ≡ None) (λ report. (element : ElementDef) × (numbered version number ≡ Some element) × IsElementCheck version world.pairs element 20 report)

-- the same, by the newest version and the names
found_by_names : (world : State) (table name : List ℕ) (version : Version) (place number : ℕ) (found : Option ElementReport) → version ≡ (facts_of world).newest → place ≡ table_number version table → number ≡ element_number version place name
    → IsFound version world number found → IsFound (facts_of world).newest world (number_of world table name) found
found_by_names world table name version place number found is at named h =
    subst (λ (v : Version). IsFound v world (element_number v (table_number v table) name) found) is
    (subst (λ (n : ℕ). IsFound version world n found) (named ∙ ap (λ (p : ℕ). element_number version p name) at) h)

pub shown_element : {X E : Type 0} (bytes : X → List ℕ) (result : Result X E) (world : State) (table name lent_table lent_name : List ℕ) (version : Version) (place number : ℕ) (found : Option ElementReport) (report : ElementReport) (state : ElementState)
    → version ≡ (facts_of world).newest → place ≡ table_number version table → number ≡ element_number version place name → IsFound version world number found → found ≡ Some report → lent_table ≡ table → lent_name ≡ name
    → state ≡ state_at (numbered version number) → IfOk result (λ text. bytes text ≡ check_text (lent_table ++ codes "." ++ lent_name) state report) → IfOk result (λ text. ShowsElement world table name (bytes text))
shown_element bytes (Ok text) world table name lent_table lent_name version place number found report state is at named h same table_is name_is standing made =
    let checked = subst (λ (o : Option ElementReport). IsFound (facts_of world).newest world (number_of world table name) o) same (found_by_names world table name version place number found is at named h) in
    let there : state ≡ checked.0.state = standing ∙ ap (λ (n : ℕ). state_at (numbered version n)) (named ∙ ap (λ (p : ℕ). element_number version p name) at)
    ∙ ap (λ (v : Version). state_at (numbered v (element_number v (table_number v table) name))) is ∙ ap state_at checked.1 in
    let written : bytes text ≡ check_text (table ++ codes "." ++ name) checked.0.state report =
    made ∙ ap (λ (t : List ℕ). check_text (t ++ codes "." ++ lent_name) state report) table_is ∙ ap (λ (n : List ℕ). check_text (table ++ codes "." ++ n) state report) name_is
    ∙ ap (λ (s : ElementState). check_text (table ++ codes "." ++ name) s report) there in
    subst (λ (o : Option ElementDef). MatchOption o (SaysUnknown (facts_of world).newest table name (bytes text)) (λ element. IsElementText world (table ++ codes "." ++ name) element (bytes text))) (sym checked.1) (report, checked.2, written)
shown_element bytes (Err short) world table name lent_table lent_name version place number found report state is at named h same table_is name_is standing made = tt

pub shown_unknown : {X E : Type 0} (bytes : X → List ℕ) (result : Result X E) (world : State) (table name : List ℕ) (version : Version) (place number : ℕ) (found : Option ElementReport) → version ≡ (facts_of world).newest → place ≡ table_number version table
    → number ≡ element_number version place name → IsFound version world number found → found ≡ None → IfOk result (λ text. SaysUnknown version table name (bytes text)) → IfOk result (λ text. ShowsElement world table name (bytes text))
shown_unknown bytes (Ok text) world table name version place number found is at named h same says =
    let none = subst (λ (o : Option ElementReport). IsFound (facts_of world).newest world (number_of world table name) o) same (found_by_names world table name version place number found is at named h) in
    subst (λ (o : Option ElementDef). MatchOption o (SaysUnknown (facts_of world).newest table name (bytes text)) (λ element. IsElementText world (table ++ codes "." ++ name) element (bytes text))) (sym none) (subst (λ (v : Version). SaysUnknown v table name (bytes text)) is says)
shown_unknown bytes (Err short) world table name version place number found is at named h same says = tt

-- the same names, however they are lent
pub shown_as : (world : State) (t n table name text : List ℕ) → t ≡ table → n ≡ name → ShowsElement world t n text → ShowsElement world table name text
shown_as world t n table name text same_table same_name shows =
    subst (λ (x : List ℕ). ShowsElement world x name text) same_table (subst (λ (y : List ℕ). ShowsElement world t y text) same_name shows)

pub shown_pairs : {X E : Type 0} (bytes : X → List ℕ) (result : Result X E) (world : State) (t n table name : List ℕ) → t ≡ table → n ≡ name
    → IfOk result (λ text. ShowsElement world t n (bytes text)) → IfOk result (λ text. ShowsElement world table name (bytes text))
shown_pairs bytes (Ok text) world t n table name same_table same_name shows = shown_as world t n table name (bytes text) same_table same_name shows
shown_pairs bytes (Err short) world t n table name same_table same_name shows = tt
