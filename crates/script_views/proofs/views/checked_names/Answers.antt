use Rattle.std.proofs.Common.{◌≡◌, ◌++◌, ◌∷◌, ◌∙◌, ℕ, List, Some, None, codes, drop, lit<, rules, subst, sym}
use Rattle.std.proofs.lemmas.Bool.{false≢true}
use Rattle.std.proofs.lemmas.Str.Pattern.{split_parts}
use Rattle.script_views.specs.Check.{HasNoSpace}
use Rattle.script_views.proofs.Explained.{check_line, cut_names}
use Rattle.script_views.proofs.views.checked_names.Goals.{else-is_bare-via-then-is_bare+else-is_bare-2, else-is_bare-via-else-is_bare}
use Rattle.script_views.proofs.views.checked_names.Goals as goal

pub returns-in_err-table-clause-names : goal.returns-in_err-table-clause-names
returns-in_err-table-clause-names c =
    λ table name bare_table bare_name same.
    let rest : c.in_ok-names.names.now ≡ table ++ 46 ∷ name = search rules in
    absurd (cut_names c.in_ok-names.names.now table name None c.in_err-table.ensures.cases rest bare_table.no_dot)

pub returns-then-is_bare-2-clause-names : goal.returns-then-is_bare-2-clause-names
returns-then-is_bare-2-clause-names c =
    λ table name bare_table bare_name same.
    let rest : c.in_ok-names.names.now ≡ table ++ 46 ∷ name = search rules in
    cut_names c.in_ok-names.names.now table name (Some (c.in_ok-table.table, c.in_ok-table.name)) c.in_ok-table.ensures.cases rest bare_table.no_dot

pub returns-then-is_bare-2-clause-only : goal.returns-then-is_bare-2-clause-only
returns-then-is_bare-2-clause-only c =
    let front = c.if-not-starts_with.ensures.cases in
    let rest : List ℕ = drop front.0 c.args.line.now in
    let begun : c.args.line.now ≡ codes "check " ++ rest = front.1.1 in
    let after : c.in_ok-names.names.now ≡ rest = search rules in
    let cut = split_parts 46 c.in_ok-names.names.now (Some (c.in_ok-table.table, c.in_ok-table.name)) c.in_ok-table.ensures.cases (lit< tt) in
    check_line c.args.line.now rest c.in_ok-names.names.now c.in_ok-table.table.now c.in_ok-table.name.now begun after cut (c.is_bare.ensures.0 c.if-is_bare.true) (c.is_bare-then-is_bare.ensures.0 c.if-is_bare-2.true)

pub returns-else-is_bare-clause-names : goal.returns-else-is_bare-clause-names
returns-else-is_bare-clause-names c =
    λ table name bare_table bare_name same.
    let rest : c.in_ok-names.names.now ≡ table ++ 46 ∷ name = search rules in
    let names = cut_names c.in_ok-names.names.now table name (Some (c.in_ok-table.table, c.in_ok-table.name)) c.in_ok-table.ensures.cases rest bare_table.no_dot in
    let first = c.is_bare.ensures.1 (subst HasNoSpace (sym names.0) (bare_table.no_tab, bare_table.no_space)) in
    elim c.else-is_bare.branch [
      | else-is_bare-via-then-is_bare+else-is_bare-2 w ↦
          false≢true (sym w.if-is_bare-2.false ∙ w.is_bare-then-is_bare.ensures.1 (subst HasNoSpace (sym names.1) bare_name))
      | else-is_bare-via-else-is_bare w ↦ false≢true (sym w.if-is_bare.false ∙ first)
    ]
