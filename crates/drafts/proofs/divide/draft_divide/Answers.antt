use Rattle.std.proofs.Common.{ℕ, Option, MatchOption, subst}
use Rattle.row_map.specs.Rows.{Bytes}
use Rattle.drafts.specs.Divide.{MayAllBegin, IsFirstUnfit}
use Rattle.drafts.proofs.Divided.{is_division}
use Rattle.drafts.proofs.divide.draft_divide.Goals as goal

pub returns-clause-divided : goal.returns-clause-divided
returns-clause-divided c =
    let element = c.in-Some.element.now in
    let work = c.in-Some.work in
    let keys = c.args.keys.now in
    let low = c.in_ok-range.range.0 in
    let all : MayAllBegin element work low keys = subst (λ (o : Option ℕ). MatchOption o (MayAllBegin element work low keys) (λ at. IsFirstUnfit element work low 0 keys at)) c.in_default-2.is c.in_ok-at.ensures in
    record {
      element = element;
      work = work;
      wanted = c.in-Some.ensures;
      made = is_division c.args.newest.now c.args.number element work keys c.in-Some.ensures c.if-keys-gt-MAX_KEYS.false (subst (λ (x : Bytes). MayAllBegin element work x keys) c.in_ok-range.ensures.low all);
      control_is = c.in_ok-divide_control.ensures;
    }
