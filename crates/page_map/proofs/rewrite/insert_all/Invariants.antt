use Rattle.std.proofs.Common.{◌≡◌, ◌++◌, ◌≤◌, ◌+◌, take, drop}
use Rattle.std.specs.Vec.{vec_len, vec_capacity}
use Rattle.page_map.proofs.rewrite.insert_all.Given as goal

abbrev pub invariant-loop-page : goal.invariant-loop-page
invariant-loop-page l = record {
  in_range : l.at ≤ vec_len l.pages;
  len : vec_len l.pages + vec_len l.new ≡ vec_len l.fn.pages + vec_len l.fn.new;
  room : vec_len l.pages + vec_len l.new ≤ vec_capacity l.pages;
  capacity : vec_capacity l.fn.pages ≤ vec_capacity l.pages;
  whole : take l.at l.pages.items ++ (l.new.items ++ drop l.at l.pages.items) ≡ take l.at l.fn.pages.items ++ (l.fn.new.items ++ drop l.at l.fn.pages.items);
}

abbrev pub decreases-loop-page : goal.decreases-loop-page
decreases-loop-page l = vec_len l.new
