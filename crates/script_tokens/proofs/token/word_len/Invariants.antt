use Rattle.std.proofs.Common.{◌≡◌, ◌≤◌, ◌+◌, ◌-◌, drop, length}
use Rattle.script_tokens.specs.Tokens.{word_len}
use Rattle.script_tokens.proofs.token.word_len.Given as goal

abbrev pub invariant-loop-len : goal.invariant-loop-len
invariant-loop-len l = record {
  in_range : l.len ≤ length l.bytes;
  so_far : l.len + word_len (drop l.len l.bytes) ≡ word_len l.bytes;
}

abbrev pub decreases-loop-len : goal.decreases-loop-len
decreases-loop-len l = length l.bytes - l.len
