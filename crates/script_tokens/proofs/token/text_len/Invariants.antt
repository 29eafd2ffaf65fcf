use Rattle.std.proofs.Common.{◌≡◌, ◌≤◌, ◌+◌, ◌-◌, drop, length}
use Rattle.std.specs.Option.{option_map}
use Rattle.script_tokens.specs.Tokens.{text_len}
use Rattle.script_tokens.proofs.token.text_len.Given as goal

abbrev pub invariant-loop-len : goal.invariant-loop-len
invariant-loop-len l = record {
  in_range : l.len ≤ length l.bytes;
  so_far : option_map (λ n. l.len + n) (text_len (drop l.len l.bytes)) ≡ text_len l.bytes;
}

abbrev pub decreases-loop-len : goal.decreases-loop-len
decreases-loop-len l = length l.bytes - l.len
