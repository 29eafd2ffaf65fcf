use Rattle.std.proofs.Common.{◌≡◌, ◌∷◌, take}
use Rattle.std.specs.List.{AllByRecursion, flat_map}
use Rattle.record_code.specs.Keys.{number_code, IsNumber}
use Rattle.record_code.proofs.keys.with_numbers.Given as goal

abbrev pub invariant-loop-number : goal.invariant-loop-number
invariant-loop-number l = record {
  spelled : l.out.items ≡ l.kind ∷ flat_map number_code (take l.number-index l.numbers);
  known : AllByRecursion IsNumber (take l.number-index l.numbers);
}
