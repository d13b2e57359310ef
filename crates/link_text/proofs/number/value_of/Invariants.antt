use Rattle.std.proofs.Common.{◌≡◌, ◌<◌, true, drop}
use Rattle.link_text.specs.Numbers.{all_digits, value_after}
use Rattle.link_text.proofs.number.value_of.Given as goal

abbrev pub invariant-loop-b : goal.invariant-loop-b
invariant-loop-b l = record {
  value : value_after l.value (drop l.b-index l.digits) ≡ value_after 0 l.digits;
  digits : all_digits (drop l.b-index l.digits) ≡ true;
  small : l.value < 65536;
}
