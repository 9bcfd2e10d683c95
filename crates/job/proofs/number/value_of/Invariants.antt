use Rattle.std.proofs.Common.{◌≡◌, ◌≤◌, true, drop}
use Rattle.std.specs.List.{list_all}
use Rattle.job.specs.Numbers.{digit, value, value_after}
use Rattle.job.proofs.number.value_of.Given as goal

abbrev pub invariant-loop-b : goal.invariant-loop-b
invariant-loop-b l = record {
  small : l.value ≤ 4294967295;
  all_digits : list_all digit (drop l.b-index l.digits) ≡ true;
  same : value l.digits ≡ value_after l.value (drop l.b-index l.digits);
}
