use Rattle.std.proofs.Common.{◌≡◌, ◌+◌, ◌≤◌, drop, IsCharBoundary}
use Rattle.regress_replacing.specs.Replacing.{number_after}
use Rattle.regress_replacing.proofs.replacement.number.Given as goal

abbrev pub invariant-loop-index : goal.invariant-loop-index
invariant-loop-index l = record {
  number : (number_after 0 l.text).0 ≡ (number_after l.number (drop l.index l.text)).0;
  taken : (number_after 0 l.text).1 ≡ l.index + (number_after l.number (drop l.index l.text)).1;
  small : l.number ≤ 655359;
  cut : IsCharBoundary l.text l.index;
}
