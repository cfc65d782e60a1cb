use Rattle.std.proofs.Common.{◌≡◌, ℕ, ◌+◌, ◌-◌, ◌≤◌, List, Option, ◌++◌, length, map, chars}
use Rattle.regress_meaning.specs.Offsets.{of_utf8, Begins}
use Rattle.regress.specs.Coming.{IsStart}
use Rattle.esgrep_rows.specs.Found.{found_of, LieInOrder}
use Rattle.esgrep_patterns.specs.Seeking.{Sought, regexes_of, hits_from, found_hit, found_of_several, SeekAll}
use Rattle.esgrep_patterns.proofs.OrderLemmas.{reached}
use Rattle.esgrep_patterns.proofs.patterns.Patterns.find_several_into.Given as goal

abbrev pub invariant-loop-start : goal.invariant-loop-start
invariant-loop-start l = record {
  start : l.start ≤ length l.text → IsStart l.text l.start;
  order : LieInOrder l.text 0 l.founds.items;
  behind : reached 0 l.founds.items ≤ l.start;
  found : (ss : List Sought) → SeekAll (regexes_of l.self) ss → (template : Option (List ℕ)) → (n : ℕ) × (place : ℕ) × Begins (of_utf8 l.text) l.start place
      × (length (chars l.text) + 1 ≤ n + place)
      × (map (found_of template l.text) l.founds.items ++ map (found_hit template l.text) (hits_from (chars l.text) ss n place) ≡ found_of_several ss template l.text);
}

abbrev pub decreases-loop-start : goal.decreases-loop-start
decreases-loop-start l = length l.text + 1 - l.start
