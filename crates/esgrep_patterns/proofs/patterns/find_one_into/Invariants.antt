use Rattle.std.proofs.Common.{◌≡◌, ℕ, List, Option, ◌++◌, map}
use Rattle.regress_meaning.specs.Table.{Table}
use Rattle.regress_meaning.specs.Pattern.{Pattern}
use Rattle.regress_meaning.specs.Flags.{Options}
use Rattle.regress.specs.Standing.{StandsFor, names_of_regex}
use Rattle.regress.specs.Coming.{coming, searched, searched_names}
use Rattle.regress.specs.Behind.{LieBehind}
use Rattle.esgrep_rows.specs.Found.{found_of, found_at, LieInOrder}
use Rattle.esgrep_patterns.specs.Seeking.{found_in}
use Rattle.esgrep_patterns.proofs.OrderLemmas.{reached}
use Rattle.esgrep_patterns.proofs.patterns.find_one_into.Given as goal

abbrev pub invariant-loop-found : goal.invariant-loop-found
invariant-loop-found l = record {
  over : searched l.found-iterator ≡ l.text;
  named : searched_names l.found-iterator ≡ names_of_regex l.regex;
  order : LieInOrder l.text 0 l.founds.items;
  behind : LieBehind (reached 0 l.founds.items) (coming l.found-iterator);
  found : (t : Table) (o : Options) (p : Pattern) → StandsFor l.regex t o p → (template : Option (List ℕ))
      → map (found_of template l.text) l.founds.items ++ map (found_at template (names_of_regex l.regex) l.text) (coming l.found-iterator)
      ≡ found_in t o p template (names_of_regex l.regex) l.text;
}
