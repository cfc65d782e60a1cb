use Rattle.std.proofs.Common.{◌≡◌, [], ◌++◌, drop, map}
use Rattle.std.specs.Prelude.{All}
use Rattle.regress_match.specs.Views.{item_of}
use Rattle.regress_match.specs.GroupViews.{names_of_match}
use Rattle.esgrep_lines.proofs.PartLemmas.{parts}
use Rattle.esgrep_lines.proofs.parts.PartsFinder.find_into.Given as goal

abbrev pub invariant-loop-found : goal.invariant-loop-found
invariant-loop-found l = record {
  put : map item_of l.founds.items ++ parts l.self.ending l.self.text.now l.start l.text (drop l.found-index l.found-items)
      ≡ parts l.self.ending l.self.text.now l.start l.text l.found-items;
  plain : All (λ m. names_of_match m ≡ []) l.founds.items;
}
