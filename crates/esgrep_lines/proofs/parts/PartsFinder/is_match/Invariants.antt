use Rattle.std.proofs.Common.{◌≡◌, drop}
use Rattle.esgrep_lines.proofs.PartLemmas.{parts}
use Rattle.esgrep_lines.proofs.parts.PartsFinder.is_match.Given as goal

abbrev pub invariant-loop-found : goal.invariant-loop-found
invariant-loop-found l =
    parts l.self.ending l.self.text.now l.start l.text (drop l.found-index l.found-items) ≡ parts l.self.ending l.self.text.now l.start l.text l.found-items
