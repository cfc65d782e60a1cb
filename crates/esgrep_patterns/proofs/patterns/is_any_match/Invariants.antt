use Rattle.std.proofs.Common.{◌≡◌, List, drop, chars}
use Rattle.esgrep_patterns.specs.Seeking.{Sought, leftmost, SeekAll}
use Rattle.esgrep_patterns.proofs.patterns.is_any_match.Given as goal

abbrev pub invariant-loop-regex : goal.invariant-loop-regex
invariant-loop-regex l = (ss : List Sought) → SeekAll l.regexes ss → leftmost (chars l.text) (drop l.regex-index ss) 0 ≡ leftmost (chars l.text) ss 0
