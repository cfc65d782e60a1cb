use Rattle.std.proofs.Common.{◌≡◌, ℕ, List, Option, drop, chars}
use Rattle.std.specs.Prelude.{IfSome}
use Rattle.regress_meaning.specs.Offsets.{of_utf8, Begins}
use Rattle.esgrep_patterns.specs.Seeking.{Sought, Hit, regexes_of, leftmost, leftmost_of, AreHits, BeginsInText, SeekAll}
use Rattle.esgrep_patterns.proofs.patterns.Patterns.leftmost.Given as goal

abbrev pub invariant-loop-regex : goal.invariant-loop-regex
invariant-loop-regex l = record {
  inside : IfSome l.leftmost (BeginsInText l.text l.start);
  found : (ss : List Sought) → SeekAll (regexes_of l.self) ss → (place : ℕ) → Begins (of_utf8 l.text) l.start place
      → (hit : Option Hit) × AreHits l.text l.leftmost hit × (leftmost_of (chars l.text) place hit (drop l.regex-index ss) ≡ leftmost (chars l.text) ss place);
}
