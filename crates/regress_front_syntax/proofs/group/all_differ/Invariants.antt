use Rattle.std.proofs.Common.{◌≡◌, length}
use Rattle.regress_meaning.specs.Grammar.{all_differ}
use Rattle.regress_front_syntax.proofs.group.all_differ.Given as goal

-- the letters passed so far stand once
abbrev pub invariant-loop-first : goal.invariant-loop-first
invariant-loop-first l = all_differ l.fn.letters ≡ all_differ l.rest

abbrev pub decreases-loop-first : goal.decreases-loop-first
decreases-loop-first l = length l.rest
