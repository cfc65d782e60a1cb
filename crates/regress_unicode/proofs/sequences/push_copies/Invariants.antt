use Rattle.std.proofs.Common.{◌≡◌, ◌++◌, take, map}
use Rattle.regress_unicode.specs.Sequences.{strings_of}
use Rattle.regress_unicode.proofs.sequences.push_copies.Given as goal

abbrev pub invariant-loop-string : goal.invariant-loop-string
invariant-loop-string l = strings_of l.all ≡ strings_of l.initial.all ++ map (λ s. s.items) (take l.string-index l.strings)
