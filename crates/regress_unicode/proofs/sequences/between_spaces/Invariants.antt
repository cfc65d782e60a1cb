use Rattle.std.proofs.Common.{◌≡◌, chars, take, map}
use Rattle.regress_unicode.specs.Sequences.{strings_of}
use Rattle.regress_unicode.proofs.sequences.between_spaces.Given as goal

abbrev pub invariant-loop-part : goal.invariant-loop-part
invariant-loop-part l = strings_of l.strings ≡ map (λ p. chars p.now) (take l.part-index l.part-items)
