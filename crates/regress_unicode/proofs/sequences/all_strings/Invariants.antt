use Rattle.std.proofs.Common.{◌≡◌, take}
use Rattle.std.specs.List.{flat_map}
use Rattle.regress_unicode.specs.Sequences.{strings_of}
use Rattle.regress_unicode.proofs.sequences.all_strings.Given as goal

abbrev pub invariant-loop-strings : goal.invariant-loop-strings
invariant-loop-strings l = strings_of l.all ≡ flat_map (λ s. strings_of s.1) (take l.strings-index l.sequences)
