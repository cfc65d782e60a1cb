use Rattle.std.proofs.Common.{◌≡◌}
use Rattle.std.specs.List.{flat_map}
use Rattle.regress_meaning.specs.Text.{count_up}
use Rattle.regress_unicode.specs.Sequences.{strings_of, basic_of}
use Rattle.regress_unicode.proofs.sequences.basic_emoji.Given as goal

abbrev pub invariant-loop-c : goal.invariant-loop-c
invariant-loop-c l = strings_of l.strings ≡ flat_map basic_of (count_up 0 l.c)
