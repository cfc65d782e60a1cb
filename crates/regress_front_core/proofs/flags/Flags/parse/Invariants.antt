use Rattle.std.proofs.Common.{◌≡◌, [], length, drop, chars}
use Rattle.regress_front_core.specs.FlagWords.{script_flags_of, first_error}
use Rattle.regress_front_core.proofs.flags.Flags.parse.Given as goal

abbrev pub invariant-loop-letter : goal.invariant-loop-letter
invariant-loop-letter l = record {
  set : l.script ≡ script_flags_of l.yielded;
  searched : first_error [] (chars l.word) ≡ first_error l.yielded (drop (length l.yielded) (chars l.word));
}
