use Rattle.std.proofs.Common.{string_bytes, ◌≡◌, encode_utf8_all}
use Rattle.regress_meaning.specs.Literal.{escaped_text}
use Rattle.regress_replacing.proofs.escaping.escape.Given as goal

abbrev pub invariant-loop-c : goal.invariant-loop-c
invariant-loop-c l =
    string_bytes l.escaped ≡ encode_utf8_all (escaped_text l.yielded)
