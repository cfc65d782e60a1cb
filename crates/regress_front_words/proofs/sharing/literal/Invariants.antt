use Rattle.std.proofs.Common.{◌≡◌, take, string_bytes, encode_utf8_all}
use Rattle.regress_front_words.proofs.sharing.literal.Given as goal

-- the bytes of the characters so far
abbrev pub invariant-loop-letter : goal.invariant-loop-letter
invariant-loop-letter l = string_bytes l.text ≡ encode_utf8_all (take l.letter-index l.word)
