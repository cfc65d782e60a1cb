use Rattle.std.proofs.Common.{lit≤, refl}
use Rattle.std.proofs.Math.Utf8.{encode}
use Rattle.front_tests.proofs.bytes.forms_are_read.Goals as goal

pub utf8_w2-requires : goal.utf8_w2-requires
unfolding encode
utf8_w2-requires g c = (0xE9, lit≤ tt, refl)

pub utf8_w3-requires : goal.utf8_w3-requires
unfolding encode
utf8_w3-requires g c = (0x20AC, lit≤ tt, refl)

pub utf8_w4-requires : goal.utf8_w4-requires
unfolding encode
utf8_w4-requires g c = (0x1_F600, lit≤ tt, refl)

pub utf8_w3-requires-2 : goal.utf8_w3-requires-2
unfolding encode
utf8_w3-requires-2 g c = (0xD800, lit≤ tt, refl)
