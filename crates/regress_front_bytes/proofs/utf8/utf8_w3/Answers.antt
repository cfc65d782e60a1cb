use Rattle.std.proofs.Common.{◌≡◌, arith}
use Rattle.std.proofs.lemmas.Nat.{and_mask}
use Rattle.regress_front_bytes.proofs.Utf8Lemmas.{code_point_of_three}
use Rattle.regress_front_bytes.proofs.utf8.utf8_w3.Goals as goal

pub returns : goal.returns
returns c =
    let low = and_mask c.args.b0 4 in
    let point = code_point_of_three c.requires.0 c.args.b0 c.args.b1 c.args.b2 c.requires.1 c.requires.2 in
    let same : c.with_continuation-2.result ≡ c.requires.0 = omega arith in
    rw same c.requires.2
