use Rattle.std.proofs.Common.{◌/◌, arith}
use Rattle.std.proofs.lemmas.Nat.{or_shifted}
use Rattle.regress_front_bytes.proofs.Utf8Lemmas.{first_of_two, first_of_three, first_of_four}
use Rattle.regress_front_bytes.proofs.utf8.utf8_first_byte.Goals as goal

pub returns-then-cp-lt2048 : goal.returns-then-cp-lt2048
returns-then-cp-lt2048 c =
    let bits = or_shifted 3 6 (c.args.cp / 64) (omega arith) in
    let first = first_of_two c.args.cp (omega arith) (omega arith) in
    cc

pub returns-then-cp-lt65536 : goal.returns-then-cp-lt65536
returns-then-cp-lt65536 c =
    let bits = or_shifted 14 4 (c.args.cp / 4096) (omega arith) in
    let first = first_of_three c.args.cp (omega arith) (omega arith) in
    cc

pub returns-else-cp-lt65536 : goal.returns-else-cp-lt65536
returns-else-cp-lt65536 c =
    let bits = or_shifted 30 3 (c.args.cp / 262144) (omega arith) in
    let first = first_of_four c.args.cp (omega arith) in
    cc
