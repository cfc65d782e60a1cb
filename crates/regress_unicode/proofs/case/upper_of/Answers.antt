use Rattle.std.proofs.Common.{◌≡◌, sym, arith}
use Rattle.regress_unicode.proofs.CaseLemmas.{upper_of-scalar, upper_of-surrogate}
use Rattle.regress_unicode.proofs.case.upper_of.Goals as goal

pub returns-in-Some : goal.returns-in-Some
returns-in-Some c =
    let letter : c.in-Some.letter ≡ c.args.c = c.in-Some.ensures.value.1 in
    cc (upper_of-scalar c.args.c c.in-Some.ensures.cases, letter, c.single_upper.ensures)

pub returns-in-None : goal.returns-in-None
returns-in-None c = sym (upper_of-surrogate c.args.c (omega arith) c.in-None.ensures.cases)
