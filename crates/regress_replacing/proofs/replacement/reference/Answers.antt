use Rattle.std.proofs.Common.{refl, sym, arith}
use Rattle.std.proofs.lemmas.Str.Pattern.{strip_prefix_char}
use Rattle.regress_replacing.proofs.DollarLemmas.{not-at, nothing-there}
use Rattle.regress_replacing.proofs.replacement.reference.Goals as goal

pub returns-then-not-begins_with_digit-clause-gives : goal.returns-then-not-begins_with_digit-clause-gives
returns-then-not-begins_with_digit-clause-gives c = λ by_number by_name.
    let behind = c.args.behind.now in
    let dollar = not-at 0x24 behind (rw c.in_default.is at (strip_prefix_char 0x24 behind c.strip_prefix.result c.strip_prefix.ensures.cases (omega arith))) in
    let brace = not-at 0x7B behind (rw c.in_default-strip_prefix.is at (strip_prefix_char 0x7B behind c.strip_prefix-2.result c.strip_prefix-2.ensures.cases (omega arith))) in
    rw (nothing-there by_number by_name behind dollar brace (sym c.if-not-begins_with_digit.ensures)) refl

pub returns-then-not-begins_with_digit-clause-rest : goal.returns-then-not-begins_with_digit-clause-rest
returns-then-not-begins_with_digit-clause-rest c = λ by_number by_name.
    let behind = c.args.behind.now in
    let dollar = not-at 0x24 behind (rw c.in_default.is at (strip_prefix_char 0x24 behind c.strip_prefix.result c.strip_prefix.ensures.cases (omega arith))) in
    let brace = not-at 0x7B behind (rw c.in_default-strip_prefix.is at (strip_prefix_char 0x7B behind c.strip_prefix-2.result c.strip_prefix-2.ensures.cases (omega arith))) in
    rw (nothing-there by_number by_name behind dollar brace (sym c.if-not-begins_with_digit.ensures)) refl
