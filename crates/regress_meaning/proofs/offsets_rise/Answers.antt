use Rattle.std.proofs.Common.{◌≤◌, nat_lt, arith}
use Rattle.std.proofs.lemmas.Bool.{cond_both}
use Rattle.std.proofs.lemmas.Str.{len_utf8_bounds}
use Rattle.regress_meaning.specs.Offsets.{of_utf8, of_ascii, of_utf16, of_ucs2}
use Rattle.regress_meaning.proofs.OffsetLemmas.{rise}
use Rattle.regress_meaning.proofs.offsets_rise.Goals as goal

pub returns-clause-utf8 : goal.returns-clause-utf8
returns-clause-utf8 c = λ bytes. rise (of_utf8 bytes) (λ d. (len_utf8_bounds d).0)

pub returns-clause-ascii : goal.returns-clause-ascii
returns-clause-ascii c = λ bytes. rise (of_ascii bytes) (λ d. omega arith)

pub returns-clause-utf16 : goal.returns-clause-utf16
returns-clause-utf16 c = λ units. rise (of_utf16 units)
    (λ d. cond_both (nat_lt d 0x1_0000) 1 2 (λ w. 1 ≤ w) (λ e. omega arith) (λ e. omega arith))

pub returns-clause-ucs2 : goal.returns-clause-ucs2
returns-clause-ucs2 c = λ units. rise (of_ucs2 units) (λ d. omega arith)
