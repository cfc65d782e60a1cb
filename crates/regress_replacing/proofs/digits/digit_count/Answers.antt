use Rattle.std.proofs.Common.{◌≡◌, true, false, get_or, sym, ap, ◌∙◌, length, arith}
use Rattle.std.specs.Char.{is_ascii_digit}
use Rattle.regress_replacing.proofs.DigitLemmas.{count-few, count-by}
use Rattle.regress_replacing.proofs.digits.digit_count.Goals as goal

pub returns-then-is_ascii_digit : goal.returns-then-is_ascii_digit
returns-then-is_ascii_digit c =
    let text = c.args.text.now in
    let second : is_ascii_digit (get_or text 1 0) ≡ true = rw c.as_bytes.ensures.value at (sym c.is_ascii_digit.ensures.value ∙ c.if-is_ascii_digit.true) in
    sym (count-by text true c.requires (omega (arith, ap length c.as_bytes.ensures.value)) second)

pub returns-in_default : goal.returns-in_default
returns-in_default c = count-few c.args.text.now c.requires (omega (arith, ap length c.as_bytes.ensures.value))

pub returns-else-is_ascii_digit : goal.returns-else-is_ascii_digit
returns-else-is_ascii_digit c =
    let text = c.args.text.now in
    let second : is_ascii_digit (get_or text 1 0) ≡ false = rw c.as_bytes.ensures.value at (sym c.is_ascii_digit.ensures.value ∙ c.if-is_ascii_digit.false) in
    sym (count-by text false c.requires (omega (arith, ap length c.as_bytes.ensures.value)) second)
