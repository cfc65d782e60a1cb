use Rattle.std.proofs.Common.{All, arith}
use Rattle.std.proofs.lemmas.List.{get_or_default}
use Rattle.regress_engine_input.proofs.UnitTexts.{single_offset}
use Rattle.regress_engine_input.proofs.Utf16Texts.{IsShort, utf16_end}
use Rattle.regress_calls.proofs.text.len_in_units.Goals as goal

pub returns-clause-utf16 : goal.returns-clause-utf16
returns-clause-utf16 c =
    let units = c.args.units.now in
    let short : All IsShort units = λ k d room. let same = get_or_default units k d 0 room in let fits = c.type_inv.units k in omega (arith, same, fits) in
    utf16_end units short

pub returns-clause-ucs2 : goal.returns-clause-ucs2
returns-clause-ucs2 c = single_offset c.args.units.now _ (omega arith)
