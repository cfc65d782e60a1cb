use Rattle.std.proofs.Common.{arith, All}
use Rattle.std.proofs.lemmas.List.{get_or_default}
use Rattle.regress_engine_input.proofs.Utf16Texts.{IsShort}
use Rattle.regress_engine_inputs.proofs.Utf16Starts.{starts-outside}
use Rattle.regress_engine_inputs.proofs.units.is_unit_start.Goals as goal

pub returns : goal.returns
returns c =
    let units = c.args.units.now in
    let short : All IsShort units = λ k d room. let same = get_or_default units k d 0 room in let fits = c.type_inv.units k in omega (arith, same, fits) in
    rw c.lies_in_pair.ensures (starts-outside units short c.args.start)
