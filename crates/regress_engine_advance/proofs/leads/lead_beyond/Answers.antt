use Rattle.std.proofs.Common.{◌≡◌, false, ◌≤◌, length, slice_get, encode_utf8, sym, ap, ◌∙◌, subst, arith}
use Rattle.std.proofs.lemmas.Bool.Decides.{nat_tests}
use Rattle.std.proofs.lemmas.Option.{slice_get_within}
use Rattle.regress_meaning.specs.Tokens.{is_high}
use Rattle.regress_meaning.specs.TableParts.{is_code_point}
use Rattle.regress_engine_singles.proofs.LeadAheadLemmas.{lead_can, lead_lone, lead_none, lead_read, unit-point}
use Rattle.regress_engine_advance.proofs.leads.lead_beyond.Goals as goal

pub returns-then-unit-lt55296 : goal.returns-then-unit-lt55296
returns-then-unit-lt55296 g c =
    let low = c.if-unit-lt55296.true in
    let lone : is_high c.args.unit ≡ false = grind (arith, nat_tests, low) in
    lead_lone (g.Input.InputIndexer.view c.args.input.now) c.requires.kind c.args.offset c.args.unit _ c.requires.unit lone
    (ap (λ x. slice_get (encode_utf8 x) 0) (sym c.from.ensures) ∙ c.utf8_first_byte.ensures)

pub beside-requires : goal.beside-requires
beside-requires g c =
    let v = g.Input.InputIndexer.view c.args.input.now in
    let here = slice_get_within v.units c.args.offset c.args.unit c.requires.unit in
    lead_can v c.requires.kind c.args.offset (let inside : c.args.offset ≤ length v.units = omega (arith, here) in inside)

pub utf8_first_byte-requires-2 : goal.utf8_first_byte-requires-2
utf8_first_byte-requires-2 g c =
    let v = g.Input.InputIndexer.view c.args.input.now in
    subst is_code_point (sym c.as_u32.ensures)
    (unit-point v.kind v.table v.unicode v.units (g.met.Input.InputIndexer.are_of_kind c.args.input.now) c.requires.kind c.args.offset _ (sym c.in_ok-c.ensures))

pub returns-in_err-c : goal.returns-in_err-c
returns-in_err-c g c = c.from_residual.ensures ∙ lead_none (g.Input.InputIndexer.view c.args.input.now) c.requires.kind c.args.offset c.in_err-c.ensures

pub returns : goal.returns
returns g c =
    lead_read (g.Input.InputIndexer.view c.args.input.now) c.requires.kind c.args.offset _ _ _ (sym c.in_ok-c.ensures)
    (ap (λ x. slice_get (encode_utf8 x) 0) (sym c.as_u32.ensures) ∙ c.utf8_first_byte-2.ensures)
