use Rattle.std.proofs.Common.{sym, ◌∙◌, arith}
use Rattle.regress_engine_code.specs.Standing.{program_of}
use Rattle.regress_engine_insn.specs.declared.insn.Insn.TheVariants.{Goal}
use Rattle.regress_engine_search.proofs.PlaceLemmas.{can-read}
use Rattle.regress_engine_singles.proofs.LeadingLemmas.{passes-taken}
use Rattle.regress_engine_advance.proofs.ReadLemmas.{stands-read}
use Rattle.regress_engine_leading.proofs.leading.passed_taken.Goals as goal

pub beside-requires : goal.beside-requires
beside-requires g c = can-read (g.Input.InputIndexer.view c.args.input.now) (g.met.Input.InputIndexer.are_of_kind c.args.input.now) c.args.start c.requires.place

pub returns : goal.returns
returns g c = λ lead.
    let within = c.if-at-insns.false in
    let here = stands-read c.insns-insns.result.now c.args.program.now.insns.items c.args.at Goal c.insns-insns.ensures (omega (arith, within)) in
    passes-taken (program_of c.args.program.now) (g.Input.InputIndexer.view c.args.input.now) (g.met.Input.InputIndexer.are_of_kind c.args.input.now) c.args.at _ here
    (sym c.takes_one.ensures ∙ c.if-not-takes_one.false) lead c.args.start _ c.in_ok-behind.behind c.requires.place (sym c.in_ok-behind.ensures) (c.is_dead.ensures c.if-not-is_dead.false)
