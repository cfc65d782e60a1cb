use Rattle.std.proofs.Common.{map, sym, ap}
use Rattle.regress_engine_insn.specs.InsnViews.{instruction}
use Rattle.regress_engine_code.specs.Standing.{program_of}
use Rattle.regress_engine_code.proofs.compiled.CompiledRegex.way_from.Goals as goal

pub returns : goal.returns
returns c = c.way_from.ensures (program_of c.args.self.now) (ap (map instruction) (sym c.deref.ensures.value)) c.args.self.now.tabled
