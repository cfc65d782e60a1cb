use Rattle.std.specs.List.{AllZip}
use Rattle.std.proofs.Common.{map, take}
use Rattle.regress_engine_insn.specs.ProgramViews.{bracket_ends}
use Rattle.regress_engine_code.specs.Told.{HasAscii}
use Rattle.regress_engine_code.proofs.brackets.ascii_of_each.Given as goal

-- those of the brackets so far are told
abbrev pub invariant-loop-contents : goal.invariant-loop-contents
invariant-loop-contents l = AllZip HasAscii (map bracket_ends (take l.contents-index l.brackets)) l.told.items
