use Rattle.std.proofs.Common.{◌≡◌, map, take}
use Rattle.regress_engine_insn.specs.ProgramViews.{bracket_ends}
use Rattle.regress_engine_code.proofs.brackets.copies_of.Given as goal

-- the brackets so far are copied
abbrev pub invariant-loop-contents : goal.invariant-loop-contents
invariant-loop-contents l = map bracket_ends l.copies.items ≡ map bracket_ends (take l.contents-index l.brackets)
