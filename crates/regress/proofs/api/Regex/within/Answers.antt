use Rattle.std.proofs.Common.{ap, sym, subst}
use Rattle.regress_engine_code.specs.Standing.{names_of, target_of}
use Rattle.regress_programs.specs.declared.compiled.Compiled.{Compiled}
use Rattle.regress_programs.specs.Programs.{IsProgramOf, IsLaidOutFrom}
use Rattle.regress.proofs.api.Regex.within.Goals as goal

pub returns-clause-stands : goal.returns-clause-stands
returns-clause-stands c = λ t o p. subst (λ (x : Compiled). IsProgramOf x.byte_program t o p) (sym c.new.ensures.compiled)

pub returns-clause-stands_in_units : goal.returns-clause-stands_in_units
returns-clause-stands_in_units c = λ t o p. subst (λ (x : Compiled). IsProgramOf x.unit_program t o p) (sym c.new.ensures.compiled)

pub returns-clause-tree : goal.returns-clause-tree
returns-clause-tree c = λ n t. subst (λ (x : Compiled). IsLaidOutFrom (target_of x.byte_program) n t) (sym c.new.ensures.compiled)

pub returns-clause-tree_in_units : goal.returns-clause-tree_in_units
returns-clause-tree_in_units c = λ n t. subst (λ (x : Compiled). IsLaidOutFrom (target_of x.unit_program) n t) (sym c.new.ensures.compiled)

pub returns-clause-named : goal.returns-clause-named
returns-clause-named c = ap (λ (x : Compiled). names_of x.byte_program) c.new.ensures.compiled
