use Rattle.std.proofs.Common.{◌&&◌, Bool, sym, ap₂, ◌∙◌}
use Rattle.regress_engine_memory.specs.Passing.{all_pass}
use Rattle.regress_engine_linear.specs.LinearTests.{is_alone}
use Rattle.regress_engine_linear.proofs.contents.Passage.may_loop.Goals as goal

pub returns-then-are_allowed : goal.returns-then-are_allowed
returns-then-are_allowed c program are told =
    let p = c.args.self.now in
    c.are_asked.ensures program are
    ∙ sym (ap₂ (λ (x y : Bool). x && (y && all_pass (is_alone program p.at p.end) 0 program.instructions)) (sym told ∙ c.if-once.true)
    (sym (c.are_allowed.ensures program are) ∙ c.if-are_allowed.true))

pub returns-else-are_allowed : goal.returns-else-are_allowed
returns-else-are_allowed c program are told =
    let p = c.args.self.now in
    c.if-are_allowed.false
    ∙ sym (ap₂ (λ (x y : Bool). x && (y && all_pass (is_alone program p.at p.end) 0 program.instructions)) (sym told ∙ c.if-once.true)
    (sym (c.are_allowed.ensures program are) ∙ c.if-are_allowed.false))
