use Rattle.std.proofs.Common.{◌≡◌, ◌&&◌, Bool, true, false, if◌then◌else◌, sym, ap₂, ◌∙◌, subst}
use Rattle.regress_engine_linear.specs.Linear.{is_visited_once}
use Rattle.regress_engine_linear.specs.LinearTests.{are_allowed, have_ranks, may_loop}
use Rattle.regress_engine_linear.specs.RankTables.{heights_of}
use Rattle.regress_engine_linear.proofs.ranks.RankTable.may_leave.Goals as goal

pub returns-then-are_allowed : goal.returns-then-are_allowed
returns-then-are_allowed c program are told =
    let p = c.args.passage in
    let allowed : are_allowed program false (is_visited_once program p.at) p.at p.first p.last p.end ≡ true =
    subst (λ (s : Bool). are_allowed program false s p.at p.first p.last p.end ≡ true) told (sym (c.are_allowed.ensures program are) ∙ c.if-are_allowed.true) in
    c.have_ranks.ensures
    ∙ sym (ap₂ (λ (x y : Bool). if x then may_loop program p.at p.end p.first p.last else (y && have_ranks (heights_of c.args.self.now) p.at p.end))
    (sym (c.repeats_inside.ensures program are) ∙ c.if-repeats_inside.false) allowed)

pub returns-else-are_allowed : goal.returns-else-are_allowed
returns-else-are_allowed c program are told =
    let p = c.args.passage in
    let allowed : are_allowed program false (is_visited_once program p.at) p.at p.first p.last p.end ≡ false =
    subst (λ (s : Bool). are_allowed program false s p.at p.first p.last p.end ≡ false) told (sym (c.are_allowed.ensures program are) ∙ c.if-are_allowed.false) in
    c.if-are_allowed.false
    ∙ sym (ap₂ (λ (x y : Bool). if x then may_loop program p.at p.end p.first p.last else (y && have_ranks (heights_of c.args.self.now) p.at p.end))
    (sym (c.repeats_inside.ensures program are) ∙ c.if-repeats_inside.false) allowed)
