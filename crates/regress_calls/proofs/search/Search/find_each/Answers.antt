use Rattle.std.proofs.Common.{◌≡◌, ◌∙◌, Bool, true, false, length, refl, subst, arith, rules}
use Rattle.std.specs.Arc.{arc_value}
use Rattle.regress_meaning.specs.Matches.{match_list}
use Rattle.regress.specs.Standing.{names_of_regex}
use Rattle.regress_calls.specs.Many.{IsNext}
use Rattle.regress_calls.specs.Texts.{reading_of_text}
use Rattle.regress_calls.proofs.ManyLemmas.{NextAfter, next-after, none-yet, many-more, many-still, many-ended, many-full, room-for-more, no-more-room}
use Rattle.regress_calls.proofs.search.Search.find_each.Goals as goal

pub loop-found-init : goal.loop-found-init
loop-found-init c = ((refl, refl), c.requires.start, λ t o p stands place begins. none-yet _ _ _ _ _ _ _ begins)

pub find_next-requires-clause-start : goal.find_next-requires-clause-start
find_next-requires-clause-start c = c.loop-found.invariant.1

pub returns-in_err-find_next-clause-before : goal.returns-in_err-find_next-clause-before
returns-in_err-find_next-clause-before c = λ t o p stands place begins.
    let fits = room-for-more c.loop-found.found (length c.args.ranges.now) c.args.width c.requires.width c.loop-found-test.true in
    many-still _ _ _ c.args.width place c.loop-found.found c.loop-found.start c.find_next.new.start c.loop-found.ranges c.find_next.new.ranges _ (omega arith)
    (c.loop-found.invariant.2 t o p stands place begins) (omega (arith, fits, c.loop-found.auto.ranges)) (search rules)

pub returns-in_err-find_next-clause-kept : goal.returns-in_err-find_next-clause-kept
returns-in_err-find_next-clause-kept c = (c.find_next.ensures.kept.0 ∙ c.loop-found.invariant.0.0, c.find_next.ensures.kept.1 ∙ c.loop-found.invariant.0.1)

pub returns-then-not-branch-clause-found : goal.returns-then-not-branch-clause-found
returns-then-not-branch-clause-found c = λ t o p stands place begins.
    let r = reading_of_text c.args.text in
    let same = c.loop-found.invariant.0.0 in
    let fits = room-for-more c.loop-found.found (length c.args.ranges.now) c.args.width c.requires.width c.loop-found-test.true in
    let step : NextAfter c.args.text (arc_value c.args.self.now.regex) c.loop-found.start c.in_ok-find_next.field-0 c.find_next.new.start c.find_next.new.ranges
    = next-after _ _ _ _ _ _ _ same c.in_ok-find_next.ensures.found in
    let ended : c.in_ok-find_next.field-0 ≡ false = search rules in
    many-ended r (match_list t o p r.points) (length (names_of_regex (arc_value c.args.self.now.regex))) c.args.width place c.loop-found.found c.loop-found.start c.find_next.new.start
    c.loop-found.ranges c.find_next.new.ranges _ (omega arith) (c.loop-found.invariant.2 t o p stands place begins)
    (λ q here. subst (λ (b : Bool). IsNext r (match_list t o p r.points) (length (names_of_regex (arc_value c.args.self.now.regex))) q b c.find_next.new.start c.find_next.new.ranges) ended (step t o p stands q here))
    (omega (arith, fits, c.loop-found.auto.ranges))

pub returns-then-not-branch-clause-before : goal.returns-then-not-branch-clause-before
returns-then-not-branch-clause-before c = λ t o p stands place begins. (returns-then-not-branch-clause-found c t o p stands place begins).many

pub returns-then-not-branch-clause-kept : goal.returns-then-not-branch-clause-kept
returns-then-not-branch-clause-kept c = (c.find_next.ensures.kept.0 ∙ c.loop-found.invariant.0.0, c.find_next.ensures.kept.1 ∙ c.loop-found.invariant.0.1)

pub loop-found-smaller : goal.loop-found-smaller
loop-found-smaller c = omega (arith, c.loop-found-test.true)

pub loop-found-preserved : goal.loop-found-preserved
loop-found-preserved c =
    let r = reading_of_text c.args.text in
    let same = c.loop-found.invariant.0.0 in
    let fits = room-for-more c.loop-found.found (length c.args.ranges.now) c.args.width c.requires.width c.loop-found-test.true in
    let step : NextAfter c.args.text (arc_value c.args.self.now.regex) c.loop-found.start c.in_ok-find_next.field-0 c.find_next.new.start c.find_next.new.ranges
    = next-after _ _ _ _ _ _ _ same c.in_ok-find_next.ensures.found in
    let other : c.in_ok-find_next.field-0 ≡ true = search rules in (
      (c.find_next.ensures.kept.0 ∙ same, c.find_next.ensures.kept.1 ∙ c.loop-found.invariant.0.1),
      c.find_next.ensures.start,
      λ t o p stands place begins.
          many-more r (match_list t o p r.points) (length (names_of_regex (arc_value c.args.self.now.regex))) c.args.width place c.loop-found.found c.loop-found.start c.find_next.new.start
          c.loop-found.ranges c.find_next.new.ranges _ (omega arith) (c.loop-found.invariant.2 t o p stands place begins)
          (λ q here. subst (λ (b : Bool). IsNext r (match_list t o p r.points) (length (names_of_regex (arc_value c.args.self.now.regex))) q b c.find_next.new.start c.find_next.new.ranges) other (step t o p stands q here))
          (omega (arith, c.find_next.auto.ranges)) (omega (arith, fits, c.loop-found.auto.ranges)),
    )

pub returns-clause-found : goal.returns-clause-found
returns-clause-found c = λ t o p stands place begins.
    let full = no-more-room c.loop-found.found (length c.args.ranges.now) c.args.width c.requires.width c.loop-found-test.false in
    many-full _ _ _ c.args.width place c.loop-found.found c.loop-found.start c.loop-found.ranges (c.loop-found.invariant.2 t o p stands place begins)
    (omega (arith, full, c.loop-found.auto.ranges))

pub returns-clause-before : goal.returns-clause-before
returns-clause-before c = c.loop-found.invariant.2

pub returns-clause-kept : goal.returns-clause-kept
returns-clause-kept c = c.loop-found.invariant.0
