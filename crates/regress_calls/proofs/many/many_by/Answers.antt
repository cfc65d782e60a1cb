use Rattle.std.proofs.Common.{◌≡◌, ◌∙◌, ◌+◌, ℕ, Bool, true, false, length, refl, sym, subst, arith, rules}
use Rattle.regress_meaning.specs.Matches.{match_list}
use Rattle.regress_meaning.specs.Offsets.{Begins}
use Rattle.regress_engine_code.specs.declared.compiled.CompiledRegex.{CompiledRegex}
use Rattle.regress_programs.specs.Programs.{IsProgramOf}
use Rattle.regress_calls.specs.Many.{IsNext}
use Rattle.regress_calls.specs.Texts.{reading_of_text}
use Rattle.regress_calls.proofs.ManyLemmas.{none-yet, many-more, many-still, many-ended, room-for-more}
use Rattle.regress_calls.proofs.many.many_by.Goals as goal

pub loop-found-init : goal.loop-found-init
loop-found-init g c = ((refl, c.requires.over), c.requires.start, λ t o p stands groups count place begins. none-yet _ _ _ _ _ _ _ begins)

pub returns-in_err-next_by-clause-before : goal.returns-in_err-next_by-clause-before
returns-in_err-next_by-clause-before g c = λ t o p stands groups count place begins.
    let fits = room-for-more c.loop-found.found (length c.args.ranges.now) c.args.width c.requires.width c.loop-found-test.true in
    many-still _ _ _ c.args.width place c.loop-found.found c.loop-found.start c.next_by.new.start c.loop-found.ranges c.next_by.new.ranges _ (omega arith)
    (c.loop-found.invariant.2 t o p stands groups count place begins) (omega (arith, fits, c.loop-found.auto.ranges)) (search rules)

pub returns-then-not-branch-clause-found : goal.returns-then-not-branch-clause-found
returns-then-not-branch-clause-found g c = λ t o p stands groups count place begins.
    let r = reading_of_text c.args.text in
    let fits = room-for-more c.loop-found.found (length c.args.ranges.now) c.args.width c.requires.width c.loop-found-test.true in
    let step : (q : ℕ) → Begins r c.loop-found.start q → IsNext r (match_list t o p r.points) groups q c.in_ok-next_by.field-0 c.next_by.new.start c.next_by.new.ranges
    = c.in_ok-next_by.ensures.found t o p (subst (λ (x : CompiledRegex). IsProgramOf x t o p) (sym c.loop-found.invariant.0.0) stands) groups (omega (arith, count, c.loop-found.auto.slots)) in
    let ended : c.in_ok-next_by.field-0 ≡ false = search rules in
    many-ended r (match_list t o p r.points) groups c.args.width place c.loop-found.found c.loop-found.start c.next_by.new.start
    c.loop-found.ranges c.next_by.new.ranges _ (omega arith) (c.loop-found.invariant.2 t o p stands groups count place begins)
    (λ q here. subst (λ (b : Bool). IsNext r (match_list t o p r.points) groups q b c.next_by.new.start c.next_by.new.ranges) ended (step q here))
    (omega (arith, fits, c.loop-found.auto.ranges))

pub returns-then-not-branch-clause-before : goal.returns-then-not-branch-clause-before
returns-then-not-branch-clause-before g c = λ t o p stands groups count place begins. (returns-then-not-branch-clause-found g c t o p stands groups count place begins).many

pub loop-found-preserved : goal.loop-found-preserved
loop-found-preserved g c =
    let r = reading_of_text c.args.text in
    let fits = room-for-more c.loop-found.found (length c.args.ranges.now) c.args.width c.requires.width c.loop-found-test.true in
    let other : c.in_ok-next_by.field-0 ≡ true = search rules in (
      (c.next_by.ensures.kept.0 ∙ c.loop-found.invariant.0.0, c.next_by.ensures.kept.1 ∙ c.loop-found.invariant.0.1),
      c.next_by.ensures.start,
      λ t o p stands groups count place begins.
          let step : (q : ℕ) → Begins r c.loop-found.start q → IsNext r (match_list t o p r.points) groups q c.in_ok-next_by.field-0 c.next_by.new.start c.next_by.new.ranges
          = c.in_ok-next_by.ensures.found t o p (subst (λ (x : CompiledRegex). IsProgramOf x t o p) (sym c.loop-found.invariant.0.0) stands) groups (omega (arith, count, c.loop-found.auto.slots)) in
          many-more r (match_list t o p r.points) groups c.args.width place c.loop-found.found c.loop-found.start c.next_by.new.start
          c.loop-found.ranges c.next_by.new.ranges _ (omega arith) (c.loop-found.invariant.2 t o p stands groups count place begins)
          (λ q here. subst (λ (b : Bool). IsNext r (match_list t o p r.points) groups q b c.next_by.new.start c.next_by.new.ranges) other (step q here))
          (omega (arith, c.next_by.auto.ranges)) (omega (arith, fits, c.loop-found.auto.ranges)),
    )
