use Rattle.std.proofs.Common.{ℕ, None, map, option_map, slice_set, sym, ap, ◌∙◌, refl, arith}
use Rattle.std.proofs.lemmas.List.{map-set, set_past, length-map}
use Rattle.regress_evaluator.specs.PlaceViews.{ends}
use Rattle.regress_evaluator.specs.StateViews.{state_of}
use Rattle.regress_evaluator.proofs.RepetitionLemmas.{with_groups, cleared-none, cleared-more, cleared_past}
use Rattle.regress_evaluator.proofs.state.State.cleared.Goals.{in-Some, in_default}
use Rattle.regress_evaluator.proofs.state.State.cleared.Goals as goal

pub loop-group-init : goal.loop-group-init
loop-group-init c = (c.in_ok-state.ensures ∙ sym (cleared-none c.args.enclosed.now.start c.args.enclosed.now.start (state_of c.args.self.now) (omega arith)), λ empty. refl)

pub loop-group-preserved : goal.loop-group-preserved
loop-group-preserved c = (
  let s = c.loop-group.state in
      let groups = s.groups.items in
      let group = c.loop-group.group in
      let more = cleared-more c.args.enclosed.now.start group (state_of c.args.self.now) (state_of s) (omega arith) c.loop-group.invariant.0 in
      elim c.match-get_mut.branch [
        | in-Some w ↦
            ap state_of w.state-is
            ∙ ap (with_groups (state_of s)) (map-set (option_map ends) groups c.from.result None
            ∙ ap (λ (i : ℕ). slice_set (map (option_map ends) groups) i None) c.from.ensures)
            ∙ more
        | in_default w ↦
            ap state_of w.state-is
            ∙ ap (with_groups (state_of s)) (sym (set_past (map (option_map ends) groups) group None
            (omega (arith, length-map groups (option_map ends), c.from.ensures, w.in_default.ensures.item))))
            ∙ more
      ],
  λ empty. absurd (omega arith),
)

pub returns : goal.returns
returns c =
    c.loop-group.invariant.0
    ∙ cleared_past c.args.enclosed.now.start c.args.enclosed.now.end c.loop-group.group (state_of c.args.self.now) (omega arith) (λ some. omega arith) c.loop-group.invariant.1
