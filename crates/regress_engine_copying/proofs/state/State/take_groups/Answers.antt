use Rattle.std.proofs.Common.{◌≡◌, List, length, refl, sym, ap, ◌∙◌, inl, inr, arith}
use Rattle.std.proofs.lemmas.Bool.{cases_lt}
use Rattle.std.proofs.lemmas.List.{length-set}
use Rattle.regress_engine_runs.specs.States.{Marks, Whole, mixed}
use Rattle.regress_engine_runs.proofs.MixedGroups.{mixed-none}
use Rattle.regress_engine_copying.specs.StateOf.{state_of}
use Rattle.regress_engine_copying.proofs.StateLemmas.{carried}
use Rattle.regress_engine_copying.proofs.state.State.take_groups.Goals as goal

pub loop-group-init : goal.loop-group-init
loop-group-init c =
    let s = state_of c.args.self.now in
    record {
      state = ap (λ (gs : List Marks). record s { groups = gs }) (sym (mixed-none 0 c.args.first c.args.first (state_of c.args.other.now).groups s.groups (omega arith)));
      count = refl;
      none = λ none. refl;
    }

pub group_data-marks-requires : goal.group_data-marks-requires
group_data-marks-requires c =
    let there = c.requires.there c.loop-group.group c.loop-group.auto.group c.loop-group-test.true in
    let count = c.requires.count in
    omega (arith, there, count)

pub set_group-requires : goal.set_group-requires
set_group-requires c =
    let there = c.requires.there c.loop-group.group c.loop-group.auto.group c.loop-group-test.true in
    let count = c.loop-group.invariant.count in
    omega (arith, there, count)

pub loop-group-preserved : goal.loop-group-preserved
loop-group-preserved c =
    let s = state_of c.args.self.now in
    let low = c.loop-group.auto.group in
    let there = c.requires.there c.loop-group.group low c.loop-group-test.true in
    record {
      state = carried s (state_of c.loop-group.self) (state_of c.set_group.new.self) c.loop-group.group c.args.first (state_of c.args.other.now).groups _ c.set_group.ensures c.loop-group.invariant.state
          c.group_data-marks.ensures low c.requires.count there;
      count = ap (λ (w : Whole). length w.groups) c.set_group.ensures ∙ length-set (state_of c.loop-group.self).groups c.loop-group.group _ ∙ c.loop-group.invariant.count;
      none = λ none. let less = c.loop-group-test.true in absurd (omega (arith, none, low, less));
    }

pub returns-clause-taken : goal.returns-clause-taken
returns-clause-taken c =
    let s = state_of c.args.self.now in
    let others = (state_of c.args.other.now).groups in
    let low = c.loop-group.auto.group in
    let past = c.loop-group-test.false in
    let at = λ (gs : List Marks). record s { groups = gs } in
    elim (cases_lt c.args.first c.args.last) [
      | inl less ↦ let here : c.loop-group.group ≡ c.args.last = omega (arith, less, past, c.loop-group.auto.group-end (omega (arith, less))) in c.loop-group.invariant.state ∙ ap (λ n. at (mixed 0 c.args.first n others s.groups)) here
      | inr none ↦ c.loop-group.invariant.state ∙ ap (λ n. at (mixed 0 c.args.first n others s.groups)) (c.loop-group.invariant.none none)
          ∙ ap at (mixed-none 0 c.args.first c.args.first others s.groups (omega arith) ∙ sym (mixed-none 0 c.args.first c.args.last others s.groups none))
    ]
