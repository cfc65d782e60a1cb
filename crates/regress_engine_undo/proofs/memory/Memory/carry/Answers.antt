use Rattle.std.proofs.Common.{◌≡◌, ◌<◌, length, map, refl, sym, ap, ◌∙◌, inl, inr, arith}
use Rattle.std.proofs.lemmas.Bool.{cases_lt}
use Rattle.std.proofs.lemmas.List.{length-map, get_or-map}
use Rattle.regress_engine_runs.specs.States.{unset, mixed}
use Rattle.regress_engine_search.specs.StateViews.{marks_of}
use Rattle.regress_engine_undo.specs.Held.{Held, held}
use Rattle.regress_engine_undo.proofs.LeaveLemmas.{carried, carried-same, carried-count}
use Rattle.regress_engine_undo.proofs.StepLemmas.{mark-sound, sound-then}
use Rattle.regress_engine_undo.proofs.memory.Memory.carry.Goals as goal
use Rattle.regress_engine_runs.proofs.MixedGroups.{mixed-none}

pub loop-group-init : goal.loop-group-init
loop-group-init c = record {
  loops = refl;
  groups = sym (mixed-none 0 c.args.first c.args.first (map marks_of c.args.others.now) (held c.args.self.now).groups (omega arith));
  count = refl;
  same = λ program input dir. refl;
  none = λ none. refl;
  sound = λ program v was. was;
}

pub loop-group-preserved : goal.loop-group-preserved
loop-group-preserved c =
    let h = held c.args.self.now in
    let j = held c.loop-group.self in
    let k = held c.write_group.new.self in
    let g = c.loop-group.group in
    let others = c.args.others.now in
    let is = c.in_ok-write_group.ensures in
    let low = c.loop-group.auto.group in
    let there = c.requires.there g low c.loop-group-test.true in
    let many = length-map others marks_of in
    let count = c.requires.count in
    let old_count = c.loop-group.invariant.count in
    let inside : g < length others = omega (arith, there, count) in
    let same = sym (get_or-map marks_of others g _ unset inside) in
    record {
      loops = ap (λ (x : Held). x.loops) is ∙ c.loop-group.invariant.loops;
      groups = carried j k g c.args.first (map marks_of others) h.groups _ is c.loop-group.invariant.groups same low (many ∙ count) there;
      count = carried-count j k g _ is ∙ c.loop-group.invariant.count;
      none = λ none. let less = c.loop-group-test.true in absurd (omega (arith, none, low, less));
      same = λ program input dir. carried-same j k g _ is program input dir ∙ c.loop-group.invariant.same program input dir;
      sound = sound-then h j k c.loop-group.invariant.sound (mark-sound j k g _ is (omega (arith, there, old_count)));
    }

pub returns-clause-groups : goal.returns-clause-groups
returns-clause-groups c =
    let others = map marks_of c.args.others.now in
    let old = (held c.args.self.now).groups in
    let low = c.loop-group.auto.group in
    let past = c.loop-group-test.false in
    elim (cases_lt c.args.first c.args.last) [
      | inl less ↦ let at : c.loop-group.group ≡ c.args.last = omega (arith, less, past, c.loop-group.auto.group-end (omega (arith, less))) in c.loop-group.invariant.groups ∙ ap (λ n. mixed 0 c.args.first n others old) at
      | inr none ↦ c.loop-group.invariant.groups ∙ ap (λ n. mixed 0 c.args.first n others old) (c.loop-group.invariant.none none) ∙ mixed-none 0 c.args.first c.args.first others old (omega arith)
          ∙ sym (mixed-none 0 c.args.first c.args.last others old none)
    ]
