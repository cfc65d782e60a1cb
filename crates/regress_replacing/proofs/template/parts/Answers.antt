use Rattle.std.proofs.Common.{refl, ap, ◌∙◌, arith, flat_map, rules}
use Rattle.std.proofs.lemmas.Str.Pattern.{split_parts}
use Rattle.regress_replacing.specs.TemplateParts.{part_gives}
use Rattle.regress_replacing.proofs.PartLemmas.{parts-step, parts-last, rest-shorter}
use Rattle.regress_replacing.proofs.template.parts.Goals as goal

pub loop-plain-smaller : goal.loop-plain-smaller
loop-plain-smaller c =
    let rest = c.loop-plain.rest.now in
    let cut = rw c.in-Some.is at (split_parts 0x24 rest c.split_once.result c.split_once.ensures.cases (omega arith)) in
    rest-shorter c.in-Some.plain.now c.in-Some.behind.now c.reference.result.1.now rest cut.0 c.reference.ensures.shorter

pub loop-plain-preserved : goal.loop-plain-preserved
loop-plain-preserved c =
    let rest = c.loop-plain.rest.now in
    let cut = rw c.in-Some.is at (split_parts 0x24 rest c.split_once.result c.split_once.ensures.cases (omega arith)) in (
      search rules,
      λ names text i same.
          rw (c.in_ok-push-2.ensures.items, c.in_ok-push.ensures.items)
          (parts-step names text i c.loop-plain.parts.items _ c.reference.result.0 c.in-Some.plain.now c.in-Some.behind.now c.reference.result.1.now rest cut.0 cut.1 refl
          (c.reference.ensures.begins names text i same))
          ∙ c.loop-plain.invariant.1 names text i same,
    )

pub returns-clause-read : goal.returns-clause-read
returns-clause-read c = λ names text i same.
    let rest = c.loop-plain.rest.now in
    let none = rw c.in_default.is at (split_parts 0x24 rest c.split_once.result c.split_once.ensures.cases (omega arith)) in
    ap (flat_map (part_gives names text i)) c.in_ok-push-3.ensures.items
    ∙ parts-last names text i c.loop-plain.parts.items _ rest none refl ∙ c.loop-plain.invariant.1 names text i same
