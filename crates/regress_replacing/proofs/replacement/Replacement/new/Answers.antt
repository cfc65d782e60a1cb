use Rattle.std.proofs.Common.{[], refl, ap, ◌∙◌, arith, flat_map, rules}
use Rattle.regress_replacing.specs.Pieces.{piece_gives}
use Rattle.std.proofs.lemmas.Str.Pattern.{split_parts}
use Rattle.regress_replacing.proofs.PieceLemmas.{pieces-step, pieces-last, left-shorter, from-dollar}
use Rattle.regress_replacing.proofs.replacement.Replacement.new.Goals as goal

pub reference-requires : goal.reference-requires
reference-requires c =
    let rest = c.loop-plain.rest.now in
    let parts = rw c.in-Some.is at (split_parts 0x24 rest c.split_once.result c.split_once.ensures.cases (omega arith)) in
    c.range_from.ensures.value ∙ from-dollar c.in-Some.plain.now c.in-Some.behind.now rest parts.0

pub loop-plain-smaller : goal.loop-plain-smaller
loop-plain-smaller c =
    let rest = c.loop-plain.rest.now in
    let parts = rw c.in-Some.is at (split_parts 0x24 rest c.split_once.result c.split_once.ensures.cases (omega arith)) in
    left-shorter c.in-Some.plain.now c.in-Some.behind.now c.reference.result.1.now rest _ parts.0 (c.reference.ensures.rest (λ _. []) (λ _. []))

pub loop-plain-preserved : goal.loop-plain-preserved
loop-plain-preserved c =
    let rest = c.loop-plain.rest.now in
    let parts = rw c.in-Some.is at (split_parts 0x24 rest c.split_once.result c.split_once.ensures.cases (omega arith)) in (
      search rules,
      λ by_number by_name.
          rw (c.in_ok-push-2.ensures.items, c.in_ok-push.ensures.items)
          (pieces-step by_number by_name c.loop-plain.pieces.items _ c.reference.result.0 c.in-Some.plain.now c.in-Some.behind.now c.reference.result.1.now rest parts.0 parts.1 refl
          (c.reference.ensures.gives by_number by_name) (c.reference.ensures.rest by_number by_name))
          ∙ c.loop-plain.invariant.1 by_number by_name,
    )

pub invariant_of-result : goal.invariant_of-result
invariant_of-result c =
    let rest = c.loop-plain.rest.now in
    let none = rw c.in_default.is at (split_parts 0x24 rest c.split_once.result c.split_once.ensures.cases (omega arith)) in
    record {
      read = λ by_number by_name.
          ap (flat_map (piece_gives by_number by_name)) c.in_ok-push-3.ensures.items
          ∙ pieces-last by_number by_name c.loop-plain.pieces.items _ rest none refl ∙ c.loop-plain.invariant.1 by_number by_name;
    }
