use Rattle.std.proofs.Common.{◌≡◌, false}
use Rattle.regress_front_nodes.specs.Trees.{tree}
use Rattle.regress_engine_scanning.specs.BytePairs.{IsLowPair}
use Rattle.regress_engine_scanning.specs.WordStarts.{IsLowWord}
use Rattle.regress_engine_prefix.specs.Choosing.{TellsPair, is_set, is_set_or_pair}
use Rattle.regress_engine_prefix.specs.Starts.{BeginsCharacters, IsStartOf, HitsBoundaries, IsPlain, KeepsAscii, IsAnchoredOnlyIf, HoldsAtStart}
use Rattle.regress_engine_prefix.specs.declared.start.StartPredicate.TheVariants as variant
use Rattle.regress_engine_prefix.proofs.PairLemmas.{pair-start, pair-boundary, or-keeps, no-ascii, set-passes, some-of}
use Rattle.regress_engine_prefix.proofs.StartLemmas.{start-of, holds-at_start}
use Rattle.regress_engine_prefix.proofs.UnitLemmas.{begins-characters, keeps-ascii, of-either}
use Rattle.regress_engine_prefix.proofs.UnitStarts.{pair-characters}
use Rattle.regress_engine_prefix.proofs.start.predicate_for_units.Goals as goal

pub with_low_landmark-requires-clause-lawful : goal.with_low_landmark-requires-clause-lawful
with_low_landmark-requires-clause-lawful c = (c.requires.0, c.requires.1.lawful)

pub with_low_landmark-requires-clause-characters : goal.with_low_landmark-requires-clause-characters
with_low_landmark-requires-clause-characters c =
    let t = tree c.args.regex.now.node in
    of-either (λ p. BeginsCharacters p t) c.of_prefix.result c.for_units-start.result
    (begins-characters c.of_prefix.result c.in_ok-prefix.prefix t c.of_prefix.ensures.begins c.in_ok-prefix.ensures c.of_prefix.ensures.near)
    (record { each = λ context points s some. tt; near = λ context points s some. tt; apart = λ context points s some. tt }) c.for_units-start.ensures.either

pub with_low_landmark-requires-clause-begins : goal.with_low_landmark-requires-clause-begins
with_low_landmark-requires-clause-begins c =
    let t = tree c.args.regex.now.node in
    of-either (λ p. IsStartOf p t) c.of_prefix.result c.for_units-start.result (start-of c.of_prefix.result c.in_ok-prefix.prefix t c.of_prefix.ensures.begins c.in_ok-prefix.ensures)
    (record { each = λ bytes utf8 context same s some. tt }) c.for_units-start.ensures.either

pub returns-clause-plain : goal.returns-clause-plain
returns-clause-plain c =
    or-keeps IsPlain is_set_or_pair (λ w. variant.WordStart w) c.with_pair-start.result c.with_word.result c.low_word_start_of-low_word.result c.with_word.ensures
    (or-keeps IsPlain is_set (λ p. variant.BytePair p) c.in_ok-start.start c.with_pair-start.result c.low_pair_of-low_pair.result c.with_pair-start.ensures c.in_ok-start.ensures.plain
    (λ p is passes. some-of IsLowPair c.low_pair_of-low_pair.result c.low_pair_of-low_pair.ensures.low p is))
    (λ w is passes. some-of IsLowWord c.low_word_start_of-low_word.result c.low_word_start_of-low_word.ensures.low w is)

pub returns-clause-characters : goal.returns-clause-characters
returns-clause-characters c =
    let t = tree c.args.regex.now.node in
    let prefix = c.in_ok-prefix.prefix in
    or-keeps (λ p. BeginsCharacters p t) is_set_or_pair (λ w. variant.WordStart w) c.with_pair-start.result c.with_word.result c.low_word_start_of-low_word.result c.with_word.ensures
    (or-keeps (λ p. BeginsCharacters p t) is_set (λ p. variant.BytePair p) c.in_ok-start.start c.with_pair-start.result c.low_pair_of-low_pair.result c.with_pair-start.ensures c.in_ok-start.ensures.characters
    (λ p is passes. pair-characters p prefix t (some-of (λ q. TellsPair q prefix) c.low_pair_of-low_pair.result c.low_pair_of-low_pair.ensures.tells p is) c.in_ok-prefix.ensures))
    (λ w is passes. some-of (λ v. BeginsCharacters (variant.WordStart v) t) c.low_word_start_of-low_word.result c.low_word_start_of-low_word.ensures.characters w is)

pub returns-clause-literal : goal.returns-clause-literal
returns-clause-literal c =
    let t = tree c.args.regex.now.node in
    let first = c.in_ok-start.ensures.literal
    (keeps-ascii c.of_prefix.result c.for_units-start.result c.in_ok-prefix.prefix t c.of_prefix.ensures.sequence c.in_ok-prefix.ensures c.for_units-start.ensures.kept) in
    let paired = or-keeps (KeepsAscii t) is_set (λ p. variant.BytePair p) c.in_ok-start.start c.with_pair-start.result c.low_pair_of-low_pair.result c.with_pair-start.ensures first
    (λ p is passes. no-ascii c.in_ok-start.start (variant.BytePair p) t (set-passes c.in_ok-start.start passes) first) in
    or-keeps (KeepsAscii t) is_set_or_pair (λ w. variant.WordStart w) c.with_pair-start.result c.with_word.result c.low_word_start_of-low_word.result c.with_word.ensures paired
    (λ w is passes. no-ascii c.with_pair-start.result (variant.WordStart w) t passes paired)

pub returns-clause-begins : goal.returns-clause-begins
returns-clause-begins c =
    let t = tree c.args.regex.now.node in
    let prefix = c.in_ok-prefix.prefix in
    or-keeps (λ p. IsStartOf p t) is_set_or_pair (λ w. variant.WordStart w) c.with_pair-start.result c.with_word.result c.low_word_start_of-low_word.result c.with_word.ensures
    (or-keeps (λ p. IsStartOf p t) is_set (λ p. variant.BytePair p) c.in_ok-start.start c.with_pair-start.result c.low_pair_of-low_pair.result c.with_pair-start.ensures c.in_ok-start.ensures.begins
    (λ p is passes. pair-start p prefix t (some-of (λ q. TellsPair q prefix) c.low_pair_of-low_pair.result c.low_pair_of-low_pair.ensures.tells p is) c.in_ok-prefix.ensures))
    (λ w is passes. some-of (λ v. IsStartOf (variant.WordStart v) t) c.low_word_start_of-low_word.result c.low_word_start_of-low_word.ensures.begins w is)

pub returns-clause-boundary : goal.returns-clause-boundary
returns-clause-boundary c =
    let t = tree c.args.regex.now.node in
    let prefix = c.in_ok-prefix.prefix in
    or-keeps HitsBoundaries is_set_or_pair (λ w. variant.WordStart w) c.with_pair-start.result c.with_word.result c.low_word_start_of-low_word.result c.with_word.ensures
    (or-keeps HitsBoundaries is_set (λ p. variant.BytePair p) c.in_ok-start.start c.with_pair-start.result c.low_pair_of-low_pair.result c.with_pair-start.ensures c.in_ok-start.ensures.boundary
    (λ p is passes. pair-boundary p prefix t (some-of (λ q. TellsPair q prefix) c.low_pair_of-low_pair.result c.low_pair_of-low_pair.ensures.tells p is) c.in_ok-prefix.ensures))
    (λ w is passes. some-of (λ v. HitsBoundaries (variant.WordStart v)) c.low_word_start_of-low_word.result c.low_word_start_of-low_word.ensures.boundary w is)

pub returns-clause-anchored : goal.returns-clause-anchored
returns-clause-anchored c =
    let single = c.args.regex.now.flags.multiline ≡ false in
    or-keeps (IsAnchoredOnlyIf single) is_set_or_pair (λ w. variant.WordStart w) c.with_pair-start.result c.with_word.result c.low_word_start_of-low_word.result c.with_word.ensures
    (or-keeps (IsAnchoredOnlyIf single) is_set (λ p. variant.BytePair p) c.in_ok-start.start c.with_pair-start.result c.low_pair_of-low_pair.result c.with_pair-start.ensures
    (c.in_ok-start.ensures.anchored c.args.regex.now.flags.multiline
    (of-either (IsAnchoredOnlyIf single) c.of_prefix.result c.for_units-start.result c.of_prefix.ensures.anchored tt c.for_units-start.ensures.either)) (λ p is passes. tt))
    (λ w is passes. tt)

pub returns-clause-first : goal.returns-clause-first
returns-clause-first c =
    let t = tree c.args.regex.now.node in
    or-keeps (HoldsAtStart t) is_set_or_pair (λ w. variant.WordStart w) c.with_pair-start.result c.with_word.result c.low_word_start_of-low_word.result c.with_word.ensures
    (or-keeps (HoldsAtStart t) is_set (λ p. variant.BytePair p) c.in_ok-start.start c.with_pair-start.result c.low_pair_of-low_pair.result c.with_pair-start.ensures
    (c.in_ok-start.ensures.first
    (of-either (HoldsAtStart t) c.of_prefix.result c.for_units-start.result (holds-at_start c.of_prefix.result c.in_ok-prefix.prefix t c.of_prefix.ensures.start c.in_ok-prefix.ensures) tt
    c.for_units-start.ensures.either)) (λ p is passes. tt))
    (λ w is passes. tt)
