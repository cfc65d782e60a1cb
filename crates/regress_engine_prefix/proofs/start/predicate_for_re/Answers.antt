use Rattle.std.proofs.Common.{◌≡◌, false}
use Rattle.regress_front_nodes.specs.Trees.{tree}
use Rattle.regress_engine_prefix.specs.Choosing.{TellsPair, is_set, is_set_or_pair}
use Rattle.regress_engine_prefix.specs.Starts.{IsStartOf, HitsBoundaries, KeepsLiteral, IsAnchoredOnlyIf, HoldsAtStart}
use Rattle.regress_engine_prefix.specs.declared.start.StartPredicate.TheVariants as variant
use Rattle.regress_engine_prefix.proofs.PairLemmas.{pair-start, pair-boundary, or-keeps, no-literal, set-passes, some-of}
use Rattle.regress_engine_prefix.proofs.StartLemmas.{start-of, holds-at_start, keeps-literal}
use Rattle.regress_engine_prefix.proofs.start.predicate_for_re.Goals as goal

pub with_landmark-requires : goal.with_landmark-requires
with_landmark-requires c = record {
  lawful = (c.requires.0, c.requires.1.lawful);
  begins = start-of c.of_prefix-start.result c.in_ok-prefix.prefix (tree c.args.regex.now.node) c.of_prefix-start.ensures.begins c.in_ok-prefix.ensures;
  boundary = c.of_prefix-start.ensures.boundary;
}

pub returns-clause-begins : goal.returns-clause-begins
returns-clause-begins c =
    let t = tree c.args.regex.now.node in
    let prefix = c.in_ok-prefix.prefix in
    or-keeps (λ p. IsStartOf p t) is_set_or_pair (λ w. variant.WordStart w) c.with_pair-start.result c.with_word.result c.word_start_of-word.result c.with_word.ensures
    (or-keeps (λ p. IsStartOf p t) is_set (λ p. variant.BytePair p) c.in_ok-start.start c.with_pair-start.result c.pair_of-pair.result c.with_pair-start.ensures c.in_ok-start.ensures.begins
    (λ p is passes. pair-start p prefix t (some-of (λ q. TellsPair q prefix) c.pair_of-pair.result c.pair_of-pair.ensures p is) c.in_ok-prefix.ensures))
    (λ w is passes. some-of (λ v. IsStartOf (variant.WordStart v) t) c.word_start_of-word.result c.word_start_of-word.ensures.begins w is)

pub returns-clause-boundary : goal.returns-clause-boundary
returns-clause-boundary c =
    let t = tree c.args.regex.now.node in
    let prefix = c.in_ok-prefix.prefix in
    or-keeps HitsBoundaries is_set_or_pair (λ w. variant.WordStart w) c.with_pair-start.result c.with_word.result c.word_start_of-word.result c.with_word.ensures
    (or-keeps HitsBoundaries is_set (λ p. variant.BytePair p) c.in_ok-start.start c.with_pair-start.result c.pair_of-pair.result c.with_pair-start.ensures c.in_ok-start.ensures.boundary
    (λ p is passes. pair-boundary p prefix t (some-of (λ q. TellsPair q prefix) c.pair_of-pair.result c.pair_of-pair.ensures p is) c.in_ok-prefix.ensures))
    (λ w is passes. some-of (λ v. HitsBoundaries (variant.WordStart v)) c.word_start_of-word.result c.word_start_of-word.ensures.boundary w is)

pub returns-clause-literal : goal.returns-clause-literal
returns-clause-literal c =
    let t = tree c.args.regex.now.node in
    let paired = or-keeps (KeepsLiteral t) is_set (λ p. variant.BytePair p) c.in_ok-start.start c.with_pair-start.result c.pair_of-pair.result c.with_pair-start.ensures
    (c.in_ok-start.ensures.literal (keeps-literal c.of_prefix-start.result c.in_ok-prefix.prefix t c.of_prefix-start.ensures.sequence c.in_ok-prefix.ensures))
    (λ p is passes. no-literal c.in_ok-start.start (variant.BytePair p) t (set-passes c.in_ok-start.start passes)
    (c.in_ok-start.ensures.literal (keeps-literal c.of_prefix-start.result c.in_ok-prefix.prefix t c.of_prefix-start.ensures.sequence c.in_ok-prefix.ensures))) in
    or-keeps (KeepsLiteral t) is_set_or_pair (λ w. variant.WordStart w) c.with_pair-start.result c.with_word.result c.word_start_of-word.result c.with_word.ensures paired
    (λ w is passes. no-literal c.with_pair-start.result (variant.WordStart w) t passes paired)

pub returns-clause-anchored : goal.returns-clause-anchored
returns-clause-anchored c =
    let single = c.args.regex.now.flags.multiline ≡ false in
    or-keeps (IsAnchoredOnlyIf single) is_set_or_pair (λ w. variant.WordStart w) c.with_pair-start.result c.with_word.result c.word_start_of-word.result c.with_word.ensures
    (or-keeps (IsAnchoredOnlyIf single) is_set (λ p. variant.BytePair p) c.in_ok-start.start c.with_pair-start.result c.pair_of-pair.result c.with_pair-start.ensures
    (c.in_ok-start.ensures.anchored c.args.regex.now.flags.multiline c.of_prefix-start.ensures.anchored) (λ p is passes. tt))
    (λ w is passes. tt)

pub returns-clause-first : goal.returns-clause-first
returns-clause-first c =
    let t = tree c.args.regex.now.node in
    or-keeps (HoldsAtStart t) is_set_or_pair (λ w. variant.WordStart w) c.with_pair-start.result c.with_word.result c.word_start_of-word.result c.with_word.ensures
    (or-keeps (HoldsAtStart t) is_set (λ p. variant.BytePair p) c.in_ok-start.start c.with_pair-start.result c.pair_of-pair.result c.with_pair-start.ensures
    (c.in_ok-start.ensures.first (holds-at_start c.of_prefix-start.result c.in_ok-prefix.prefix t c.of_prefix-start.ensures.start c.in_ok-prefix.ensures)) (λ p is passes. tt))
    (λ w is passes. tt)
