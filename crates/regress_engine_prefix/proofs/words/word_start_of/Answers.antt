use Rattle.std.proofs.Common.{sym, ◌∙◌}
use Rattle.regress_front_nodes.specs.Trees.{tree}
use Rattle.regress_engine_prefix.proofs.UnitStarts.{word-characters}
use Rattle.regress_engine_prefix.proofs.WordLemmas.{word-start, word-boundary}
use Rattle.regress_engine_prefix.proofs.words.word_start_of.Goals as goal

pub returns-clause-begins : goal.returns-clause-begins
returns-clause-begins c =
    word-start _ c.in_ok-first.first (tree c.args.node.now) c.in_ok-starts.ensures (c.are_of_words.ensures c.if-not-are_of_words.false)
    (λ b small e. c.word_bytes-words.ensures b small (sym (c.in_ok-word.ensures b small) ∙ e)) c.args.prefix.now c.in_ok-first.ensures.weaker c.requires
    (c.asks_boundary.ensures c.if-not-asks_boundary.false)

pub returns-clause-characters : goal.returns-clause-characters
returns-clause-characters c = λ low.
    word-characters _ c.in_ok-first.first (tree c.args.node.now) low.0 low.1 c.in_ok-starts.ensures (c.are_of_words.ensures c.if-not-are_of_words.false)
    (λ b small e. c.word_bytes-words.ensures b small (sym (c.in_ok-word.ensures b small) ∙ e)) c.args.prefix.now c.in_ok-first.ensures.weaker c.requires
    (c.asks_boundary.ensures c.if-not-asks_boundary.false)

pub returns-clause-boundary : goal.returns-clause-boundary
returns-clause-boundary c =
    word-boundary _ c.in_ok-first.first (tree c.args.node.now) c.in_ok-starts.ensures (c.are_of_words.ensures c.if-not-are_of_words.false)
    (λ b small e. c.word_bytes-words.ensures b small (sym (c.in_ok-word.ensures b small) ∙ e)) c.args.prefix.now c.in_ok-first.ensures.weaker c.requires
