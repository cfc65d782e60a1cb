use Rattle.std.proofs.Common.{List, ℕ, ◌∙◌, encode_utf8_all, ap, sym, subst, map-id}
use Rattle.std.proofs.lemmas.Iterator.{YieldsList-from_chars}
use Rattle.std.proofs.lemmas.Iterator.Consumers.{YieldsList-end}
use Rattle.std.proofs.lemmas.Str.{encodes-append}
use Rattle.std.specs.Str.{chars}
use Rattle.regress_meaning.specs.Pattern.{Pattern}
use Rattle.regress_meaning.specs.Flags.{Options}
use Rattle.regress_meaning.specs.Grammar.{Spells}
use Rattle.regress_meaning.specs.Matches.{match_list}
use Rattle.regress_meaning.specs.Literal.{escaped_text, literal_pattern}
use Rattle.regress_replacing.proofs.EscapeLemmas.{escaped-append, escaped-read_back}
use Rattle.regress_replacing.proofs.escaping.escape.Goals as goal

pub loop-c-init : goal.loop-c-init
unfolding escaped_text
loop-c-init c = c.in_ok-escaped.ensures.bytes

pub loop-c-preserved : goal.loop-c-preserved
loop-c-preserved c =
    rw (escaped-append, encodes-append, ← c.loop-c.invariant) c.in_ok-push_escaped.ensures

pub returns-clause-escaped : goal.returns-clause-escaped
returns-clause-escaped c =
    let done = YieldsList-end (YieldsList-from_chars c.args.text.now c.utf8.text cc) c.loop-c.yielded _ c.loop-c.yielded_by _ _ c.in-None.is c.next.ensures.steps in
    c.loop-c.invariant ∙ ap (λ cs. encode_utf8_all (escaped_text cs)) (sym (map-id c.loop-c.yielded) ∙ done.0)

pub returns-clause-spells : goal.returns-clause-spells
returns-clause-spells c = λ t o.
    let points = chars c.args.text.now in
    subst (λ (cs : List ℕ). Spells t o cs (literal_pattern points))
    (sym (ap chars (returns-clause-escaped c) ∙ escaped-read_back c.args.text.now c.utf8.text)) (c.escaped_texts_spell_literals.ensures.spells t o points)

pub returns-clause-within : goal.returns-clause-within
returns-clause-within c = c.escaped_texts_spell_literals.ensures.within (chars c.args.text.now)

pub returns-clause-finds : goal.returns-clause-finds
returns-clause-finds c = λ t o p spelled points place.
    ap (λ (q : Pattern). match_list t o q points place) (c.spells_one_tree.ensures t o _ p _ spelled (returns-clause-spells c t o))
    ∙ c.literals_match_their_occurrences.ensures t o (chars c.args.text.now) points place
