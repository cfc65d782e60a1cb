use Rattle.std.proofs.Common.{refl, sym, ap, length, arith}
use Rattle.std.proofs.lemmas.Result.{IfOk-weaker}
use Rattle.regress_meaning.specs.Pattern.{character}
use Rattle.regress_front_tokens.specs.Cursors.{unread}
use Rattle.regress_front_tokens.specs.Escapes.{mode_view}
use Rattle.regress_front_syntax.specs.Parsing.{place}
use Rattle.regress_front_tokens.proofs.TreeLaws.{tree-Character}
use Rattle.regress_front_tokens.proofs.RangeLemmas.{opens-Character}
use Rattle.regress_front_syntax.proofs.MarkLemmas.{Leads_further}
use Rattle.regress_front_syntax.proofs.TermLemmas.{leaf-grows, single-answer, character-read, character-refused}
use Rattle.regress_front_syntax.proofs.parser.Parser.character.Goals as goal

pub returns-then-not-is_at_pattern_character-clause-answer : goal.returns-then-not-is_at_pattern_character-clause-answer
returns-then-not-is_at_pattern_character-clause-answer c = λ nesting shallow.
    character-refused (mode_view c.args.mode.now) c.args.self.now.groups (unread c.args.self.now.cursor) (sym c.if-not-is_at_pattern_character.ensures)

pub returns-clause-answer : goal.returns-clause-answer
returns-clause-answer c = λ nesting shallow.
    let m = mode_view c.args.mode.now in
    let k = c.args.self.now.groups in
    let r = c.args.self.now.loops in
    let t = unread c.args.self.now.cursor in
    let u = unread c.next.new.self in
    let point = c.in-Some.point in
    let leads = Leads_further c.args.self.now.cursor c.next.new.self c.in-Some.ensures.kept nesting k r (omega (arith, ap length c.in-Some.ensures.read)) in
    single-answer nesting k r t u _ (place nesting c.repeated.new.self) (character point) _ _ c.repeated.result
    (leaf-grows nesting k r t u (character point) (record { names = refl; deep = refl; loops = refl }) shallow leads)
    (character-read m k t point u (sym c.if-not-is_at_pattern_character.ensures) c.in-Some.ensures.read) (tree-Character point) refl refl refl refl (c.repeated.ensures.answer nesting)

pub returns-clause-ranges : goal.returns-clause-ranges
returns-clause-ranges c =
    let k = c.args.self.now.groups in
    IfOk-weaker c.repeated.result _ _ (λ s more. more k (ap (λ f. f k) (opens-Character c.in-Some.point))) c.repeated.ensures.ranges
