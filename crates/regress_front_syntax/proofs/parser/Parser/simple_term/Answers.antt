use Rattle.std.proofs.Common.{◌≡◌, ◌==◌, ◌∷◌, refl, sym, ap, ◌∙◌, drop}
use Rattle.std.proofs.lemmas.Result.{IfOk-weaker}
use Rattle.regress_meaning.specs.Text.{is_at}
use Rattle.regress_meaning.specs.Pattern.{any, line_start, line_end}
use Rattle.regress_meaning.specs.Reading.{read_term, disjunction_at, escape_opening, class_opening}
use Rattle.regress_front_tokens.specs.Cursors.{unread}
use Rattle.regress_front_tokens.specs.Escapes.{mode_view}
use Rattle.regress_front_syntax.specs.Parsing.{place, character_opening}
use Rattle.regress_front_tokens.proofs.TreeLaws.{tree-Any, tree-LineStart, tree-LineEnd}
use Rattle.regress_front_tokens.proofs.RangeLemmas.{opens-Any, opens-LineStart, opens-LineEnd}
use Rattle.regress_front_syntax.proofs.AnswerLemmas.{at, answer_there, answer_same, Leads_drop}
use Rattle.regress_front_syntax.proofs.TermLemmas.{leaf-grows, assertion-answer, single-answer, answer_behind, mark-stands, start-read, end-read, dot-read, backslash-read, bracket-read, other-read}
use Rattle.regress_front_syntax.proofs.parser.Parser.simple_term.Goals as goal

pub returns-then-eat-clause-answer : goal.returns-then-eat-clause-answer
returns-then-eat-clause-answer c =
    let m = mode_view c.args.mode.now in
    let k = c.args.self.now.groups in
    let t = unread c.args.self.now.cursor in
    assertion-answer c.args.nesting k c.args.self.now.loops t _ line_start _ _ (record { names = refl; deep = refl; loops = refl }) c.requires.shallow
    (start-read m k t (sym c.if-eat.ensures.found)) tree-LineStart refl refl refl c.if-eat.ensures.read

pub returns-then-eat-2-clause-answer : goal.returns-then-eat-2-clause-answer
returns-then-eat-2-clause-answer c =
    let m = mode_view c.args.mode.now in
    let k = c.args.self.now.groups in
    let t = unread c.args.self.now.cursor in
    let same : unread c.eat.new.self ≡ t = c.if-eat.ensures.read in
    assertion-answer c.args.nesting k c.args.self.now.loops t _ line_end _ _ (record { names = refl; deep = refl; loops = refl }) c.requires.shallow
    (end-read m k t (ap (is_at (λ x. x == 0x24)) (sym same) ∙ sym c.if-eat-2.ensures.found)) tree-LineEnd refl refl refl (c.if-eat-2.ensures.read ∙ ap (drop 1) same)

pub returns-then-eat-3-clause-answer : goal.returns-then-eat-3-clause-answer
returns-then-eat-3-clause-answer c =
    let m = mode_view c.args.mode.now in
    let n = c.args.nesting in
    let k = c.args.self.now.groups in
    let r = c.args.self.now.loops in
    let t = unread c.args.self.now.cursor in
    let same : unread c.eat-2.new.self ≡ t = c.if-eat-2.ensures.read ∙ c.if-eat.ensures.read in
    let rest : unread c.eat-3.new.self ≡ drop 1 t = c.if-eat-3.ensures.read ∙ ap (drop 1) same in
    let next = place n c.escape.new.self in
    answer_same (place n c.args.self.now) next (read_term m (disjunction_at m) k (escape_opening m (drop 1 t))) _ c.escape.result
    (backslash-read m k t (ap (is_at (λ x. x == 0x5C)) (sym same) ∙ sym c.if-eat-3.ensures.found))
    (answer_there (place n c.args.self.now) (at n k r (drop 1 t)) next (read_term m (disjunction_at m) k (escape_opening m (drop 1 t))) c.escape.result (Leads_drop n k r t) refl refl refl
    (rw rest at c.escape.ensures.answer n c.requires.shallow))

pub returns-then-eat-4-clause-answer : goal.returns-then-eat-4-clause-answer
returns-then-eat-4-clause-answer c =
    let m = mode_view c.args.mode.now in
    let n = c.args.nesting in
    let k = c.args.self.now.groups in
    let r = c.args.self.now.loops in
    let t = unread c.args.self.now.cursor in
    let same : unread c.eat-3.new.self ≡ t = c.if-eat-3.ensures.read ∙ c.if-eat-2.ensures.read ∙ c.if-eat.ensures.read in
    let rest : unread c.eat-4.new.self ≡ drop 1 t = c.if-eat-4.ensures.read ∙ ap (drop 1) same in
    single-answer n k r t (drop 1 t) _ (place n c.repeated.new.self) any _ _ c.repeated.result
    (leaf-grows n k r t (drop 1 t) any (record { names = refl; deep = refl; loops = refl }) c.requires.shallow (Leads_drop n k r t))
    (dot-read m k t (ap (is_at (λ x. x == 0x2E)) (sym same) ∙ sym c.if-eat-4.ensures.found)) tree-Any refl refl refl rest (c.repeated.ensures.answer n)

pub returns-then-eat-5-clause-answer : goal.returns-then-eat-5-clause-answer
returns-then-eat-5-clause-answer c =
    let m = mode_view c.args.mode.now in
    let n = c.args.nesting in
    let k = c.args.self.now.groups in
    let r = c.args.self.now.loops in
    let t = unread c.args.self.now.cursor in
    let same : unread c.eat-4.new.self ≡ t = c.if-eat-4.ensures.read ∙ c.if-eat-3.ensures.read ∙ c.if-eat-2.ensures.read ∙ c.if-eat.ensures.read in
    let rest : unread c.eat-5.new.self ≡ drop 1 t = c.if-eat-5.ensures.read ∙ ap (drop 1) same in
    let mark = ap (is_at (λ x. x == 0x5B)) (sym same) ∙ sym c.if-eat-5.ensures.found in
    answer_behind 0x5B n k r t (unread c.eat-5.new.self) (place n c.class.new.self) (read_term m (disjunction_at m) k (class_opening m (unread c.eat-5.new.self))) _ c.class.result
    (mark-stands m k t 0x5B mark ∙ ap (λ u. 0x5B ∷ u) (sym rest)) (bracket-read m k t mark ∙ ap (λ u. read_term m (disjunction_at m) k (class_opening m u)) (sym rest)) c.class.ensures.answer

pub returns-clause-answer : goal.returns-clause-answer
returns-clause-answer c =
    let m = mode_view c.args.mode.now in
    let n = c.args.nesting in
    let k = c.args.self.now.groups in
    let t = unread c.args.self.now.cursor in
    let one : unread c.eat.new.self ≡ t = c.if-eat.ensures.read in
    let two : unread c.eat-2.new.self ≡ t = c.if-eat-2.ensures.read ∙ one in
    let three : unread c.eat-3.new.self ≡ t = c.if-eat-3.ensures.read ∙ two in
    let four : unread c.eat-4.new.self ≡ t = c.if-eat-4.ensures.read ∙ three in
    let five : unread c.eat-5.new.self ≡ t = c.if-eat-5.ensures.read ∙ four in
    answer_same (place n c.args.self.now) (place n c.character.new.self) (read_term m (disjunction_at m) k (character_opening m t)) _ c.character.result
    (other-read m k t c.requires.no_group (sym c.if-eat.ensures.found) (ap (is_at (λ x. x == 0x24)) (sym one) ∙ sym c.if-eat-2.ensures.found) (ap (is_at (λ x. x == 0x5C)) (sym two) ∙ sym c.if-eat-3.ensures.found)
    (ap (is_at (λ x. x == 0x2E)) (sym three) ∙ sym c.if-eat-4.ensures.found) (ap (is_at (λ x. x == 0x5B)) (sym four) ∙ sym c.if-eat-5.ensures.found))
    (rw five at c.character.ensures.answer n c.requires.shallow)

pub returns-then-eat-clause-ranges : goal.returns-then-eat-clause-ranges
returns-then-eat-clause-ranges c = ap (λ f. f c.args.self.now.groups) opens-LineStart

pub returns-then-eat-2-clause-ranges : goal.returns-then-eat-2-clause-ranges
returns-then-eat-2-clause-ranges c = ap (λ f. f c.args.self.now.groups) opens-LineEnd

pub returns-then-eat-4-clause-ranges : goal.returns-then-eat-4-clause-ranges
returns-then-eat-4-clause-ranges c =
    let k = c.args.self.now.groups in
    IfOk-weaker c.repeated.result _ _ (λ s more. more k (ap (λ f. f k) opens-Any)) c.repeated.ensures.ranges
