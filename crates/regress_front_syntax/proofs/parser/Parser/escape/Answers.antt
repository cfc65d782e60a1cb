use Rattle.std.proofs.Common.{◌==◌, refl, sym, ap, ◌∙◌, arith}
use Rattle.std.proofs.lemmas.Result.{IfOk-weaker, err_from_is_err_and}
use Rattle.regress_meaning.specs.Text.{is_at}
use Rattle.regress_meaning.specs.Pattern.{word_boundary}
use Rattle.regress_meaning.specs.Grammar.{tree_of}
use Rattle.regress_front_tokens.specs.Cursors.{unread}
use Rattle.regress_front_tokens.specs.Escapes.{mode_view, escape_view}
use Rattle.regress_front_syntax.specs.Parsing.{place}
use Rattle.regress_front_tokens.proofs.TreeLaws.{tree-WordBoundary}
use Rattle.regress_front_tokens.proofs.RangeLemmas.{opens-WordBoundary}
use Rattle.regress_front_syntax.proofs.MarkLemmas.{Leads_further}
use Rattle.regress_front_syntax.proofs.TermLemmas.{progress-through, tree_of-leaf, leaf-grows, assertion-answer, single-answer, boundary-read, escape-read, escape-refused}
use Rattle.regress_front_syntax.proofs.parser.Parser.escape.Goals as goal

pub returns-then-is_at_any-clause-answer : goal.returns-then-is_at_any-clause-answer
returns-then-is_at_any-clause-answer c = λ nesting shallow.
    let m = mode_view c.args.mode.now in
    let k = c.args.self.now.groups in
    let t = unread c.args.self.now.cursor in
    assertion-answer nesting k c.args.self.now.loops t _ (word_boundary (is_at (λ x. x == 0x42) t)) _ _ (record { names = refl; deep = refl; loops = refl }) shallow
    (boundary-read m k t (sym c.if-is_at_any.ensures)) (tree-WordBoundary c.is_at-negated.result ∙ ap word_boundary c.is_at-negated.ensures) refl refl refl c.bump.ensures.read

pub returns-in_err-escape-clause-answer : goal.returns-in_err-escape-clause-answer
returns-in_err-escape-clause-answer c =
    let m = mode_view c.args.mode.now in
    let p = err_from_is_err_and c.from_residual.result c.from_residual.ensures.1 in
    rw (p.1, p.2) (λ nesting shallow.
    escape-refused m c.args.self.now.groups (unread c.args.self.now.cursor) (place nesting c.args.self.now) c.in_err-escape.field-0.0 _ (sym c.if-is_at_any.ensures) c.in_err-escape.ensures.read)

pub returns-clause-answer : goal.returns-clause-answer
returns-clause-answer c = λ nesting shallow.
    let m = mode_view c.args.mode.now in
    let k = c.args.self.now.groups in
    let r = c.args.self.now.loops in
    let t = unread c.args.self.now.cursor in
    let u = unread c.escape.new.self in
    let e = escape_view c.in_ok-escape.escape in
    let less = (c.reading_leaves_less.ensures m t).escape e u c.in_ok-escape.ensures.read in
    let leads = Leads_further c.args.self.now.cursor c.escape.new.self c.in_ok-escape.ensures.kept nesting k r (omega arith) in
    single-answer nesting k r t u _ (place nesting c.repeated.new.self) (tree_of e) _ _ c.repeated.result (leaf-grows nesting k r t u (tree_of e) (tree_of-leaf e) shallow leads)
    (escape-read m k t e u (sym c.if-is_at_any.ensures) c.in_ok-escape.ensures.read) c.tree_of.ensures.same refl refl refl refl (c.repeated.ensures.answer nesting)

pub returns-clause-progress : goal.returns-clause-progress
returns-clause-progress c =
    let m = mode_view c.args.mode.now in
    let less = (c.reading_leaves_less.ensures m (unread c.args.self.now.cursor)).escape (escape_view c.in_ok-escape.escape) (unread c.escape.new.self) c.in_ok-escape.ensures.read in
    progress-through c.repeated.result _ _ _ (omega arith) c.repeated.ensures.progress

pub returns-then-is_at_any-clause-ranges : goal.returns-then-is_at_any-clause-ranges
returns-then-is_at_any-clause-ranges c = ap (λ f. f c.args.self.now.groups) (opens-WordBoundary c.is_at-negated.result)

pub returns-clause-ranges : goal.returns-clause-ranges
returns-clause-ranges c =
    let k = c.args.self.now.groups in
    IfOk-weaker c.repeated.result _ _ (λ s more. more k (ap (λ f. f k) c.tree_of.ensures.ranges)) c.repeated.ensures.ranges
