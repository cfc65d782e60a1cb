use Rattle.std.proofs.Common.{◌∷◌, refl, ap}
use Rattle.std.proofs.lemmas.Result.{IfOk-weaker, err_from_is_err_and}
use Rattle.regress_meaning.specs.Pattern.{class}
use Rattle.regress_front_tokens.specs.Cursors.{unread}
use Rattle.regress_front_tokens.specs.Escapes.{mode_view}
use Rattle.regress_front_tokens.specs.Trees.{class_view}
use Rattle.regress_front_syntax.specs.Parsing.{place}
use Rattle.regress_front_tokens.proofs.TreeLaws.{tree-Class}
use Rattle.regress_front_tokens.proofs.RangeLemmas.{opens-Class}
use Rattle.regress_front_syntax.proofs.MarkLemmas.{Leads_behind}
use Rattle.regress_front_syntax.proofs.TermLemmas.{progress-through, single-answer, class-read, class-refused, class-grows, class_opening-less}
use Rattle.regress_front_syntax.proofs.parser.Parser.class.Goals as goal

pub returns-in_err-negated-clause-answer : goal.returns-in_err-negated-clause-answer
returns-in_err-negated-clause-answer c =
    let m = mode_view c.args.mode.now in
    let p = err_from_is_err_and c.from_residual.result c.from_residual.ensures.1 in
    rw (p.1, p.2) (class-refused m c.args.nesting c.args.self.now.groups c.args.self.now.loops (unread c.args.self.now.cursor) _ c.in_err-negated.field-0.0 c.in_err-negated.ensures.read)

pub returns-clause-answer : goal.returns-clause-answer
returns-clause-answer c =
    let m = mode_view c.args.mode.now in
    let n = c.args.nesting in
    let k = c.args.self.now.groups in
    let r = c.args.self.now.loops in
    let t = unread c.args.self.now.cursor in
    let u = unread c.bracketed_class.new.cursor in
    let negated = c.in_ok-negated.negated in
    let view = class_view c.in_ok-negated.class in
    let (read, deep) = c.in_ok-negated.ensures.read in
    let leads = Leads_behind c.args.self.now.cursor c.bracketed_class.new.cursor c.in_ok-negated.ensures.kept 0x5B n k r (class_opening-less m t _ u (c.reading_leaves_less.ensures m) read) in
    single-answer n k r (0x5B ∷ t) u _ (place n c.repeated.new.self) (class negated view) _ _ c.repeated.result (class-grows n k r (0x5B ∷ t) u negated view deep leads)
    (class-read m k t u (class negated view) read) (tree-Class negated c.in_ok-negated.class) refl refl refl refl (c.repeated.ensures.answer n)

pub returns-clause-progress : goal.returns-clause-progress
returns-clause-progress c =
    let m = mode_view c.args.mode.now in
    progress-through c.repeated.result _ _ _ (class_opening-less m (unread c.args.self.now.cursor) _ (unread c.bracketed_class.new.cursor) (c.reading_leaves_less.ensures m) c.in_ok-negated.ensures.read.0) c.repeated.ensures.progress

pub returns-clause-ranges : goal.returns-clause-ranges
returns-clause-ranges c =
    let k = c.args.self.now.groups in
    IfOk-weaker c.repeated.result _ _ (λ s more. more k (ap (λ f. f k) (opens-Class c.in_ok-negated.negated c.in_ok-negated.class))) c.repeated.ensures.ranges
