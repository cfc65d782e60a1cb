use Rattle.std.proofs.Common.{◌≡◌, ◌∙◌, sym, ap, subst}
use Rattle.std.specs.Arc.{arc_value}
use Rattle.std.specs.Prelude.{Some}
use Rattle.regress.specs.declared.api.Regex.{Regex}
use Rattle.regress.specs.Standing.{StandsFor, StandsInUnits, byte_target, unit_target, names_of_regex, source_of}
use Rattle.regress_calls.specs.Handles.{OfPattern, content}
use Rattle.regress_calls.specs.declared.held.Held.{Held}
use Rattle.regress_calls.specs.Learning.{IsSamePattern}
use Rattle.regress_calls.proofs.CopyLemmas.{one-pattern}
use Rattle.regress_calls.proofs.LearningLemmas.{holds-same}
use Rattle.regress_calls.proofs.sharing.learned_in.Goals as goal

pub returns-in_err-regex-clause-same : goal.returns-in_err-regex-clause-same
returns-in_err-regex-clause-same c = holds-same (content c.args.slot.now.held) (content c.pattern_in.new.slot.held) c.in_err-regex.ensures.kept

pub returns-then-is_linear-clause-same : goal.returns-then-is_linear-clause-same
returns-then-is_linear-clause-same c = holds-same (content c.args.slot.now.held) (content c.pattern_in.new.slot.held) c.in_ok-regex.ensures.kept

pub returns-in_err-learned-clause-same : goal.returns-in_err-learned-clause-same
returns-in_err-learned-clause-same c = holds-same (content c.args.slot.now.held) (content c.pattern_in.new.slot.held) c.in_ok-regex.ensures.kept

pub returns-then-not-learn_linear-clause-same : goal.returns-then-not-learn_linear-clause-same
returns-then-not-learn_linear-clause-same c = holds-same (content c.args.slot.now.held) (content c.pattern_in.new.slot.held) c.in_ok-regex.ensures.kept

pub returns-in_err-shared-clause-same : goal.returns-in_err-shared-clause-same
returns-in_err-shared-clause-same c = holds-same (content c.args.slot.now.held) (content c.pattern_in.new.slot.held) c.in_ok-regex.ensures.kept

pub returns-in_err-try_clone-clause-same : goal.returns-in_err-try_clone-clause-same
returns-in_err-try_clone-clause-same c = holds-same (content c.args.slot.now.held) (content c.pattern_in.new.slot.held) c.in_ok-regex.ensures.kept

pub returns-in_err-held-clause-same : goal.returns-in_err-held-clause-same
returns-in_err-held-clause-same c = holds-same (content c.args.slot.now.held) (content c.pattern_in.new.slot.held) c.in_ok-regex.ensures.kept

pub returns-clause-same : goal.returns-clause-same
returns-clause-same c = λ r holds.
    let same : c.deref-2.result.now ≡ r = c.deref-2.ensures ∙ one-pattern (arc_value c.in_ok-regex.regex) r (sym c.in_ok-regex.ensures.shared ∙ holds) in
    let copy = c.in_ok-learned.ensures in
    let learned = c.learn_linear.ensures in
    let whole : IsSamePattern r c.learn_linear.new.self = record {
      stands = λ t o p s. learned.stands t o p (copy.stands t o p (subst (λ (x : Regex). StandsFor x t o p) (sym same) s));
      stands_in_units = λ t o p s. learned.stands_in_units t o p (copy.stands_in_units t o p (subst (λ (x : Regex). StandsInUnits x t o p) (sym same) s));
      named = learned.named ∙ copy.named ∙ ap names_of_regex same;
      bytes = learned.programs.0 ∙ copy.programs.0 ∙ ap byte_target same;
      units = learned.programs.1 ∙ copy.programs.1 ∙ ap unit_target same;
      text = learned.text ∙ copy.text ∙ ap source_of same;
    } in
    let put = ap content c.put.ensures ∙ ap (λ (h : Held). content (Some h)) c.in_ok-held.ensures.ok in
    (c.learn_linear.new.self, put ∙ ap OfPattern (c.in_ok-try_clone.ensures ∙ c.in_ok-shared.ensures.ok), whole)
