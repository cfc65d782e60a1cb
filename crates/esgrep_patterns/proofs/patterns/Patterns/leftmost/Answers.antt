use Rattle.std.proofs.Common.{◌≡◌, None, Err, refl, sym, ap, subst, ◌∙◌, arith, chars, drop, length}
use Rattle.esgrep_patterns.specs.Seeking.{leftmost_of, AreHits, IsTooLong}
use Rattle.esgrep_patterns.proofs.HitLemmas.{sought-end, leftmost-step}
use Rattle.esgrep_patterns.proofs.BoundLemmas.{handed-same, any-too_long}
use Rattle.esgrep_patterns.proofs.patterns.Patterns.leftmost.Goals as goal

pub loop-regex-init : goal.loop-regex-init
loop-regex-init c = record { inside = tt; found = λ ss seek place begins. (None, tt, refl) }

pub returns-in_err-next_match-clause-given : goal.returns-in_err-next_match-clause-given
returns-in_err-next_match-clause-given c = λ err.
    any-too_long (IsTooLong c.args.self.now.steps c.args.text.now) c.args.self.now.searched.regexes.now c.loop-regex.regex-index c.regex-item.result
    c.regex-item.is (omega (arith, c.loop-regex-test.true))
    (c.in_err-next_match.ensures.given (ap Err (handed-same c.from_residual.result _ _ c.from_residual.ensures.1 err)))

pub loop-regex-preserved : goal.loop-regex-preserved
loop-regex-preserved c =
    let text = c.args.text.now in
    let regexes = c.args.self.now.searched.regexes.now in
    record {
      inside = c.sooner-leftmost.ensures.inside text c.args.start c.loop-regex.invariant.inside c.in_ok-next_match.ensures.inside;
      found = λ ss seek place begins.
          leftmost-step text place regexes ss c.loop-regex.regex-index c.regex-item.result c.regex-item.is
          (omega (arith, c.loop-regex-test.true)) seek c.loop-regex.leftmost c.in_ok-next_match.field-0 c.sooner-leftmost.result
          (c.sooner-leftmost.ensures.hits text) (λ s seeks. c.in_ok-next_match.ensures.found s seeks place begins) (c.loop-regex.invariant.found ss seek place begins);
    }

pub returns-clause-found : goal.returns-clause-found
returns-clause-found c = λ ss seek place begins.
    let text = c.args.text.now in
    let regexes = c.args.self.now.searched.regexes.now in
    let (hit, is, same) = c.loop-regex.invariant.found ss seek place begins in
    let last : c.loop-regex.regex-index ≡ length regexes =
    omega (arith, c.loop-regex-test.false, c.loop-regex.auto.regex-index-end) in
    let rest = ap (λ k. drop k ss) last ∙ sought-end regexes ss seek in
    let all : hit ≡ _ = sym (ap (leftmost_of (chars text) place hit) rest) ∙ same in
    subst (AreHits text c.loop-regex.leftmost) all is
