use Rattle.std.proofs.Common.{arith, sym, subst, ◌∙◌}
use Rattle.regress.specs.declared.api.Regex.{Regex}
use Rattle.esgrep_patterns.specs.Seeking.{Seeks, IsTooLong}
use Rattle.esgrep_patterns.proofs.FoundLemmas.{found-ok}
use Rattle.esgrep_patterns.proofs.SeveralLemmas.{found-alone, several, several-ok}
use Rattle.esgrep_patterns.proofs.BoundLemmas.{any-too_long}
use Rattle.esgrep_patterns.proofs.patterns.PatternsFinder.is_match.Goals as goal

pub returns-then-self-eq1-clause-found : goal.returns-then-self-eq1-clause-found
returns-then-self-eq1-clause-found c = λ template find finds.
    let text = c.args.text.now in
    found-alone c.args.self.now.searched.regexes.now finds.sought c.index-self-0.result (omega (arith, c.if-self-eq1.true)) c.index-self-0.is finds.seek
    template text (find c.args._start text) (finds.finds c.args._start text) _
    (λ s sought is. let seeks = subst (λ (regex : Regex). Seeks regex s) c.index-self-0.is sought in found-ok c.has_match.result s.table s.options s.pattern template s.names text (find c.args._start text) is
    (c.has_match.ensures.found s.table s.options s.pattern seeks.0))

pub returns-clause-found : goal.returns-clause-found
returns-clause-found c = λ template find finds.
    let text = c.args.text.now in
    let many = several c.args.self.now.searched.regexes.now finds.sought finds.seek (λ one. omega (arith, c.if-self-eq1.false, one)) template text in
    several-ok c.is_any_match.result finds.sought template text (find c.args._start text) (finds.finds c.args._start text ∙ many)
    (c.is_any_match.ensures.found finds.sought finds.seek)

pub returns-then-self-eq1-clause-given : goal.returns-then-self-eq1-clause-given
returns-then-self-eq1-clause-given c = λ err.
    any-too_long (IsTooLong c.args.self.now.steps c.args.text.now) c.args.self.now.searched.regexes.now 0 c.index-self-0.result c.index-self-0.is (omega (arith, c.if-self-eq1.true))
    (subst (IsTooLong c.args.self.now.steps c.args.text.now) (sym c.index-self-0.is) (c.has_match.ensures.given err))

pub returns-clause-given : goal.returns-clause-given
returns-clause-given c = c.is_any_match.ensures.given
