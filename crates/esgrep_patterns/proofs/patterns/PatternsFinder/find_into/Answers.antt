use Rattle.std.proofs.Common.{arith, map, sym, ap, subst, ◌∙◌}
use Rattle.regress.specs.declared.api.Regex.{Regex}
use Rattle.esgrep_rows.specs.Found.{found_of}
use Rattle.esgrep_patterns.specs.Seeking.{Seeks, found_in, found_of_several}
use Rattle.esgrep_patterns.proofs.FoundLemmas.{found-all_ok}
use Rattle.esgrep_patterns.proofs.SeveralLemmas.{found-alone}
use Rattle.esgrep_patterns.proofs.BoundLemmas.{all-several}
use Rattle.esgrep_patterns.proofs.patterns.PatternsFinder.find_into.Goals as goal

pub returns-then-is_none-clause-found : goal.returns-then-is_none-clause-found
returns-then-is_none-clause-found c = λ template find finds.
    let text = c.args.text.now in
    found-alone c.args.self.now.searched.regexes.now finds.sought c.index-self-0.result (omega arith) c.index-self-0.is finds.seek
    template text (find c.args._start text) (finds.finds c.args._start text) _
    (λ s sought is. let seeks = subst (λ (regex : Regex). Seeks regex s) c.index-self-0.is sought in found-all_ok c.find_one_into.result (map (found_of template text) c.find_one_into.new.founds.items) _ (find c.args._start text)
    (is ∙ ap (λ names. found_in s.table s.options s.pattern template names text) (sym seeks.1))
    (c.find_one_into.ensures.found s.table s.options s.pattern seeks.0 template))

pub returns-clause-found : goal.returns-clause-found
returns-clause-found c = λ template find finds.
    let text = c.args.text.now in
    found-all_ok c.find_several_into.result (map (found_of template text) c.find_several_into.new.founds.items) (found_of_several finds.sought template text)
    (find c.args._start text) (finds.finds c.args._start text ∙ all-several finds.sought template text) (c.find_several_into.ensures.found finds.sought finds.seek template)
