use Rattle.std.proofs.Common.{length, ap}
use Rattle.std.proofs.lemmas.Result.{IfOk-weaker}
use Rattle.regress_meaning.specs.Pattern.{names_of}
use Rattle.regress_meaning.specs.WholeText.{whole_text}
use Rattle.regress_front.specs.FlagWords.{options}
use Rattle.regress_front.specs.TableViews.{table}
use Rattle.regress_programs.proofs.compiled.Compiled.whole_text.Goals as goal

pub of_tree-requires : goal.of_tree-requires
of_tree-requires c = let (p, of_text) = c.in_ok-tree.ensures.accepted in (length (names_of (whole_text p)), of_text.whole.well_formed)

pub returns-clause-accepted : goal.returns-clause-accepted
returns-clause-accepted c =
    let (p, of_text) = c.in_ok-tree.ensures.accepted in
    IfOk-weaker c.of_tree.result _ _ (λ compiled both. (p, of_text.spelled, of_text.within, both.0, both.1))
    (c.of_tree.ensures.accepted whole_text _ _ _ p (of_text, ap table c.in_ok-tree.ensures.kept.1, ap options c.in_ok-tree.ensures.kept.0))

pub returns-clause-refused : goal.returns-clause-refused
returns-clause-refused c =
    let (p, of_text) = c.in_ok-tree.ensures.accepted in
    c.of_tree.ensures.refused whole_text _ _ _ p (of_text, ap table c.in_ok-tree.ensures.kept.1, ap options c.in_ok-tree.ensures.kept.0)

pub returns-clause-fits : goal.returns-clause-fits
returns-clause-fits c =
    let (p, of_text) = c.in_ok-tree.ensures.accepted in
    c.of_tree.ensures.fits whole_text _ _ _ p (of_text, ap table c.in_ok-tree.ensures.kept.1, ap options c.in_ok-tree.ensures.kept.0)
