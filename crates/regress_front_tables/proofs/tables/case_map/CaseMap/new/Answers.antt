use Rattle.std.proofs.Common.{◌≡◌, ℕ, List, sym, ap, subst, ◌∙◌}
use Rattle.regress_meaning.specs.TableParts.{image}
use Rattle.regress_front_tables.specs.CaseMaps.{listed_image, pairs_in}
use Rattle.regress_front_tables.specs.Classes.{class_at}
use Rattle.regress_front_tables.specs.Folding.{IsCaseMap, IsClass}
use Rattle.regress_front_tables.proofs.ListedLemmas.{pairs_in-listed}
use Rattle.regress_front_tables.proofs.tables.case_map.CaseMap.new.Goals as goal

-- the pages stand for the pairs that they were made of
stands : (c : goal.In_ok-classes) → pairs_in c.in_ok-images.images ≡ c.args.pairs.now
stands c = pairs_in-listed c.in_ok-images.images c.args.pairs.now c.requires c.in_ok-images.ensures

pub invariant_of-result : goal.invariant_of-result
invariant_of-result c =
    let back = sym (stands c) in
    let Gathers : List (ℕ × ℕ) → Type 0 = λ pairs. (to : ℕ) → IsClass (image pairs) to (class_at c.in_ok-classes.classes to) in
    record {
      lawful = subst IsCaseMap back c.requires;
      told = λ d. c.in_ok-images.ensures d ∙ ap (λ pairs. listed_image pairs d) back;
      gathered = subst Gathers back c.in_ok-classes.ensures;
    }

pub returns : goal.returns
returns c = pairs_in-listed c.in_ok-images.images c.args.pairs.now c.requires c.in_ok-images.ensures
