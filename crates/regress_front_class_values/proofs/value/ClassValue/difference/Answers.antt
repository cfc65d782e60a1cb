use Rattle.std.proofs.Common.{ℕ, ◌≡◌, ◌∙◌, ap, not, Bool, List, Vec, Global, filter, rules}
use Rattle.std.proofs.Math.Path.{fun_ext}
use Rattle.std.proofs.lemmas.Fn.{filter_same}
use Rattle.std.specs.BTreeSet.{contains}
use borrow.Author.Tests.{tests}
use Rattle.regress_meaning.specs.Class.{among}
use Rattle.regress_front_class_values.specs.ClassValues.{lists, by_order}
use Rattle.regress_front_class_values.proofs.ClassLemmas.{filter-lists}
use Rattle.regress_front_class_values.proofs.value.ClassValue.difference.Goals as goal

pub returns : goal.returns
returns c =
    let other = lists c.args.other.strings.items in
    let test : List ℕ → Bool = λ s. not (among other s) in
    let singles = fun_ext c.in_ok-singles.ensures in
    let strings = c.args.self.strings.items in
    let set = c.in_ok-others.others in
    let kept : c.retain.new.self.items ≡ filter (λ (s : Vec ℕ Global). not (contains by_order set s)) strings = filter_same _ (λ (s : Vec ℕ Global). not (contains by_order set s)) _ (λ x b f r. search (rules, tests)) _ _ c.retain.ensures.filtered in
    let looked_up : filter (λ (s : Vec ℕ Global). not (contains by_order set s)) strings ≡ filter (λ (s : Vec ℕ Global). test s.items) strings = ap (λ (t : Vec ℕ Global → Bool). filter t strings) (fun_ext (λ (s : Vec ℕ Global). ap not (c.in_ok-others.ensures s))) in
    let others : lists c.retain.new.self.items ≡ filter test (lists strings) = ap lists (kept ∙ looked_up) ∙ filter-lists test strings in
    λ i. record { singles = singles i; others = others i }
