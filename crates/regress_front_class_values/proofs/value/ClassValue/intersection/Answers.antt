use Rattle.std.proofs.Common.{ℕ, ◌≡◌, ◌∙◌, ap, not, ◌&&◌, Bool, List, Vec, Global, nat_le, filter, rules}
use Rattle.std.proofs.Math.Path.{fun_ext}
use Rattle.std.proofs.lemmas.Fn.{filter_same}
use Rattle.std.proofs.lemmas.Bool.{le-leb}
use Rattle.std.specs.BTreeSet.{contains}
use borrow.Author.Tests.{tests}
use Rattle.regress_meaning.specs.Class.{among}
use Rattle.regress_meaning.specs.Table.{last_code_point}
use Rattle.regress_front_sets.specs.Intervals.{ends_of}
use Rattle.regress_front_sets.specs.Sets.{in_set}
use Rattle.regress_front_class_values.specs.ClassValues.{lists, by_order}
use Rattle.regress_front_class_values.proofs.ClassLemmas.{filter-lists, intersection-by_complement}
use Rattle.regress_front_class_values.proofs.value.ClassValue.intersection.Goals as goal
use Rattle.regress_front_sets.proofs.IntervalLemmas.{in_intervals-bounded}

pub returns : goal.returns
returns c =
    let other = lists c.args.other.strings.items in
    let test : List ℕ → Bool = λ s. among other s in
    let members : ◌≡◌ {A = ℕ → Bool} (in_set c.in_ok-singles.singles) (λ d. in_set c.args.self.singles d && in_set c.args.other.singles d) = fun_ext (λ (d : ℕ).
    c.in_ok-singles.ensures d
    ∙ ap (λ (b : Bool). in_set c.args.self.singles d && not b) (c.in_ok-try_inverted.ensures.members d)
    ∙ intersection-by_complement (in_set c.args.self.singles d) (in_set c.args.other.singles d) (nat_le d last_code_point)
    (λ e. le-leb d last_code_point (in_intervals-bounded (ends_of c.args.self.singles.intervals.items) d c.args.self.singles.canonical e))) in
    let strings = c.args.self.strings.items in
    let set = c.in_ok-others.others in
    let kept : c.retain.new.self.items ≡ filter (λ (s : Vec ℕ Global). contains by_order set s) strings = filter_same _ (λ (s : Vec ℕ Global). contains by_order set s) _ (λ x b f r. search (rules, tests)) _ _ c.retain.ensures.filtered in
    let looked_up : filter (λ (s : Vec ℕ Global). contains by_order set s) strings ≡ filter (λ (s : Vec ℕ Global). test s.items) strings = ap (λ (t : Vec ℕ Global → Bool). filter t strings) (fun_ext (λ (s : Vec ℕ Global). c.in_ok-others.ensures s)) in
    let others : lists c.retain.new.self.items ≡ filter test (lists strings) = ap lists (kept ∙ looked_up) ∙ filter-lists test strings in
    λ i. record { singles = members i; others = others i }
