use Rattle.std.proofs.Common.{ℕ, ◌≡◌, ◌∙◌, ◌==◌, ap, not, Vec, Global, filter, rules, vec_len}
use Rattle.std.proofs.lemmas.Fn.{filter_same}
use Rattle.std.proofs.lemmas.Result.{IfOk-weaker}
use Rattle.std.proofs.lemmas.List.Elements.{filter_agree}
use Rattle.std.proofs.lemmas.List.Sorted.{answers_always, IsStrictWeakOrder-by_number, IsStrictWeakOrder-flip}
use borrow.Author.Tests.{tests}
use Rattle.regress_front_tree.proofs.BracketLemmas.{stored_length, is_longer, goes_before, lt-cmp, sorted-by_length}
use Rattle.regress_front_tree.proofs.brackets.by_length.Goals as goal

pub returns : goal.returns
returns c =
    let strings = c.args.strings.items in
    let kept : c.retain.new.self.items ≡ filter (λ (s : Vec ℕ Global). not (vec_len s == 0)) strings =
    filter_same _ (λ (s : Vec ℕ Global). not (vec_len s == 0)) _ (λ x b f r. search (rules, tests)) _ _ c.retain.ensures.filtered in
    let longer = kept ∙ filter_agree (λ (s : Vec ℕ Global). not (vec_len s == 0)) (λ (s : Vec ℕ Global). is_longer s.items) (λ s. ap (λ (n : ℕ). not (n == 0)) (stored_length s)) strings in
    IfOk-weaker c.boxed.result _ _ (λ boxes same. sorted-by_length strings c.retain.new.self.items c.sort_by.new.self.items _ longer c.in_ok-sort_by.ensures.permutation
    (c.in_ok-sort_by.ensures.sorted goes_before (IsStrictWeakOrder-flip _ (IsStrictWeakOrder-by_number vec_len)) (answers_always _ _ _ (λ f a r g called. search (rules, lt-cmp)))) same c.requires) c.boxed.ensures
