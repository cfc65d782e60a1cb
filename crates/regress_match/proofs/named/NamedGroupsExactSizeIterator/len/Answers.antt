use Rattle.std.proofs.Common.{ℕ, ◌<◌, ◌≤◌, List, Option, length, take, drop, string_bytes, sym, ap, arith}
use Rattle.std.proofs.lemmas.List.{length-map}
use Rattle.std.specs.declared.ops.Range.{Range}
use Rattle.regress_match.specs.GroupViews.{names_of_match}
use Rattle.regress_match.specs.NamedRanges.{new_names, taken_by}
use Rattle.regress_match.proofs.NamedLemmas.{names-new, names-old, names-end}
use Rattle.regress_match.proofs.named.NamedGroupsExactSizeIterator.len.Goals as goal
use Rattle.regress_match.proofs.named.NamedGroupsExactSizeIterator.len.Goals.{then-is_first, else-is_first}

pub loop-index-preserved : goal.loop-index-preserved
loop-index-preserved c =
    let all = names_of_match c.args.self.now.found.now in
    let i = c.loop-index.index in
    let inside : i < length all = omega (arith, length-map c.group_names-names.result.now string_bytes, ap length c.group_names-names.ensures, c.loop-index-test.true) in
    elim c.if-is_first.branch [
      | then-is_first w ↦
          let step = ap length (names-new all i inside (rw c.group_names-names.ensures at (sym w.if-is_first.ensures))) in
          record { count = omega (arith, c.loop-index.invariant.count, w.count-is, step); small = omega (arith, c.loop-index.invariant.small, w.count-is) }
      | else-is_first w ↦
          let step = ap length (names-old all i inside (rw c.group_names-names.ensures at (sym w.if-is_first.ensures))) in
          record { count = omega (arith, c.loop-index.invariant.count, w.count-is, step); small = omega (arith, c.loop-index.invariant.small, w.count-is) }
    ]

pub returns-clause-value : goal.returns-clause-value
returns-clause-value c =
    let m = c.args.self.now.found.now in
    let all = names_of_match m in
    let past : length all ≤ c.loop-index.index = omega (arith, length-map c.group_names-names.result.now string_bytes, ap length c.group_names-names.ensures, c.loop-index-test.false) in
    let none = ap length (names-end all c.loop-index.index past) in
    let left = new_names (take c.args.self.now.index all) (drop c.args.self.now.index all) in
    let tell : List ℕ → List ℕ × Option (Range ℕ) = λ name. (name, taken_by m name) in
    omega (arith, c.loop-index.invariant.count, none, length-map left tell)
