use Rattle.std.proofs.Common.{◌≡◌, ℕ, ◌+◌, ◌≤◌, List, [], ◌∷◌, Option, length, take, drop, map, get_or, string_bytes, sym, ap, ◌∙◌, arith}
use Rattle.std.proofs.lemmas.List.{length-map, get_or-map}
use Rattle.std.specs.declared.ops.Range.{Range}
use Rattle.regress_match.specs.GroupViews.{names_of_match}
use Rattle.regress_match.specs.NamedRanges.{new_names, taken_by}
use Rattle.regress_match.proofs.NamedLemmas.{names-end}
use Rattle.regress_match.proofs.named.NamedGroupsIterator.next.Goals as goal

pub returns-in_default-clause-steps : goal.returns-in_default-clause-steps
returns-in_default-clause-steps c =
    let m = c.args.self.now.found.now in
    let all = names_of_match m in
    let tell : List ℕ → List ℕ × Option (Range ℕ) = λ name. (name, taken_by m name) in
    let none = rw c.group_names-names.ensures at (rw c.in_default.is at c.next_first.ensures.none) in
    let past : length all ≤ length c.group_names-names.result.now = omega (arith, length-map c.group_names-names.result.now string_bytes, ap length c.group_names-names.ensures) in
    (ap (map tell) none, ap (map tell) (names-end all (length c.group_names-names.result.now) past))

pub returns-clause-steps : goal.returns-clause-steps
returns-clause-steps c =
    let m = c.args.self.now.found.now in
    let all = names_of_match m in
    let k = c.in-Some.index in
    let tell : List ℕ → List ℕ × Option (Range ℕ) = λ name. (name, taken_by m name) in
    let first = rw c.group_names-names.ensures at c.in-Some.ensures.first in
    let read : get_or all k [] ≡ c.as_str-name.result.now =
    ap (λ (names : List (List ℕ)). get_or names k []) (sym c.group_names-names.ensures)
    ∙ get_or-map string_bytes c.group_names-names.result.now k c.index-names-index.result [] c.in-Some.ensures.there
    ∙ ap string_bytes (sym c.index-names-index.is) ∙ sym c.as_str-name.ensures.value in
    let rest = map tell (new_names (take (k + 1) all) (drop (k + 1) all)) in
    let name = c.as_str-name.result.now in
    ap (map tell) first ∙ ap (λ (x : List ℕ × Option (Range ℕ)). x ∷ rest) (ap tell read ∙ ap (λ (r : Option (Range ℕ)). (name, r)) (sym c.taken.ensures.value))
