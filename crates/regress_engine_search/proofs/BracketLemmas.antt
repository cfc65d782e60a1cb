-- The brackets of a program.
use Rattle.std.specs.Prelude.{slice_get}
use Rattle.std.proofs.Common.{◌≡◌, ℕ, ◌<◌, Bool, List, Option, length, get_or, map, option_map, option_and_then, refl, sym, ap, ◌∙◌}
use Rattle.std.proofs.lemmas.Option.{slice_get-map, slice_get_read}
use Rattle.std.proofs.lemmas.List.{length-map}
use Rattle.regress_meaning.specs.Steps.{passed}
use Rattle.regress_front_nodes.specs.declared.node.BracketContents.{BracketContents}
use Rattle.regress_front_nodes.specs.TreeMeaning.{bracket_has}
use Rattle.regress_engine_insn.specs.ProgramViews.{bracket_ends}

-- what a bracket of a program takes
pub bracket_takes : (found : Option (ℕ × ℕ)) (contents : List BracketContents) (k : ℕ) (b : BracketContents) → k < length (map bracket_ends contents) → b ≡ get_or contents k b
    → passed (bracket_has (bracket_ends b).0 (bracket_ends b).1) found ≡ option_and_then (λ (x : Bool × List (ℕ × ℕ)). passed (bracket_has x.0 x.1) found) (slice_get (map bracket_ends contents) k)
bracket_takes found contents k b within same =
    let read = slice_get_read contents (length contents) k b refl (rw (length-map contents bracket_ends) at within) same in
    sym (ap (option_and_then (λ (x : Bool × List (ℕ × ℕ)). passed (bracket_has x.0 x.1) found)) (slice_get-map bracket_ends contents k ∙ ap (option_map bracket_ends) read))
