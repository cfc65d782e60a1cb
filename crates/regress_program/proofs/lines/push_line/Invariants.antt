use Rattle.std.proofs.Common.{◌≡◌, ◌++◌, take, map, string_bytes, option_map}
use Rattle.std.specs.Prelude.{flat_map}
use Rattle.regress_meaning.specs.Output.{group_text, range_text}
use Rattle.regress_match.specs.Views.{ends}
use Rattle.regress_program.proofs.lines.push_line.Given as goal

abbrev pub invariant-loop-group : goal.invariant-loop-group
invariant-loop-group l =
    string_bytes l.text ≡ string_bytes l.fn.text ++ (range_text (ends l.found.range) ++ flat_map group_text (map (option_map ends) (take l.group-index l.group-items)))
