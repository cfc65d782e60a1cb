-- Where it continues from several ways by what the program tells.
use Rattle.std.proofs.Common.{◌≡◌, ℕ, ◌+◌, ◌<◌, true, not, Some, ap, length}
use Rattle.regress_meaning.specs.Inputs.{Input}
use Rattle.regress_engine_insn.specs.Instructions.{Program}
use Rattle.regress_engine_analysis.specs.Planned.{firsts}
use Rattle.regress_engine_analysis.specs.Shared.{facts_of}
use Rattle.regress_engine_analysis.specs.Ways.{way_before}
use Rattle.regress_engine_analysis.proofs.WaysLemmas.{goes-keeps}
use Rattle.regress_engine_code.specs.Standing.{program_of}
use Rattle.regress_engine_code.specs.declared.compiled.CompiledRegex.{CompiledRegex}
use Rattle.regress_engine_input.specs.Views.{View, AreOfKind, input_of}
use Rattle.regress_engine_search.specs.Search.{Suits}
use Rattle.regress_engine_singles.specs.Leads.{lead_ahead}
use Rattle.regress_engine_advance.proofs.CannotBeginLemmas.{cannot_begin-dead}
use Rattle.regress_engine_trying.specs.Trying.{IsWay}
use Rattle.regress_engine_trying.proofs.WayLemmas.{way-first, way-here, way-second}

-- a run continues where it goes on before the byte ahead
pub way-told : (compiled : CompiledRegex) (v : View) → AreOfKind v.kind v.units → Suits (program_of compiled) v → (o b : ℕ) → b < 256 → Some b ≡ lead_ahead v o
    → (start : ℕ) → IsWay (program_of compiled) (input_of v) true o start (way_before (program_of compiled) (firsts (facts_of compiled.plan)) b start)
way-told compiled v all suits o b small ahead start =
    let program : Program = program_of compiled in
    let input : Input = input_of v in
    goes-keeps program (firsts (facts_of compiled.plan)) b (IsWay program input true o start)
    (λ at second here never. way-second program input true o start at second here (cannot_begin-dead compiled v all suits (at + 1) o b small ahead (ap not never)))
    (λ at second here never. way-first program input true o start at second here (cannot_begin-dead compiled v all suits second o b small ahead (ap not never)))
    (length program.instructions) start (way-here program input true o start)
