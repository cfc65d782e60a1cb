-- What leads nowhere by the byte with which the character ahead begins.
use Rattle.std.proofs.Common.{◌≡◌, ℕ, ◌<◌, Bool, true, false, not, List, length, Some, refl}
use Rattle.regress_meaning.specs.Meaning.{Forward}
use Rattle.regress_front_bytes.specs.declared.bitmaps.ByteBitmap.{ByteBitmap}
use Rattle.regress_engine_input.specs.Views.{View, AreOfKind, input_of}
use Rattle.regress_engine_analysis.specs.MayBegin.{may_begin_with}
use Rattle.regress_engine_analysis.specs.Planned.{firsts}
use Rattle.regress_engine_analysis.specs.Shared.{facts_of}
use Rattle.regress_engine_code.specs.Standing.{program_of, cannot_begin_with}
use Rattle.regress_engine_code.specs.declared.compiled.CompiledRegex.{CompiledRegex}
use Rattle.regress_engine_search.specs.Search.{Suits}
use Rattle.regress_engine_singles.specs.Failing.{IsDead}
use Rattle.regress_engine_singles.specs.Leads.{lead_ahead}
use Rattle.regress_engine_singles.proofs.FirstByteLemmas.{first_byte-dead}
use Rattle.regress_engine_singles.proofs.SparingLemmas.{first-told}

-- no match can be reached where the character ahead begins with a byte with which none may begin
pub cannot_begin-dead : (compiled : CompiledRegex) (v : View) → AreOfKind v.kind v.units → Suits (program_of compiled) v → (at o b : ℕ) → b < 256
    → Some b ≡ lead_ahead v o → cannot_begin_with compiled at b ≡ true → IsDead (program_of compiled) (input_of v) Forward at o
cannot_begin-dead compiled v all suits at o b small ahead lacked =
    first_byte-dead (program_of compiled) v all suits (may_begin_with sets) (length sets) (first-told (program_of compiled) (facts_of compiled.plan) compiled.planned) at o b small ahead (by_test (may_begin_with sets at b) lacked)
  where
    sets : List ByteBitmap
    sets = firsts (facts_of compiled.plan)

    by_test : (t : Bool) → not t ≡ true → t ≡ false
    by_test false e = refl
    by_test true e = absurd (cc e)
