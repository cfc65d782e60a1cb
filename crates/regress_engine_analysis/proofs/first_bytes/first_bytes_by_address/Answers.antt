use Rattle.std.specs.Prelude.{get_or, option_map, slice_index_or}
use Rattle.std.proofs.Common.{◌≡◌, ℕ, ◌<◌, ◌-◌, true, length, List, Option, Some, None, refl, sym, ap, ◌∙◌, subst, arith}
use Rattle.std.proofs.lemmas.List.{length-set}
use Rattle.std.proofs.lemmas.Option.{slice_get-map, slice_get-get_or}
use Rattle.regress_engine_insn.specs.Instructions.{Instruction, Program}
use Rattle.regress_engine_insn.specs.InsnViews.{instruction}
use Rattle.regress_engine_insn.specs.declared.insn.Insn.TheVariants.{Goal}
use Rattle.regress_engine_insn.specs.ProgramViews.{program_from}
use Rattle.regress_engine_analysis.specs.declared.facts.Facts.{Facts}
use Rattle.regress_engine_analysis.specs.declared.facts.Known.TheVariants.{Nothing}
use Rattle.regress_engine_analysis.specs.MayBegin.{begins, begins_at, may_begin_with}
use Rattle.regress_engine_analysis.specs.Planned.{firsts, known_of}
use Rattle.regress_engine_analysis.specs.Shared.{no_facts, shared}
use Rattle.regress_engine_analysis.proofs.PlanLemmas.{known-read}
use Rattle.regress_engine_analysis.proofs.SharedLemmas.{char-shares, known-set, told-put}
use Rattle.regress_engine_analysis.proofs.first_bytes.first_bytes_by_address.Goals as goal

pub share-requires-clause-other : goal.share-requires-clause-other
share-requires-clause-other c =
    let size = c.addresses.invariant.size in
    let within = c.is_same_char.ensures.within c.if-is_same_char.true in
    omega (arith, within, size)

pub addresses-preserved-then-is_same_char : goal.addresses-preserved-then-is_same_char
addresses-preserved-then-is_same_char c =
    let insns = c.args.insns.now in
    let facts = shared c.addresses.facts in
    let at = c.addresses.left - 1 in
    let other : ℕ = slice_index_or c.addresses.late c.slot_of-slot.result 0 in
    let f : Facts = get_or facts other no_facts in
    let some = c.addresses-test.true in
    let low = c.addresses.invariant.low in
    let size = c.addresses.invariant.size in
    let less : at < other = c.if-left-other.true in
    let within : other < length insns = c.is_same_char.ensures.within c.if-is_same_char.true in
    let inside : other < length facts = omega (arith, within, size) in
    let there : at < length facts = omega (arith, some, low, size) in
    let is = c.share.ensures in
    let long = ap length is ∙ length-set facts at f in
    let nothing : f.known ≡ Nothing = sym (known-read facts other no_facts inside) ∙ c.addresses.invariant.known other in
    record {
      size = long ∙ size;
      slots = length-set c.addresses.late c.slot_of-slot.result at ∙ c.addresses.invariant.slots;
      low = omega (arith, low);
      known = subst (λ (fs : List Facts). (k : ℕ) → known_of fs k ≡ Nothing) (sym is)
          (known-set (λ k x. x ≡ Nothing) facts at f there nothing c.addresses.invariant.known);
      told = λ loops groups units next b from near small.
          let program : Program = program_from insns c.args.brackets.now loops groups units in
          let told = c.addresses.invariant.told loops groups units in
          subst (λ (fs : List Facts). may_begin_with (firsts fs) next b ≡ begins_at program (may_begin_with (firsts fs)) next b) (sym is)
          (told-put program facts at f there (λ far byte more within few. told far byte (omega (arith, more)) within few)
          (λ byte few. char-shares program facts at other byte (c.is_same_char.ensures.same c.if-is_same_char.true program refl) inside (told other byte (omega (arith, less)) inside few))
          next b from (omega (arith, near, long)) small);
    }

pub addresses-preserved : goal.addresses-preserved
addresses-preserved c =
    let insns = c.args.insns.now in
    let facts = shared c.addresses.facts in
    let sets = firsts facts in
    let at = c.addresses.left - 1 in
    let some = c.addresses-test.true in
    let low = c.addresses.invariant.low in
    let size = c.addresses.invariant.size in
    let there : at < length facts = omega (arith, some, low, size) in
    let f : Facts = record { first = c.in_ok-first.first; known = Nothing } in
    let is = c.in_ok-put.ensures in
    let long = ap length is ∙ length-set facts at f in
    record {
      size = long ∙ size;
      slots = length-set c.addresses.late c.slot_of-slot.result at ∙ c.addresses.invariant.slots;
      low = omega (arith, low);
      known = subst (λ (fs : List Facts). (k : ℕ) → known_of fs k ≡ Nothing) (sym is)
          (known-set (λ k x. x ≡ Nothing) facts at f there refl c.addresses.invariant.known);
      told = λ loops groups units next b from inside small.
          let program : Program = program_from insns c.args.brackets.now loops groups units in
          subst (λ (fs : List Facts). may_begin_with (firsts fs) next b ≡ begins_at program (may_begin_with (firsts fs)) next b) (sym is)
          (told-put program facts at f there
          (λ far byte less within few. c.addresses.invariant.told loops groups units far byte (omega (arith, less)) within few)
          (λ byte few. c.in_ok-first.ensures program refl byte few
          ∙ ap (λ xs. begins program (may_begin_with xs) (instruction (get_or insns at Goal)) at byte) refl
          ∙ sym (ap (λ (x : Option Instruction). elim x [ None ↦ true | Some i ↦ begins program (may_begin_with sets) i at byte ])
          (slice_get-map instruction insns at ∙ ap (option_map instruction) (slice_get-get_or insns at Goal (omega (arith, some, low))))))
          next b from (omega (arith, inside, long)) small);
    }
