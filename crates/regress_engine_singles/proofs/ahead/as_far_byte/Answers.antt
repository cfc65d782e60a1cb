use Rattle.std.specs.Prelude.{slice_index, get_or}
use Rattle.std.proofs.Common.{◌≡◌, ◌+◌, ◌-◌, ◌<◌, ◌==◌, ℕ, List, inl, inr, length, false, rules, arith, sym, ap, ◌∙◌, subst}
use Rattle.std.proofs.lemmas.Bool.{cases_lt}
use Rattle.std.proofs.lemmas.Bool.Decides.{nat_tests}
use Rattle.std.proofs.lemmas.Option.{slice_get_within}
use Rattle.regress_meaning.specs.Meaning.{Forward as ahead}
use Rattle.regress_engine_input.specs.Views.{input_of}
use Rattle.regress_engine_insn.specs.Instructions.{byte_seq}
use Rattle.regress_engine_runs.specs.Runs.{as_far}
use Rattle.regress_engine_runs.proofs.Iterations.{far-goes, far-stops, far-all}
use Rattle.regress_engine_search.proofs.PlaceLemmas.{units-are}
use Rattle.regress_engine_singles.proofs.ByteLemmas.{same-there, other-stands, other-first}
use Rattle.regress_engine_singles.proofs.StopLemmas.{bytes-shown}
use Rattle.regress_engine_singles.proofs.ahead.as_far_byte.Goals as goal

pub loop-behind-preserved : goal.loop-behind-preserved
loop-behind-preserved g c =
    let v = g.Input.InputIndexer.view c.args.input.now in
    let bs = c.args.bytes.now in
    let at = c.loop-behind.behind in
    let inv = c.loop-behind.invariant in
    let shown = (bytes-shown v c.in_ok-text.text.now (sym c.in_ok-text.ensures)).1 ∙ sym (units-are v) in
    let low = inv.low in
    let inside : at < length c.in_ok-text.text.now = omega arith in
    let same : slice_index c.in_ok-text.text.now at ≡ get_or bs 0 0 = grind (arith, nat_tests) in
    let here = same-there (input_of v) bs at (search rules) (subst (λ (us : List ℕ). at < length us) shown inside) (subst (λ (us : List ℕ). slice_index us at ≡ get_or bs 0 0) shown same) in
    let one : c.args.times - (at - c.args.offset) - 1 ≡ c.args.times - (at + 1 - c.args.offset) = omega arith in
    record {
      low = omega arith;
      high = omega arith;
      rest = λ program groups.
          ap (λ n. as_far program (input_of v) n (byte_seq bs) ahead groups (at + 1)) (sym one)
          ∙ far-goes program (input_of v) (byte_seq bs) ahead groups (c.args.times - (at - c.args.offset)) at (at + 1) (omega arith) here ∙ inv.rest program groups;
    }

pub returns-then-text-behind : goal.returns-then-text-behind
returns-then-text-behind g c = λ program groups.
    let v = g.Input.InputIndexer.view c.args.input.now in
    let bs = c.args.bytes.now in
    let at = c.loop-behind.behind in
    let inv = c.loop-behind.invariant in
    let shown = (bytes-shown v c.in_ok-text.text.now (sym c.in_ok-text.ensures)).1 in
    let low = inv.low in
    let other : (slice_index c.in_ok-text.text.now at == get_or bs 0 0) ≡ false = grind (arith, nat_tests) in
    far-stops program (input_of v) (byte_seq bs) ahead groups (c.args.times - (at - c.args.offset)) at (omega arith)
    (other-stands v bs at (slice_index c.in_ok-text.text.now at) (search rules) (ap (λ us. slice_index us at) (sym shown)) other) ∙ inv.rest program groups

pub returns : goal.returns
returns g c = λ program groups.
    let v = g.Input.InputIndexer.view c.args.input.now in
    let bs = c.args.bytes.now in
    let at = c.loop-behind.behind in
    let inv = c.loop-behind.invariant in
    let shown = (bytes-shown v c.in_ok-text.text.now (sym c.in_ok-text.ensures)).1 ∙ sym (units-are v) in
    let size = ap length shown in
    let low = inv.low in
    let left = c.args.times - (at - c.args.offset) in
    elim (cases_lt 0 left) [
      | inl some ↦
          far-stops program (input_of v) (byte_seq bs) ahead groups left at some
          (other-first (input_of v) bs at (search rules) (λ there. let within = slice_get_within (input_of v).units at (get_or bs 0 0) there in absurd (omega (arith, within, size, some)))) ∙ inv.rest program groups
      | inr none ↦ far-all program (input_of v) (byte_seq bs) ahead groups left at none ∙ inv.rest program groups
    ]
