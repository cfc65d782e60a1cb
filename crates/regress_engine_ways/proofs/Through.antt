-- Where instructions inside of contents without loops lead, and what they write.
use Rattle.std.specs.Prelude.{nat_lt, nat_le, slice_get, slice_set}
use Rattle.std.proofs.Common.{◌≡◌, ℕ, suc, ◌<◌, ◌≤◌, ◌&&◌, Bool, true, false, List, get_or, Option, None, Some, if◌then◌else◌, sym, ◌∙◌, subst, arith, get_or-set_other, length-set}
use Rattle.std.proofs.lemmas.Bool.{and_parts, leb-true, ltb-true}
use Rattle.std.proofs.lemmas.Bool.Decides.{nat_tests}
use Rattle.regress_meaning.specs.Meaning.{Direction}
use Rattle.regress_meaning.specs.Inputs.{Input}
use Rattle.regress_engine_insn.specs.Instructions.{Instruction, Program}
use Rattle.regress_engine_insn.specs.Instructions as code
use Rattle.regress_engine_runs.specs.States.{Marks, begun, ended, unset}
use Rattle.regress_engine_runs.specs.Runs.{advance}
use Rattle.regress_engine_linear.specs.Answered.{exit_at}
use Rattle.regress_engine_linear.specs.Linear.{leads_through}
use Rattle.regress_engine_ways.specs.Ways.{AreKept, first_of, led, marked, station, station_at}
use Rattle.regress_engine_ways.specs.declared.station.Station.{Station}

module _ (singles : Bool) (first last end : ℕ) where
  pub written : (k : ℕ) (x : Marks) (new old : List Marks) → (nat_le first k && nat_lt k last) ≡ true → AreKept first last new old → AreKept first last (slice_set new k x) old
  written k x new old inside (count, kept) =
      let (low, high) = and_parts (nat_le first k) (nat_lt k last) inside in (
        length-set new k x ∙ count,
        λ j out. get_or-set_other new k j x unset (λ same. out (subst (λ n. first ≤ n) (sym same) (leb-true first k low)) (subst (λ n. n < last) (sym same) (ltb-true k last high))) ∙ kept j out,
      )

  -- what an instruction writes there is inside
  pub kept-on : (dir : Direction) (at o : ℕ) (i : Instruction) (new old : List Marks) → leads_through singles first last end at i ≡ true → AreKept first last new old
      → AreKept first last (marked dir i o new) old
  kept-on dir at o (code.begin_group k) new old leads kept = written k (begun dir o (get_or new k unset)) new old (and_parts (nat_lt (suc at) end) (nat_le first k && nat_lt k last) leads).1 kept
  kept-on dir at o (code.end_group k) new old leads kept = written k (ended dir o (get_or new k unset)) new old (and_parts (nat_lt (suc at) end) (nat_le first k && nat_lt k last) leads).1 kept
  kept-on dir at o (code.reset_group k) new old leads kept = written k unset new old (and_parts (nat_lt (suc at) end) (nat_le first k && nat_lt k last) leads).1 kept
  kept-on dir at o _ new old leads kept = kept

  module _ (told : ℕ → ℕ → Bool) (program : Program) (input : Input) (dir : Direction) (hs : List Marks) (at o : ℕ) (x : Station) where
    at-station : (b q : ℕ) → Some (station b q) ≡ Some x → (at < b) × (b < end) → (at < x.at) × (x.at < end)
    at-station b q e both = let same : station b q ≡ x = cc in subst (λ (y : Station). (at < y.at) × (y.at < end)) same both

    -- it leads further, and not past the end
    pub through : (i : Instruction) → leads_through singles first last end at i ≡ true → led told program input dir hs i at o ≡ Some x → (at < x.at) × (x.at < end)
    through code.goal leads e = absurd (cc e)
    through code.fail leads e = absurd (cc e)
    through (code.back k icase) leads e = absurd (cc leads)
    through (code.enter_loop f) leads e = absurd (cc leads)
    through (code.loop_again begin) leads e = absurd (cc leads)
    through (code.single_loop least most greedy) leads e = by_body (slice_get program.instructions (suc at)) e
      where
        by_offset : (y : Option ℕ) → station_at (suc (suc at)) y ≡ Some x → (at < x.at) × (x.at < end)
        by_offset None e = absurd (cc e)
        by_offset (Some q) e = at-station (suc (suc at)) q e (grind (arith, nat_tests, leads))

        by_body : (j : Option Instruction) → elim j [
          | None ↦ None
          | Some i ↦ station_at (suc (suc at)) (exit_at told program input dir hs least most greedy i (suc (suc at)) o)
        ] ≡ Some x → (at < x.at) × (x.at < end)
        by_body None e = absurd (cc e)
        by_body (Some i) e = by_offset (exit_at told program input dir hs least most greedy i (suc (suc at)) o) e
    through (code.jump a) leads e = at-station a o e (grind (arith, nat_tests, leads))
    through (code.alt a) leads e = at-station (first_of told o (suc at) a) o e (one-of (told (suc at) o))
      where
        one-of : (b : Bool) → (at < (if b then suc at else a)) × ((if b then suc at else a) < end)
        one-of true = grind (arith, nat_tests, leads)
        one-of false = grind (arith, nat_tests, leads)
    through (code.begin_group k) leads e = at-station (suc at) o e (grind (arith, nat_tests, leads))
    through (code.end_group k) leads e = at-station (suc at) o e (grind (arith, nat_tests, leads))
    through (code.reset_group k) leads e = at-station (suc at) o e (grind (arith, nat_tests, leads))
    through (code.submatch kind low high continuation) leads e = at-station continuation o e (grind (arith, nat_tests, leads))
    through i leads e = by_offset (advance program input i dir hs o) e (grind (arith, nat_tests, leads))
      where
        by_offset : (y : Option ℕ) → station_at (suc at) y ≡ Some x → (at < suc at) × (suc at < end) → (at < x.at) × (x.at < end)
        by_offset None e both = absurd (cc e)
        by_offset (Some q) e both = at-station (suc at) q e both
