-- Where instructions inside of contents that no way leads out of lead, and what they write.
use Rattle.std.specs.Prelude.{nat_le, nat_lt, slice_get}
use Rattle.std.proofs.Common.{◌≡◌, ℕ, suc, ◌<◌, ◌&&◌, Bool, true, false, List, get_or, Option, None, Some, if◌then◌else◌, refl, subst, arith}
use Rattle.std.proofs.lemmas.Bool.{and_parts}
use Rattle.std.proofs.lemmas.Bool.Decides.{nat_tests}
use Rattle.regress_meaning.specs.Meaning.{Direction}
use Rattle.regress_meaning.specs.Inputs.{Input}
use Rattle.regress_engine_insn.specs.Instructions.{LoopFields, Instruction, Program, Stands}
use Rattle.regress_engine_insn.specs.Instructions as code
use Rattle.regress_engine_runs.specs.States.{Marks, begun, ended, unset}
use Rattle.regress_engine_runs.specs.Runs.{advance, fields_of}
use Rattle.regress_engine_linear.specs.Answered.{exit_at}
use Rattle.regress_engine_linear.specs.Linear.{StayInside, stays_inside}
use Rattle.regress_engine_ways.specs.Ways.{AreKept, again_at, either_of, entered_at, first_of, led, marked, station, station_at}
use Rattle.regress_engine_ways.specs.declared.station.Station.{Station}
use Rattle.regress_engine_ways.proofs.Through.{written}

-- what an instruction writes there is inside
pub kept-inside : (first last look end : ℕ) (dir : Direction) (at o : ℕ) (i : Instruction) (new old : List Marks) → stays_inside first last look end at i ≡ true → AreKept first last new old
    → AreKept first last (marked dir i o new) old
kept-inside first last look end dir at o (code.begin_group k) new old stays kept =
    written false first last end k (begun dir o (get_or new k unset)) new old (and_parts (nat_lt (suc at) end) (nat_le first k && nat_lt k last) stays).1 kept
kept-inside first last look end dir at o (code.end_group k) new old stays kept =
    written false first last end k (ended dir o (get_or new k unset)) new old (and_parts (nat_lt (suc at) end) (nat_le first k && nat_lt k last) stays).1 kept
kept-inside first last look end dir at o (code.reset_group k) new old stays kept =
    written false first last end k unset new old (and_parts (nat_lt (suc at) end) (nat_le first k && nat_lt k last) stays).1 kept
kept-inside first last look end dir at o _ new old stays kept = kept

module _ (program : Program) (look first last end : ℕ) (closed : StayInside program look first last end)
    (told : ℕ → ℕ → Bool) (input : Input) (dir : Direction) (hs : List Marks) (at o : ℕ) (after : look < at) (x : Station) where
  abbrev Inside : ℕ → Type 0
  Inside b = (look < b) × (b < end)

  at-station : (b q : ℕ) → Some (station b q) ≡ Some x → Inside b → Inside x.at
  at-station b q e both = let same : station b q ≡ x = cc in subst (λ (y : Station). Inside y.at) same both

  one-of : (c : Bool) (a b : ℕ) → Inside a → Inside b → Inside (if c then a else b)
  one-of true a b first second = first
  one-of false a b first second = second

  either : (greedy : Bool) (more out : ℕ) → Inside more → Inside out → Inside (either_of told greedy o more out)
  either true more out first second = one-of (told more o) more out first second
  either false more out first second = one-of (told out o) out more second first

  entering : (f : LoopFields) → Inside (suc at) → Inside f.exit → Inside (entered_at told f at o)
  entering f more out = by_least (nat_le f.least 0)
    where
      by_least : (b : Bool) → Inside (if b then either_of told f.greedy o (suc at) f.exit else suc at)
      by_least true = either f.greedy (suc at) f.exit more out
      by_least false = more

  -- where an iteration ends
  again : (begin : ℕ) → Inside begin → led told program input dir hs (code.loop_again begin) at o ≡ Some x → Inside x.at
  again begin (low, high) e = by_insn (slice_get program.instructions begin) refl e
    where
      by_most : (f : LoopFields) (b : Bool) → Inside (suc begin) → Inside f.exit → Inside (if b then either_of told f.greedy o (suc begin) f.exit else f.exit)
      by_most f true more out = either f.greedy (suc begin) f.exit more out
      by_most f false more out = out

      by_kind : (i : Instruction) → Stands program begin i → again_at told o begin (fields_of (Some i)) ≡ Some x → Inside x.at
      by_kind (code.enter_loop f) here e =
          let stays = closed.stays begin (code.enter_loop f) low high here in
          at-station (if nat_lt 1 f.most then either_of told f.greedy o (suc begin) f.exit else f.exit) o e
          (by_most f (nat_lt 1 f.most) (grind (arith, nat_tests, stays, low)) (grind (arith, nat_tests, stays)))
      by_kind _ here e = absurd (cc e)

      by_insn : (y : Option Instruction) → slice_get program.instructions begin ≡ y → again_at told o begin (fields_of y) ≡ Some x → Inside x.at
      by_insn None here e = absurd (cc e)
      by_insn (Some i) here e = by_kind i here e

  abbrev next : Instruction → Type 0
  next i = stays_inside first last look end at i ≡ true → led told program input dir hs i at o ≡ Some x → Inside x.at

  -- it leads no way out of them
  by-kind : (i : Instruction) → next i
  by-kind code.goal stays e = absurd (cc e)
  by-kind code.fail stays e = absurd (cc e)
  by-kind (code.back k icase) stays e = absurd (cc stays)
  by-kind (code.enter_loop f) stays e =
      at-station (entered_at told f at o) o e (entering f (grind (arith, nat_tests, stays, after)) (grind (arith, nat_tests, stays)))
  by-kind (code.loop_again begin) stays e = again begin (grind (arith, nat_tests, stays)) e
  by-kind (code.single_loop least most greedy) stays e = by_body (slice_get program.instructions (suc at)) e
    where
      by_offset : (y : Option ℕ) → station_at (suc (suc at)) y ≡ Some x → Inside x.at
      by_offset None e = absurd (cc e)
      by_offset (Some q) e = at-station (suc (suc at)) q e (grind (arith, nat_tests, stays, after))

      by_body : (j : Option Instruction) → elim j [
        | None ↦ None
        | Some i ↦ station_at (suc (suc at)) (exit_at told program input dir hs least most greedy i (suc (suc at)) o)
      ] ≡ Some x → Inside x.at
      by_body None e = absurd (cc e)
      by_body (Some i) e = by_offset (exit_at told program input dir hs least most greedy i (suc (suc at)) o) e
  by-kind (code.jump a) stays e = at-station a o e (grind (arith, nat_tests, stays))
  by-kind (code.alt a) stays e =
      at-station (first_of told o (suc at) a) o e (one-of (told (suc at) o) (suc at) a (grind (arith, nat_tests, stays, after)) (grind (arith, nat_tests, stays)))
  by-kind (code.begin_group k) stays e = at-station (suc at) o e (grind (arith, nat_tests, stays, after))
  by-kind (code.end_group k) stays e = at-station (suc at) o e (grind (arith, nat_tests, stays, after))
  by-kind (code.reset_group k) stays e = at-station (suc at) o e (grind (arith, nat_tests, stays, after))
  by-kind (code.submatch kind low high continuation) stays e = at-station continuation o e (grind (arith, nat_tests, stays))
  by-kind i stays e = by_offset (advance program input i dir hs o) e (grind (arith, nat_tests, stays, after))
    where
      by_offset : (y : Option ℕ) → station_at (suc at) y ≡ Some x → Inside (suc at) → Inside x.at
      by_offset None e both = absurd (cc e)
      by_offset (Some q) e both = at-station (suc at) q e both

  pub staying : (i : Instruction) → Stands program at i → at < end → led told program input dir hs i at o ≡ Some x → (look < x.at) × (x.at < end)
  staying i here ahead e = by-kind i (closed.stays at i after ahead here) e
