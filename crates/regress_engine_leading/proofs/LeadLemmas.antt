-- Characters of units that are passed over, by the first bytes of the program.
use Rattle.std.specs.Prelude.{◌==◌, slice_get, get_or, encode_utf8, cond}
use Rattle.std.proofs.Common.{◌≡◌, inl, inr, ℕ, zero, suc, ◌+◌, ◌-◌, ◌<◌, ◌≤◌, ◌||◌, Bool, true, false, not, length, Option, Some, None, refl, sym, ap, ◌∙◌, subst, arith}
use Rattle.std.proofs.lemmas.Bool.Decides.{nat_tests}
use Rattle.std.proofs.lemmas.Option.{slice_get-get_or, get_or_from_slice_get}
use Rattle.regress_meaning.specs.Meaning.{is_some_and}
use Rattle.regress_meaning.specs.TableParts.{is_surrogate}
use Rattle.regress_meaning.specs.Tokens.{is_high}
use Rattle.regress_front_bytes.specs.Bitmaps.{byte_bitmap_contains}
use Rattle.regress_front_bytes.specs.declared.bitmaps.ByteBitmap.{ByteBitmap}
use Rattle.regress_front_sets.proofs.FirstByteLemmas.{lead}
use Rattle.regress_engine_input.specs.Views.{View, AreOfKind, are_bytes, input_of, reading_of}
use Rattle.regress_engine_prefix.specs.FirstBytes.{MayLead}
use Rattle.regress_engine_prefix.proofs.LeadLemmas.{has-lead, MayLead-first}
use Rattle.regress_engine_scanning.specs.Leads.{byte_for, has_byte_for}
use Rattle.regress_engine_analysis.specs.Planned.{firsts}
use Rattle.regress_engine_analysis.specs.Shared.{facts_of}
use Rattle.regress_engine_code.specs.Standing.{cannot_begin_with, program_of}
use Rattle.regress_engine_code.specs.declared.compiled.CompiledRegex.{CompiledRegex}
use Rattle.regress_engine_runs.specs.Meets.{IsAtPlace}
use Rattle.regress_engine_search.specs.Search.{Suits}
use Rattle.regress_engine_search.specs.Answering.{FindsOn}
use Rattle.regress_engine_search.specs.Skipping.{Reaches}
use Rattle.regress_engine_singles.proofs.ByteLemmas.{lone-next}
use Rattle.regress_engine_singles.proofs.LeadAheadLemmas.{lead_lone, unit-point}
use Rattle.regress_engine_advance.proofs.CannotBeginLemmas.{cannot_begin-dead}
use Rattle.regress_engine_leading.proofs.WordLemmas.{word-dead}

-- what may be a first byte is a byte
lead-small : (b : ℕ) → MayLead b → b < 256
lead-small b (inl low) = omega (arith, low)
lead-small b (inr (far, small)) = small

or-last : (a : Bool) → (a || true) ≡ true
or-last true = refl
or-last false = refl

neither : (a b : Bool) → (a || b) ≡ false → a ≡ false
neither true b e = e
neither false b e = refl

-- a set has the bytes with which a match may begin, and 0xFF
module _ (compiled : CompiledRegex) (v : View) (all : AreOfKind v.kind v.units) (suits : Suits (program_of compiled) v) (are : are_bytes v.kind ≡ false) (first : ByteBitmap)
    (is : Some first ≡ slice_get (firsts (facts_of compiled.plan)) 0) (stops : ℕ → Bool) (has : (b : ℕ) → stops b ≡ (byte_bitmap_contains first b || 0xFF == b)) (start : ℕ) (place : IsAtPlace (reading_of v) start) where
  half : stops 0xFF ≡ true
  half = has 0xFF ∙ or-last (byte_bitmap_contains first 0xFF)

  lacks : (b : ℕ) → stops b ≡ false → cannot_begin_with compiled 0 b ≡ true
  lacks b other =
      ap (λ (x : Option ByteBitmap). not (elim x [ None ↦ true | Some set ↦ byte_bitmap_contains set b ])) (sym is)
      ∙ ap not (neither (byte_bitmap_contains first b) (0xFF == b) (sym (has b) ∙ other))

  -- a unit that has no byte of the set is passed over
  lone-over : (at unit : ℕ) → slice_get v.units at ≡ Some unit → is_surrogate unit ≡ false → has_byte_for stops unit ≡ false → Reaches (program_of compiled) v start at → Reaches (program_of compiled) v start (suc at)
  lone-over at unit here lone other reaches =
      let alone : is_high unit ≡ false = grind (arith, nat_tests, lone) in
      let next = lone-next v.kind v.table v.unicode v.units unit at are alone here in
      let first : slice_get (encode_utf8 unit) 0 ≡ Some (lead unit) = has-lead unit in
      let small : lead unit < 256 = lead-small (lead unit) (MayLead-first unit (lead unit) (unit-point v.kind v.table v.unicode v.units all are at (unit, suc at) next) first) in
      let byte : byte_for unit ≡ lead unit = ap (λ (t : Bool). cond t 0xFF (get_or (encode_utf8 unit) 0 0)) lone ∙ get_or_from_slice_get (encode_utf8 unit) 0 (lead unit) 0 first in
      let none = lacks (lead unit) (ap stops (sym byte) ∙ other) in
      word-dead (program_of compiled) v all start at unit (suc at) next reaches (cannot_begin-dead compiled v all suits 0 at (lead unit) small (lead_lone v are at unit (lead unit) here alone first) none)

  unit-over : (at unit : ℕ) → slice_get v.units at ≡ Some unit → has_byte_for stops unit ≡ false → Reaches (program_of compiled) v start at → Reaches (program_of compiled) v start (suc at)
  unit-over at unit here other = by_half (is_surrogate unit) refl
    where
      by_half : (t : Bool) → is_surrogate unit ≡ t → Reaches (program_of compiled) v start at → Reaches (program_of compiled) v start (suc at)
      by_half false lone reaches = lone-over at unit here lone other reaches
      by_half true pair reaches =
          let byte : byte_for unit ≡ 0xFF = ap (λ (t : Bool). cond t 0xFF (get_or (encode_utf8 unit) 0 0)) pair in
          let never : true ≡ false = sym half ∙ ap stops (sym byte) ∙ other in absurd (cc never)

  -- as many as have none are
  pub leads-over : (n : ℕ) → start + n ≤ length v.units → ((k : ℕ) → start ≤ k → k < start + n → ¬ (is_some_and (slice_get v.units k) (has_byte_for stops) ≡ true)) → Reaches (program_of compiled) v start (start + n)
  leads-over zero room none =
      let same : start ≡ start + 0 = omega arith in
      record { low = omega arith; place = subst (IsAtPlace (reading_of v)) same place; on = λ offset finds. subst (λ o. FindsOn (program_of compiled) (input_of v) offset o) same finds }
  leads-over (suc n) room none =
      let at : ℕ = start + n in
      let one : suc at ≡ start + suc n = omega arith in
      let unit : ℕ = get_or v.units at 0 in
      let here : slice_get v.units at ≡ Some unit = slice_get-get_or v.units at 0 (omega (arith, room)) in
      let before = leads-over n (omega (arith, room)) (λ k low less. none k low (omega (arith, less))) in
      subst (λ o. Reaches (program_of compiled) v start o) one (unit-over at unit here (by_test (has_byte_for stops unit) (λ yes. none at (omega arith) (omega arith) (ap (λ (x : Option ℕ). is_some_and x (has_byte_for stops)) here ∙ yes))) before)
    where
      by_test : (t : Bool) → ¬ (t ≡ true) → t ≡ false
      by_test false never = refl
      by_test true never = absurd (never refl)

  pub leads-reach : (at : ℕ) → start ≤ at → at ≤ length v.units → ((k : ℕ) → start ≤ k → k < at → ¬ (is_some_and (slice_get v.units k) (has_byte_for stops) ≡ true)) → Reaches (program_of compiled) v start at
  leads-reach at low room none =
      let whole : start + (at - start) ≡ at = omega (arith, low) in
      subst (λ o. Reaches (program_of compiled) v start o) whole (leads-over (at - start) (omega (arith, low, room)) (λ k from less. none k from (omega (arith, less, low))))
