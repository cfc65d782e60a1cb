-- Facts that were read.
use Rattle.std.specs.Prelude.{slice_get, get_or, option_map}
use Rattle.std.proofs.Common.{◌≡◌, ◌≢◌, ℕ, ◌<◌, ◌≤◌, ◌⊎◌, inl, inr, Bool, true, false, List, length, map, Option, Some, None, refl, sym, ap, ◌∙◌, subst, arith}
use Rattle.std.proofs.lemmas.Bool.{cases_lt, eqb-true, true≢false}
use Rattle.std.proofs.lemmas.List.{length-map}
use Rattle.std.proofs.lemmas.Option.{slice_get-map, slice_get-get_or, slice_get_past}
use Rattle.regress_meaning.specs.Inputs.{is_continuation}
use Rattle.regress_front_bytes.specs.Bitmaps.{byte_bitmap_contains}
use Rattle.regress_front_bytes.specs.declared.bitmaps.ByteBitmap.{ByteBitmap}
use Rattle.regress_engine_insn.specs.Instructions.{Instruction, LoopFields, Program, Stands, begins_loop}
use Rattle.regress_engine_insn.specs.Instructions as code
use Rattle.regress_engine_insn.specs.InsnViews.{instruction}
use Rattle.regress_engine_insn.specs.declared.insn.Insn.{Insn}
use Rattle.regress_engine_analysis.specs.declared.facts.Facts.{Facts}
use Rattle.regress_engine_analysis.specs.declared.facts.Known.{Known}
use Rattle.regress_engine_analysis.specs.declared.facts.Known.TheVariants.{Nothing}
use Rattle.regress_engine_analysis.specs.declared.ways.Ways.{Ways}
use Rattle.regress_engine_analysis.specs.MayBegin.{may_begin_with}
use Rattle.regress_engine_analysis.specs.Planned.{AreApart, IsSo, ends_iteration, firsts, jumps_to, known_of, stands_as}

-- what a set says, if there is one
abbrev by_set : ℕ → Option ByteBitmap → Bool
by_set b x = elim x [ None ↦ true | Some set ↦ byte_bitmap_contains set b ]

-- what is known, by facts, if there are any
abbrev by_facts : Option Facts → Known
by_facts x = elim x [ None ↦ Nothing | Some f ↦ f.known ]

-- a set that was read
pub may-read : (sets : List ByteBitmap) (at b : ℕ) (d : ByteBitmap) → at < length sets → may_begin_with sets at b ≡ byte_bitmap_contains (get_or sets at d) b
may-read sets at b d within = ap (by_set b) (slice_get-get_or sets at d within)

-- of two sets that were read, no byte is in both
pub apart-read : (sets : List ByteBitmap) (at other : ℕ) (d e : ByteBitmap) → at < length sets → other < length sets
    → ((b : ℕ) → b < 256 → is_continuation b ≡ false → byte_bitmap_contains (get_or sets at d) b ≡ true → byte_bitmap_contains (get_or sets other e) b ≡ false)
    → AreApart sets at other
apart-read sets at other d e here there apart = λ b small lead in_first.
    may-read sets other b e there ∙ apart b small lead (sym (may-read sets at b d here) ∙ in_first)

-- an instruction that was read stands there
pub read-stands : (program : Program) (insns : List Insn) (at : ℕ) (d : Insn) → program.instructions ≡ map instruction insns → at < length insns
    → slice_get program.instructions at ≡ Some (instruction (get_or insns at d))
read-stands program insns at d same within =
    ap (λ (is : List Instruction). slice_get is at) same ∙ slice_get-map instruction insns at ∙ ap (option_map instruction) (slice_get-get_or insns at d within)

-- so it passes a test there
pub read-passes : (program : Program) (insns : List Insn) (at : ℕ) (d : Insn) (test : Instruction → Bool) → program.instructions ≡ map instruction insns → at < length insns
    → test (instruction (get_or insns at d)) ≡ true → stands_as program test at ≡ true
read-passes program insns at d test same within passes =
    ap (λ (x : Option Instruction). elim x [ None ↦ false | Some i ↦ test i ]) (read-stands program insns at d same within) ∙ passes

-- what stands where a test passes
pub stands-of : (program : Program) (test : Instruction → Bool) (at : ℕ) → stands_as program test at ≡ true → (i : Instruction) × Stands program at i × (test i ≡ true)
stands-of program test at passes = by_insn (slice_get program.instructions at) refl passes
  where
    by_insn : (x : Option Instruction) → slice_get program.instructions at ≡ x → (elim x as (λ _. Bool) [ None ↦ false | Some i ↦ test i ]) ≡ true
        → (i : Instruction) × Stands program at i × (test i ≡ true)
    by_insn None e f = absurd (true≢false (sym f))
    by_insn (Some i) e f = (i, e, f)

jump-is : (target : ℕ) (i : Instruction) → jumps_to target i ≡ true → i ≡ code.jump target
jump-is target (code.jump a) is = ap code.jump (eqb-true a target is)
jump-is target _ is = absurd (grind arith)

end-is : (begin : ℕ) (i : Instruction) → ends_iteration begin i ≡ true → i ≡ code.loop_again begin
end-is begin (code.loop_again a) is = ap code.loop_again (eqb-true a begin is)
end-is begin _ is = absurd (grind arith)

loop-is : (i : Instruction) → begins_loop i ≡ true → (f : LoopFields) × (i ≡ code.enter_loop f)
loop-is (code.enter_loop f) is = (f, refl)
loop-is _ is = absurd (grind arith)

pub jump-stands : (program : Program) (target at : ℕ) → stands_as program (jumps_to target) at ≡ true → Stands program at (code.jump target)
jump-stands program target at passes =
    let (i, here, is) = stands-of program (jumps_to target) at passes in subst (Stands program at) (jump-is target i is) here

pub end-stands : (program : Program) (begin at : ℕ) → stands_as program (ends_iteration begin) at ≡ true → Stands program at (code.loop_again begin)
end-stands program begin at passes =
    let (i, here, is) = stands-of program (ends_iteration begin) at passes in subst (Stands program at) (end-is begin i is) here

pub loop-stands : (program : Program) (at : ℕ) → stands_as program begins_loop at ≡ true → (f : LoopFields) × Stands program at (code.enter_loop f)
loop-stands program at passes =
    let (i, here, is) = stands-of program begins_loop at passes in let (f, same) = loop-is i is in (f, subst (Stands program at) same here)

-- one of two ways alone stands at an address, and one repetition alone begins there
pub one-second : (program : Program) (sets : List ByteBitmap) (from at second other : ℕ) → Stands program at (code.alt second) → AreApart sets from second
    → Stands program at (code.alt other) → AreApart sets from other
one-second program sets from at second other here apart there =
    let alike : Some (code.alt second) ≡ Some (code.alt other) = sym here ∙ there in
    let same : second ≡ other = cc in subst (AreApart sets from) same apart

pub one-loop : (program : Program) (sets : List ByteBitmap) (from at : ℕ) (f k : LoopFields) → Stands program at (code.enter_loop f) → AreApart sets from f.exit
    → Stands program at (code.enter_loop k) → AreApart sets from k.exit
one-loop program sets from at f k here apart there =
    let alike : Some (code.enter_loop f) ≡ Some (code.enter_loop k) = sym here ∙ there in
    let same : f ≡ k = cc in subst (λ (l : LoopFields). AreApart sets from l.exit) same apart

-- the first bytes among facts that were read, and past them
pub first-read : (facts : List Facts) (at b : ℕ) (d : Facts) → at < length facts → may_begin_with (firsts facts) at b ≡ byte_bitmap_contains (get_or facts at d).first b
first-read facts at b d within = ap (by_set b) (slice_get-map (λ f. f.first) facts at ∙ ap (option_map (λ f. f.first)) (slice_get-get_or facts at d within))

pub first-past : (facts : List Facts) (at b : ℕ) → length facts ≤ at → may_begin_with (firsts facts) at b ≡ true
first-past facts at b past = ap (by_set b) (slice_get-map (λ f. f.first) facts at ∙ ap (option_map (λ f. f.first)) (slice_get_past facts at past))

-- what is known by facts that were read, and past them
pub known-read : (facts : List Facts) (at : ℕ) (d : Facts) → at < length facts → known_of facts at ≡ (get_or facts at d).known
known-read facts at d within = ap by_facts (slice_get-get_or facts at d within)

pub known-past : (facts : List Facts) (at : ℕ) → length facts ≤ at → known_of facts at ≡ Nothing
known-past facts at past = ap by_facts (slice_get_past facts at past)

-- ---- what is known

-- something is known within alone
pub known-within : (facts : List Facts) (at : ℕ) (known : Known) → known_of facts at ≡ known → known ≢ Nothing → at < length facts
known-within facts at known e some = by_order (cases_lt at (length facts))
  where
    by_order : (at < length facts) ⊎ (length facts ≤ at) → at < length facts
    by_order (inl less) = less
    by_order (inr past) = absurd (some (sym e ∙ known-past facts at past))

-- and is so
pub known-so : (program : Program) (sets : List ByteBitmap) (tables : List Ways) (facts : List Facts) → ((at : ℕ) → at < length facts → IsSo program sets tables at (known_of facts at))
    → (at : ℕ) (known : Known) → known_of facts at ≡ known → known ≢ Nothing → IsSo program sets tables at known
known-so program sets tables facts so at known e some = subst (IsSo program sets tables at) e (so at (known-within facts at known e some))

-- as many addresses have facts as have first bytes
pub firsts-size : (facts others : List Facts) → firsts facts ≡ firsts others → length facts ≡ length others
firsts-size facts others same = sym (length-map facts (λ f. f.first)) ∙ ap length same ∙ length-map others (λ f. f.first)
