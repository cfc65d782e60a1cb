-- The loops of a layout are the repetitions that begin in it.
use Rattle.std.specs.Prelude.{slice_get, count_by, take}
use Rattle.std.proofs.Common.{◌≡◌, ℕ, zero, suc, ◌+◌, ◌-◌, Bool, false, List, [], ◌∷◌, length, All, Some, if◌then◌else◌, refl, ap, ◌∙◌, arith}
use Rattle.std.proofs.Math.Seq.{take-length}
use Rattle.std.proofs.lemmas.List.Elements.{All-nil, All-cons, All-head, All-tail}
use Rattle.std.proofs.lemmas.List.Sums.{sum_by-cons}
use Rattle.regress_front_nodes.specs.Trees.{Tree}
use Rattle.regress_front_nodes.specs.TreeMeaning.{reads_backward}
use Rattle.regress_front_nodes.specs.Trees as tree
use Rattle.regress_front_nodes.specs.Forms.{in_reading_order}
use Rattle.regress_front_nodes.specs.Pieces.{pieces_of}
use Rattle.regress_engine_insn.specs.Instructions.{Instruction, Program, Stands, StandFrom, begins_loop}
use Rattle.regress_engine_insn.specs.Instructions as code
use Rattle.regress_engine_insn.specs.Layout.{ProgramPoint, next, Target, byte_set_code, char_set_code, literal_code, string_code, resets, IsBracket, IsOne, AreAll, AreArms, Lies, IsLayout}
use Rattle.regress_engine_insn.proofs.LayoutLemmas.{resets-length}
use Rattle.regress_engine_insn.proofs.TakingLemmas.{OfTaking, char_set-taking, byte_set-taking, literal-taking, pieces-taking}

-- it begins no repetition
abbrev IsPlain : Instruction → Type 0
IsPlain i = begins_loop i ≡ false

plain-taking : (program : Program) → OfTaking program IsPlain
plain-taking program = record {
  char = λ c. refl;
  char_set = λ cs. refl;
  byte_set = λ bs. refl;
  byte_seq = λ units bs. refl;
  fail = refl;
}

-- one instruction more
one-more : (is : List Instruction) (k : ℕ) (i : Instruction) → slice_get is k ≡ Some i
    → count_by begins_loop (take (suc k) is) ≡ count_by begins_loop (take k is) + (if begins_loop i then 1 else 0)
one-more [] k i here = absurd (grind arith)
one-more (j ∷ is) zero i here = let same : j ≡ i = cc in sum_by-cons (λ (x : Instruction). if begins_loop x then 1 else 0) j [] ∙ ap (λ (x : Instruction). (if begins_loop x then 1 else 0) + 0) same ∙ omega arith
one-more (j ∷ is) (suc k) i here =
    let more = sum_by-cons (λ (x : Instruction). if begins_loop x then 1 else 0) j (take (suc k) is) in
    let fewer = sum_by-cons (λ (x : Instruction). if begins_loop x then 1 else 0) j (take k is) in
    let rest = one-more is k i here in
    omega (arith, more, fewer, rest)

module _ (target : Target) where
  -- how many repetitions begin before an address
  abbrev begun : ℕ → ℕ
  begun k = count_by begins_loop (take k target.program.instructions)

  -- between two program points as many repetitions begin as their loops tell
  abbrev Tells : ProgramPoint → ProgramPoint → Type 0
  Tells p q = begun q.address + p.loops ≡ begun p.address + q.loops

  plain-step : (k : ℕ) (i : Instruction) → Stands target.program k i → IsPlain i → begun (suc k) ≡ begun k
  plain-step k i here plain =
      let more = one-more target.program.instructions k i here in
      let none = ap (λ (b : Bool). let n : ℕ = if b then 1 else 0 in n) plain in
      omega (arith, more, none)

  plain-steps : (is : List Instruction) (k : ℕ) → StandFrom target.program k is → All IsPlain is → begun (k + length is) ≡ begun k
  plain-steps [] k stand plain = ap begun (omega arith)
  plain-steps (i ∷ is) k (here, stand) plain =
      let e : k + suc (length is) ≡ suc k + length is = omega arith in
      ap begun e ∙ plain-steps is (suc k) stand (All-tail IsPlain i is plain) ∙ plain-step k i here (All-head IsPlain i is plain)

  nothing : (p q : ProgramPoint) → q ≡ p → Tells p q
  nothing p q e = let a = ap (λ (m : ProgramPoint). begun m.address) e in let l = ap (λ (m : ProgramPoint). m.loops) e in omega (arith, a, l)

  single : (i : Instruction) (p q : ProgramPoint) → IsOne target i p q → IsPlain i → Tells p q
  single i p q (here, end) plain =
      let step = plain-step p.address i here plain in
      let a = ap (λ (m : ProgramPoint). begun m.address) end in
      let l = ap (λ (m : ProgramPoint). m.loops) end in
      omega (arith, step, a, l)

  several : (is : List Instruction) (p q : ProgramPoint) → AreAll target is p q → All IsPlain is → Tells p q
  several is p q (stand, end) plain =
      let steps = plain-steps is p.address stand plain in
      let a = ap (λ (m : ProgramPoint). begun m.address) end in
      let l = ap (λ (m : ProgramPoint). m.loops) end in
      omega (arith, steps, a, l)

  arms-tell : (b icase : Bool) (strings : List (List ℕ)) (p q : ProgramPoint) → AreArms target b icase strings p q → Tells p q
  arms-tell b icase [] p q h = single code.fail p q h refl
  arms-tell b icase (s ∷ []) p q h =
      several (string_code target b icase s) p q h (pieces-taking target.program IsPlain (plain-taking target.program) b (in_reading_order b (pieces_of target.table icase target.unicode s)))
  arms-tell b icase (s ∷ t ∷ ss) p q (m, first, alt, jump, rest) =
      let before = plain-step p.address (code.alt (suc m.address)) alt refl in
      let own = several (string_code target b icase s) (next p) m first (pieces-taking target.program IsPlain (plain-taking target.program) b (in_reading_order b (pieces_of target.table icase target.unicode s))) in
      let behind = plain-step m.address (code.jump q.address) jump refl in
      let others = arms-tell b icase (t ∷ ss) (next m) q rest in
      omega (arith, before, own, behind, others)

  bracket-plain : (inverted : Bool) (intervals : List (ℕ × ℕ)) (i : Instruction) → IsBracket target.program inverted intervals i → IsPlain i
  bracket-plain inverted intervals (code.bracket k) is = refl
  bracket-plain inverted intervals (code.ascii_bracket cs) is = refl
  bracket-plain inverted intervals _ is = absurd is

  resets-plain : (first n : ℕ) → All IsPlain (resets first n)
  resets-plain first zero = All-nil IsPlain
  resets-plain first (suc n) = All-cons IsPlain (code.reset_group first) (resets (suc first) n) refl (resets-plain (suc first) n)

  -- Between the program points of a tree as many repetitions begin as its loops.
  pub loops-begin : (t : Tree) (b : Bool) (p q : ProgramPoint) → Lies target b t p q → Tells p q
  loops-begin tree.empty b p q h = nothing p q h
  loops-begin tree.no_part b p q h = nothing p q h
  loops-begin (tree.bytes bs) b p q h = several (literal_code target.program b bs) p q h (literal-taking target.program IsPlain (plain-taking target.program) b bs)
  loops-begin (tree.cat s t) b p q (m, h, k) =
      let e = loops-begin s b p m h in let f = loops-begin t b m q k in omega (arith, e, f)
  loops-begin (tree.alt s t) b p q (m, alt, h, jump, k) =
      let before = plain-step p.address (code.alt (suc m.address)) alt refl in
      let e = loops-begin s b (next p) m h in
      let behind = plain-step m.address (code.jump q.address) jump refl in
      let f = loops-begin t b (next m) q k in
      omega (arith, before, e, behind, f)
  loops-begin (tree.capture k name a) b p q (m, begin, h, end) =
      let before = plain-step p.address (code.begin_group k) begin refl in
      let e = loops-begin a b (next p) m h in
      let behind = single (code.end_group k) m q end refl in
      omega (arith, before, e, behind)
  loops-begin (tree.submatch kind first last a) b p q (m, begin, h, end) =
      let before = plain-step p.address (code.submatch kind first last q.address) begin refl in
      let e = loops-begin a (reads_backward kind b) (next p) m h in
      let last = single code.goal m q end refl in
      omega (arith, before, e, last)
  loops-begin (tree.loop a first last least most greedy) b p q (m, begin, reset, h, end) =
      let before = one-more target.program.instructions p.address _ begin in
      let cleared = plain-steps (resets first (last - first)) (suc p.address) reset (resets-plain first (last - first)) in
      let size = ap begun (ap (λ n. suc p.address + n) (resets-length first (last - first))) in
      let e = loops-begin a b (record { address = suc p.address + (last - first); loops = suc p.loops }) m h in
      let behind = single (code.loop_again p.address) m q end refl in
      omega (arith, before, cleared, size, e, behind)
  loops-begin (tree.single_loop a least most greedy) b p q (here, h) =
      let before = plain-step p.address (code.single_loop least most greedy) here refl in
      let e = loops-begin a b (next p) q h in
      omega (arith, before, e)
  loops-begin (tree.bracket inverted intervals) b p q (i, is, h) = single i p q h (bracket-plain inverted intervals i is)
  loops-begin (tree.string_set strings icase) b p q h = arms-tell b icase strings p q h
  loops-begin (tree.byte_set bs) b p q h =
      single (byte_set_code target.program.units bs) p q h (byte_set-taking target.program IsPlain (plain-taking target.program) target.program.units bs)
  loops-begin (tree.char_set cs) b p q h = single (char_set_code cs) p q h (char_set-taking target.program IsPlain (plain-taking target.program) cs)
  loops-begin tree.goal b p q h = single code.goal p q h refl
  loops-begin (tree.char c) b p q h = single (code.char c) p q h refl
  loops-begin tree.any b p q h = single code.any p q h refl
  loops-begin tree.any_in_line b p q h = single code.any_in_line p q h refl
  loops-begin (tree.line_start multiline) b p q h = single (code.line_start multiline) p q h refl
  loops-begin (tree.line_end multiline) b p q h = single (code.line_end multiline) p q h refl
  loops-begin (tree.boundary inverted folded) b p q h = single (code.boundary inverted folded) p q h refl
  loops-begin (tree.back k icase) b p q h = single (code.back (k - 1) icase) p q h refl

  -- A layout has as many loops as repetitions begin in it.
  pub all-begin : (n : ℕ) (t : Tree) → IsLayout target n t → count_by begins_loop target.program.instructions ≡ target.program.loops
  all-begin n t layout =
      let told = loops-begin t false (record { address = 0; loops = 0 }) (record { address = length target.program.instructions; loops = target.program.loops }) layout.lies in
      let whole = ap (count_by begins_loop) (take-length target.program.instructions) in
      omega (arith, told, whole)
