-- A layout goes forward, and rests on its own instructions and on the program's brackets alone.
use Rattle.std.specs.Prelude.{slice_get}
use Rattle.std.proofs.Common.{◌≡◌, ℕ, zero, suc, ◌+◌, ◌-◌, ◌<◌, ◌≤◌, Bool, List, [], ◌∷◌, ◌++◌, length, Some, refl, ap, subst, arith}
use Rattle.regress_front_nodes.specs.Trees.{Tree}
use Rattle.regress_front_nodes.specs.TreeMeaning.{reads_backward}
use Rattle.regress_front_nodes.specs.Trees as tree
use Rattle.regress_engine_insn.specs.Instructions.{Instruction, Program, Stands, StandFrom}
use Rattle.regress_engine_insn.specs.Instructions as code
use Rattle.regress_engine_insn.specs.Layout.{ProgramPoint, next, later, Target, resets, string_code, IsBracket, AreArms, Lies}

-- instructions that stand one after another are some and then the others
pub stand-parts : (program : Program) (xs ys : List Instruction) (address : ℕ) → StandFrom program address (xs ++ ys)
    → StandFrom program address xs × StandFrom program (address + length xs) ys
stand-parts program [] ys address h = let e : address ≡ address + 0 = omega arith in (tt, subst (λ a. StandFrom program a ys) e h)
stand-parts program (x ∷ xs) ys address (here, rest) =
    let parts = stand-parts program xs ys (suc address) rest in
    let e : suc address + length xs ≡ address + suc (length xs) = omega arith in
    ((here, parts.0), subst (λ a. StandFrom program a ys) e parts.1)

-- the address of a program point that is told by another
pub at-same : (p q : ProgramPoint) → q ≡ p → q.address ≡ p.address
at-same p q e = ap (λ (m : ProgramPoint). m.address) e

pub resets-length : (first n : ℕ) → length (resets first n) ≡ n
resets-length first zero = refl
resets-length first (suc n) = ap suc (resets-length (suc first) n)

arms-forward : (target : Target) (b icase : Bool) (strings : List (List ℕ)) (p q : ProgramPoint) → AreArms target b icase strings p q → p.address ≤ q.address
arms-forward target b icase [] p q h = let e = at-same (next p) q h.1 in omega (arith, e)
arms-forward target b icase (s ∷ []) p q h =
    let n : ℕ = length (string_code target b icase s) in
    let e = at-same (later p n) q h.1 in omega (arith, e)
arms-forward target b icase (s ∷ t ∷ ss) p q (m, first, alt, jump, rest) =
    let n : ℕ = length (string_code target b icase s) in
    let e = at-same (later (next p) n) m first.1 in
    let r = arms-forward target b icase (t ∷ ss) (next m) q rest in omega (arith, e, r)

-- a layout goes forward
pub Lies-forward : (target : Target) (b : Bool) (t : Tree) (p q : ProgramPoint) → Lies target b t p q → p.address ≤ q.address
Lies-forward target b tree.empty p q h = let e = at-same p q h in omega (arith, e)
Lies-forward target b (tree.bytes bs) p q h = let e = at-same (later p _) q h.1 in omega (arith, e)
Lies-forward target b (tree.cat s t) p q (m, h, k) =
    let e = Lies-forward target b s p m h in let f = Lies-forward target b t m q k in omega (arith, e, f)
Lies-forward target b tree.no_part p q h = let e = at-same p q h in omega (arith, e)
Lies-forward target b (tree.alt s t) p q (m, alt, h, jump, k) =
    let e = Lies-forward target b s (next p) m h in let f = Lies-forward target b t (next m) q k in omega (arith, e, f)
Lies-forward target b (tree.capture k name a) p q (m, begin, h, end) =
    let e = Lies-forward target b a (next p) m h in let f = at-same (next m) q end.1 in omega (arith, e, f)
Lies-forward target b (tree.bracket inverted intervals) p q (i, is, h) = let e = at-same (next p) q h.1 in omega (arith, e)
Lies-forward target b (tree.string_set strings icase) p q h = arms-forward target b icase strings p q h
Lies-forward target b (tree.submatch kind first last a) p q (m, begin, h, end) =
    let e = Lies-forward target (reads_backward kind b) a (next p) m h in let f = at-same (next m) q end.1 in omega (arith, e, f)
Lies-forward target b (tree.loop a first last least most greedy) p q (m, begin, reset, h, end) =
    let e = Lies-forward target b a _ m h in let f = at-same (next m) q end.1 in omega (arith, e, f)
Lies-forward target b (tree.single_loop a least most greedy) p q h = let e = Lies-forward target b a (next p) q h.1 in omega (arith, e)
Lies-forward target b tree.goal p q h = let e = at-same (next p) q h.1 in omega (arith, e)
Lies-forward target b (tree.char c) p q h = let e = at-same (next p) q h.1 in omega (arith, e)
Lies-forward target b (tree.byte_set bs) p q h = let e = at-same (next p) q h.1 in omega (arith, e)
Lies-forward target b (tree.char_set cs) p q h = let e = at-same (next p) q h.1 in omega (arith, e)
Lies-forward target b tree.any p q h = let e = at-same (next p) q h.1 in omega (arith, e)
Lies-forward target b tree.any_in_line p q h = let e = at-same (next p) q h.1 in omega (arith, e)
Lies-forward target b (tree.line_start multiline) p q h = let e = at-same (next p) q h.1 in omega (arith, e)
Lies-forward target b (tree.line_end multiline) p q h = let e = at-same (next p) q h.1 in omega (arith, e)
Lies-forward target b (tree.boundary inverted folded) p q h = let e = at-same (next p) q h.1 in omega (arith, e)
Lies-forward target b (tree.back k icase) p q h = let e = at-same (next p) q h.1 in omega (arith, e)

-- the target with other instructions and brackets
abbrev pub with_code : Target → List Instruction → List (Bool × List (ℕ × ℕ)) → Target
with_code target is brackets = record target { program = record target.program { instructions = is; brackets = brackets } }

module _ (target : Target) (is : List Instruction) (brackets : List (Bool × List (ℕ × ℕ))) where
  -- each instruction from one address up to another stands in the others too
  abbrev pub Agrees : ℕ → ℕ → Type 0
  Agrees low high = (k : ℕ) (i : Instruction) → low ≤ k → k < high → Stands target.program k i → slice_get is k ≡ Some i

  -- each bracket is among the others
  abbrev pub HasBrackets : Type 0
  HasBrackets = (k : ℕ) (x : Bool × List (ℕ × ℕ)) → slice_get target.program.brackets k ≡ Some x → slice_get brackets k ≡ Some x

  all-stand : (xs : List Instruction) (low : ℕ) → Agrees low (low + length xs) → StandFrom target.program low xs → StandFrom (with_code target is brackets).program low xs
  all-stand [] low agree h = tt
  all-stand (x ∷ xs) low agree (h, rest) =
      (agree low x (omega arith) (omega arith) h, all-stand xs (suc low) (λ k i below above. agree k i (omega arith) (omega arith)) rest)

  arms-moved : (b icase : Bool) (strings : List (List ℕ)) (p q : ProgramPoint) → Agrees p.address q.address → AreArms target b icase strings p q
      → AreArms (with_code target is brackets) b icase strings p q
  arms-moved b icase [] p q agree h = let e = at-same (next p) q h.1 in (agree p.address code.fail (omega arith) (omega (arith, e)) h.0, h.1)
  arms-moved b icase (s ∷ []) p q agree h =
      let n : ℕ = length (string_code target b icase s) in
      let e = at-same (later p n) q h.1 in
      (all-stand _ p.address (λ k i below above. agree k i below (omega (arith, above, e))) h.0, h.1)
  arms-moved b icase (s ∷ t ∷ ss) p q agree (m, first, alt, jump, rest) =
      let n : ℕ = length (string_code target b icase s) in
      let e = at-same (later (next p) n) m first.1 in
      let f = arms-forward target b icase (t ∷ ss) (next m) q rest in (
        m,
        (all-stand _ (suc p.address) (λ k i below above. agree k i (omega arith) (omega (arith, above, e, f))) first.0, first.1),
        agree p.address _ (omega arith) (omega (arith, e, f)) alt,
        agree m.address _ (omega (arith, e)) (omega (arith, f)) jump,
        arms-moved b icase (t ∷ ss) (next m) q (λ k i below above. agree k i (omega (arith, below, e)) above) rest,
      )

  bracket-moved : (inverted : Bool) (intervals : List (ℕ × ℕ)) (i : Instruction) → HasBrackets → IsBracket target.program inverted intervals i
      → IsBracket (with_code target is brackets).program inverted intervals i
  bracket-moved inverted intervals (code.bracket k) has h = has k (inverted, intervals) h
  bracket-moved inverted intervals (code.ascii_bracket cs) has h = h
  bracket-moved inverted intervals _ has h = absurd h

  -- A layout rests on the instructions between its program points, and on its brackets: it stays where others are pushed or written.
  pub Lies-moved : HasBrackets → (b : Bool) (t : Tree) (p q : ProgramPoint) → Agrees p.address q.address → Lies target b t p q → Lies (with_code target is brackets) b t p q
  Lies-moved has b tree.empty p q agree h = h
  Lies-moved has b (tree.bytes bs) p q agree h =
      let e = at-same (later p _) q h.1 in (all-stand _ p.address (λ k i below above. agree k i below (omega (arith, above, e))) h.0, h.1)
  Lies-moved has b (tree.cat s t) p q agree (m, h, k) =
      let e = Lies-forward target b s p m h in let f = Lies-forward target b t m q k in
      (m, Lies-moved has b s p m (λ j i below above. agree j i below (omega (arith, above, f))) h, Lies-moved has b t m q (λ j i below above. agree j i (omega (arith, below, e)) above) k)
  Lies-moved has b tree.no_part p q agree h = h
  Lies-moved has b (tree.alt s t) p q agree (m, alt, h, jump, k) =
      let e = Lies-forward target b s (next p) m h in let f = Lies-forward target b t (next m) q k in (
        m,
        agree p.address _ (omega arith) (omega (arith, e, f)) alt,
        Lies-moved has b s (next p) m (λ j i below above. agree j i (omega (arith, below)) (omega (arith, above, f))) h,
        agree m.address _ (omega (arith, e)) (omega (arith, f)) jump,
        Lies-moved has b t (next m) q (λ j i below above. agree j i (omega (arith, below, e)) above) k,
      )
  Lies-moved has b (tree.capture k name a) p q agree (m, begin, h, end) =
      let e = Lies-forward target b a (next p) m h in let f = at-same (next m) q end.1 in (
        m,
        agree p.address _ (omega arith) (omega (arith, e, f)) begin,
        Lies-moved has b a (next p) m (λ j i below above. agree j i (omega (arith, below)) (omega (arith, above, f))) h,
        (agree m.address _ (omega (arith, e)) (omega (arith, f)) end.0, end.1),
      )
  Lies-moved has b (tree.bracket inverted intervals) p q agree (i, is', h) =
      let e = at-same (next p) q h.1 in (i, bracket-moved inverted intervals i has is', (agree p.address i (omega arith) (omega (arith, e)) h.0, h.1))
  Lies-moved has b (tree.string_set strings icase) p q agree h = arms-moved b icase strings p q agree h
  Lies-moved has b (tree.submatch kind first last a) p q agree (m, begin, h, end) =
      let e = Lies-forward target (reads_backward kind b) a (next p) m h in let f = at-same (next m) q end.1 in (
        m,
        agree p.address _ (omega arith) (omega (arith, e, f)) begin,
        Lies-moved has (reads_backward kind b) a (next p) m (λ j i below above. agree j i (omega (arith, below)) (omega (arith, above, f))) h,
        (agree m.address _ (omega (arith, e)) (omega (arith, f)) end.0, end.1),
      )
  Lies-moved has b (tree.loop a first last least most greedy) p q agree (m, begin, reset, h, end) =
      let e = Lies-forward target b a _ m h in let f = at-same (next m) q end.1 in
      let n = resets-length first (last - first) in (
        m,
        agree p.address _ (omega arith) (omega (arith, e, f)) begin,
        all-stand (resets first (last - first)) (suc p.address) (λ j i below above. agree j i (omega (arith, below)) (omega (arith, above, e, f, n))) reset,
        Lies-moved has b a _ m (λ j i below above. agree j i (omega (arith, below)) (omega (arith, above, f))) h,
        (agree m.address _ (omega (arith, e)) (omega (arith, f)) end.0, end.1),
      )
  Lies-moved has b (tree.single_loop a least most greedy) p q agree (here, h) =
      let e = Lies-forward target b a (next p) q h in
      (agree p.address _ (omega arith) (omega (arith, e)) here, Lies-moved has b a (next p) q (λ j i below above. agree j i (omega (arith, below)) above) h)
  Lies-moved has b tree.goal p q agree h = let e = at-same (next p) q h.1 in (agree p.address _ (omega arith) (omega (arith, e)) h.0, h.1)
  Lies-moved has b (tree.char c) p q agree h = let e = at-same (next p) q h.1 in (agree p.address _ (omega arith) (omega (arith, e)) h.0, h.1)
  Lies-moved has b (tree.byte_set bs) p q agree h = let e = at-same (next p) q h.1 in (agree p.address _ (omega arith) (omega (arith, e)) h.0, h.1)
  Lies-moved has b (tree.char_set cs) p q agree h = let e = at-same (next p) q h.1 in (agree p.address _ (omega arith) (omega (arith, e)) h.0, h.1)
  Lies-moved has b tree.any p q agree h = let e = at-same (next p) q h.1 in (agree p.address _ (omega arith) (omega (arith, e)) h.0, h.1)
  Lies-moved has b tree.any_in_line p q agree h = let e = at-same (next p) q h.1 in (agree p.address _ (omega arith) (omega (arith, e)) h.0, h.1)
  Lies-moved has b (tree.line_start multiline) p q agree h = let e = at-same (next p) q h.1 in (agree p.address _ (omega arith) (omega (arith, e)) h.0, h.1)
  Lies-moved has b (tree.line_end multiline) p q agree h = let e = at-same (next p) q h.1 in (agree p.address _ (omega arith) (omega (arith, e)) h.0, h.1)
  Lies-moved has b (tree.boundary inverted folded) p q agree h = let e = at-same (next p) q h.1 in (agree p.address _ (omega arith) (omega (arith, e)) h.0, h.1)
  Lies-moved has b (tree.back k icase) p q agree h = let e = at-same (next p) q h.1 in (agree p.address _ (omega arith) (omega (arith, e)) h.0, h.1)
