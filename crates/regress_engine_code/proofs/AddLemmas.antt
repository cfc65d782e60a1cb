-- What is added to a program, put together.
use Rattle.std.proofs.Common.{◌≡◌, ℕ, suc, ◌+◌, ◌-◌, ◌≤◌, inl, inr, Bool, List, [], ◌∷◌, ◌++◌, length, refl, sym, ap, ap₂, ◌∙◌, subst, arith, length-append, Option}
use Rattle.std.proofs.lemmas.List.{length-set}
use Rattle.regress_meaning.specs.Table.{Table}
use Rattle.regress_front_core.specs.declared.error.Error.{Error}
use Rattle.regress_front_nodes.specs.Trees.{Submatch, Tree, cat_of}
use Rattle.regress_front_nodes.specs.TreeMeaning.{reads_backward}
use Rattle.regress_front_nodes.specs.Trees as tree
use Rattle.regress_front_nodes.specs.Sizes.{loops}
use Rattle.regress_front_nodes.specs.WellFormed.{AreLawful}
use Rattle.regress_engine_insn.specs.Counts.{count}
use Rattle.regress_engine_insn.specs.Instructions.{Instruction, Program, Stands, StandFrom}
use Rattle.regress_engine_insn.specs.Instructions as code
use Rattle.regress_engine_insn.specs.Layout.{ProgramPoint, next, later, Target, resets, Lies}
use Rattle.regress_engine_code.specs.Written.{Written, end, with, changed, Keeps, Adds, AddsTree, MayRefuse}
use Rattle.regress_engine_insn.proofs.LayoutLemmas.{resets-length}
use Rattle.regress_engine_insn.proofs.CountLemmas.{counted}
use Rattle.regress_engine_code.proofs.WrittenLemmas.{Keeps-same, Keeps-chain, Keeps-with, Keeps-changed, Has-earlier, Has-later, Has-behind, Stands-changed, StandFrom-with, end-with}

-- what may lie between two points of a program
abbrev pub Lie : Type 1
Lie = Program → ProgramPoint → ProgramPoint → Type 0

module _ (units : Bool) where
  -- what lies between the same program points in other words
  pub Adds-turned : (L M : Lie) (a b : Written) → ((program : Program) → program.units ≡ units → L program (end a) (end b) → M program (end a) (end b))
      → Adds units L a b → Adds units M a b
  Adds-turned L M a b turn adds = record { kept = adds.kept; lie = λ program same has. turn program same (adds.lie program same has) }

  -- nothing is added
  pub Adds-nothing : (w : Written) → Adds units (λ program p q. q ≡ p) w w
  Adds-nothing w = record { kept = Keeps-same w; lie = λ program same has. refl }

  -- some instructions are added
  pub Adds-all : (w w' : Written) (is : List Instruction) → w' ≡ with w is → Adds units (λ program p q. StandFrom program p.address is × (q ≡ later p (length is))) w w'
  Adds-all w w' is e =
      subst (λ v. Adds units (λ program p q. StandFrom program p.address is × (q ≡ later p (length is))) w v) (sym e)
      (record { kept = Keeps-with w is; lie = λ program same has. (StandFrom-with program w is has, end-with w is) })

  one-later : (p q : ProgramPoint) → q ≡ later p 1 → q ≡ next p
  one-later p q e = e ∙ ap (λ (n : ℕ). let r : ProgramPoint = record { address = n; loops = p.loops } in r) (let h : p.address + 1 ≡ suc p.address = omega arith in h)

  -- one instruction is added
  pub Adds-one : (w w' : Written) (i : Instruction) → w' ≡ with w (i ∷ []) → Adds units (λ program p q. Stands program p.address i × (q ≡ next p)) w w'
  Adds-one w w' i e =
      Adds-turned (λ program p q. StandFrom program p.address (i ∷ []) × (q ≡ later p 1)) (λ program p q. Stands program p.address i × (q ≡ next p)) w w'
      (λ program same h. (h.0.0, one-later (end w) (end w') h.1)) (Adds-all w w' (i ∷ []) e)

  -- one thing behind the other
  pub Adds-chain : (L M : Lie) (a b c : Written) → Adds units L a b → Adds units M b c
      → Adds units (λ program p q. L program p (end b) × M program (end b) q) a c
  Adds-chain L M a b c first second = record {
    kept = Keeps-chain a b c first.kept second.kept;
    lie = λ program same has. (
      first.lie program same (Has-earlier program (length a.instructions) b c second.kept has),
      second.lie program same (Has-later program (length a.instructions) (length b.instructions) c first.kept.further has),
    );
  }

  end-changed : (w : Written) (address : ℕ) (i : Instruction) → end (changed w address i) ≡ end w
  end-changed w address i = ap (λ (n : ℕ). let p : ProgramPoint = record { address = n; loops = w.loops } in p) (length-set w.instructions address i)

  -- What lies behind one instruction, which is written last, when it is known where it ends.
  pub Adds-opened : (L : Lie) (w0 w1 w2 w3 : Written) (i : Instruction) → Keeps w0 w1 → length w1.instructions ≡ suc (length w0.instructions)
      → Adds units L w1 w2 → w3 ≡ changed w2 (length w0.instructions) i
      → (end w3 ≡ end w2) × Adds units (λ program p q. Stands program p.address i × L program (end w1) q) w0 w3
  Adds-opened L w0 w1 w2 w3 i kept one adds e =
      let at = length w0.instructions in
      let M : Lie = λ program p q. Stands program p.address i × L program (end w1) q in
      let same_end = end-changed w2 at i in (
        ap end e ∙ same_end,
        subst (λ v. Adds units M w0 v) (sym e) (record {
          kept = Keeps-changed w0 w2 at i (omega arith) (Keeps-chain w0 w1 w2 kept adds.kept);
          lie = λ program same has. (
            Stands-changed program at w2 at i (omega arith) (omega (arith, one, adds.kept.further)) has,
            subst (λ q. L program (end w1) q) (sym same_end)
                (adds.lie program same
                (Has-behind program (length w1.instructions) w2 at i (omega (arith, one))
                (Has-later program at (length w1.instructions) (changed w2 at i) (omega (arith, one)) has))),
          );
        }),
      )

-- one instruction more
pub one-longer : (w : Written) (i : Instruction) (w' : Written) → w' ≡ with w (i ∷ [])
    → Keeps w w' × (length w'.instructions ≡ suc (length w.instructions)) × (end w' ≡ next (end w))
one-longer w i w' e =
    let size : length (with w (i ∷ [])).instructions ≡ suc (length w.instructions) = omega (arith, length-append w.instructions (i ∷ [])) in (
      subst (λ v. Keeps w v) (sym e) (Keeps-with w (i ∷ [])),
      ap (λ (v : Written). length v.instructions) e ∙ size,
      ap end e ∙ ap (λ (n : ℕ). let p : ProgramPoint = record { address = n; loops = w.loops } in p) size,
    )

-- the same bounds and more
pub MayRefuse-more : (a l b m : ℕ) (e : Error) → a ≤ b → l ≤ m → MayRefuse a l e → MayRefuse b m e
MayRefuse-more a l b m e more further (inl memory) = inl memory
MayRefuse-more a l b m e more further (inr (large, inl past)) = inr (large, inl (omega (arith, more, past)))
MayRefuse-more a l b m e more further (inr (large, inr past)) = inr (large, inr (omega (arith, further, past)))

module _ (units : Bool) (table : Table) (unicode : Bool) where
  -- a tree lies in a program that is made for the table and the mode
  abbrev pub tree_lies : Bool → Tree → Lie
  tree_lies b t program p q = Lies (record { program = program; table = table; unicode = unicode }) b t p q

  -- what is written, as a program
  abbrev as_program : Written → Program
  as_program w = record { instructions = w.instructions; brackets = w.brackets; loops = w.loops; groups = 0; units = units }

  -- a tree adds as many instructions and loops as are written of it
  pub AddsTree-counted : (n : ℕ) (b : Bool) (t : Tree) (a w : Written) → AreLawful n t → AddsTree units table unicode b t a w
      → (length w.instructions ≡ length a.instructions + count units table unicode t) × (w.loops ≡ a.loops + loops t)
  AddsTree-counted n b t a w lawful adds =
      let lies = adds.lie (as_program w) refl (record { instructions = λ k i from h. h; brackets = λ k x h. h }) in
      counted (record { program = as_program w; table = table; unicode = unicode }) n t b (end a) (end w) lies lawful

  parts-lie : (target : Target) (b : Bool) (ts : List Tree) (t : Tree) (p m q : ProgramPoint) → Lies target b (cat_of ts) p m → Lies target b t m q
      → Lies target b (cat_of (ts ++ t ∷ [])) p q
  parts-lie target b [] t p m q none h = (q, subst (λ r. Lies target b t r q) none h, refl)
  parts-lie target b (u ∷ ts) t p m q (r, first, rest) h = (r, first, parts-lie target b ts t r m q rest h)

  -- one more part
  pub AddsTree-more : (b : Bool) (ts : List Tree) (t : Tree) (w0 w1 w2 : Written) → AddsTree units table unicode b (cat_of ts) w0 w1 → AddsTree units table unicode b t w1 w2
      → AddsTree units table unicode b (cat_of (ts ++ t ∷ [])) w0 w2
  AddsTree-more b ts t w0 w1 w2 first second =
      Adds-turned units (λ program p q. tree_lies b (cat_of ts) program p (end w1) × tree_lies b t program (end w1) q) (tree_lies b (cat_of (ts ++ t ∷ []))) w0 w2
      (λ program same h. parts-lie (record { program = program; table = table; unicode = unicode }) b ts t (end w0) (end w1) (end w2) h.0 h.1)
      (Adds-chain units (tree_lies b (cat_of ts)) (tree_lies b t) w0 w1 w2 first second)

  -- a group
  pub AddsTree-capture : (b : Bool) (k : ℕ) (name : Option (List ℕ)) (t : Tree) (w0 w1 w2 w3 : Written) → w1 ≡ with w0 (code.begin_group k ∷ [])
      → AddsTree units table unicode b t w1 w2 → w3 ≡ with w2 (code.end_group k ∷ []) → AddsTree units table unicode b (tree.capture k name t) w0 w3
  AddsTree-capture b k name t w0 w1 w2 w3 begun adds ended =
      let first = Adds-one units w0 w1 (code.begin_group k) begun in
      let last = Adds-one units w2 w3 (code.end_group k) ended in
      let Begun : Lie = λ program p q. Stands program p.address (code.begin_group k) × (q ≡ next p) in
      let Ended : Lie = λ program p q. Stands program p.address (code.end_group k) × (q ≡ next p) in
      let Inner : Lie = λ program p q. Begun program p (end w1) × tree_lies b t program (end w1) q in
      Adds-turned units (λ program p q. Inner program p (end w2) × Ended program (end w2) q) (tree_lies b (tree.capture k name t)) w0 w3
      (λ program same h. (
        end w2,
        h.0.0.0,
        subst (λ r. tree_lies b t program r (end w2)) h.0.0.1 h.0.1,
        h.1,
      ))
      (Adds-chain units Inner Ended w0 w2 w3 (Adds-chain units Begun (tree_lies b t) w0 w1 w2 first adds) last)

  -- the loop of what takes one character
  pub AddsTree-single_loop : (b : Bool) (t : Tree) (least most : ℕ) (greedy : Bool) (w0 w1 w2 : Written) → w1 ≡ with w0 (code.single_loop least most greedy ∷ [])
      → AddsTree units table unicode b t w1 w2 → AddsTree units table unicode b (tree.single_loop t least most greedy) w0 w2
  AddsTree-single_loop b t least most greedy w0 w1 w2 begun adds =
      let first = Adds-one units w0 w1 (code.single_loop least most greedy) begun in
      let Begun : Lie = λ program p q. Stands program p.address (code.single_loop least most greedy) × (q ≡ next p) in
      Adds-turned units (λ program p q. Begun program p (end w1) × tree_lies b t program (end w1) q) (tree_lies b (tree.single_loop t least most greedy)) w0 w2
      (λ program same h. (h.0.0, subst (λ r. tree_lies b t program r (end w2)) h.0.1 h.1))
      (Adds-chain units Begun (tree_lies b t) w0 w1 w2 first adds)

  -- what is matched by itself
  pub AddsTree-submatch : (b : Bool) (kind : Submatch) (first last : ℕ) (t : Tree) (ph : Instruction) (w0 w1 w2 w3 w4 : Written) → w1 ≡ with w0 (ph ∷ [])
      → AddsTree units table unicode (reads_backward kind b) t w1 w2 → w3 ≡ with w2 (code.goal ∷ []) → w4 ≡ changed w3 (length w0.instructions) (code.submatch kind first last (length w3.instructions))
      → AddsTree units table unicode b (tree.submatch kind first last t) w0 w4
  AddsTree-submatch b kind first last t ph w0 w1 w2 w3 w4 begun adds ended closed =
      let i : Instruction = code.submatch kind first last (length w3.instructions) in
      let Ended : Lie = λ program p q. Stands program p.address code.goal × (q ≡ next p) in
      let Inner : Lie = λ program p q. tree_lies (reads_backward kind b) t program p (end w2) × Ended program (end w2) q in
      let start = one-longer w0 ph w1 begun in
      let opened = Adds-opened units Inner w0 w1 w3 w4 i start.0 start.1
      (Adds-chain units (tree_lies (reads_backward kind b) t) Ended w1 w2 w3 adds (Adds-one units w2 w3 code.goal ended)) closed in
      Adds-turned units (λ program p q. Stands program p.address i × Inner program (end w1) q) (tree_lies b (tree.submatch kind first last t)) w0 w4
      (λ program same h. (
        end w2,
        subst (λ (a : ℕ). Stands program (length w0.instructions) (code.submatch kind first last a)) (sym (ap (λ (p : ProgramPoint). p.address) opened.0)) h.0,
        subst (λ r. tree_lies (reads_backward kind b) t program r (end w2)) start.2 h.1.0,
        h.1.1,
      ))
      opened.1

  -- two arms
  pub AddsTree-alt : (b : Bool) (s t : Tree) (ph ph' : Instruction) (w0 w1 w2 w3 w4 w5 w6 : Written) → w1 ≡ with w0 (ph ∷ [])
      → AddsTree units table unicode b s w1 w2 → w3 ≡ with w2 (ph' ∷ []) → AddsTree units table unicode b t w3 w4 → w5 ≡ changed w4 (length w2.instructions) (code.jump (length w4.instructions))
      → w6 ≡ changed w5 (length w0.instructions) (code.alt (length w3.instructions)) → AddsTree units table unicode b (tree.alt s t) w0 w6
  AddsTree-alt b s t ph ph' w0 w1 w2 w3 w4 w5 w6 begun first middle second jumped closed =
      let jump : Instruction = code.jump (length w4.instructions) in
      let fork : Instruction = code.alt (length w3.instructions) in
      let start = one-longer w0 ph w1 begun in
      let mid = one-longer w2 ph' w3 middle in
      let Second : Lie = λ program p q. Stands program p.address jump × tree_lies b t program (end w3) q in
      let Both : Lie = λ program p q. tree_lies b s program p (end w2) × Second program (end w2) q in
      let inner = Adds-opened units (tree_lies b t) w2 w3 w4 w5 jump mid.0 mid.1 second jumped in
      let outer = Adds-opened units Both w0 w1 w5 w6 fork start.0 start.1 (Adds-chain units (tree_lies b s) Second w1 w2 w5 first inner.1) closed in
      let ends = outer.0 ∙ inner.0 in
      Adds-turned units (λ program p q. Stands program p.address fork × Both program (end w1) q) (tree_lies b (tree.alt s t)) w0 w6
      (λ program same h. (
        end w2,
        subst (λ (a : ℕ). Stands program (length w0.instructions) (code.alt a)) mid.1 h.0,
        subst (λ r. tree_lies b s program r (end w2)) start.2 h.1.0,
        subst (λ (a : ℕ). Stands program (length w2.instructions) (code.jump a)) (sym (ap (λ (p : ProgramPoint). p.address) ends)) h.1.1.0,
        subst (λ r. tree_lies b t program r (end w6)) mid.2 h.1.1.1,
      ))
      outer.1

  -- a repetition
  pub AddsTree-loop : (b : Bool) (t : Tree) (first last least most : ℕ) (greedy : Bool) (ph : Instruction) (w0 v w1 w2 w3 w4 w5 : Written)
      → v ≡ record w0 { loops = w0.loops + 1 } → w1 ≡ with v (ph ∷ []) → w2 ≡ with w1 (resets first (last - first)) → AddsTree units table unicode b t w2 w3
      → w4 ≡ with w3 (code.loop_again (length w0.instructions) ∷ [])
      → w5 ≡ changed w4 (length w0.instructions) (code.enter_loop (record { loop_id = w0.loops; least = least; most = most; greedy = greedy; exit = length w4.instructions }))
      → AddsTree units table unicode b (tree.loop t first last least most greedy) w0 w5
  AddsTree-loop b t first last least most greedy ph w0 v w1 w2 w3 w4 w5 numbered begun reset adds ended closed =
      let fields : ℕ → code.LoopFields = λ a. record { loop_id = w0.loops; least = least; most = most; greedy = greedy; exit = a } in
      let i : Instruction = code.enter_loop (fields (length w4.instructions)) in
      let again : Instruction = code.loop_again (length w0.instructions) in
      let none : Keeps w0 v = subst (λ u. Keeps w0 u) (sym numbered) (record { further = omega arith; instructions = λ k j h. h; brackets = λ k x h. h }) in
      let start = one-longer v ph w1 begun in
      let same : length v.instructions ≡ length w0.instructions = ap (λ (u : Written). length u.instructions) numbered in
      let Reset : Lie = λ program p q. StandFrom program p.address (resets first (last - first)) × (q ≡ later p (length (resets first (last - first)))) in
      let Ended : Lie = λ program p q. Stands program p.address again × (q ≡ next p) in
      let Inner : Lie = λ program p q. Reset program p (end w2) × tree_lies b t program (end w2) q in
      let All : Lie = λ program p q. Inner program p (end w3) × Ended program (end w3) q in
      let whole = Adds-chain units Inner Ended w1 w3 w4
      (Adds-chain units Reset (tree_lies b t) w1 w2 w3 (Adds-all units w1 w2 (resets first (last - first)) reset) adds)
      (Adds-one units w3 w4 again ended) in
      let opened = Adds-opened units All w0 w1 w4 w5 i (Keeps-chain w0 v w1 none start.0) (start.1 ∙ ap suc same) whole closed in
      let inside : ProgramPoint = record { address = suc (length w0.instructions); loops = suc w0.loops } in
      let at : end w1 ≡ inside = start.2 ∙ ap next (ap end numbered) ∙ ap (λ (l : ℕ). let p : ProgramPoint = record { address = suc (length w0.instructions); loops = l } in p) (let h : w0.loops + 1 ≡ suc w0.loops = omega arith in h) in
      Adds-turned units (λ program p q. Stands program p.address i × All program (end w1) q) (tree_lies b (tree.loop t first last least most greedy)) w0 w5
      (λ program same' h. (
        end w3,
        subst (λ (a : ℕ). Stands program (length w0.instructions) (code.enter_loop (fields a))) (sym (ap (λ (p : ProgramPoint). p.address) opened.0)) h.0,
        subst (λ (p : ProgramPoint). StandFrom program p.address (resets first (last - first))) at h.1.0.0.0,
        subst (λ r. tree_lies b t program r (end w3)) (h.1.0.0.1 ∙ ap₂ (λ (p : ProgramPoint) (n : ℕ). later p n) at (resets-length first (last - first))) h.1.0.1,
        h.1.1,
      ))
      opened.1
