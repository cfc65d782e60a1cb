-- What is written stays, and what is written behind it lies there.
use Rattle.std.specs.Prelude.{slice_get}
use Rattle.std.proofs.Common.{sym, ◌≡◌, ℕ, zero, suc, ◌+◌, ◌-◌, ◌<◌, ◌≤◌, List, [], ◌∷◌, ◌++◌, length, Some, refl, ap, ◌∙◌, subst, arith, length-append, append_assoc}
use Rattle.std.proofs.lemmas.List.{append-nil, length-set}
use Rattle.std.proofs.lemmas.Option.{slice_get_within}
use Rattle.regress_engine_insn.specs.Instructions.{Instruction, reset_group, Program, Stands, StandFrom}
use Rattle.regress_engine_insn.specs.Layout.{ProgramPoint, later, resets}
use Rattle.regress_engine_analysis.proofs.ElementLemmas.{get-set_same, get-set_other}
use Rattle.regress_engine_code.specs.Written.{Written, end, with, changed, Has, Keeps}

-- ---- lists

pub get-front : {A : Type 0} (xs ys : List A) (k : ℕ) (x : A) → slice_get xs k ≡ Some x → slice_get (xs ++ ys) k ≡ Some x
get-front [] ys k x h = absurd (cc)
get-front (y ∷ xs) ys zero x h = h
get-front (y ∷ xs) ys (suc k) x h = get-front xs ys k x h

pub get-back : {A : Type 0} (xs ys : List A) (k : ℕ) (x : A) → slice_get ys k ≡ Some x → slice_get (xs ++ ys) (length xs + k) ≡ Some x
get-back [] ys k x h = let e : k ≡ 0 + k = omega arith in subst (λ j. slice_get ys j ≡ Some x) e h
get-back (y ∷ xs) ys k x h =
    let e : suc (length xs + k) ≡ suc (length xs) + k = omega arith in
    subst (λ j. slice_get (y ∷ (xs ++ ys)) j ≡ Some x) e (get-back xs ys k x h)

-- ---- what stays

pub Keeps-same : (w : Written) → Keeps w w
Keeps-same w = record { further = omega arith; instructions = λ k i h. h; brackets = λ k x h. h }

pub Keeps-chain : (a b c : Written) → Keeps a b → Keeps b c → Keeps a c
Keeps-chain a b c f g = record {
  further = omega (arith, f.further, g.further);
  instructions = λ k i h. g.instructions k i (f.instructions k i h);
  brackets = λ k x h. g.brackets k x (f.brackets k x h);
}

pub Keeps-with : (w : Written) (is : List Instruction) → Keeps w (with w is)
Keeps-with w is = record {
  further = omega (arith, length-append w.instructions is);
  instructions = λ k i h. get-front w.instructions is k i h;
  brackets = λ k x h. h;
}

-- what is changed behind it leaves it as it was
pub Keeps-changed : (a w : Written) (address : ℕ) (i : Instruction) → length a.instructions ≤ address → Keeps a w → Keeps a (changed w address i)
Keeps-changed a w address i behind kept = record {
  further = let size = length-set w.instructions address i in omega (arith, kept.further, size);
  instructions = λ k j h.
      let within = slice_get_within a.instructions k j h in
      get-set_other w.instructions address k i (λ e. omega (arith, within, e)) ∙ kept.instructions k j h;
  brackets = kept.brackets;
}

-- ---- programs that have it

pub Has-earlier : (program : Program) (low : ℕ) (a b : Written) → Keeps a b → Has program low b → Has program low a
Has-earlier program low a b kept has = record {
  instructions = λ k i from h. has.instructions k i from (kept.instructions k i h);
  brackets = λ k x h. has.brackets k x (kept.brackets k x h);
}

pub Has-later : (program : Program) (low more : ℕ) (w : Written) → low ≤ more → Has program low w → Has program more w
Has-later program low more w order has = record {
  instructions = λ k i from h. has.instructions k i (omega (arith, order, from)) h;
  brackets = has.brackets;
}

-- what was changed before an address does not matter from there on
pub Has-behind : (program : Program) (low : ℕ) (w : Written) (address : ℕ) (i : Instruction) → address < low → Has program low (changed w address i)
    → Has program low w
Has-behind program low w address i before has = record {
  instructions = λ k j from h. has.instructions k j from (get-set_other w.instructions address k i (λ e. omega (arith, before, from, e)) ∙ h);
  brackets = has.brackets;
}

pub Stands-changed : (program : Program) (low : ℕ) (w : Written) (address : ℕ) (i : Instruction) → low ≤ address → address < length w.instructions
    → Has program low (changed w address i) → Stands program address i
Stands-changed program low w address i from within has = has.instructions address i from (get-set_same w.instructions address i within)

stands-all : (program : Program) (is : List Instruction) (low : ℕ) → ((k : ℕ) (i : Instruction) → slice_get is k ≡ Some i → Stands program (low + k) i)
    → StandFrom program low is
stands-all program [] low h = tt
stands-all program (i ∷ is) low h =
    let here : low + 0 ≡ low = omega arith in (
      subst (λ a. Stands program a i) here (h 0 i refl),
      stands-all program is (suc low) (λ k j g. let e : low + suc k ≡ suc low + k = omega arith in subst (λ a. Stands program a j) e (h (suc k) j g)),
    )

-- instructions behind others stand where those end
pub StandFrom-with : (program : Program) (w : Written) (is : List Instruction) → Has program (length w.instructions) (with w is)
    → StandFrom program (length w.instructions) is
StandFrom-with program w is has =
    stands-all program is (length w.instructions)
    (λ k i h. has.instructions (length w.instructions + k) i (omega arith) (get-back w.instructions is k i h))

pub end-with : (w : Written) (is : List Instruction) → end (with w is) ≡ later (end w) (length is)
end-with w is = ap (λ (n : ℕ). let p : ProgramPoint = record { address = n; loops = w.loops } in p) (length-append w.instructions is)

-- ---- more instructions at once

pub with-more : (w : Written) (is js : List Instruction) → with (with w is) js ≡ with w (is ++ js)
with-more w is js = ap (λ (ks : List Instruction). let v : Written = record w { instructions = ks } in v) (append_assoc w.instructions is js)

pub with-nothing : (w : Written) → with w [] ≡ w
with-nothing w = ap (λ (ks : List Instruction). let v : Written = record w { instructions = ks } in v) (append-nil w.instructions)

-- the first of some resets
pub resets-told : (w w' : Written) (group last : ℕ) → group < last → w' ≡ with w (reset_group group ∷ [])
    → with w' (resets (group + 1) (last - (group + 1))) ≡ with w (resets group (last - group))
resets-told w w' group last more e =
    let count : suc (last - (group + 1)) ≡ last - group = omega (arith, more) in
    let at : suc group ≡ group + 1 = omega arith in
    ap (λ (v : Written). with v (resets (group + 1) (last - (group + 1)))) e
    ∙ with-more w (reset_group group ∷ []) (resets (group + 1) (last - (group + 1)))
    ∙ ap (λ (g : ℕ). with w (reset_group group ∷ resets g (last - (group + 1)))) (sym at)
    ∙ ap (λ (n : ℕ). with w (resets group n)) count
