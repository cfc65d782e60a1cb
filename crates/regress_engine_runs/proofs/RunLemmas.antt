-- Runs of lists of states: what may stand in place of a state, and what in place of a list.
use Rattle.std.proofs.Common.{◌≡◌, ℕ, suc, ◌+◌, Bool, true, false, List, [], ◌∷◌, ◌++◌, Option, Some, refl, sym, ap, ◌∙◌, subst, arith, append_assoc}
use Rattle.regress_meaning.specs.Meaning.{Direction}
use Rattle.regress_meaning.specs.Inputs.{Input}
use Rattle.regress_meaning.specs.Offsets.{Reading}
use Rattle.regress_front_nodes.specs.TreeMeaning.{submatch_direction}
use Rattle.regress_front_nodes.specs.Trees.{Submatch}
use Rattle.regress_engine_insn.specs.Instructions.{Instruction, Program, Stands}
use Rattle.regress_engine_insn.specs.Instructions as code
use Rattle.regress_engine_runs.specs.States.{Whole, onward}
use Rattle.regress_engine_runs.specs.Runs.{successors, is_plain, after_submatch}
use Rattle.regress_engine_runs.specs.Meets.{reads_character, IsAtPlace, ReadsPlaces}
use Rattle.regress_engine_runs.proofs.SafeRuns.{SafeRun, SafeRuns, ends, finds, goes, looks}

-- an instruction leads to its successors, whatever other states there are, and refers to no group
abbrev pub is_unreferring : Instruction → Bool
is_unreferring code.goal = false
is_unreferring (code.submatch kind first last continuation) = false
is_unreferring (code.back k icase) = false
is_unreferring _ = true

pub unreferring-plain : (i : Instruction) → is_unreferring i ≡ true → is_plain i ≡ true
unreferring-plain code.goal e = absurd (grind arith)
unreferring-plain (code.submatch kind first last continuation) e = absurd (grind arith)
unreferring-plain _ e = refl

-- so it reads at places where its offset is that of one
pub unreferring-reads : (reading : Reading) (i : Instruction) (s : Whole) → is_unreferring i ≡ true → IsAtPlace reading s.offset → ReadsPlaces reading i s
unreferring-reads reading (code.back k icase) s e place = absurd (grind arith)
unreferring-reads reading _ s e place = (place, tt)

module _ (program : Program) (input : Input) (reading : Reading) where
  -- In every run the second list may be replaced by the first.
  abbrev pub Expands : Direction → List Whole → List Whole → Type 0
  Expands dir xs ys = (rest : List Whole) (r : Option Whole) → SafeRuns program input reading dir (ys ++ rest) r → SafeRuns program input reading dir (xs ++ rest) r

  pub Expands-same : (dir : Direction) (xs : List Whole) → Expands dir xs xs
  Expands-same dir xs rest r h = h

  pub Expands-then : {dir : Direction} (xs ys zs : List Whole) → Expands dir xs ys → Expands dir ys zs → Expands dir xs zs
  Expands-then xs ys zs f g rest r h = f rest r (g rest r h)

  -- before the same states
  pub Expands-right : {dir : Direction} (xs ys zs : List Whole) → Expands dir xs ys → Expands dir (xs ++ zs) (ys ++ zs)
  Expands-right {dir = dir} xs ys zs f rest r h =
      let k : SafeRuns program input reading dir (ys ++ (zs ++ rest)) r = subst (λ ss. SafeRuns program input reading dir ss r) (append_assoc ys zs rest) h in
      subst (λ ss. SafeRuns program input reading dir ss r) (sym (append_assoc xs zs rest)) (f (zs ++ rest) r k)

  -- what stands behind any states of a run may be replaced
  replaced : (ys zs rest : List Whole) {dir : Direction} {ss : List Whole} {n : ℕ} {r : Option Whole} → SafeRun program input reading dir ss n r
      → Expands dir ys zs → (p : List Whole) → ss ≡ p ++ (zs ++ rest) → SafeRuns program input reading dir (p ++ (ys ++ rest)) r
  replaced ys zs rest {dir = dir} {n = n} {r = r} h f [] e = f rest r (n, subst (λ ss. SafeRun program input reading dir ss n r) e h)
  replaced ys zs rest ends f (t ∷ p) e = absurd (grind arith)
  replaced ys zs rest (finds {dir = dir} {s = s} {ss = ss} here) f (t ∷ p) e =
      let first : s ≡ t = cc in
      (1, subst (λ x. SafeRun program input reading dir (x ∷ (p ++ (ys ++ rest))) 1 (Some s)) first (finds here))
  replaced ys zs rest (goes {dir = dir} {i = i} {s = s} {ss = ss} {r = r} here plain places run) f (t ∷ p) e =
      let first : s ≡ t = cc in
      let others : ss ≡ p ++ (zs ++ rest) = cc in
      let new : List Whole = successors program input i dir s in
      let k = replaced ys zs rest run f (new ++ p) (ap (λ xs. new ++ xs) others ∙ sym (append_assoc new p (zs ++ rest))) in (
        suc k.0,
        subst (λ x. SafeRun program input reading dir (x ∷ (p ++ (ys ++ rest))) (suc k.0) r) first
            (goes here plain places (subst (λ xs. SafeRun program input reading dir xs k.0 r) (append_assoc new p (ys ++ rest)) k.1)),
      )
  replaced ys zs rest (looks {dir = dir} {kind = kind} {first = low} {last = high} {continuation = continuation} {s = s} {ss = ss} {m = m} {q = q} {r = r} here inner run) f (t ∷ p) e =
      let first : s ≡ t = cc in
      let others : ss ≡ p ++ (zs ++ rest) = cc in
      let new : List Whole = after_submatch kind low high continuation s q in
      let k = replaced ys zs rest run f (new ++ p) (ap (λ xs. new ++ xs) others ∙ sym (append_assoc new p (zs ++ rest))) in (
        suc (m + k.0),
        subst (λ x. SafeRun program input reading dir (x ∷ (p ++ (ys ++ rest))) (suc (m + k.0)) r) first
            (looks here inner (subst (λ xs. SafeRun program input reading dir xs k.0 r) (append_assoc new p (ys ++ rest)) k.1)),
      )

  -- behind the same states
  pub Expands-left : {dir : Direction} (xs ys zs : List Whole) → Expands dir ys zs → Expands dir (xs ++ ys) (xs ++ zs)
  Expands-left {dir = dir} xs ys zs f rest r (n, h) =
      let k = replaced ys zs rest h f xs (append_assoc xs zs rest) in
      subst (λ ss. SafeRuns program input reading dir ss r) (sym (append_assoc xs ys rest)) k

  -- a state expands to its successors
  pub steps : {dir : Direction} (i : Instruction) (s : Whole) → Stands program s.at i → is_plain i ≡ true
      → (reads_character i ≡ true → ReadsPlaces reading i s) → Expands dir (s ∷ []) (successors program input i dir s)
  steps i s here plain places rest r (n, h) = (suc n, goes here plain places h)

  -- and one at a lookaround to what follows by the answer of its contents
  pub looks_around : {dir : Direction} (kind : Submatch) (first last continuation : ℕ) (s : Whole) (q : Option Whole)
      → Stands program s.at (code.submatch kind first last continuation)
      → SafeRuns program input reading (submatch_direction kind dir) (onward s ∷ []) q
      → Expands dir (s ∷ []) (after_submatch kind first last continuation s q)
  looks_around kind first last continuation s q here (m, inner) rest r (n, h) = (suc (m + n), looks here inner h)
