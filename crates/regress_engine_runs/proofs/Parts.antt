-- A run over some states and then some others: what the first ones come to, and what the others.
use Rattle.std.proofs.Common.{◌≡◌, ℕ, suc, ◌+◌, ◌≤◌, List, [], ◌∷◌, ◌++◌, Option, Some, None, refl, sym, ap, ◌∙◌, subst, arith, append_assoc}
use Rattle.regress_meaning.specs.Meaning.{Direction}
use Rattle.regress_meaning.specs.Inputs.{Input}
use Rattle.regress_engine_insn.specs.Instructions.{Instruction, Program, Stands}
use Rattle.regress_engine_insn.specs.Instructions as code
use Rattle.regress_engine_runs.specs.States.{Whole}
use Rattle.regress_engine_runs.specs.Runs.{Run, ends, finds, goes, looks, successors, after_submatch}
use Rattle.regress_engine_runs.specs.Meets.{Meets, now, later, inside, behind}
use Rattle.regress_engine_runs.proofs.Computed.{one_run}

module _ (program : Program) (input : Input) where
  -- What follows the run of the first states: where it has no answer a run of the others, in the steps that are left; else its
  -- answer is that of all.
  abbrev pub Follows : Direction → List Whole → ℕ → Option Whole → ℕ → Option Whole → Type 0
  Follows dir ys n r m None = (k : ℕ) × (m + k ≡ n) × Run program input dir ys k r
  Follows dir ys n r m (Some w) = (r ≡ Some w) × (m ≡ n)

  follows-more : (dir : Direction) (ys : List Whole) (n : ℕ) (r : Option Whole) (m c a b : ℕ) → a ≡ c + n → b ≡ c + m → (q : Option Whole) → Follows dir ys n r m q → Follows dir ys a r b q
  follows-more dir ys n r m c a b e f None (k, count, run) = (k, omega (arith, count, e, f), run)
  follows-more dir ys n r m c a b e f (Some w) (same, count) = (same, omega (arith, count, e, f))

  abbrev pub Split : Direction → List Whole → List Whole → ℕ → Option Whole → Type 0
  Split dir xs ys n r = (q : Option Whole) × (m : ℕ) × Run program input dir xs m q × Follows dir ys n r m q

  split : {dir : Direction} {ss : List Whole} {n : ℕ} {r : Option Whole} → Run program input dir ss n r → (xs ys : List Whole) → ss ≡ xs ++ ys → Split dir xs ys n r
  split {dir = dir} {n = n} {r = r} h [] ys e = (None, 0, ends, (n, omega arith, subst (λ xs. Run program input dir xs n r) e h))
  split ends (x ∷ xs) ys e = absurd (cc)
  split (finds {dir = dir} {s = s} {ss = ss} here) (x ∷ xs) ys e =
      let first : s ≡ x = cc in
      (Some s, 1, subst (λ z. Run program input dir (z ∷ xs) 1 (Some s)) first (finds here), (refl, refl))
  split (goes {dir = dir} {i = i} {s = s} {ss = ss} {n = n} {r = r} here plain next) (x ∷ xs) ys e =
      let first : s ≡ x = cc in
      let others : ss ≡ xs ++ ys = cc in
      let new : List Whole = successors program input i dir s in
      let (q, m, run, rest) = split next (new ++ xs) ys (ap (λ zs. new ++ zs) others ∙ sym (append_assoc new xs ys)) in (
        q,
        suc m,
        subst (λ z. Run program input dir (z ∷ xs) (suc m) q) first (goes here plain run),
        follows-more dir ys n r m 1 (suc n) (suc m) (omega arith) (omega arith) q rest,
      )
  split (looks {dir = dir} {kind = kind} {first = low} {last = high} {continuation = continuation} {s = s} {ss = ss} {m = l} {n = n} {q = p} {r = r} here inner next) (x ∷ xs) ys e =
      let first : s ≡ x = cc in
      let others : ss ≡ xs ++ ys = cc in
      let new : List Whole = after_submatch kind low high continuation s p in
      let (q, m, run, rest) = split next (new ++ xs) ys (ap (λ zs. new ++ zs) others ∙ sym (append_assoc new xs ys)) in (
        q,
        suc (l + m),
        subst (λ z. Run program input dir (z ∷ xs) (suc (l + m)) q) first (looks here inner run),
        follows-more dir ys n r m (suc l) (suc (l + n)) (suc (l + m)) (omega arith) (omega arith) q rest,
      )

  -- A run over two lists comes to an answer of the first, or goes on with the second.
  pub run-splits : (dir : Direction) (xs ys : List Whole) (n : ℕ) (r : Option Whole) → Run program input dir (xs ++ ys) n r → Split dir xs ys n r
  run-splits dir xs ys n r run = split run xs ys refl

  -- where the first have no answer
  pub run-behind : (dir : Direction) (xs ys : List Whole) (m n : ℕ) (r : Option Whole) → Run program input dir xs m None → Run program input dir (xs ++ ys) n r
      → (k : ℕ) × (m + k ≡ n) × Run program input dir ys k r
  run-behind dir xs ys m n r fails run = by_answer (run-splits dir xs ys n r run)
    where
      by_answer : Split dir xs ys n r → (k : ℕ) × (m + k ≡ n) × Run program input dir ys k r
      by_answer (None, l, first, (k, count, rest)) =
          let same = (one_run program input fails first).0 in (k, omega (arith, same, count), rest)
      by_answer (Some w, l, first, rest) = let e = (one_run program input fails first).1 in absurd (cc e)

  -- and both together
  pub none-then : {dir : Direction} {xs : List Whole} {m : ℕ} {q : Option Whole} → Run program input dir xs m q → q ≡ None → (ys : List Whole) (n : ℕ) (r : Option Whole) → Run program input dir ys n r
      → Run program input dir (xs ++ ys) (m + n) r
  none-then {dir = dir} ends none ys n r rest = let e : n ≡ 0 + n = omega arith in subst (λ k. Run program input dir ys k r) e rest
  none-then (finds here) none ys n r rest = absurd (cc none)
  none-then {dir = dir} (goes {i = i} {s = s} {ss = ss} {n = m} here plain next) none ys n r rest =
      let run = none-then next none ys n r rest in
      let e : suc (m + n) ≡ suc m + n = omega arith in
      subst (λ k. Run program input dir (s ∷ (ss ++ ys)) k r) e (goes here plain (subst (λ zs. Run program input dir zs (m + n) r) (append_assoc (successors program input i dir s) ss ys) run))
  none-then {dir = dir} (looks {kind = kind} {first = low} {last = high} {continuation = continuation} {s = s} {ss = ss} {m = l} {n = m} {q = p} here inner next) none ys n r rest =
      let run = none-then next none ys n r rest in
      let e : suc (l + (m + n)) ≡ suc (l + m) + n = omega arith in
      subst (λ k. Run program input dir (s ∷ (ss ++ ys)) k r) e
      (looks here inner (subst (λ zs. Run program input dir zs (m + n) r) (append_assoc (after_submatch kind low high continuation s p) ss ys) run))

  -- an answer of the first is that of both
  pub some-then : {dir : Direction} {xs : List Whole} {m : ℕ} {q : Option Whole} → Run program input dir xs m q → (w : Whole) → q ≡ Some w → (ys : List Whole) → Run program input dir (xs ++ ys) m q
  some-then ends w some ys = absurd (cc some)
  some-then (finds here) w some ys = finds here
  some-then {dir = dir} {q = q} (goes {i = i} {s = s} {ss = ss} {n = m} here plain next) w some ys =
      goes here plain (subst (λ zs. Run program input dir zs m q) (append_assoc (successors program input i dir s) ss ys) (some-then next w some ys))
  some-then {dir = dir} {q = q} (looks {kind = kind} {first = low} {last = high} {continuation = continuation} {s = s} {ss = ss} {n = m} {q = p} here inner next) w some ys =
      looks here inner (subst (λ zs. Run program input dir zs m q) (append_assoc (after_submatch kind low high continuation s p) ss ys) (some-then next w some ys))

  -- ---- what is met

  -- by the first ones
  pub meets-first : {dir : Direction} {xs : List Whole} {u : Whole} → Meets program input dir xs u → (ys : List Whole) → Meets program input dir (xs ++ ys) u
  meets-first now ys = now
  meets-first {dir = dir} {u = u} (later {i = i} {s = s} {ss = ss} here plain met) ys =
      later here plain (subst (λ zs. Meets program input dir zs u) (append_assoc (successors program input i dir s) ss ys) (meets-first met ys))
  meets-first (inside here met) ys = inside here met
  meets-first {dir = dir} {u = u} (behind {kind = kind} {first = low} {last = high} {continuation = continuation} {s = s} {ss = ss} {q = p} here answered met) ys =
      behind here answered (subst (λ zs. Meets program input dir zs u) (append_assoc (after_submatch kind low high continuation s p) ss ys) (meets-first met ys))

  -- by the others, where the first ones have no answer
  pub meets-others : {dir : Direction} {xs : List Whole} {m : ℕ} {q : Option Whole} → Run program input dir xs m q → q ≡ None → (ys : List Whole) (u : Whole) → Meets program input dir ys u
      → Meets program input dir (xs ++ ys) u
  meets-others ends none ys u met = met
  meets-others (finds here) none ys u met = absurd (cc none)
  meets-others {dir = dir} (goes {i = i} {s = s} {ss = ss} here plain next) none ys u met =
      later here plain (subst (λ zs. Meets program input dir zs u) (append_assoc (successors program input i dir s) ss ys) (meets-others next none ys u met))
  meets-others {dir = dir} (looks {kind = kind} {first = low} {last = high} {continuation = continuation} {s = s} {ss = ss} {m = l} {q = p} here inner next) none ys u met =
      behind here (l, inner) (subst (λ zs. Meets program input dir zs u) (append_assoc (after_submatch kind low high continuation s p) ss ys) (meets-others next none ys u met))

  -- the answer is met, and stands at its goal
  pub meets-answer : {dir : Direction} {xs : List Whole} {m : ℕ} {q : Option Whole} → Run program input dir xs m q → (w : Whole) → q ≡ Some w → Meets program input dir xs w × Stands program w.at code.goal
  meets-answer ends w some = absurd (cc some)
  meets-answer {dir = dir} (finds {s = s} {ss = ss} here) w some =
      let same : s ≡ w = cc in (subst (λ x. Meets program input dir (s ∷ ss) x) same now, subst (λ (x : Whole). Stands program x.at code.goal) same here)
  meets-answer (goes here plain next) w some = let rest = meets-answer next w some in (later here plain rest.0, rest.1)
  meets-answer (looks {m = l} here inner next) w some = let rest = meets-answer next w some in (behind here (l, inner) rest.0, rest.1)

  -- ---- steps

  -- what has a state to run takes a step
  pub steps-some : {dir : Direction} {s : Whole} {ss : List Whole} {m : ℕ} {q : Option Whole} → Run program input dir (s ∷ ss) m q → 1 ≤ m
  steps-some (finds here) = omega arith
  steps-some (goes here plain next) = omega arith
  steps-some (looks here inner next) = omega arith

  -- and so does what has an answer
  pub steps-answer : {dir : Direction} {ss : List Whole} {m : ℕ} {q : Option Whole} → Run program input dir ss m q → (w : Whole) → q ≡ Some w → 1 ≤ m
  steps-answer ends w some = absurd (cc some)
  steps-answer (finds here) w some = omega arith
  steps-answer (goes here plain next) w some = omega arith
  steps-answer (looks here inner next) w some = omega arith
