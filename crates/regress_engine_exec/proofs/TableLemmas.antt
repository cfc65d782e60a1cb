-- How many steps an iteration takes to walk along its matches.
use Rattle.std.specs.Prelude.{IfOk, IfSome, OnOk, Result, Ok, Err, length, option_map}
use Rattle.std.specs.Result.{result_transpose}
use Rattle.std.proofs.Common.{◌≡◌, ◌==◌, ℕ, suc, ◌+◌, ◌-◌, ◌*◌, ◌<◌, ◌≤◌, ◌⊎◌, inl, inr, Bool, true, false, if◌then◌else◌, Option, Some, None, refl, sym, ap, ◌∙◌, subst, arith}
use Rattle.std.proofs.Math.Nat.{mul-le-mul_left}
use Rattle.std.proofs.lemmas.Bool.{cases_lt, ne_eqb}
use Rattle.regress_meaning.specs.Meaning.{Forward}
use Rattle.regress_meaning.specs.Matches.{Item}
use Rattle.regress_engine_input.specs.Views.{View, input_of, reading_of}
use Rattle.regress_engine_insn.specs.Instructions.{Program}
use Rattle.regress_engine_runs.specs.Items.{Finds, goes_on}
use Rattle.regress_engine_runs.proofs.FoundItems.{finds-from, goes_on-past}
use Rattle.regress_engine_search.specs.Search.{IsItemAtPlaces}
use Rattle.regress_engine_search.proofs.PlaceLemmas.{moves}
use Rattle.regress_engine_linear.specs.LinearViews.{heights_in}
use Rattle.regress_engine_linear.specs.declared.testing.LinearTable.{LinearTable}
use Rattle.regress_engine_answers.specs.Filling.{fill_steps}
use Rattle.regress_engine_walks.specs.Searched.{StepsTo, start_steps}
use Rattle.regress_engine_walks.specs.declared.searching.TextTable.{TextTable}
use Rattle.regress_engine_exec.specs.Turned.{CountsTold, UnlessErr, ahead, filled_by, most_walked, told_steps, walk_steps}
use Rattle.regress_engine_exec.specs.declared.turning.Turning.{Turning}

-- what follows for what was answered
pub if-ok : {T E : Type 0} {P Q : T → Type 0} (r : Result T E) → ((x : T) → P x → Q x) → IfOk r P → IfOk r Q
if-ok (Ok x) so known = so x known
if-ok (Err e) so known = tt

-- what is so of numbers is so of as many times another
scaled : (w x y n : ℕ) → w + 2 * x ≤ 2 * y → w * n + 2 * (x * n) ≤ 2 * (y * n)
scaled w x y n low = let more = mul-le-mul_left n low in omega (arith, more)

alone : (w y n : ℕ) → w ≤ 2 * y → w * n ≤ 2 * (y * n)
alone w y n low = let more = mul-le-mul_left n low in omega (arith, more)

none-behind : (table : LinearTable) (units q : ℕ) → 0 < q → start_steps table units q ≡ 0
none-behind table units q past =
    ap (λ (b : Bool). if b then suc units * length (heights_in table).order else 0) (ne_eqb q 0 (λ same. absurd (omega (arith, same, past))))

-- Steps that are taken from the begin of the text are left before, and not behind.
at-start : (table : LinearTable) (units at start : ℕ) → at ≤ start → start_steps table units start ≤ start_steps table units at
at-start table units at start low = by_order (cases_lt 0 start)
  where
    by_order : (0 < start) ⊎ (start ≤ 0) → start_steps table units start ≤ start_steps table units at
    by_order (inl more) = let none = none-behind table units start more in omega (arith, none)
    by_order (inr few) =
        let same : start ≡ at = omega (arith, few, low) in let e = ap (start_steps table units) same in omega (arith, e)

few-at-start : (table : LinearTable) (units at : ℕ) → start_steps table units at ≤ suc units * length (heights_in table).order
few-at-start table units at = by_test (at == 0)
  where
    by_test : (b : Bool) → (if b then suc units * length (heights_in table).order else 0) ≤ suc units * length (heights_in table).order
    by_test true = omega arith
    by_test false = omega arith

-- what was counted on a way is no more than a walk along it takes
walked : (before after n x y z more : ℕ) → after + x * n ≤ before + y * n + n + more → y ≤ x + z → after ≤ before + (suc z * n + more)
walked before after n x y z most low far = let more = mul-le-mul_left n far in omega (arith, low, more)

module _ (v : View) (old mid : Turning) (told : TextTable) (steps : ℕ) where
  -- a search by tables took no more steps than its walk
  pub counts-told : (found : Option (ℕ × ℕ)) → mid.told ≡ Some told → mid.table.now ≡ old.table.now → told_steps v mid ≤ told_steps v old
      → StepsTo mid.table.now v mid.steps steps found → CountsTold v old (record { table = mid.table; told = mid.told; steps = steps }) found
  counts-told None is same low counted = rw (is) (omega (arith, counted, filled))
    where
      filled : mid.steps + 0 ≤ told_steps v old
      filled = subst (λ o. mid.steps + elim o [ None ↦ fill_steps mid.table.now v | Some x ↦ 0 ] ≤ told_steps v old) is low
  counts-told (Some (start, end)) is same low counted = rw (is) (omega (arith, walk, filled))
    where
      filled : mid.steps + 0 ≤ told_steps v old
      filled = subst (λ o. mid.steps + elim o [ None ↦ fill_steps mid.table.now v | Some x ↦ 0 ] ≤ told_steps v old) is low

      walk : steps ≤ mid.steps + walk_steps old.table.now (length v.units) (Some (start, end))
      walk = subst (λ t. steps ≤ mid.steps + walk_steps t (length v.units) (Some (start, end))) same
          (walked mid.steps steps (length (heights_in mid.table.now).order) (length v.units - end) (length v.units - start) (end - start)
          (start_steps mid.table.now (length v.units) start) counted (omega arith))

-- to make the table of a text, and to walk along all its matches by it, takes no more steps than are enough for the searches before
pub enough-by-table : (table : LinearTable) (v : View) (at : ℕ)
    → filled_by (Some table) v + ahead (Some table) (length v.units) (Some at) ≤ 4 * (length (heights_in table).order * (length v.units + 64))
enough-by-table table v at =
    let n = length (heights_in table).order in
    let units = length v.units in
    let fewer : suc units - at ≤ units + 64 = omega arith in
    let less : suc units ≤ units + 64 = omega arith in
    let walks : n * (suc units - at) ≤ n * (units + 64) = mul-le-mul_left n fewer in
    let fills : n * suc units ≤ n * (units + 64) = mul-le-mul_left n less in
    let begin = few-at-start table units at in
    omega (arith, walks, fills, begin)

-- where nothing is found nothing is ahead
pub none-ahead : (table : Option LinearTable) (units at before after : ℕ) → after ≤ before + most_walked table units None → after + ahead table units None ≤ before + ahead table units (Some at)
none-ahead None units at before after low = omega (arith, low)
none-ahead (Some table) units at before after low = omega (arith, low)

-- what is so where a search succeeds is so behind a step, unless that erred
pub unless-err : {T E : Type 0} (P : Type 0) (x : Result (Option T) E) (r : Option (Result T E)) → r ≡ result_transpose x → OnOk x P → UnlessErr r P
unless-err P (Ok None) r is known = rw is known
unless-err P (Ok (Some m)) r is known = rw is known
unless-err P (Err e) r is known = rw is known

module _ (program : Program) (v : View) (i : Item) (ordered : i.start ≤ i.end) where
  -- a search goes on no earlier than where the item ends
  goes_on-end : (q : ℕ) → goes_on program (input_of v) i ≡ Some q → i.end ≤ q
  goes_on-end q e = by_ends (cases_lt i.start i.end)
    where
      past : i.start < q
      past = goes_on-past program (input_of v) (moves v) i ordered q e

      by_ends : (i.start < i.end) ⊎ (i.end ≤ i.start) → i.end ≤ q
      by_ends (inl less) =
          let far : (i.start == i.end) ≡ false = ne_eqb i.start i.end (λ same. absurd (omega (arith, same, less))) in
          let f : Some i.end ≡ Some q = sym (ap (λ (b : Bool). if b then option_map (λ (x : ℕ × ℕ). x.1) ((input_of v).next Forward i.end) else Some i.end) far) ∙ e in
          let same : i.end ≡ q = cc in
          omega (arith, same)
      by_ends (inr more) = omega (arith, more, past)

  -- From a position on a walk along the item that is found, and what is still ahead behind it, is no more than what was ahead.
  pub walk-ahead : (table : Option LinearTable) (units at : ℕ) (next : Option ℕ) → at ≤ i.start → i.end ≤ units → next ≡ goes_on program (input_of v) i
      → most_walked table units (Some (i.start, i.end)) + ahead table units next ≤ ahead table units (Some at)
  walk-ahead None units at next from inside goes = omega arith
  walk-ahead (Some table) units at None from inside goes =
      let walk = alone (suc (i.end - i.start)) (suc units - at) (length (heights_in table).order) (omega (arith, from, inside, ordered)) in
      let begin = at-start table units at i.start from in
      omega (arith, walk, begin)
  walk-ahead (Some table) units at (Some q) from inside goes =
      let past = goes_on-past program (input_of v) (moves v) i ordered q (sym goes) in
      let end = goes_on-end q (sym goes) in
      let walk = scaled (suc (i.end - i.start)) (suc units - q) (suc units - at) (length (heights_in table).order) (omega (arith, from, inside, ordered, past, end)) in
      let begin = at-start table units at i.start from in
      let none = none-behind table units q (omega (arith, past)) in
      omega (arith, walk, begin, none)
