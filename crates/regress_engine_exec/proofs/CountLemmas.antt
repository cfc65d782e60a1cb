-- How many steps the runs of a search take, and how many of them are counted.
use Rattle.std.specs.Prelude.{option_map, slice_get, get_or}
use Rattle.std.proofs.Common.{◌≡◌, ℕ, zero, suc, ◌+◌, ◌≤◌, ◌<◌, ◌-◌, ◌⊎◌, inl, inr, List, length, Option, Some, None, refl, sym, ap, ◌∙◌, subst, arith}
use Rattle.std.proofs.Math.Logic.{∥∥₁_elim}
use Rattle.std.proofs.lemmas.Bool.{cases_lt}
use Rattle.std.proofs.lemmas.Option.{slice_get_past, slice_get-get_or}
use Rattle.regress_meaning.specs.Meaning.{Forward}
use Rattle.regress_meaning.specs.Inputs.{Tells, point_told}
use Rattle.regress_meaning.specs.Matches.{Item}
use Rattle.regress_meaning.specs.Offsets.{offset}
use Rattle.regress_engine_input.specs.Views.{View, AreOfKind, input_of, reading_of}
use Rattle.regress_engine_input.proofs.KindLemmas.{tells}
use Rattle.regress_engine_insn.specs.Instructions.{Program}
use Rattle.regress_engine_runs.specs.States.{Whole}
use Rattle.regress_engine_runs.specs.Items.{Answers, Finds, Lists, found, later, nowhere, over, no_item, next_item, item_of}
use Rattle.regress_engine_runs.specs.Meets.{IsAtPlace}
use Rattle.regress_engine_runs.proofs.Computed.{computed-runs, one_run}
use Rattle.regress_engine_runs.proofs.FoundItems.{finds-from}
use Rattle.regress_engine_runs.proofs.ItemLemmas.{one_answer, one_find}
use Rattle.regress_engine_search.specs.Answering.{FindsOn}
use Rattle.regress_engine_search.specs.Search.{IsSearchable}
use Rattle.regress_engine_search.proofs.PlaceLemmas.{moves}
use Rattle.regress_engine_search.specs.Budgets.{Spends}
use Rattle.regress_engine_attempt.specs.Counting.{most_counted, RunsIn, CountsRun}
use Rattle.regress_engine_attempt.proofs.CountLemmas.{most-adds, most-more, spends-none, spends-then, spends-more}
use Rattle.regress_engine_exec.specs.Counting.{Takes, answered, further, CountsSearch, CountsUpTo}
use Rattle.regress_engine_exec.specs.Counting as counting

-- how many steps a search may have come to
module _ (program : Program) (v : View) where
  abbrev Taken : (at n : ℕ) → Type 0
  Taken at n = ((w : Whole) × RunsIn program v at n (Some w))
      ⊎ (((k c next m : ℕ) × RunsIn program v at k None × ((input_of v).next Forward at ≡ Some (c, next)) × Takes program v next m × (n ≡ k + m))
      ⊎ (RunsIn program v at n None × ((input_of v).next Forward at ≡ None)))

  pub taken : {at n : ℕ} → Takes program v at n → Taken at n
  taken (answered {w = w} run) = inl (w, run)
  taken (further {n = k} {c = c} {next = next} {m = m} run e rest) = inr (inl (k, c, next, m, run, e, rest, refl))
  taken (counting.over run e) = inr (inr (run, e))

  -- the steps of the first run are among them
  pub taken-first : (at n k : ℕ) {r : Option Whole} → Takes program v at n → RunsIn program v at k r → k ≤ n
  taken-first at n k {r} takes run = by_case (taken takes)
    where
      by_case : Taken at n → k ≤ n
      by_case (inl (w, own)) = let same = (one_run program (input_of v) run own).0 in omega (arith, same)
      by_case (inr (inl (j, c, next, m, own, e, rest, is))) = let same = (one_run program (input_of v) run own).0 in omega (arith, same, is)
      by_case (inr (inr (own, e))) = let same = (one_run program (input_of v) run own).0 in omega (arith, same)

  -- and the others are those of a search from behind the next code point
  pub taken-rest : (at n k c next : ℕ) → Takes program v at n → RunsIn program v at k None → (input_of v).next Forward at ≡ Some (c, next)
      → (m : ℕ) × (n ≡ k + m) × Takes program v next m
  taken-rest at n k c next takes run here = by_case (taken takes)
    where
      by_case : Taken at n → (m : ℕ) × (n ≡ k + m) × Takes program v next m
      by_case (inl (w, own)) = let e : ◌≡◌ {A = Option Whole} None (Some w) = (one_run program (input_of v) run own).1 in absurd (cc)
      by_case (inr (inl (j, d, q, m, own, e, rest, is))) =
          let same = (one_run program (input_of v) run own).0 in
          let x : ◌≡◌ {A = Option (ℕ × ℕ)} (Some (d, q)) (Some (c, next)) = sym e ∙ here in
          let z : ◌≡◌ {A = ℕ × ℕ} (d, q) (c, next) = cc in
          (m, omega (arith, same, is), subst (λ o. Takes program v o m) (ap (λ (v : ℕ × ℕ). v.1) z) rest)
      by_case (inr (inr (own, e))) = absurd (cc)

  -- what a search finds where the first run has no answer
  pub finds-behind : (at k c next : ℕ) (i : Option Item) → RunsIn program v at k None → (input_of v).next Forward at ≡ Some (c, next) → Finds program (input_of v) at i → Finds program (input_of v) next i
  finds-behind at k c next i run here finds = by_find finds refl
    where
      by_find : {o : ℕ} {j : Option Item} → Finds program (input_of v) o j → o ≡ at → Finds program (input_of v) next j
      by_find (found {w = w} a) same =
          let e : ◌≡◌ {A = Option Whole} (Some w) None = one_answer program (input_of v) at (Some w) None (subst (λ x. Answers program (input_of v) x (Some w)) same a) (k, run) in
          absurd (cc)
      by_find (later {c = d} {next = q} {i = j} a e h) same =
          let x : ◌≡◌ {A = Option (ℕ × ℕ)} (Some (d, q)) (Some (c, next)) = sym e ∙ ap ((input_of v).next Forward) same ∙ here in
          let z : ◌≡◌ {A = ℕ × ℕ} (d, q) (c, next) = cc in
          subst (λ o. Finds program (input_of v) o j) (ap (λ (v : ℕ × ℕ). v.1) z) h
      by_find (nowhere a e) same =
          let x : ◌≡◌ {A = Option (ℕ × ℕ)} None (Some (c, next)) = sym e ∙ ap ((input_of v).next Forward) same ∙ here in
          absurd (cc)

  -- what is listed from an offset is found there
  abbrev FindsAny : Option ℕ → Type 0
  FindsAny None = Unit {0}
  FindsAny (Some at) = (i : Option Item) × Finds program (input_of v) at i

  pub listed-finds : {o : Option ℕ} {items : List Item} → Lists program (input_of v) o items → FindsAny o
  listed-finds over = tt
  listed-finds (no_item h) = (None, h)
  listed-finds (next_item {i = i} h rest) = (Some i, h)

-- from place to place
module _ (program : Program) (v : View) (searchable : IsSearchable program v) (all : AreOfKind v.kind v.units) where
  told : Tells (reading_of v) (input_of v)
  told = tells v.kind v.table v.unicode v.units all

  abbrev size : ℕ
  size = length (reading_of v).points

  abbrev there : ℕ → ℕ
  there p = offset (reading_of v) p

  -- the next code point
  next-there : (p : ℕ) → p < size → (c : ℕ) × ((input_of v).next Forward (there p) ≡ Some (c, there (suc p)))
  next-there p less =
      let c : ℕ = get_or (reading_of v).points p 0 in
      let own : slice_get (reading_of v).points p ≡ Some c = slice_get-get_or (reading_of v).points p 0 less in
      (c, told.next Forward p (omega (arith, less)) ∙ ap (λ (o : Option ℕ). option_map (point_told (reading_of v)) (option_map (λ c. (c, suc p)) o)) own)

  -- the run from a place
  runs-there : (p : ℕ) → p ≤ size → (n : ℕ) × (r : Option Whole) × RunsIn program v (there p) n r
  runs-there p room =
      let ends = searchable.ends (there p) (p, room, refl) in
      (ends.0.0, ends.0.1, computed-runs program (input_of v) (suc ends.0.0) Forward _ ends.0.0 ends.0.1 (ends.1 (suc ends.0.0) (omega arith)))

  -- a search takes so many steps as its first run and the search behind it
  takes-one : (p : ℕ) → p ≤ size → (p < size → (n : ℕ) × Takes program v (there (suc p)) n) → (n : ℕ) × (r : Option Whole) × RunsIn program v (there p) n r → (n : ℕ) × Takes program v (there p) n
  takes-one p room rest (n, Some w, run) = (n, answered run)
  takes-one p room rest (n, None, run) = by_order (cases_lt p size)
    where
      by_order : (p < size) ⊎ (size ≤ p) → (n : ℕ) × Takes program v (there p) n
      by_order (inl less) =
          let (c, here) = next-there p less in
          let (m, takes) = rest less in
          (n + m, further run here takes)
      by_order (inr past) =
          let last : slice_get (reading_of v).points p ≡ None = slice_get_past (reading_of v).points p (omega (arith, past)) in
          (n, counting.over run (told.next Forward p (omega (arith, room)) ∙ ap (λ (o : Option ℕ). option_map (point_told (reading_of v)) (option_map (λ c. (c, suc p)) o)) last))

  takes-any : (k p : ℕ) → p + k ≡ size → (n : ℕ) × Takes program v (there p) n
  takes-any zero p e = takes-one p (omega (arith, e)) (λ less. absurd (omega (arith, less, e))) (runs-there p (omega (arith, e)))
  takes-any (suc k) p e = takes-one p (omega (arith, e)) (λ less. takes-any k (suc p) (omega (arith, e))) (runs-there p (omega (arith, e)))

  pub takes-some : (at : ℕ) → IsAtPlace (reading_of v) at → (n : ℕ) × Takes program v at n
  takes-some at (p, room, e) = let (n, takes) = takes-any (size - p) p (omega (arith, room)) in (n, subst (λ o. Takes program v o n) (sym e) takes)

  -- A search from a place whose runs up to another have no answer takes the steps of a search from there too.
  abbrev TakesOn : (from to n : ℕ) → Type 0
  TakesOn from to n = (m : ℕ) × (m ≤ n) × Takes program v to m

  -- the first of these runs
  takes-next : (p k : ℕ) → p + suc k ≤ size → FindsOn program (input_of v) (there p) (there (p + suc k)) → (n : ℕ) → Takes program v (there p) n
      → ((n : ℕ) → FindsOn program (input_of v) (there (suc p)) (there (suc p + k)) → Takes program v (there (suc p)) n → TakesOn (there (suc p)) (there (suc p + k)) n)
      → (j : ℕ) × (r : Option Whole) × RunsIn program v (there p) j r → TakesOn (there p) (there (p + suc k)) n
  takes-next p k room on n takes rest (j, Some w, run) =
      let listed = searchable.lists (p + suc k) room in
      absurd (∥∥₁_elim listed.lists (λ x. absurd x) (λ l.
      let (i, finds) = listed-finds program v l in
      let same : i ≡ Some (item_of (there p) w) = one_find program (input_of v) (on i finds) (found (j, run)) in
      let low : there (p + suc k) ≤ there p = finds-from program (input_of v) (moves v) (subst (Finds program (input_of v) (there (p + suc k))) same finds) in
      let less = told.rise p (p + suc k) (omega arith) room in
      omega (arith, low, less)))
  takes-next p k room on n takes rest (j, None, run) =
      let far : p + suc k ≡ suc p + k = omega arith in
      let (c, here) = next-there p (omega (arith, room)) in
      let (m, is, behind) = taken-rest program v (there p) n j c (there (suc p)) takes run here in
      let (l, less, last) = rest m (λ i finds. finds-behind program v (there p) j c (there (suc p)) i run here (on i (subst (λ q. Finds program (input_of v) (there q) i) (sym far) finds))) behind in
      (l, omega (arith, is, less), subst (λ q. Takes program v (there q) l) (sym far) last)

  takes-on : (k p : ℕ) → p + k ≤ size → FindsOn program (input_of v) (there p) (there (p + k)) → (n : ℕ) → Takes program v (there p) n → TakesOn (there p) (there (p + k)) n
  takes-on zero p room on n takes = let same : p ≡ p + zero = omega arith in (n, omega arith, subst (λ q. Takes program v (there q) n) same takes)
  takes-on (suc k) p room on n takes = takes-next p k room on n takes (λ m more. takes-on k (suc p) (omega (arith, room)) more m) (runs-there p (omega (arith, room)))

  pub takes-past : (from at : ℕ) → IsAtPlace (reading_of v) from → IsAtPlace (reading_of v) at → from ≤ at → FindsOn program (input_of v) from at → (n : ℕ) → Takes program v from n
      → (m : ℕ) × (m ≤ n) × Takes program v at m
  takes-past from at (p, room, e) (q, inside, f) low on n takes = by_order (cases_lt q p)
    where
      by_order : (q < p) ⊎ (p ≤ q) → (m : ℕ) × (m ≤ n) × Takes program v at m
      by_order (inl less) = let rises = told.rise q p less room in absurd (omega (arith, rises, e, f, low))
      by_order (inr more) =
          let reach : p + (q - p) ≡ q = omega (arith, more) in
          let on_there = subst (λ x. FindsOn program (input_of v) (there p) (there x)) (sym reach) (subst (λ x. FindsOn program (input_of v) x (there q)) e (subst (FindsOn program (input_of v) from) f on)) in
          let (m, less, last) = takes-on (q - p) p (omega (arith, more, inside)) on_there n (subst (λ x. Takes program v x n) e takes) in
          (m, less, subst (λ x. Takes program v x m) (ap there reach ∙ sym f) last)

  -- a search begins
  pub counts-first : (at : ℕ) → IsAtPlace (reading_of v) at → (b : Option ℕ) → CountsUpTo program v at at b b
  counts-first at place b = let (n, takes) = takes-some at place in (0, n, n, omega arith, spends-more b b 0 (most_counted v 0) (omega arith) (spends-none b), takes, takes)

  -- it comes to a place further on
  pub counts-past : (at from to : ℕ) (b now : Option ℕ) → IsAtPlace (reading_of v) from → IsAtPlace (reading_of v) to → from ≤ to
      → ((offset : ℕ) → FindsOn program (input_of v) offset from → FindsOn program (input_of v) offset to)
      → CountsUpTo program v at from b now → CountsUpTo program v at to b now
  counts-past at from to b now place there low on (k, m, n, less, spends, here, all) =
      let (j, fewer, takes) = takes-past from to place there low (on from (λ i finds. finds)) m here in
      (k, j, n, omega (arith, less, fewer), spends, takes, all)

-- what is counted while a search goes on
module _ (program : Program) (v : View) (at from : ℕ) (b now : Option ℕ) where
  -- it ends
  pub counts-over : CountsUpTo program v at from b now → CountsSearch program v at b now
  counts-over (k, m, n, less, spends, here, all) = (n, all, spends-more b now (most_counted v k) (most_counted v n) (most-more v k n (omega (arith, less))) spends)

  -- what was counted before a run, and in it
  spends-run : (new : Option ℕ) (k j : ℕ) → Spends b now (most_counted v k) → Spends now new (most_counted v j) → Spends b new (most_counted v (k + j))
  spends-run new k j spends more = subst (Spends b new) (sym (most-adds v k j)) (spends-then b now new (most_counted v k) (most_counted v j) spends more)

  -- it ends with a run
  pub counts-ends : (new : Option ℕ) (j : ℕ) (r : Option Whole) → CountsUpTo program v at from b now → RunsIn program v from j r → Spends now new (most_counted v j)
      → CountsSearch program v at b new
  counts-ends new j r (k, m, n, less, spends, here, all) run more =
      let fewer = taken-first program v from m j here run in
      (n, all, spends-more b new (most_counted v (k + j)) (most_counted v n) (most-more v (k + j) n (omega (arith, less, fewer))) (spends-run new k j spends more))

  -- it goes on behind a run that has no answer
  pub counts-on : (new : Option ℕ) (j c next : ℕ) → CountsUpTo program v at from b now → RunsIn program v from j None → (input_of v).next Forward from ≡ Some (c, next) → Spends now new (most_counted v j)
      → CountsUpTo program v at next b new
  counts-on new j c next (k, m, n, less, spends, here, all) run there more =
      let (l, is, rest) = taken-rest program v from m j c next here run there in
      (k + j, l, n, omega (arith, less, is), spends-run new k j spends more, rest, all)

-- the run that was counted has the answer that it is known to have
pub counted-answer : (program : Program) (v : View) (at : ℕ) (r : Option Whole) (now new : Option ℕ) → Answers program (input_of v) at r → CountsRun program v at now new
    → (n : ℕ) × RunsIn program v at n r × Spends now new (most_counted v n)
counted-answer program v at r now new (k, run) (n, q, counts, spends) =
    (n, subst (RunsIn program v at n) (sym (one_run program (input_of v) run counts).1) counts, spends)
