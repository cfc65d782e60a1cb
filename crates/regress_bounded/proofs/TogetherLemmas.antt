-- What is counted over an iteration, call by call.
use Rattle.std.specs.Iterator.{Yields}
use Rattle.std.specs.Prelude.{IsErrOf, IfErr}
use Rattle.std.proofs.Common.{◌≡◌, ◌⊎◌, Bool, true, false, ℕ, ◌+◌, List, [], ◌∷◌, map, Option, Some, None, Result, Ok, Err, inl, inr, refl, sym, ap, ◌∙◌, subst, arith}
use Rattle.regress_meaning.specs.Matches.{Item}
use Rattle.regress_match.specs.declared.found.Match.{Match}
use Rattle.regress_match.specs.Iterating.{coming_on}
use Rattle.regress_match.specs.Views.{item_of}
use Rattle.regress_matched.specs.Giving.{GivesMatches, Errs, ErrsOnlyIf}
use Rattle.regress_engine_input.specs.Views.{View}
use Rattle.regress_engine_code.specs.declared.compiled.CompiledRegex.{CompiledRegex}
use Rattle.regress_engine_code.specs.Standing.{program_of}
use Rattle.regress_engine_search.specs.Search.{Search, StartsAt, items_from}
use Rattle.regress_engine_search.specs.Budgets.{Spends}
use Rattle.regress_engine_trying.specs.Counting.{most_counted}
use Rattle.regress_engine_trying.proofs.CountLemmas.{most-adds, spends-none, spends-then, spends-more}
use Rattle.regress_engine_exec.specs.declared.error.SearchError.{SearchError}
use Rattle.regress_engine_exec.specs.declared.error.SearchError.TheVariants.{OutOfMemory, TooManySteps}
use Rattle.regress_engine_exec.specs.Counting.{CountsSearch, CountsStep}
use Rattle.regress_bounded.specs.Coming.{GivesWithin}
use Rattle.regress_bounded.specs.Together.{no_search, first_search, CountsTogether, CountsWithLast, TakeAllTogether, CountsAlong, TakesAllAlong}

-- what was counted by some steps and by others was counted by both together
spends-both : (v : View) (m n : ℕ) (a b c : Option ℕ) → Spends a b (most_counted v m) → Spends b c (most_counted v n) → Spends a c (most_counted v (m + n))
spends-both v m n a b c first second = subst (Spends a c) (sym (most-adds v m n)) (spends-then a b c (most_counted v m) (most_counted v n) first second)

-- a search that gave a match, and those behind it
counts-more : (s : Search) (from next to : Option ℕ) (m : Match) (found : List Item) (before now after : ℕ)
    → coming_on (items_from s) from ≡ item_of m ∷ coming_on (items_from s) next → CountsStep {T = Match} (λ e. e ≡ TooManySteps) s from (Some (Ok m)) (Some before) (Some now)
    → CountsTogether s next found to now after → CountsTogether s from (item_of m ∷ found) to before after
counts-more s None next to m found before now after first counted rest = absurd (cc)
counts-more s (Some at) next to m found before now after first (k, takes, spent) (n, together, rest) =
    (k + n, first_search takes first together, spends-both s.view k n (Some before) (Some now) (Some after) spent rest)

-- the same with one more behind them
last-more : (s : Search) (from next : Option ℕ) (m : Match) (found : List Item) (before now after : ℕ)
    → coming_on (items_from s) from ≡ item_of m ∷ coming_on (items_from s) next → CountsStep {T = Match} (λ e. e ≡ TooManySteps) s from (Some (Ok m)) (Some before) (Some now)
    → CountsWithLast s next found now after → CountsWithLast s from (item_of m ∷ found) before after
last-more s None next m found before now after first counted rest = absurd (cc)
last-more s (Some at) next m found before now after first (k, takes, spent) (last, n, j, together, own, rest) = (
  last,
  k + n,
  j,
  first_search takes first together,
  own,
  subst (λ x. Spends (Some before) (Some after) (most_counted s.view x)) (omega arith)
      (spends-both s.view k (n + j) (Some before) (Some now) (Some after) spent rest),
)

-- one search alone
last-only : (s : Search) (at : ℕ) (before after : ℕ) → CountsSearch (program_of s.compiled) s.view at (Some before) (Some after) → CountsWithLast s (Some at) [] before after
last-only s at before after (m, takes, spent) =
    let same : m ≡ 0 + m = omega arith in
    (at, 0, m, no_search, takes, subst (λ x. Spends (Some before) (Some after) (most_counted s.view x)) same spent)

-- what is not true is false
not-true : (b : Bool) → (b ≡ true → ⊥) → b ≡ false
not-true true never = absurd (never refl)
not-true false never = refl

module _ {S : Type 0} (search_by : S → Search) (next_from : S → Option ℕ) (budget_of : S → ℕ) (turns_of : S → Bool) where
  abbrev gives : S → Option (Result Match SearchError) → S → Type 0
  gives old r new = GivesWithin search_by next_from budget_of turns_of old r new

  -- a call that gave a match goes on with the items behind it
  goes-on : (old new : S) (m : Match) → gives old (Some (Ok m)) new
      → coming_on (items_from (search_by old)) (next_from old) ≡ item_of m ∷ coming_on (items_from (search_by old)) (next_from new)
  goes-on old new m step = step.first.0 ∙ ap (λ (s : Search). item_of m ∷ coming_on (items_from s) (next_from new)) step.kept

  given-along : (found : List Match) (from now : S) → GivesMatches gives from found now
      → CountsTogether (search_by from) (next_from from) (map item_of found) (next_from now) (budget_of from) (budget_of now)
  given-along [] from now same =
      subst (λ x. CountsTogether (search_by from) (next_from from) [] (next_from x) (budget_of from) (budget_of x)) same
      (0, no_search, spends-more (Some (budget_of from)) (Some (budget_of from)) 0 (most_counted (search_by from).view 0) (omega arith) (spends-none (Some (budget_of from))))
  given-along (m ∷ found) from now (next, step, others) =
      counts-more (search_by from) (next_from from) (next_from next) (next_from now) m (map item_of found) (budget_of from) (budget_of next) (budget_of now)
      (goes-on from next m step) step.counted
      (subst (λ s. CountsTogether s (next_from next) (map item_of found) (next_from now) (budget_of next) (budget_of now)) step.kept (given-along found next now others))

  last-along : (found : List Match) (from now : S) (after : ℕ) → GivesMatches gives from found now → CountsWithLast (search_by now) (next_from now) [] (budget_of now) after
      → CountsWithLast (search_by from) (next_from from) (map item_of found) (budget_of from) after
  last-along [] from now after same last = subst (λ x. CountsWithLast (search_by x) (next_from x) [] (budget_of x) after) (sym same) last
  last-along (m ∷ found) from now after (next, step, others) last =
      last-more (search_by from) (next_from from) (next_from next) m (map item_of found) (budget_of from) (budget_of next) after
      (goes-on from next m step) step.counted
      (subst (λ s. CountsWithLast s (next_from next) (map item_of found) (budget_of next) after) step.kept (last-along found next now after others last))

  -- a call that gave nothing, or had too few steps
  ended-here : (at : ℕ) (now over : S) → next_from now ≡ Some at → gives now None over → CountsWithLast (search_by now) (next_from now) [] (budget_of now) (budget_of over)
  ended-here at now over is step =
      let counted = subst (λ p. CountsStep {T = Match} (λ e. e ≡ TooManySteps) (search_by now) p None (Some (budget_of now)) (Some (budget_of over))) is step.counted in
      subst (λ p. CountsWithLast (search_by now) p [] (budget_of now) (budget_of over)) (sym is) (last-only (search_by now) at (budget_of now) (budget_of over) counted)

  stopped-here : (now over : S) → gives now (Some (Err TooManySteps)) over → CountsWithLast (search_by now) (next_from now) [] (budget_of now) 0
  stopped-here now over step = by_position (next_from now) refl step.counted
    where
      by_position : (p : Option ℕ) → next_from now ≡ p → CountsStep {T = Match} (λ e. e ≡ TooManySteps) (search_by now) p (Some (Err TooManySteps)) (Some (budget_of now)) (Some (budget_of over))
          → CountsWithLast (search_by now) (next_from now) [] (budget_of now) 0
      by_position None is counted = absurd (let none = step.ended is in cc)
      by_position (Some at) is counted =
          subst (λ p. CountsWithLast (search_by now) p [] (budget_of now) 0) (sym is)
          (last-only (search_by now) at (budget_of now) 0
          (subst (CountsSearch (program_of (search_by now).compiled) (search_by now).view at (Some (budget_of now))) (counted refl).0 (counted refl).1))

  -- over an iteration
  pub counts-along : (from : S) → CountsAlong search_by next_from budget_of turns_of from
  counts-along from = record {
    given = λ found now yields. given-along found from now yields;
    ended = λ found at now over yields is step. last-along found from now (budget_of over) yields (ended-here at now over is step);
    stopped = λ found now over yields step. last-along found from now 0 yields (stopped-here now over step);
  }

  -- behind an error nothing comes
  ended-gives : (given : List (Result Match SearchError)) (from old new : S) (x : Result Match SearchError) → next_from from ≡ None → Yields gives from given old
      → gives old (Some x) new → ⊥
  ended-gives [] from old new x none same step = let over = step.ended (ap next_from (sym same) ∙ none) in absurd (cc)
  ended-gives (y ∷ given) from old new x none (next, first, others) step = let over = first.ended none in absurd (cc)

  -- what calls err with, they err with behind matches
  errs-of : (given : List (Result Match SearchError)) (from old new : S) (e : SearchError) → Yields gives from given old → gives old (Some (Err e)) new → Errs gives from e
  errs-of [] from old new e same step = ([], (old, new, same, step))
  errs-of (Ok m ∷ given) from old new e (next, first, others) step =
      let (found, (before, after, yields, errs)) = errs-of given next old new e others step in (m ∷ found, (before, after, (next, first, yields), errs))
  errs-of (Err x ∷ given) from old new e (next, first, others) step = absurd (ended-gives given next old new (Err e) first.ends others step)

  -- whether it turns to a table stays so
  turns-along : (found : List Match) (from now : S) → GivesMatches gives from found now → turns_of now ≡ turns_of from
  turns-along [] from now same = ap turns_of (sym same)
  turns-along (m ∷ found) from now (next, step, others) = turns-along found next now others ∙ step.turns

  module _ (compiled : CompiledRegex) (v : View) (start steps : ℕ) (from : S) (with : (search_by from).compiled ≡ compiled) (over : (search_by from).view ≡ v)
      (starts : StartsAt (search_by from) start (next_from from)) (turn : Bool) (turns : turns_of from ≡ turn) (budget : turns_of from ≡ false → budget_of from ≡ steps) where
    -- where calls err with too few steps, they don't turn to a table, and their searches take all
    pub errs-taken : Errs gives from TooManySteps → (turn ≡ false) × TakesAllAlong compiled v start steps
    errs-taken (found, (old, new, yields, step)) =
        let never = not-true (turns_of from) (λ yes. step.never (turns-along found from old yields ∙ yes) refl) in (
          sym turns ∙ never,
          record {
            search = search_by from;
            with = with;
            over = over;
            from = next_from from;
            starts = starts;
            found = map item_of found;
            takes = subst (TakeAllTogether (search_by from) (next_from from) (map item_of found)) (budget never) ((counts-along from).stopped found old new yields step);
          },
        )

    -- they do so only there
    pub stops-taken : ErrsOnlyIf gives TooManySteps ((turn ≡ false) × TakesAllAlong compiled v start steps) from
    stops-taken given old new yields step = errs-taken (errs-of given from old new TooManySteps yields step)

-- a result that errs with too few steps only as calls do
pub stops-as : {T : Type 0} (r : Result T SearchError) (Q : SearchError → Type 0) (P : Type 0) → IfErr r (λ e. (e ≡ OutOfMemory) ⊎ Q e) → (Q TooManySteps → P)
    → IsErrOf r TooManySteps → P
stops-as r Q P refused taken err = by (subst (λ x. IfErr x (λ e. (e ≡ OutOfMemory) ⊎ Q e)) err refused)
  where
    by : (TooManySteps ≡ OutOfMemory) ⊎ Q TooManySteps → P
    by (inl same) = absurd (cc)
    by (inr errs) = taken errs

-- an error that was turned into another type: of memory, or of too few steps where that is so
pub turned : {S E : Type 0} (gives : S → Option (Result Match SearchError) → S → Type 0) (from : S) (P : Type 0) (turns : SearchError → E → Type 0)
    → (Errs gives from TooManySteps → P) → (e : E) → (x : SearchError) × ((x ≡ OutOfMemory) ⊎ Errs gives from x) × turns x e
    → turns OutOfMemory e ⊎ (turns TooManySteps e × P)
turned gives from P turns taken e (x, inl memory, becomes) = inl (subst (λ y. turns y e) memory becomes)
turned gives from P turns taken e (OutOfMemory, inr errs, becomes) = inl becomes
turned gives from P turns taken e (TooManySteps, inr errs, becomes) = inr (becomes, taken errs)
