-- What is read behind a place stands at the next place: no other lies between.
use Rattle.std.specs.Prelude.{not, slice_get, option_map}
use Rattle.std.proofs.Common.{◌≡◌, ℕ, zero, suc, ◌+◌, ◌-◌, ◌<◌, ◌≤◌, inl, inr, Bool, true, false, length, Option, None, Some, refl, sym, ap, ◌∙◌, subst, arith}
use Rattle.std.proofs.lemmas.Bool.{cases_lt}
use Rattle.std.proofs.lemmas.Option.{slice_get-get_or, slice_get_within}
use Rattle.regress_meaning.specs.Meaning.{Direction, Forward, Backward}
use Rattle.regress_meaning.specs.Offsets.{Reading, offset}
use Rattle.regress_meaning.specs.Laws.{OffsetsRise}
use Rattle.regress_meaning.specs.Inputs.{Tells, point_told}
use Rattle.regress_engine_input.specs.Views.{View, AreOfKind, direction_of, input_of, reading_of}
use Rattle.regress_engine_input.proofs.KindLemmas.{tells}
use Rattle.regress_engine_runs.specs.Meets.{IsAtPlace}
use Rattle.regress_engine_runs.specs.Runs.{against, room}
use Rattle.regress_engine_search.proofs.PlaceLemmas.{end-is, units-are}
use Rattle.regress_engine_search.proofs.SkipLemmas.{place-lies}
use Rattle.regress_engine_search.specs.Places.{IsAwaited, IsBehind, IsNextPlace, offset_of}

same-second : (x y : ℕ × ℕ) → Some x ≡ Some y → x.1 ≡ y.1
same-second x y e = let same : x ≡ y = cc in ap (λ (z : ℕ × ℕ). z.1) same

module _ (reading : Reading) (rise : OffsetsRise reading) where
  -- a place that is no earlier than another has no lower offset
  rises : (p q : ℕ) → p ≤ q → q ≤ length reading.points → offset reading p ≤ offset reading q
  rises p q low inside = elim (cases_lt p q) [
    | inl less ↦ let more = rise p q less inside in omega (arith, more)
    | inr other ↦ let same : p ≡ q = omega arith in let e = ap (offset reading) same in omega (arith, e)
  ]

  -- of two places the one with the lower offset comes first
  before : (p q : ℕ) → p ≤ length reading.points → offset reading p < offset reading q → p < q
  before p q inside less = elim (cases_lt p q) [ inl one ↦ one | inr other ↦ let back = rises q p other inside in absurd (omega (arith, back, less)) ]

module _ (v : View) (all : AreOfKind v.kind v.units) where
  abbrev last : ℕ
  last = length v.units

  abbrev reading : Reading
  reading = reading_of v

  told : Tells reading (input_of v)
  told = tells v.kind v.table v.unicode v.units all

  -- it is so of what is read against the direction
  pub next-is : (dir : Direction) (o c q : ℕ) → IsAtPlace reading o → (input_of v).next (against dir) o ≡ Some (c, q) → IsNextPlace v dir o q
  next-is Forward o c q (zero, low, is) e = absurd (let x = sym e ∙ ap ((input_of v).next Backward) is ∙ told.next Backward zero low in cc x)
  next-is Forward o c q (suc p, low, is) e = by_point (slice_get reading.points p) refl
    where
      by_point : (x : Option ℕ) → slice_get reading.points p ≡ x → IsNextPlace v Forward o q
      by_point x here = by_value x (sym e ∙ ap ((input_of v).next Backward) is ∙ told.next Backward (suc p) low ∙ ap (λ y. option_map (point_told reading) (option_map (λ c. (c, p)) y)) here)
        where
          by_value : (x : Option ℕ) → Some (c, q) ≡ option_map (point_told reading) (option_map (λ (c : ℕ). (c, p)) x) → IsNextPlace v Forward o q
          by_value None f = absurd (cc f)
          by_value (Some d) f =
              let same : q ≡ offset reading p = same-second (c, q) (d, offset reading p) f in
              let one = told.rise p (suc p) (omega arith) low in
              let inside = place-lies v all o (suc p, low, is) in
              record {
                place = (p, omega (arith, low), same);
                order = omega (arith, same, is, one);
                none = λ m (k, low', at) more.
                    let first = before reading told.rise k (suc p) low' (omega (arith, at, is, more)) in
                    let back = rises reading told.rise k p (omega (arith, first)) (omega (arith, low)) in
                    (omega (arith, same, is, one, inside), omega (arith, same, at, back));
              }
  next-is Backward o c q (p, low, is) e = by_point (slice_get reading.points p) refl
    where
      by_point : (x : Option ℕ) → slice_get reading.points p ≡ x → IsNextPlace v Backward o q
      by_point x here = by_value x here (sym e ∙ ap ((input_of v).next Forward) is ∙ told.next Forward p low ∙ ap (λ y. option_map (point_told reading) (option_map (λ c. (c, suc p)) y)) here)
        where
          by_value : (x : Option ℕ) → slice_get reading.points p ≡ x → Some (c, q) ≡ option_map (point_told reading) (option_map (λ (c : ℕ). (c, suc p)) x) → IsNextPlace v Backward o q
          by_value None here f = absurd (cc f)
          by_value (Some d) here f =
              let same : q ≡ offset reading (suc p) = same-second (c, q) (d, offset reading (suc p)) f in
              let within = slice_get_within reading.points p d here in
              let one = told.rise p (suc p) (omega arith) within in
              record {
                place = (suc p, within, same);
                order = omega (arith, same, is, one);
                none = λ m (k, low', at) more.
                    let after = before reading told.rise p k low (omega (arith, at, is, more)) in
                    let on = rises reading told.rise (suc p) k after low' in
                    (omega (arith, same, is, one), omega (arith, same, at, on));
              }

  -- where nothing is read, no place is left
  pub none-next : (dir : Direction) (o : ℕ) → IsAtPlace reading o → (input_of v).next (against dir) o ≡ None → IsNextPlace v dir o o
  none-next Forward o (zero, low, is) e = record {
    place = (zero, low, is);
    order = omega arith;
    none = λ m (k, low', at) more. absurd (let back = rises reading told.rise zero k (omega arith) low' in omega (arith, back, at, is, more));
  }
  none-next Forward o (suc p, low, is) e = by_point (slice_get reading.points p) refl
    where
      by_point : (x : Option ℕ) → slice_get reading.points p ≡ x → IsNextPlace v Forward o o
      by_point None here = absurd (let x = sym here ∙ slice_get-get_or reading.points p 0 (omega (arith, low)) in cc x)
      by_point (Some d) here =
          absurd (let x = sym e ∙ ap ((input_of v).next Backward) is ∙ told.next Backward (suc p) low ∙ ap (λ y. option_map (point_told reading) (option_map (λ c. (c, p)) y)) here in cc x)
  none-next Backward o (p, low, is) e = by_point (slice_get reading.points p) refl
    where
      by_point : (x : Option ℕ) → slice_get reading.points p ≡ x → IsNextPlace v Backward o o
      by_point (Some d) here =
          absurd (let x = sym e ∙ ap ((input_of v).next Forward) is ∙ told.next Forward p low ∙ ap (λ y. option_map (point_told reading) (option_map (λ c. (c, suc p)) y)) here in cc x)
      by_point None here = record {
        place = (p, low, is);
        order = omega arith;
        none = λ m (k, low', at) more. absurd (
            let after = before reading told.rise p k low (omega (arith, at, is, more)) in
            let x = sym here ∙ slice_get-get_or reading.points p 0 (omega (arith, after, low')) in
            cc x
            );
      }

  -- ---- the place that is awaited, offset by offset

  room-same : (dir : Direction) (o q : ℕ) → o ≤ last → q ≤ last → room last dir o ≡ room last dir q → o ≡ q
  room-same Forward o q low low' e = omega (arith, low, low', e)
  room-same Backward o q low low' e = e

  -- a place has as much room as there is
  whole-room : (dir : Direction) → (p : ℕ) × IsAtPlace reading p × (room last dir p ≡ last)
  whole-room Forward = (0, (zero, omega arith, refl), omega arith)
  whole-room Backward = (last, (length reading.points, omega arith, sym (end-is v all ∙ ap length (units-are v))), refl)

  -- at first the place is awaited that has none
  pub first-awaited : (forward : Bool) (n place : ℕ) → n ≡ last → (forward ≡ true → place ≡ n) → (forward ≡ false → place ≡ 0)
      → IsAwaited v (direction_of forward) (offset_of forward n 0) place
  first-awaited true n place end onward back =
      let is = onward refl in
      let same : last ≡ place = omega (arith, end, is) in
      record {
        place = subst (IsAtPlace reading) same (length reading.points, omega arith, sym (end-is v all ∙ ap length (units-are v)));
        ahead = omega (arith, is);
        none = λ p there more. omega (arith, is, end);
      }
  first-awaited false n place end onward back =
      let is = back refl in
      record {
        place = subst (IsAtPlace reading) (sym is) (zero, omega arith, refl);
        ahead = omega (arith, is);
        none = λ p there more. omega (arith, is);
      }

  module _ (dir : Direction) (o place : ℕ) (low : o ≤ last) (awaited : IsAwaited v dir o place) where
    -- an offset at which no place is awaited is none
    pub no-place : (o ≡ place → ⊥) → IsAtPlace reading o → ⊥
    no-place other there =
        let less = awaited.none o there (omega arith) in
        let more = awaited.ahead in
        other (room-same dir o place low (place-lies v all place awaited.place) (omega (arith, less, more)))

    -- else it is awaited still at the next offset
    pub still-awaited : (o ≡ place → ⊥) → (q : ℕ) → room last dir q ≡ suc (room last dir o) → IsAwaited v dir q place
    still-awaited other q next = record {
      place = awaited.place;
      ahead =
          let more = awaited.ahead in
          elim (cases_lt (room last dir o) (room last dir place)) [
            | inl less ↦ omega (arith, less, next)
            | inr full ↦ absurd (other (room-same dir o place low (place-lies v all place awaited.place) (omega (arith, more, full))))
          ];
      none = λ p there more. awaited.none p there (omega (arith, more, next));
    }

    -- and where it is reached the next one is awaited
    pub next-awaited : o ≡ place → (new : ℕ) → IsNextPlace v dir place new → (q : ℕ) → q ≤ last → room last dir q ≡ suc (room last dir o) → IsAwaited v dir q new
    next-awaited same new following q low' next =
        let (p, there, whole) = whole-room dir in
        let e = ap (room last dir) same in
        let most = room-within dir q low' in
        let more = (following.none p there (omega (arith, e, next, whole, most))).0 in
        record {
          place = following.place;
          ahead = omega (arith, more, e, next);
          none = λ m is further. (following.none m is (omega (arith, further, e, next))).1;
        }
      where
        room-within : (d : Direction) (n : ℕ) → n ≤ last → room last d n ≤ last
        room-within Forward n inside = omega arith
        room-within Backward n inside = omega (arith, inside)

-- ---- the offsets that are worked out one behind another

-- the other direction
pub turned : (forward : Bool) → against (direction_of forward) ≡ direction_of (not forward)
turned true = refl
turned false = refl

-- the offset of a step
pub offset-is : (forward : Bool) (end step o : ℕ) → (forward ≡ true → o ≡ end - step) → (forward ≡ false → o ≡ step) → o ≡ offset_of forward end step
offset-is true end step o onward back = onward refl
offset-is false end step o onward back = back refl

-- the offset that is worked out next is right behind
pub step-behind : (v : View) (forward : Bool) (n step : ℕ) → n ≡ length v.units → step < n → IsBehind v forward (offset_of forward n step) (offset_of forward n (step + 1))
step-behind v true n step end less = omega (arith, end, less)
step-behind v false n step end less = omega arith

pub step-within : (bound n : ℕ) (forward : Bool) (step : ℕ) → n ≡ bound → step ≤ n → offset_of forward n step ≤ bound
step-within bound n true step end less = omega (arith, end)
step-within bound n false step end less = omega (arith, end, less)
