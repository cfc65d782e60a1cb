-- Entering a literal: its bytes in chunks, or its characters.
use Rattle.std.specs.Prelude.{nat_le, nat_eq, slice_range, chars}
use Rattle.std.specs.List.{list_all}
use Rattle.std.proofs.Common.{◌≡◌, ◌⊎◌, inl, inr, ℕ, zero, suc, ◌+◌, ◌-◌, ◌<◌, ◌≤◌, ◌&&◌, Bool, true, false, List, [], ◌∷◌, ◌++◌, length, map, reverse, take, drop, min, Option, Some, None, if◌then◌else◌, option_map, option_and_then, refl, sym, ap, ap₂, ◌∙◌, subst, arith, length-append, length-drop, length-take}
use Rattle.std.proofs.lemmas.Bool.{leb-true, cases_lt, le-leb, lt-leb}
use Rattle.std.proofs.lemmas.List.{length-map, drop-drop, reverse-append, take-append-drop}
use Rattle.regress_meaning.specs.Text.{same_text}
use Rattle.regress_meaning.specs.Meaning.{State, Direction, Forward, Backward, Context, beside, step, stepped}
use Rattle.regress_meaning.specs.Offsets.{Reading, offset}
use Rattle.regress_meaning.specs.Laws.{IsAhead}
use Rattle.regress_meaning.specs.Inputs.{Tells, neighbour, point_told, context_of, Input}
use Rattle.regress_meaning.specs.Steps.{literal, passed}
use Rattle.regress_front_nodes.specs.Trees as tree
use Rattle.regress_front_nodes.specs.TreeMeaning.{node_outcomes, direction}
use Rattle.regress_front_nodes.specs.WellFormed.{AreCharacters}
use Rattle.regress_front_nodes.specs.Forms.{in_reading_order}
use Rattle.regress_front_nodes.specs.ByteInputs.{TellsBytes, placed}
use Rattle.regress_front_nodes.proofs.SequenceLemmas.{in_reading_order-map}
use Rattle.regress_engine_insn.specs.Instructions.{Program, Instruction, Stands, StandFrom}
use Rattle.regress_engine_insn.specs.Instructions as code
use Rattle.regress_engine_insn.specs.Layout.{ProgramPoint, Target, AreAll, chunks, most_bytes, literal_code}
use Rattle.regress_engine_runs.specs.States.{Whole}
use Rattle.regress_engine_runs.specs.Runs.{moved_to, successors}
use Rattle.regress_engine_runs.specs.Meets.{reads_character, IsAtPlace}
use Rattle.regress_engine_runs.specs.Stand.{StandsFor}
use Rattle.regress_engine_runs.proofs.Leading.{Pairwise, leads_at_once, first_expand}
use Rattle.regress_engine_runs.proofs.Places.{occurs, Arrives, Keeps-all}
use Rattle.regress_engine_runs.proofs.Entering.{Enters}
use Rattle.regress_engine_runs.proofs.RunLemmas.{Expands, Expands-same, Expands-then, steps, is_unreferring, unreferring-plain, unreferring-reads}
use Rattle.regress_engine_runs.proofs.Neighbours.{Beside, neighbours}

-- parts joined again
abbrev joined : List (List ℕ) → List ℕ
joined [] = []
joined (x ∷ xs) = x ++ joined xs

-- one step after another
abbrev all_steps : {X : Type 0} → (X → ℕ → Option ℕ) → List X → ℕ → Option ℕ
all_steps go [] o = Some o
all_steps go (x ∷ xs) o = option_and_then (all_steps go xs) (go x o)

all_steps-map : {X Y : Type 0} (f : X → Y) (go : Y → ℕ → Option ℕ) (xs : List X) (o : ℕ) → all_steps go (map f xs) o ≡ all_steps (λ x. go (f x)) xs o
all_steps-map f go [] o = refl
all_steps-map f go (x ∷ xs) o = (λ i. option_and_then (λ k. all_steps-map f go xs k i) (go (f x) o))

-- the state so many instructions further, at an offset if there is one
abbrev further : Whole → ℕ → Option ℕ → List Whole
further w address None = []
further w address (Some o) = record w { at = address; offset = o } ∷ []

module _ (program : Program) (input : Input) (reading : Reading) where
  -- instructions one after another, each of which takes a step, lead where all of them do
  steps-run : {X : Type 0} (f : X → Instruction) (go : X → ℕ → Option ℕ) (dir : Direction) (inv : ℕ → Type 0)
      → ((x : X) (o : ℕ) → inv o → reads_character (f x) ≡ true → IsAtPlace reading o) → ((x : X) (o q : ℕ) → inv o → go x o ≡ Some q → inv q)
      → ((x : X) → is_unreferring (f x) ≡ true)
      → ((x : X) (w : Whole) → successors program input (f x) dir w ≡ moved_to w (go x w.offset))
      → (xs : List X) (address : ℕ) (w : Whole) → w.at ≡ address → inv w.offset → StandFrom program address (map f xs)
      → Expands program input reading dir (w ∷ []) (further w (address + length xs) (all_steps go xs w.offset))
  steps-run f go dir inv reads keeps plain does [] address w at known here =
      let e : w.at ≡ address + 0 = omega (arith, at) in
      subst (λ a. Expands program input reading dir (w ∷ []) (record w { at = a } ∷ [])) e (Expands-same program input reading dir (w ∷ []))
  steps-run f go dir inv reads keeps plain does (x ∷ xs) address w at known (here, rest) =
      by_found (go x w.offset) refl
      (subst (Expands program input reading dir (w ∷ [])) (does x w) (steps program input reading (f x) w (subst (λ a. Stands program a (f x)) (sym at) here) (unreferring-plain (f x) (plain x)) (λ e. unreferring-reads reading (f x) w (plain x) (reads x w.offset known e))))
      (λ o on. steps-run f go dir inv reads keeps plain does xs (suc address) (record w { at = suc w.at; offset = o }) (ap suc at) on rest)
    where
      by_found : (o : Option ℕ) → go x w.offset ≡ o → Expands program input reading dir (w ∷ []) (moved_to w o)
          → ((o : ℕ) → inv o → Expands program input reading dir (record w { at = suc w.at; offset = o } ∷ []) (further w (suc address + length xs) (all_steps go xs o)))
          → Expands program input reading dir (w ∷ []) (further w (address + suc (length xs)) (option_and_then (all_steps go xs) o))
      by_found None e step on = step
      by_found (Some o) found step on =
          let e : suc address + length xs ≡ address + suc (length xs) = omega arith in
          subst (λ a. Expands program input reading dir (w ∷ []) (further w a (all_steps go xs o))) e
          (Expands-then program input reading (w ∷ []) (record w { at = suc w.at; offset = o } ∷ []) (further w (suc address + length xs) (all_steps go xs o)) step (on o (keeps x w.offset o known found)))

-- ---- a literal in parts

-- a front and what follows are compared as the whole
same-append : (xs ys us : List ℕ) (n : ℕ) → n ≡ length xs + length ys
    → same_text (xs ++ ys) (take n us) ≡ (same_text xs (take (length xs) us) && same_text ys (take (length ys) (drop (length xs) us)))
same-append [] ys us n e = let f : n ≡ length ys = omega (arith, e) in ap (λ k. same_text ys (take k us)) f
same-append (x ∷ xs) ys [] zero e = absurd (omega (arith, e))
same-append (x ∷ xs) ys [] (suc n) e = refl
same-append (x ∷ xs) ys (u ∷ us) zero e = absurd (omega (arith, e))
same-append (x ∷ xs) ys (u ∷ us) (suc n) e =
    ap (λ b. nat_eq x u && b) (same-append xs ys us n (omega (arith, e))) ∙ turned (nat_eq x u) (same_text xs (take (length xs) us)) (same_text ys (take (length ys) (drop (length xs) us)))
  where
    turned : (a b c : Bool) → (a && (b && c)) ≡ ((a && b) && c)
    turned true b c = refl
    turned false b c = refl

-- one test and then another
both-some : (b c : Bool) (x y : ℕ) (f : ℕ → Option ℕ) → f x ≡ (if c then Some y else None) → (if b && c then Some y else None) ≡ option_and_then f (if b then Some x else None)
both-some true c x y f e = sym e
both-some false c x y f e = refl

and-turned : (b c : Bool) → (b && c) ≡ (c && b)
and-turned true true = refl
and-turned true false = refl
and-turned false true = refl
and-turned false false = refl

module _ (input : Input) where
  -- forward the front comes first
  append-forward : (xs ys : List ℕ) (o : ℕ) → literal input Forward (xs ++ ys) o ≡ option_and_then (literal input Forward ys) (literal input Forward xs o)
  append-forward xs ys o =
      let us : List ℕ = drop o input.units in
      let size : length (xs ++ ys) ≡ length xs + length ys = length-append xs ys in
      let b : Bool = same_text xs (take (length xs) us) in
      let c : Bool = same_text ys (take (length ys) (drop (length xs) us)) in
      let whole : same_text (xs ++ ys) (take (o + length (xs ++ ys) - o) us) ≡ (b && c) = same-append xs ys us (o + length (xs ++ ys) - o) (omega (arith, size)) in
      let end : o + length (xs ++ ys) ≡ o + length xs + length ys = omega (arith, size) in
      let n : o + length xs - o ≡ length xs = omega arith in
      let m : o + length xs + length ys - (o + length xs) ≡ length ys = omega arith in
      let rest : literal input Forward ys (o + length xs) ≡ (if c then Some (o + length xs + length ys) else None) =
      ap₂ (λ k vs. if same_text ys (take k vs) then Some (o + length xs + length ys) else None) m (sym (drop-drop (length xs) o input.units)) in
      ap₂ (λ t e. if t then Some e else None) whole end
      ∙ both-some b c (o + length xs) (o + length xs + length ys) (literal input Forward ys) rest
      ∙ ap (λ k. option_and_then (literal input Forward ys) (if same_text xs (take k us) then Some (o + length xs) else None)) (sym n)

  -- backward the end does
  append-backward : (xs ys : List ℕ) (o : ℕ) → literal input Backward (xs ++ ys) o ≡ option_and_then (literal input Backward xs) (literal input Backward ys o)
  append-backward xs ys o = by_room (cases_lt o (length (xs ++ ys)))
    where
      size : length (xs ++ ys) ≡ length xs + length ys
      size = length-append xs ys

      by_room : (o < length (xs ++ ys)) ⊎ (length (xs ++ ys) ≤ o) → literal input Backward (xs ++ ys) o ≡ option_and_then (literal input Backward xs) (literal input Backward ys o)
      by_room (inl short) =
          ap (λ t. if t && same_text (xs ++ ys) (slice_range input.units (o - length (xs ++ ys)) o) then Some (o - length (xs ++ ys)) else None) (lt-leb (length (xs ++ ys)) o short)
          ∙ sym (by_end (cases_lt o (length ys)))
        where
          by_test : (t : Bool) → literal input Backward xs (o - length ys) ≡ None
              → option_and_then (literal input Backward xs) (if t then Some (o - length ys) else None) ≡ None
          by_test true e = e
          by_test false e = refl

          by_end : (o < length ys) ⊎ (length ys ≤ o) → option_and_then (literal input Backward xs) (literal input Backward ys o) ≡ None
          by_end (inl less) =
              ap (λ t. option_and_then (literal input Backward xs) (if t && same_text ys (slice_range input.units (o - length ys) o) then Some (o - length ys) else None)) (lt-leb (length ys) o less)
          by_end (inr more) =
              let none : literal input Backward xs (o - length ys) ≡ None =
              ap (λ t. if t && same_text xs (slice_range input.units (o - length ys - length xs) (o - length ys)) then Some (o - length ys - length xs) else None)
              (lt-leb (length xs) (o - length ys) (omega (arith, short, size, more))) in
              by_test (nat_le (length ys) o && same_text ys (slice_range input.units (o - length ys) o)) none
      by_room (inr long) =
          let z : ℕ = o - length (xs ++ ys) in
          let us : List ℕ = drop z input.units in
          let b : Bool = same_text xs (take (length xs) us) in
          let c : Bool = same_text ys (take (length ys) (drop (length xs) us)) in
          let whole : same_text (xs ++ ys) (take (o - z) us) ≡ (b && c) = same-append xs ys us (o - z) (omega (arith, size, long)) in
          let front : o - length ys - length xs ≡ z = omega (arith, size, long) in
          let n : o - length ys - (o - length ys - length xs) ≡ length xs = omega (arith, size, long) in
          let m : o - (o - length ys) ≡ length ys = omega (arith, size, long) in
          let seam : z + length xs ≡ o - length ys = omega (arith, size, long) in
          let behind : drop (length xs) us ≡ drop (o - length ys) input.units = drop-drop (length xs) z input.units ∙ ap (λ k. drop k input.units) seam in
          let rest : literal input Backward xs (o - length ys) ≡ (if b then Some z else None) =
          ap (λ t. if t && same_text xs (slice_range input.units (o - length ys - length xs) (o - length ys)) then Some (o - length ys - length xs) else None)
          (le-leb (length xs) (o - length ys) (omega (arith, size, long)))
          ∙ ap₂ (λ k d. if same_text xs (take k (drop d input.units)) then Some d else None) n front in
          let last : literal input Backward ys o ≡ (if c then Some (o - length ys) else None) =
          ap (λ t. if t && same_text ys (slice_range input.units (o - length ys) o) then Some (o - length ys) else None) (le-leb (length ys) o (omega (arith, size, long)))
          ∙ ap₂ (λ k vs. if same_text ys (take k vs) then Some (o - length ys) else None) m (sym behind) in
          ap (λ t. if t && same_text (xs ++ ys) (slice_range input.units z o) then Some z else None) (le-leb (length (xs ++ ys)) o long)
          ∙ ap (λ t. if t then Some z else None) (whole ∙ and-turned b c)
          ∙ both-some c b (o - length ys) z (literal input Backward xs) rest
          ∙ ap (option_and_then (literal input Backward xs)) (sym last)

  nothing-stands : (dir : Direction) (o : ℕ) → literal input dir [] o ≡ Some o
  nothing-stands Forward o = let e : o + 0 ≡ o = omega arith in let f : o + 0 - o ≡ 0 = omega arith in ap₂ (λ k d. if same_text [] (take k (drop o input.units)) then Some d else None) f e
  nothing-stands Backward o =
      let e : o - 0 ≡ o = omega arith in let f : o - (o - 0) ≡ 0 = omega arith in
      ap (λ t. if t && same_text [] (slice_range input.units (o - 0) o) then Some (o - 0) else None) (le-leb 0 o (omega arith))
      ∙ ap₂ (λ k d. if same_text [] (take k (drop (o - 0) input.units)) then Some d else None) f e

  -- literals one after another are their parts joined
  joined-forward : (ls : List (List ℕ)) (o : ℕ) → all_steps (literal input Forward) ls o ≡ literal input Forward (joined ls) o
  joined-forward [] o = sym (nothing-stands Forward o)
  joined-forward (l ∷ ls) o =
      (λ i. option_and_then (λ k. joined-forward ls k i) (literal input Forward l o)) ∙ sym (append-forward l (joined ls) o)

  all-append : (dir : Direction) (xs ys : List (List ℕ)) (o : ℕ) → all_steps (literal input dir) (xs ++ ys) o ≡ option_and_then (all_steps (literal input dir) ys) (all_steps (literal input dir) xs o)
  all-append dir [] ys o = refl
  all-append dir (x ∷ xs) ys o = (λ i. option_and_then (λ k. all-append dir xs ys k i) (literal input dir x o)) ∙ sym (chained (literal input dir x o))
    where
      chained : (r : Option ℕ) → option_and_then (all_steps (literal input dir) ys) (option_and_then (all_steps (literal input dir) xs) r)
          ≡ option_and_then (λ k. option_and_then (all_steps (literal input dir) ys) (all_steps (literal input dir) xs k)) r
      chained None = refl
      chained (Some k) = refl

  alone : (dir : Direction) (l : List ℕ) (o : ℕ) → all_steps (literal input dir) (l ∷ []) o ≡ literal input dir l o
  alone dir l o = same (literal input dir l o)
    where
      same : (r : Option ℕ) → option_and_then (all_steps (literal input dir) []) r ≡ r
      same None = refl
      same (Some k) = refl

  joined-backward : (ls : List (List ℕ)) (o : ℕ) → all_steps (literal input Backward) (reverse ls) o ≡ literal input Backward (joined ls) o
  joined-backward [] o = sym (nothing-stands Backward o)
  joined-backward (l ∷ ls) o =
      ap (λ xs. all_steps (literal input Backward) xs o) (reverse-append (l ∷ []) ls)
      ∙ all-append Backward (reverse ls) (l ∷ []) o
      ∙ ap (option_and_then (all_steps (literal input Backward) (l ∷ []))) (joined-backward ls o)
      ∙ (λ i. option_and_then (λ k. alone Backward l k i) (literal input Backward (joined ls) o))
      ∙ sym (append-backward l (joined ls) o)

-- the chunks joined are the whole
chunks-joined : (n : ℕ) (bs : List ℕ) → length bs ≤ n → joined (chunks n bs) ≡ bs
chunks-joined zero [] few = refl
chunks-joined zero (b ∷ bs) few = absurd (omega (arith, few))
chunks-joined (suc n) [] few = refl
chunks-joined (suc n) (b ∷ bs) few =
    let size = length-drop most_bytes (b ∷ bs) in
    ap (λ xs. take most_bytes (b ∷ bs) ++ xs) (chunks-joined n (drop most_bytes (b ∷ bs)) (omega (arith, size, few))) ∙ take-append-drop most_bytes (b ∷ bs)

-- a place behind is in the text, and ahead
abbrev pub Fits : Context → Direction → ℕ → Option (List ℕ × ℕ) → Type 0
Fits context dir p None = Unit {0}
Fits context dir p (Some (ds, q)) = (q ≤ length context.text) × IsAhead dir p q

pub beside-fits : (context : Context) (dir : Direction) (k p : ℕ) → p ≤ length context.text → Fits context dir p (beside context dir k p)
unfolding beside
beside-fits context Forward k p room = by_test (nat_le (p + k) (length context.text)) refl
  where
    by_test : (b : Bool) → nat_le (p + k) (length context.text) ≡ b → Fits context Forward p (if b then Some (slice_range context.text p (p + k), p + k) else None)
    by_test true e = (leb-true _ _ e, omega arith)
    by_test false e = tt
beside-fits context Backward k p room = by_test (nat_le k p) refl
  where
    by_test : (b : Bool) → nat_le k p ≡ b → Fits context Backward p (if b then Some (slice_range context.text (p - k) p, p - k) else None)
    by_test true e = (omega arith, omega arith)
    by_test false e = tt

-- fewer characters are not the same
unlike : (cs ds : List ℕ) → length ds < length cs → same_text cs ds ≡ false
unlike [] ds h = absurd (omega (arith, h))
unlike (c ∷ cs) [] h = refl
unlike (c ∷ cs) (d ∷ ds) h = ap (λ b. nat_eq c d && b) (unlike cs ds (omega (arith, h))) ∙ and-turned (nat_eq c d) false

joined-singles : (cs : List ℕ) → joined (map (λ c. c ∷ []) cs) ≡ cs
joined-singles [] = refl
joined-singles (c ∷ cs) = ap (λ ds. c ∷ ds) (joined-singles cs)

-- the chunks in the order of reading
in_order-stands : (input : Input) (b : Bool) (ls : List (List ℕ)) (o : ℕ)
    → all_steps (literal input (direction b)) (in_reading_order b ls) o ≡ literal input (direction b) (joined ls) o
in_order-stands input true ls o = joined-backward input ls o
in_order-stands input false ls o = joined-forward input ls o

-- the outcomes of a literal of one character are those of the character
pub alone-step : (context : Context) (dir : Direction) (c : ℕ) (s : State) → s.place ≤ length context.text
    → step context dir 1 (same_text (c ∷ [])) s ≡ step context dir 1 (list_all (nat_eq c)) s
unfolding step
alone-step context dir c s inside = by_place (neighbours context dir s.place inside)
  where
    by_place : Beside context dir s.place → stepped (same_text (c ∷ [])) s (beside context dir 1 s.place) ≡ stepped (list_all (nat_eq c)) s (beside context dir 1 s.place)
    by_place (inl (none, none')) = ap (stepped (same_text (c ∷ [])) s) none' ∙ ap (stepped (list_all (nat_eq c)) s) (sym none')
    by_place (inr (d, q, one, one', room, ahead, apart)) = ap (stepped (same_text (c ∷ [])) s) one' ∙ ap (stepped (list_all (nat_eq c)) s) (sym one')

module _ (input : Input) (reading : Reading) (tells : Tells reading input) where
  abbrev told_context : Context
  told_context = context_of reading input

  -- the code points of the reading as if they were units
  abbrev by_place : Input
  by_place = record input { units = reading.points }

  -- what stands beside a place is a literal of code points
  pub placed-is : (dir : Direction) (cs : List ℕ) (p : ℕ) → p ≤ length reading.points → placed cs (beside told_context dir (length cs) p) ≡ literal by_place dir cs p
  unfolding beside
  placed-is Forward cs p inside = by_room (cases_lt (length reading.points) (p + length cs))
    where
      us : List ℕ
      us = slice_range reading.points p (p + length cs)

      by_room : (length reading.points < p + length cs) ⊎ (p + length cs ≤ length reading.points)
          → placed cs (beside told_context Forward (length cs) p) ≡ literal by_place Forward cs p
      by_room (inl out) =
          let size : length us ≡ min (p + length cs - p) (length (drop p reading.points)) = length-take (p + length cs - p) (drop p reading.points) in
          let rest : length (drop p reading.points) ≡ length reading.points - p = length-drop p reading.points in
          ap (λ b. placed cs (if b then Some (us, p + length cs) else None)) (lt-leb (p + length cs) (length reading.points) out)
          ∙ ap (λ b. if b then Some (p + length cs) else None) (sym (unlike cs us (omega (arith, out, size, rest, inside))))
      by_room (inr room) = ap (λ b. placed cs (if b then Some (us, p + length cs) else None)) (le-leb (p + length cs) (length reading.points) room)
  placed-is Backward cs p inside = by_room (nat_le (length cs) p)
    where
      by_room : (b : Bool) → placed cs (if b then Some (slice_range reading.points (p - length cs) p, p - length cs) else None)
          ≡ (if b && same_text cs (slice_range reading.points (p - length cs) p) then Some (p - length cs) else None)
      by_room true = refl
      by_room false = refl

  -- one code point is what the input tells beside the place
  pub one-placed : (dir : Direction) (c p : ℕ) → p ≤ length reading.points
      → passed (nat_eq c) (input.next dir (offset reading p)) ≡ option_map (offset reading) (placed (c ∷ []) (beside told_context dir 1 p))
  one-placed dir c p inside = ap (passed (nat_eq c)) (tells.next dir p inside) ∙ by_place' (neighbours told_context dir p inside)
    where
      by_place' : Beside told_context dir p → passed (nat_eq c) (option_map (point_told reading) (neighbour reading.points dir p))
          ≡ option_map (offset reading) (placed (c ∷ []) (beside told_context dir 1 p))
      by_place' (inl (none, none')) =
          ap (λ o. passed (nat_eq c) (option_map (point_told reading) o)) none ∙ ap (λ o. option_map (offset reading) (placed (c ∷ []) o)) (sym none')
      by_place' (inr (d, q, one, one', room, ahead, apart)) =
          ap (λ o. passed (nat_eq c) (option_map (point_told reading) o)) one ∙ by_test (nat_eq c d) ∙ ap (λ o. option_map (offset reading) (placed (c ∷ []) o)) (sym one')
        where
          by_test : (b : Bool) → (if b then Some (offset reading q) else None) ≡ option_map (offset reading) (if b && true then Some q else None)
          by_test true = refl
          by_test false = refl

  -- behind a code point beside a place is a place
  pub place-on : (dir : Direction) (test : ℕ → Bool) (o r : ℕ) → IsAtPlace reading o → passed test (input.next dir o) ≡ Some r → IsAtPlace reading r
  place-on dir test o r (p, room, same) found =
      by_beside (neighbours told_context dir p room) (sym (ap (λ x. passed test (input.next dir x)) same ∙ ap (passed test) (tells.next dir p room)) ∙ found)
    where
      by_beside : Beside told_context dir p → passed test (option_map (point_told reading) (neighbour reading.points dir p)) ≡ Some r → IsAtPlace reading r
      by_beside (inl (none, none')) e =
          let f = ap (λ x. passed test (option_map (point_told reading) x)) none in absurd (grind arith)
      by_beside (inr (c, q, one, one', inside, ahead, apart)) e =
          by_test (test c) (sym (ap (λ x. passed test (option_map (point_told reading) x)) one) ∙ e)
        where
          by_test : (b : Bool) → (if b then Some (offset reading q) else None) ≡ Some r → IsAtPlace reading r
          by_test true e = (q, inside, let f : offset reading q ≡ r = cc in sym f)
          by_test false e = absurd (grind arith)

  -- a step of the input over one code point
  abbrev point_step : Direction → ℕ → ℕ → Option ℕ
  point_step dir c o = passed (nat_eq c) (input.next dir o)

  -- code point by code point an input tells what stands beside the place
  points-told : (dir : Direction) (cs : List ℕ) (p : ℕ) → p ≤ length reading.points
      → all_steps (point_step dir) cs (offset reading p) ≡ option_map (offset reading) (all_steps (λ c. literal by_place dir (c ∷ [])) cs p)
  points-told dir [] p inside = refl
  points-told dir (c ∷ cs) p inside =
      ap (option_and_then (all_steps (point_step dir) cs)) (one-placed dir c p inside)
      ∙ on (beside told_context dir 1 p) (beside-fits told_context dir 1 p inside) (points-told dir cs)
      ∙ ap (λ o. option_map (offset reading) (option_and_then (all_steps (λ c. literal by_place dir (c ∷ [])) cs) o)) (placed-is dir (c ∷ []) p inside)
    where
      on : (o : Option (List ℕ × ℕ)) → Fits told_context dir p o
          → ((q : ℕ) → q ≤ length reading.points → all_steps (point_step dir) cs (offset reading q) ≡ option_map (offset reading) (all_steps (λ c. literal by_place dir (c ∷ [])) cs q))
          → option_and_then (all_steps (point_step dir) cs) (option_map (offset reading) (placed (c ∷ []) o))
          ≡ option_map (offset reading) (option_and_then (all_steps (λ c. literal by_place dir (c ∷ [])) cs) (placed (c ∷ []) o))
      on None fits rest = refl
      on (Some (ds, q)) fits rest = by_test (same_text (c ∷ []) ds)
        where
          by_test : (b : Bool) → option_and_then (all_steps (point_step dir) cs) (option_map (offset reading) (if b then Some q else None))
              ≡ option_map (offset reading) (option_and_then (all_steps (λ c. literal by_place dir (c ∷ [])) cs) (if b then Some q else None))
          by_test true = rest q fits.0
          by_test false = refl

  -- the characters of a literal in the order of reading
  points-stand : (b : Bool) (cs : List ℕ) (p : ℕ) → p ≤ length reading.points
      → all_steps (point_step (direction b)) (in_reading_order b cs) (offset reading p)
      ≡ option_map (offset reading) (placed cs (beside told_context (direction b) (length cs) p))
  points-stand b cs p inside =
      let dir : Direction = direction b in
      let one : ℕ → List ℕ = λ c. c ∷ [] in
      let whole : all_steps (λ c. literal by_place dir (one c)) (in_reading_order b cs) p ≡ literal by_place dir cs p =
      sym (all_steps-map one (literal by_place dir) (in_reading_order b cs) p)
      ∙ ap (λ ls. all_steps (literal by_place dir) ls p) (in_reading_order-map one b cs)
      ∙ in_order-stands by_place b (map one cs) p
      ∙ ap (λ ds. literal by_place dir ds p) (joined-singles cs) in
      points-told dir (in_reading_order b cs) p inside
      ∙ ap (option_map (offset reading)) (whole ∙ sym (placed-is dir cs p inside))

module _ (target : Target) (input : Input) (reading : Reading) where
  abbrev context : Context
  context = context_of reading input

  placed-leads : (dir : Direction) (address : ℕ) (gone : ℕ → ℕ) (low high : ℕ) (cs : List ℕ) (s : State) (w : Whole) (o : Option (List ℕ × ℕ)) → StandsFor reading s w
      → Fits context dir s.place o
      → Pairwise (Arrives reading dir address gone low high s.place w) (stepped (same_text cs) s o) (further w address (option_map (offset reading) (placed cs o)))
  placed-leads dir address gone low high cs s w None stands fits = tt
  placed-leads dir address gone low high cs s w (Some (ds, q)) stands fits = by_test (same_text cs ds)
    where
      by_test : (b : Bool) → Pairwise (Arrives reading dir address gone low high s.place w) (if b then record s { place = q } ∷ [] else [])
          (further w address (option_map (offset reading) (if b then Some q else None)))
      by_test true = (
        record {
          at = refl;
          stands = record { place = refl; count = stands.count; groups = stands.groups; inside = record { place = fits.0; groups = stands.inside.groups } };
          keeps = Keeps-all gone low high w w refl refl;
          ahead = fits.1;
        },
        tt,
      )
      by_test false = tt

  -- steps that lead beyond a literal's characters
  stepping : {X : Type 0} (b : Bool) (bs : List ℕ) (p q : ProgramPoint) (f : X → Instruction) (go : X → ℕ → Option ℕ) (xs : List X) (inv : ℕ → Type 0)
      → ((x : X) (o : ℕ) → inv o → reads_character (f x) ≡ true → IsAtPlace reading o) → ((x : X) (o q : ℕ) → inv o → go x o ≡ Some q → inv q)
      → ((place : ℕ) → place ≤ length reading.points → inv (offset reading place)) → ((x : X) → is_unreferring (f x) ≡ true)
      → ((x : X) (w : Whole) → successors target.program input (f x) (direction b) w ≡ moved_to w (go x w.offset))
      → literal_code target.program b bs ≡ map f xs
      → ((p : ℕ) → p ≤ length reading.points
      → all_steps go xs (offset reading p) ≡ option_map (offset reading) (placed (chars bs) (beside context (direction b) (length (chars bs)) p)))
      → AreAll target (literal_code target.program b bs) p q → Enters target input reading b (tree.bytes bs) p q
  unfolding node_outcomes step
  stepping b bs p q f go xs inv reads keeps begins plain does code-is told (stand, end) s w at stands may =
      let dir : Direction = direction b in
      let size : length (literal_code target.program b bs) ≡ length xs = ap length code-is ∙ length-map xs f in
      let place : p.address + length xs ≡ q.address = let e : q.address ≡ p.address + length (literal_code target.program b bs) = ap (λ (m : ProgramPoint). m.address) end in omega (arith, e, size) in
      let loops : q.loops ≡ p.loops = ap (λ (m : ProgramPoint). m.loops) end in
      let cs : List ℕ = chars bs in
      let found : all_steps go xs w.offset ≡ option_map (offset reading) (placed cs (beside context dir (length cs) s.place)) =
      ap (all_steps go xs) stands.place ∙ told s.place stands.inside.place in
      let Q : State → Whole → Type 0 = Arrives reading dir q.address (λ k. occurs k (tree.bytes bs)) p.loops q.loops s.place w in
      let us : List State = stepped (same_text cs) s (beside context dir (length cs) s.place) in
      let vs : List Whole = further w q.address (option_map (offset reading) (placed cs (beside context dir (length cs) s.place))) in
      let run : Expands target.program input reading dir (w ∷ []) (further w (p.address + length xs) (all_steps go xs w.offset)) =
      steps-run target.program input reading f go dir inv reads keeps plain does xs p.address w at (subst inv (sym stands.place) (begins s.place stands.inside.place)) (subst (StandFrom target.program p.address) code-is stand) in
      first_expand target.program input reading Q (w ∷ []) vs us
      (subst (λ a. Expands target.program input reading dir (w ∷ []) (further w a (option_map (offset reading) (placed cs (beside context dir (length cs) s.place))))) place
      (subst (λ o. Expands target.program input reading dir (w ∷ []) (further w (p.address + length xs) o)) found run))
      (leads_at_once target.program input reading Q us vs
      (placed-leads dir q.address (λ k. occurs k (tree.bytes bs)) p.loops q.loops cs s w (beside context dir (length cs) s.place) stands (beside-fits context dir (length cs) s.place stands.inside.place)))

  -- A literal: chunks of bytes in a program of bytes, characters in one of units.
  pub spelling : Tells reading input → (target.program.units ≡ false → TellsBytes reading input) → (b : Bool) (bs : List ℕ) (p q : ProgramPoint) → AreCharacters bs
      → AreAll target (literal_code target.program b bs) p q → Enters target input reading b (tree.bytes bs) p q
  spelling tells told b bs p q whole lies = by_units target.program.units refl
    where
      parts : Bool → List Instruction
      parts units = if units then map code.char (chars bs) else map code.byte_seq (chunks (length bs) bs)

      by_units : (u : Bool) → target.program.units ≡ u → Enters target input reading b (tree.bytes bs) p q
      by_units true units =
          stepping b bs p q code.char (point_step input reading tells (direction b)) (in_reading_order b (chars bs)) (IsAtPlace reading)
          (λ c o known e. known) (λ c o r known e. place-on input reading tells (direction b) (nat_eq c) o r known e) (λ place room. (place, room, refl)) (λ c. refl) (λ c w. refl)
          (ap (λ u. in_reading_order b (parts u)) units ∙ sym (in_reading_order-map code.char b (chars bs)))
          (points-stand input reading tells b (chars bs)) lies
      by_units false units =
          let ls : List (List ℕ) = chunks (length bs) bs in
          stepping b bs p q code.byte_seq (literal input (direction b)) (in_reading_order b ls) (λ o. Unit {0})
          (λ l o known e. absurd (grind arith)) (λ l o r known e. tt) (λ place room. tt) (λ l. refl) (λ l w. refl)
          (ap (λ u. in_reading_order b (parts u)) units ∙ sym (in_reading_order-map code.byte_seq b ls))
          (λ place inside. in_order-stands input b ls (offset reading place)
          ∙ ap (λ ds. literal input (direction b) ds (offset reading place)) (chunks-joined (length bs) bs (omega arith))
          ∙ (told units).literal (direction b) bs whole place inside) lies
