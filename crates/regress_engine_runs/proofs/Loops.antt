-- Entering a repetition.
use Rattle.std.specs.Prelude.{nat_le, nat_lt, slice_set, slice_get, filter}
use Rattle.std.proofs.Common.{◌≡◌, ◌⊎◌, inl, inr, ℕ, zero, suc, ◌+◌, ◌-◌, ◌<◌, ◌≤◌, ◌≢◌, ◌==◌, ◌&&◌, not, Bool, true, false, List, [], ◌∷◌, ◌++◌, length, All, Option, Some, None, if◌then◌else◌, get_or, set, flat_map, refl, sym, ap, ap₂, ◌∙◌, subst, arith, option_map, get_or-set_same, get_or-set_other, length-set}
use Rattle.std.proofs.lemmas.List.Elements.{All-weaker}
use Rattle.std.proofs.lemmas.Bool.{cases_eq, cases_lt, eq-eqb, le-leb, lt-leb, ne_eqb, le-ltb, lt-ltb}
use Rattle.std.proofs.lemmas.Bool.Decides.{nat_tests}
use Rattle.regress_meaning.specs.Meaning.{State, Direction, Forward, Backward, Context, iterations, cleared, clear_from, moved}
use Rattle.regress_meaning.specs.Offsets.{Reading, offset, offset_range}
use Rattle.regress_meaning.specs.Laws.{OffsetsRise, IsAhead, IsInside}
use Rattle.regress_meaning.specs.Inputs.{Input, context_of}
use Rattle.regress_meaning.proofs.StepLaws.{IsAhead-then, Leads-cleared, To, cleared-inside, Leads as Progresses}
use Rattle.regress_front_nodes.proofs.OutcomeLemmas.{Goes-outcomes}
use Rattle.regress_front_nodes.specs.Trees.{Tree}
use Rattle.regress_front_nodes.specs.Trees as tree
use Rattle.regress_front_nodes.specs.TreeMeaning.{node_outcomes, direction}
use Rattle.regress_front_nodes.specs.WellFormed.{group_ids, AreNumbered, AreLawful}
use Rattle.regress_engine_insn.specs.Instructions.{LoopFields, Program, Instruction, Stands, StandFrom, surplus}
use Rattle.regress_engine_insn.specs.Instructions as code
use Rattle.regress_engine_insn.specs.Layout.{ProgramPoint, next, Target, resets}
use Rattle.regress_engine_runs.specs.States.{Whole, Marks, unset, range_of, onward}
use Rattle.regress_engine_runs.specs.Runs.{ordered, count_of, one_more, choices, is_idle, fields_of, successors, room}
use Rattle.regress_engine_runs.specs.Stand.{StandsFor, AreOf}
use Rattle.regress_engine_runs.proofs.RunLemmas.{Expands, Expands-same, Expands-then, steps}
use Rattle.regress_engine_runs.proofs.FirstAnswers.{AnswerAlike, first_answer}
use Rattle.regress_engine_runs.proofs.Surplus.{IsIteration, fewer}
use Rattle.regress_engine_runs.proofs.Leading.{Leads, flat_map-filter, leads_alike, leads_at_once, first_expand, leads_beside, leads_on, leads_weaker}
use Rattle.regress_engine_runs.proofs.Places.{occurs, AreFree, Arrives, Keeps-again}
use Rattle.regress_engine_runs.proofs.Looks.{is_within, outside_none, inside_one}
use Rattle.regress_engine_runs.proofs.Untouched.{All-both, get_or-clear, clear-same, AsBefore, spares-outcomes}
use Rattle.regress_engine_runs.proofs.Entering.{Enters, standing, stays}

-- ---- groups are reset

-- groups from first on, so many, have nothing in them; all others are as before
pub record AreReset (first n : ℕ) (old new : List Marks) : Type 0 where
  pub count : length new ≡ length old
  pub within : (k : ℕ) → first ≤ k → k < first + n → get_or new k unset ≡ unset
  pub outside : (k : ℕ) → (k < first) ⊎ (first + n ≤ k) → get_or new k unset ≡ get_or old k unset

set-unset : (ms : List Marks) (k : ℕ) → get_or (set ms k unset) k unset ≡ unset
set-unset [] k = refl
set-unset (m ∷ ms) zero = refl
set-unset (m ∷ ms) (suc k) = set-unset ms k

reset-first : (first n : ℕ) (old new : List Marks) → AreReset (suc first) n (set old first unset) new → AreReset first (suc n) old new
reset-first first n old new h = record {
  count = h.count ∙ length-set old first unset;
  within = λ k low high. by_place k high (cases_lt first k) low;
  outside = λ k o. h.outside k (beyond k o) ∙ get_or-set_other old first k unset unset (apart k o);
}
  where
    by_place : (k : ℕ) → k < first + suc n → (first < k) ⊎ (k ≤ first) → first ≤ k → get_or new k unset ≡ unset
    by_place k high (inl o) low = h.within k o (omega (arith, high))
    by_place k high (inr o) low =
        let e : k ≡ first = omega arith in
        h.outside k (inl (omega arith)) ∙ ap (λ j. get_or (set old first unset) j unset) e ∙ set-unset old first

    beyond : (k : ℕ) → (k < first) ⊎ (first + suc n ≤ k) → (k < suc first) ⊎ (suc first + n ≤ k)
    beyond k (inl o) = inl (omega arith)
    beyond k (inr o) = inr (omega arith)

    apart : (k : ℕ) → (k < first) ⊎ (first + suc n ≤ k) → k ≢ first
    apart k (inl o) e = absurd (omega arith)
    apart k (inr o) e = absurd (omega arith)

module _ (program : Program) (input : Input) (reading : Reading) where
  -- instructions that reset groups lead behind them
  pub resetting : (dir : Direction) (n first address : ℕ) (w : Whole) → w.at ≡ address → StandFrom program address (resets first n)
      → (marks : List Marks) × Expands program input reading dir (w ∷ []) (record w { at = address + n; groups = marks } ∷ [])
      × AreReset first n w.groups marks
  resetting dir zero first address w at here =
      let e : w.at ≡ address + 0 = omega (arith, at) in (
        w.groups,
        subst (λ a. Expands program input reading dir (w ∷ []) (record w { at = a } ∷ [])) e (Expands-same program input reading dir (w ∷ [])),
        record { count = refl; within = λ k low high. absurd (omega arith); outside = λ k o. refl },
      )
  resetting dir (suc n) first address w at (here, rest) =
      let v : Whole = onward (record w { groups = slice_set w.groups first unset }) in
      let found = resetting dir n (suc first) (suc address) v (ap suc at) rest in
      let e : suc address + n ≡ address + suc n = omega arith in (
        found.0,
        subst (λ a. Expands program input reading dir (w ∷ []) (record w { at = a; groups = found.0 } ∷ [])) e
            (Expands-then program input reading (w ∷ []) (v ∷ []) (record w { at = suc address + n; groups = found.0 } ∷ [])
            (steps program input reading (code.reset_group first) w (subst (λ a. Stands program a (code.reset_group first)) (sym at) here) refl (λ e. absurd (grind arith))) found.1),
        reset-first first n w.groups found.0 found.2,
      )

-- ---- and cleared

pub within-true : (first last k : ℕ) → first ≤ k → k < last → is_within first last k ≡ true
within-true first last k low high = grind (arith, nat_tests)

pub within-false : (first last k : ℕ) → (k < first) ⊎ (last ≤ k) → is_within first last k ≡ false
within-false first last k (inl o) = grind (arith, nat_tests)
within-false first last k (inr o) = grind (arith, nat_tests)

-- a state whose groups are reset stands for one whose groups are cleared
pub cleared-stands : (input : Input) (reading : Reading) (first last : ℕ) (s : State) (o : ℕ) (old new : List Marks) → first ≤ last
    → AreOf reading s o old → AreReset first (last - first) old new → AreOf reading (cleared first last s) o new
cleared-stands input reading first last s o old new order stands h = record {
  place = stands.place;
  count = h.count ∙ stands.count ∙ sym goes.count;
  groups = λ k. by_place k (cases_lt k first) (cases_lt k last);
  inside = goes.inside stands.inside;
}
  where
    goes : Progresses reading.points Forward s (cleared first last s)
    goes = Leads-cleared (context_of reading input) Forward first last s

    told : (k : ℕ) (b : Bool) → is_within first last k ≡ b
        → get_or (clear_from 0 first last s.groups) k None ≡ (if b then None else get_or s.groups k None)
    told k b e =
        let f : 0 + k ≡ k = omega arith in
        get_or-clear 0 first last s.groups k ∙ ap (λ j. if is_within first last j then None else get_or s.groups k None) f
        ∙ ap (λ (c : Bool). if c then None else get_or s.groups k None) e

    outside : (k : ℕ) → (k < first) ⊎ (last ≤ k)
        → range_of (get_or new k unset) ≡ option_map (offset_range reading) (get_or (clear_from 0 first last s.groups) k None)
    outside k out =
        ap range_of (h.outside k (beyond out)) ∙ stands.groups k ∙ ap (option_map (offset_range reading)) (sym (told k false (within-false first last k out)))
      where
        beyond : (k < first) ⊎ (last ≤ k) → (k < first) ⊎ (first + (last - first) ≤ k)
        beyond (inl x) = inl x
        beyond (inr x) = inr (omega arith)

    by_place : (k : ℕ) → (k < first) ⊎ (first ≤ k) → (k < last) ⊎ (last ≤ k)
        → range_of (get_or new k unset) ≡ option_map (offset_range reading) (get_or (clear_from 0 first last s.groups) k None)
    by_place k (inl x) y = outside k (inl x)
    by_place k (inr x) (inr y) = outside k (inr y)
    by_place k (inr x) (inl y) =
        ap range_of (h.within k x (omega arith)) ∙ ap (option_map (offset_range reading)) (sym (told k true (within-true first last k x y)))

-- ---- what is admitted

ordered-out : (greedy : Bool) (s t : Whole) → ordered greedy false true s t ≡ t ∷ []
ordered-out true s t = refl
ordered-out false s t = refl

ordered-more : (greedy : Bool) (s t : Whole) → ordered greedy true false s t ≡ s ∷ []
ordered-more true s t = refl
ordered-more false s t = refl

-- offsets are equal where places are
same_offset : (reading : Reading) → OffsetsRise reading → (p q : ℕ) → p ≤ length reading.points → q ≤ length reading.points
    → (offset reading p == offset reading q) ≡ (p == q)
same_offset reading rise p q low high = by_place (cases_lt p q) (cases_lt q p)
  where
    by_place : (p < q) ⊎ (q ≤ p) → (q < p) ⊎ (p ≤ q) → (offset reading p == offset reading q) ≡ (p == q)
    by_place (inl x) y =
        ne_eqb (offset reading p) (offset reading q) (λ e. absurd (omega (arith, e, rise p q x high))) ∙ sym (ne_eqb p q (λ e. absurd (omega (arith, e))))
    by_place (inr x) (inl y) =
        ne_eqb (offset reading p) (offset reading q) (λ e. absurd (omega (arith, e, rise q p y low))) ∙ sym (ne_eqb p q (λ e. absurd (omega (arith, e))))
    by_place (inr x) (inr y) =
        let e : p ≡ q = omega arith in
        eq-eqb (offset reading p) (offset reading q) (ap (offset reading) e) ∙ sym (eq-eqb p q e)

-- ---- a repetition

-- units lie between places, at least as many as places do
gap-fits : (reading : Reading) → OffsetsRise reading → (d p : ℕ) → p + d ≤ length reading.points → offset reading p + d ≤ offset reading (p + d)
gap-fits reading rise zero p inside =
    let e : p + 0 ≡ p = omega arith in let same = ap (offset reading) e in omega (arith, same)
gap-fits reading rise (suc d) p inside =
    let e : p + suc d ≡ suc (p + d) = omega arith in
    let same = ap (offset reading) e in
    let before = gap-fits reading rise d p (omega (arith, inside)) in
    let next = rise (p + d) (suc (p + d)) (omega arith) (omega (arith, inside)) in
    omega (arith, same, before, next)

-- so no fewer lie ahead
room-fits : (reading : Reading) → OffsetsRise reading → (units : ℕ) → offset reading (length reading.points) ≡ units → (dir : Direction) (p : ℕ) → p ≤ length reading.points
    → room (length reading.points) dir p ≤ room units dir (offset reading p)
room-fits reading rise units whole Forward p inside =
    let d : ℕ = length reading.points - p in
    let e : p + d ≡ length reading.points = omega (arith, inside) in
    let same = ap (offset reading) e in
    let fits = gap-fits reading rise d p (omega (arith, e)) in
    omega (arith, same, fits, whole)
room-fits reading rise units whole Backward p inside =
    let e : 0 + p ≡ p = omega arith in
    let same = ap (offset reading) e in
    let fits = gap-fits reading rise p 0 (omega (arith, inside)) in
    omega (arith, same, fits)

module _ (target : Target) (input : Input) (reading : Reading) (rise : OffsetsRise reading) (whole : offset reading (length reading.points) ≡ length input.units) (b : Bool) (a : Tree) (first last least most : ℕ) (greedy : Bool) (p m : ProgramPoint) where
  abbrev pub dir : Direction
  dir = direction b

  abbrev pub context : Context
  context = context_of reading input

  abbrev pub fields : LoopFields
  fields = record { loop_id = p.loops; least = least; most = most; greedy = greedy; exit = suc m.address }

  abbrev pub gone : ℕ → ℕ
  gone k = occurs k a

  -- what is repeated
  abbrev pub body : State → List State
  body s = node_outcomes context a dir (cleared first last s)

  -- how many places lie ahead
  abbrev pub ahead : State → ℕ
  ahead s = room (length reading.points) dir s.place

  -- where its contents begin
  abbrev pub inner : ProgramPoint
  inner = record { address = suc p.address + (last - first); loops = suc p.loops }

  -- how the repetition lies
  pub record IsRepetition : Type 0 where
    pub begin : Stands target.program p.address (code.enter_loop fields)
    pub reset : StandFrom target.program (suc p.address) (resets first (last - first))
    pub end : Stands target.program m.address (code.loop_again p.address)
    pub numbered : AreNumbered first last (group_ids a)
    pub bounds : least ≤ most
    pub rises : suc p.loops ≤ m.loops
    pub contents : Enters target input reading b a inner m
    pub lawful : (n : ℕ) × AreLawful n a

  -- a state has room for its loops and groups
  record HasRoom (w : Whole) : Type 0 where
    loops : m.loops ≤ length w.loops
    groups : (k : ℕ) → 0 < occurs k a → k < length w.groups

  -- it arrived behind the repetition, or at the end of an iteration
  abbrev Out : State → Whole → State → Whole → Type 0
  Out s w = Arrives reading dir (suc m.address) gone p.loops m.loops s.place w

  abbrev Again : State → Whole → State → Whole → Type 0
  Again s w u v = Arrives reading dir m.address gone p.loops m.loops s.place w u v × (get_or v.loops p.loops (0, 0) ≡ (suc (count_of p.loops w), w.offset))

  -- a group that occurs is one of those that are reset, and one that doesn't is none
  occurring : AreNumbered first last (group_ids a) → (k : ℕ) → 0 < occurs k a → (first ≤ k) × (k < last)
  occurring h k some = by_place (cases_lt k first) (cases_lt k last)
    where
      by_place : (k < first) ⊎ (first ≤ k) → (k < last) ⊎ (last ≤ k) → (first ≤ k) × (k < last)
      by_place (inl x) y = absurd (omega (arith, some, outside_none first last a h k (within-false first last k (inl x))))
      by_place (inr x) (inr y) = absurd (omega (arith, some, outside_none first last a h k (within-false first last k (inr y))))
      by_place (inr x) (inl y) = (x, y)

  missing : AreNumbered first last (group_ids a) → (k : ℕ) → occurs k a ≡ 0 → (k < first) ⊎ (first + (last - first) ≤ k)
  missing h k none = by_place (cases_lt k first) (cases_lt k last)
    where
      by_place : (k < first) ⊎ (first ≤ k) → (k < last) ⊎ (last ≤ k) → (k < first) ⊎ (first + (last - first) ≤ k)
      by_place (inl x) y = inl x
      by_place (inr x) (inr y) = inr (omega arith)
      by_place (inr x) (inl y) = absurd (omega (arith, none, inside_one first last a h k (within-true first last k x y)))

  -- one iteration
  iteration : IsRepetition → (s : State) (w : Whole) → StandsFor reading s w → HasRoom w
      → Leads target.program input reading dir (Again s w) (one_more p.loops p.address w ∷ []) (body s)
  iteration h s w stands room =
      let v : Whole = one_more p.loops p.address w in
      let entry : ℕ × ℕ = (suc (count_of p.loops w), w.offset) in
      let found = resetting target.program input reading dir (last - first) first (suc p.address) v refl h.reset in
      let marks : List Marks = found.0 in
      let made : AreReset first (last - first) w.groups marks = found.2 in
      let z : Whole = record v { at = suc p.address + (last - first); groups = marks } in
      let own : p.loops < length w.loops = omega (arith, h.rises, room.loops) in
      let kept : get_or v.loops p.loops (0, 0) ≡ entry = get_or-set_same w.loops p.loops entry (0, 0) own in
      let size : length v.loops ≡ length w.loops = length-set w.loops p.loops entry in
      let t : State = cleared first last s in
      let may : AreFree gone m.loops z.loops z.groups = record {
        loops = omega (arith, size, room.loops);
        here = λ k some. omega (arith, room.groups k some, made.count);
        free = λ k some. let o = occurring h.numbered k some in let low = o.0 in let high = o.1 in made.within k low (omega (arith, low, high));
      } in
      let R : State → Whole → Type 0 = Arrives reading dir m.address gone (suc p.loops) m.loops s.place z in
      let inside = h.contents t z refl (cleared-stands input reading first last s w.offset w.groups marks h.numbered.order stands made) may in
      first_expand target.program input reading (Again s w) (v ∷ []) (z ∷ []) (body s) found.1
      (leads_weaker target.program input reading R (Again s w) (λ u x r. (
        record {
          at = r.at;
          stands = r.stands;
          keeps = record {
            loops = λ k o. r.keeps.loops k (beyond k o) ∙ get_or-set_other w.loops p.loops k entry (0, 0) (apart h.rises k o);
            loop_count = r.keeps.loop_count ∙ size;
            groups = λ k none. r.keeps.groups k none ∙ made.outside k (missing h.numbered k none);
            group_count = r.keeps.group_count ∙ made.count;
          };
          ahead = r.ahead;
        },
        r.keeps.loops p.loops (inl (omega arith)) ∙ kept,
      )) (z ∷ []) (body s) inside)
    where
      beyond : (k : ℕ) → (k < p.loops) ⊎ (m.loops ≤ k) → (k < suc p.loops) ⊎ (m.loops ≤ k)
      beyond k (inl o) = inl (omega arith)
      beyond k (inr o) = inr o

      apart : suc p.loops ≤ m.loops → (k : ℕ) → (k < p.loops) ⊎ (m.loops ≤ k) → k ≢ p.loops
      apart r k (inl o) e = absurd (omega arith)
      apart r k (inr o) e = absurd (omega arith)

  -- the end of an iteration: it is dropped where it was idle
  at_end : IsRepetition → (v : Whole) → v.at ≡ m.address → (idle : Bool) → is_idle fields v ≡ idle
      → Expands target.program input reading dir (v ∷ []) (if idle then [] else choices fields p.address v)
  at_end h v at idle e =
      let goes : Expands target.program input reading dir (v ∷ []) (successors target.program input (code.loop_again p.address) dir v) =
      steps target.program input reading (code.loop_again p.address) v (standing target input reading v at h.end) refl (λ e. absurd (grind arith)) in
      let found : fields_of (slice_get target.program.instructions p.address) ≡ Some fields = ap fields_of h.begin in
      subst (λ c. Expands target.program input reading dir (v ∷ []) (if c then [] else choices fields p.address v)) e
      (subst (λ (o : Option LoopFields). Expands target.program input reading dir (v ∷ []) (elim o [ None ↦ [] | Some f ↦ if is_idle f v then [] else choices f p.address v ])) found goes)

  -- behind an iteration that led to a state, the first leads to what that one leads to
  gone_on : (s u x : State) (w v z : Whole) → Again s w u v → Out u v x z → Out s w x z
  gone_on s u x w v z (r, entry) o = record {
    at = o.at;
    stands = o.stands;
    keeps = Keeps-again gone p.loops m.loops w v z r.keeps o.keeps;
    ahead = IsAhead-then dir s.place u.place x.place r.ahead o.ahead;
  }

  room_after : (s u : State) (w v : Whole) → HasRoom w → Again s w u v → HasRoom v
  room_after s u w v room (r, entry) = record {
    loops = omega (arith, room.loops, r.keeps.loop_count);
    groups = λ k some. omega (arith, room.groups k some, r.keeps.group_count);
  }

  -- the states by what is admitted
  choices-are : (w : Whole) (more out : Bool) → nat_lt (count_of p.loops w) most ≡ more → nat_le least (count_of p.loops w) ≡ out
      → ordered greedy more out (one_more p.loops p.address w) (record w { at = suc m.address }) ≡ choices fields p.address w
  choices-are w more out e f =
      ap₂ (λ c d. ordered greedy c d (one_more p.loops p.address w) (record w { at = suc m.address })) (sym e) (sym f)

  -- the exit
  out : (s : State) (w : Whole) → StandsFor reading s w → Leads target.program input reading dir (Out s w) (record w { at = suc m.address } ∷ []) (s ∷ [])
  out s w stands =
      let v : Whole = record w { at = suc m.address } in
      leads_at_once target.program input reading (Out s w) (s ∷ []) (v ∷ []) (stays target input reading dir (suc m.address) gone p.loops m.loops s w v refl stands refl refl, tt)

  -- both, in the order of preference
  both : (g : Bool) (s : State) (w : Whole) (more : List State) → Leads target.program input reading dir (Out s w) (one_more p.loops p.address w ∷ []) more
      → StandsFor reading s w
      → Leads target.program input reading dir (Out s w) (ordered g true true (one_more p.loops p.address w) (record w { at = suc m.address }))
      (if g then more ++ s ∷ [] else s ∷ more)
  both true s w more h stands =
      leads_beside target.program input reading (Out s w) (one_more p.loops p.address w ∷ []) (record w { at = suc m.address } ∷ []) more (s ∷ []) h (out s w stands)
  both false s w more h stands =
      leads_beside target.program input reading (Out s w) (record w { at = suc m.address } ∷ []) (one_more p.loops p.address w ∷ []) (s ∷ []) more (out s w stands) h

  -- an iteration past the least number is idle where it took nothing
  idle-is : (s u : State) (w v : Whole) → StandsFor reading s w → Again s w u v → least ≤ count_of p.loops w
      → is_idle fields v ≡ not (moved s u)
  idle-is s u w v stands (r, entry) past =
      let same : (w.offset == v.offset) ≡ (s.place == u.place) =
      ap₂ (λ x y. x == y) stands.place r.stands.place ∙ same_offset reading rise s.place u.place stands.inside.place r.stands.inside.place in
      ap (λ (x : ℕ × ℕ). nat_lt least x.0 && (x.1 == v.offset)) entry
      ∙ ap (λ c. c && (w.offset == v.offset)) (lt-ltb least (suc (count_of p.loops w)) (omega (arith, past)))
      ∙ same ∙ twice (s.place == u.place)
    where
      twice : (c : Bool) → c ≡ not (not c)
      twice true = refl
      twice false = refl

  -- and up to it never
  idle-not : (s u : State) (w v : Whole) → Again s w u v → count_of p.loops w < least → is_idle fields v ≡ false
  idle-not s u w v (r, entry) before =
      ap (λ (x : ℕ × ℕ). nat_lt least x.0 && (x.1 == v.offset)) entry
      ∙ ap (λ c. c && (w.offset == v.offset)) (le-ltb least (suc (count_of p.loops w)) (omega (arith, before)))

  -- past the least number the next step follows only where the iteration moved
  dropped_or_on : IsRepetition → (s u : State) (w x : Whole) → StandsFor reading s w → Again s w u x → least ≤ count_of p.loops w
      → (more : List State) → Leads target.program input reading dir (Out s w) (choices fields p.address x) more → (c : Bool) → moved s u ≡ c
      → Leads target.program input reading dir (Out s w) (x ∷ []) (if c then more else [])
  dropped_or_on h s u w x stands r past more on true e =
      first_expand target.program input reading (Out s w) (x ∷ []) (choices fields p.address x) more
      (at_end h x r.0.at false (idle-is s u w x stands r past ∙ ap not e)) on
  dropped_or_on h s u w x stands r past more on false e =
      first_expand target.program input reading (Out s w) (x ∷ []) [] []
      (at_end h x r.0.at true (idle-is s u w x stands r past ∙ ap not e)) (leads_at_once target.program input reading (Out s w) [] [] tt)

  -- From a state with so many iterations begun the choices lead to the iterations that are left.
  again : IsRepetition → (left need : ℕ) (s : State) (w : Whole) → count_of p.loops w + left ≡ most → need ≡ least - count_of p.loops w
      → StandsFor reading s w → HasRoom w
      → Leads target.program input reading dir (Out s w) (choices fields p.address w) (iterations body greedy left need s)
  unfolding iterations
  again h zero need s w all few stands room =
      let e : choices fields p.address w ≡ record w { at = suc m.address } ∷ [] =
      sym (choices-are w false true (le-ltb (count_of p.loops w) most (omega (arith, all))) (le-leb least (count_of p.loops w) (omega (arith, all, h.bounds))))
      ∙ ordered-out greedy (one_more p.loops p.address w) (record w { at = suc m.address }) in
      subst (λ xs. Leads target.program input reading dir (Out s w) xs (s ∷ [])) (sym e) (out s w stands)
  again h (suc left) (suc need) s w all few stands room =
      let v : Whole = one_more p.loops p.address w in
      let before : count_of p.loops w < least = omega (arith, few) in
      let e : choices fields p.address w ≡ v ∷ [] =
      sym (choices-are w true false (lt-ltb (count_of p.loops w) most (omega (arith, all))) (lt-leb least (count_of p.loops w) before))
      ∙ ordered-more greedy v (record w { at = suc m.address }) in
      subst (λ xs. Leads target.program input reading dir (Out s w) xs (flat_map (iterations body greedy left need) (body s))) (sym e)
      (leads_on target.program input reading (Again s w) (Out s w) (iterations body greedy left need) (v ∷ []) (body s) (iteration h s w stands room)
      (λ u x r.
      let count : count_of p.loops x ≡ suc (count_of p.loops w) = ap (λ (y : ℕ × ℕ). y.0) r.1 in
      first_expand target.program input reading (Out s w) (x ∷ []) (choices fields p.address x) (iterations body greedy left need u)
      (at_end h x r.0.at false (idle-not s u w x r before))
      (leads_weaker target.program input reading (Out u x) (Out s w) (λ y z o. gone_on s u y w x z r o) (choices fields p.address x) (iterations body greedy left need u)
      (again h left need u x (omega (arith, all, count)) (omega (arith, few, count)) r.0.stands (room_after s u w x room r)))))
  again h (suc left) zero s w all few stands room =
      let v : Whole = one_more p.loops p.address w in
      let past : least ≤ count_of p.loops w = omega (arith, few) in
      let on : State → List State = iterations body greedy left zero in
      let e : choices fields p.address w ≡ ordered greedy true true v (record w { at = suc m.address }) =
      sym (choices-are w true true (lt-ltb (count_of p.loops w) most (omega (arith, all))) (le-leb least (count_of p.loops w) past)) in
      let f : flat_map on (filter (moved s) (body s)) ≡ flat_map (λ u. if moved s u then on u else []) (body s) =
      flat_map-filter on (moved s) (body s) in
      let more : Leads target.program input reading dir (Out s w) (v ∷ []) (flat_map (λ u. if moved s u then on u else []) (body s)) =
      leads_on target.program input reading (Again s w) (Out s w) (λ u. if moved s u then on u else []) (v ∷ []) (body s) (iteration h s w stands room)
      (λ u x r.
      let count : count_of p.loops x ≡ suc (count_of p.loops w) = ap (λ (y : ℕ × ℕ). y.0) r.1 in
      dropped_or_on h s u w x stands r past (on u)
      (leads_weaker target.program input reading (Out u x) (Out s w) (λ y z o. gone_on s u y w x z r o) (choices fields p.address x) (on u)
      (again h left zero u x (omega (arith, all, count)) (omega (arith, few, count)) r.0.stands (room_after s u w x room r)))
      (moved s u) refl) in
      subst (λ xs. Leads target.program input reading dir (Out s w) xs (if greedy then flat_map on (filter (moved s) (body s)) ++ s ∷ [] else s ∷ flat_map on (filter (moved s) (body s)))) (sym e)
      (both greedy s w (flat_map on (filter (moved s) (body s))) (subst (Leads target.program input reading dir (Out s w) (v ∷ [])) (sym f) more) stands)

  -- each iteration takes something, or leads to where the next one leads to the same
  iterates : IsRepetition → (s : State) → IsInside reading.points s → All (IsIteration body greedy ahead (IsInside reading.points) s) (body s)
  iterates h s inside = All-weaker Goes-on (IsIteration body greedy ahead (IsInside reading.points) s) on (body s) (All-both (To context dir (cleared first last s)) (AsBefore context Outside (cleared first last s)) (body s) went kept)
    where
      Outside : ℕ → Type 0
      Outside k = is_within first last k ≡ false

      Goes-on : State → Type 0
      Goes-on u = To context dir (cleared first last s) u × AsBefore context Outside (cleared first last s) u

      went : All (To context dir (cleared first last s)) (body s)
      went = Goes-outcomes context a dir (cleared first last s)

      kept : All (AsBefore context Outside (cleared first last s)) (body s)
      kept = spares-outcomes context Outside h.lawful.0 a h.lawful.1 (λ k o. outside_none first last a h.numbered k o) dir (cleared first last s)

      on : (u : State) → Goes-on u → IsIteration body greedy ahead (IsInside reading.points) s u
      on u (led, before) = record { within = within; takes = by_place (cases_eq u.place s.place) }
        where
          within : IsInside reading.points u
          within = led.inside (cleared-inside context first last s inside)

          less : (d : Direction) → IsAhead d s.place u.place → (u.place ≡ s.place → ⊥) → room (length reading.points) d u.place < room (length reading.points) d s.place
          less Forward low differs = by_order (cases_lt s.place u.place)
            where
              by_order : (s.place < u.place) ⊎ (u.place ≤ s.place) → length reading.points - u.place < length reading.points - s.place
              by_order (inl x) = let end = within.place in omega (arith, end)
              by_order (inr x) = absurd (differs (omega (arith, low)))
          less Backward low differs = by_order (cases_lt u.place s.place)
            where
              by_order : (u.place < s.place) ⊎ (s.place ≤ u.place) → u.place < s.place
              by_order (inl x) = x
              by_order (inr x) = absurd (differs (omega (arith, low)))

          same-cleared : u.place ≡ s.place → cleared first last u ≡ cleared first last s
          same-cleared e =
              let gs : clear_from 0 first last u.groups ≡ clear_from 0 first last s.groups =
              clear-same 0 first last u.groups s.groups (led.count ∙ (Leads-cleared context dir first last s).count) (λ k t. let e : 0 + k ≡ k = omega arith in let o = sym (ap (is_within first last) e) ∙ t in before k o ∙ uncleared k o) in
              (λ i. record { place = e i; groups = gs i })
            where
              uncleared : (k : ℕ) → is_within first last k ≡ false → get_or (clear_from 0 first last s.groups) k None ≡ get_or s.groups k None
              uncleared k t =
                  let e : 0 + k ≡ k = omega arith in
                  get_or-clear 0 first last s.groups k ∙ ap (λ (c : Bool). if c then None else get_or s.groups k None) (ap (is_within first last) e ∙ t)

          by_place : (u.place ≡ s.place) ⊎ (u.place ≡ s.place → ⊥) → (ahead u < ahead s) ⊎ (body u ≡ body s)
          by_place (inl e) = inr (ap (node_outcomes context a dir) (same-cleared e))
          by_place (inr ne) = inl (less dir led.ahead ne)

  -- the iterations that are taken as done may be left out
  enough : IsRepetition → (s : State) (w : Whole) → StandsFor reading s w
      → let done : ℕ = surplus least (room (length input.units) dir w.offset) in
      AnswerAlike (iterations body greedy (most - done) (least - done) s) (iterations body greedy most least s)
  enough h s w stands = by_number done refl
    where
      done : ℕ
      done = surplus least (room (length input.units) dir w.offset)

      Same : ℕ → ℕ → Type 0
      Same left need = AnswerAlike (iterations body greedy left need s) (iterations body greedy most least s)

      by_number : (n : ℕ) → done ≡ n → Same (most - done) (least - done)
      by_number zero e =
          let l : most - done ≡ most = omega (arith, e) in
          let n : least - done ≡ least = omega (arith, e) in
          λ ask. ap₂ (λ x y. first_answer ask (iterations body greedy x y s)) l n
      by_number (suc k) e =
          let bounds = h.bounds in
          let l : done + (most - done) ≡ most = omega (arith, bounds) in
          let n : done + (least - done) ≡ least = omega arith in
          let fits = room-fits reading rise (length input.units) whole dir s.place stands.inside.place in
          let place = ap (room (length input.units) dir) stands.place in
          let more : ahead s < least - done = omega (arith, e, fits, place) in
          λ ask. sym (fewer body greedy ahead (IsInside reading.points) (iterates h) done (least - done) (most - done) s stands.inside more (omega (arith, bounds)) ask)
          ∙ ap₂ (λ x y. first_answer ask (iterations body greedy x y s)) l n

  -- entering the repetition
  pub repeating : IsRepetition → Enters target input reading b (tree.loop a first last least most greedy) p (next m)
  unfolding node_outcomes
  repeating h s w at stands may =
      let own : p.loops < length w.loops = omega (arith, h.rises, may.loops) in
      let done : ℕ = surplus least (room (length input.units) dir w.offset) in
      let v : Whole = record w { loops = slice_set w.loops p.loops (done, w.offset) } in
      let count : count_of p.loops v ≡ done = ap (λ (y : ℕ × ℕ). y.0) (get_or-set_same w.loops p.loops (done, w.offset) (0, 0) own) in
      let size : length v.loops ≡ length w.loops = length-set w.loops p.loops (done, w.offset) in
      let room' : HasRoom v = record { loops = omega (arith, may.loops, size); groups = may.here } in
      let us : List State = iterations body greedy most least s in
      let vs : List State = iterations body greedy (most - done) (least - done) s in
      let step : Expands target.program input reading dir (w ∷ []) (choices fields w.at v) =
      steps target.program input reading (code.enter_loop fields) w (standing target input reading w at h.begin) refl (λ e. absurd (grind arith)) in
      let bounds = h.bounds in
      first_expand target.program input reading (Out s w) (w ∷ []) (choices fields p.address v) us
      (subst (λ a. Expands target.program input reading dir (w ∷ []) (choices fields a v)) at step)
      (leads_alike target.program input reading (Out s w) (choices fields p.address v) vs us (enough h s w stands)
      (leads_weaker target.program input reading (Out s v) (Out s w) (λ u x o. record {
        at = o.at;
        stands = o.stands;
        keeps = record {
          loops = λ k out. o.keeps.loops k out ∙ get_or-set_other w.loops p.loops k (done, w.offset) (0, 0) (apart h.rises k out);
          loop_count = o.keeps.loop_count ∙ size;
          groups = o.keeps.groups;
          group_count = o.keeps.group_count;
        };
        ahead = o.ahead;
      }) (choices fields p.address v) vs
      (again h (most - done) (least - done) s v (omega (arith, count, bounds)) (omega (arith, count)) stands room')))
    where
      apart : suc p.loops ≤ m.loops → (k : ℕ) → (k < p.loops) ⊎ (m.loops ≤ k) → k ≢ p.loops
      apart r k (inl o) e = absurd (omega arith)
      apart r k (inr o) e = absurd (omega arith)
