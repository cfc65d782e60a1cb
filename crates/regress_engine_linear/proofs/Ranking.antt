-- A table of ranks that passes its test tells what is so.
use Rattle.std.specs.Prelude.{if◌then◌else◌, length, nat_le, nat_lt, not, slice_get}
use Rattle.std.proofs.Common.{◌≡◌, ℕ, suc, ◌<◌, inl, inr, ◌&&◌, ◌||◌, ◌==◌, Bool, true, false, Option, Some, None, refl, ap, ◌∙◌, arith}
use Rattle.std.proofs.lemmas.Bool.{and_parts, or_cases, eqb-true, ltb-true, leb-true}
use Rattle.regress_meaning.specs.Text.{holds}
use Rattle.regress_engine_input.specs.Views.{direction_of}
use Rattle.regress_front_nodes.specs.Trees.{Submatch, lookaround, atomic}
use Rattle.regress_front_nodes.specs.TreeMeaning.{submatch_direction}
use Rattle.regress_engine_insn.specs.Instructions.{LoopFields, Instruction, Program, Stands}
use Rattle.regress_engine_insn.specs.Instructions as code
use Rattle.regress_engine_runs.specs.Runs.{fields_of}
use Rattle.regress_engine_memory.specs.Deciding.{Table, calm_at, flow_of, live_at}
use Rattle.regress_engine_memory.specs.Needs.{taken_by}
use Rattle.regress_engine_memory.proofs.TableLemmas.{each-passes}
use Rattle.regress_engine_linear.specs.Ranks.{Lowers, asked_less, Inside, IsCycle, Ranks, AreRanked, is_even}
use Rattle.regress_engine_linear.specs.RankTables.{Heights, IsBefore, rank_at, forward_at, level_at, outside_at, top_of, ranking_of, is_apart, is_before, is_on, is_read, leaves, lowers, turns, holds_inside, is_cycle, cycles, ranks, ranks_if_calm, are_ranked}
use Rattle.regress_engine_linear.proofs.Running.{fields-stand}

-- what is not so, or another thing is, is another thing where it is so
implied : (a b : Bool) → (not a || b) ≡ true → a ≡ true → b ≡ true
implied true b e is = e
implied false b e is = absurd (cc is)

refuted : (a : Bool) → not a ≡ true → a ≡ true → ⊥
refuted true e is = cc e
refuted false e is = cc is

as-said : (b forward : Bool) → (if forward then b else not b) ≡ true → b ≡ forward
as-said true true e = refl
as-said false true e = absurd (cc e)
as-said true false e = absurd (cc e)
as-said false false e = refl

-- what passes the test of one address before another is so
pub before-so : (h : Heights) (a b : ℕ) → is_before h a b ≡ true → IsBefore h a b
before-so h a b e = elim (or_cases (nat_lt (level_at h b) (level_at h a)) ((level_at h b == level_at h a) && nat_lt (rank_at h a) (rank_at h b)) e) [
  | inl deeper ↦ inl (ltb-true (level_at h b) (level_at h a) deeper)
  | inr lower ↦ inr (
      let both = and_parts (level_at h b == level_at h a) (nat_lt (rank_at h a) (rank_at h b)) lower in
      (eqb-true (level_at h b) (level_at h a) both.0, ltb-true (rank_at h a) (rank_at h b) both.1)
      )
]

module _ (h : Heights) (t : Table) where
  read-so : (forward : Bool) (at : ℕ) → is_read h forward at ≡ true → (at < length h.ranks) × (forward_at h at ≡ forward)
  read-so forward at e =
      let both = and_parts (nat_lt at (length h.ranks)) (if forward then forward_at h at else not (forward_at h at)) e in
      (ltb-true at (length h.ranks) both.0, as-said (forward_at h at) forward both.1)

  on-so : (level at : ℕ) → is_on h level at ≡ true → (at < length h.ranks) × (level_at h at ≡ level)
  on-so level at e =
      let both = and_parts (nat_lt at (length h.ranks)) (level_at h at == level) e in (ltb-true at (length h.ranks) both.0, eqb-true (level_at h at) level both.1)

  lowers-so : (taken from to : ℕ) → lowers h taken from to ≡ true → Lowers (ranking_of h) taken from to
  lowers-so taken from to e =
      let both = and_parts (is_on h (level_at h from) to) ((outside_at h to == outside_at h from) && (nat_lt 0 taken || nat_lt (rank_at h to) (rank_at h from))) e in
      let more = and_parts (outside_at h to == outside_at h from) (nat_lt 0 taken || nat_lt (rank_at h to) (rank_at h from)) both.1 in
      let read = on-so (level_at h from) to both.0 in
      record {
        within = read.0;
        level = read.1;
        same = eqb-true (outside_at h to) (outside_at h from) more.0;
        rank = elim (or_cases (nat_lt 0 taken) (nat_lt (rank_at h to) (rank_at h from)) more.1) [
          | inl some ↦ inl (ltb-true 0 taken some)
          | inr less ↦ inr (ltb-true (rank_at h to) (rank_at h from) less)
        ];
      }

  cycle-so : (at begin : ℕ) (f : LoopFields) → is_cycle h t at begin f ≡ true → IsCycle (flow_of t) (ranking_of h) at begin f
  cycle-so at begin f e =
      let b = and_parts (nat_le f.least 1) _ e in
      let c = and_parts (top_of h f.loop_id == rank_at h (suc begin)) _ b.1 in
      let d = and_parts (lowers h 0 at (suc begin)) _ c.1 in
      let k = and_parts (lowers h 0 at f.exit) (not (holds (live_at t f.exit) f.loop_id)) d.1 in
      record {
        least = leb-true f.least 1 b.0;
        top = eqb-true (top_of h f.loop_id) (rank_at h (suc begin)) c.0;
        more = lowers-so 0 at (suc begin) d.0;
        out = lowers-so 0 at f.exit k.0;
        left = refuted (holds (live_at t f.exit) f.loop_id) k.1;
      }

  turns-so : (kind : Submatch) (at continuation : ℕ) → turns h kind at continuation ≡ true
      → (suc at < length h.ranks) × (direction_of (forward_at h (suc at)) ≡ submatch_direction kind (direction_of (forward_at h at))) × (kind ≡ atomic → outside_at h (suc at) ≡ continuation) × (kind ≡ atomic → level_at h (suc at) ≡ level_at h at)
  turns-so (lookaround negated true) at continuation e = let read = read-so false (suc at) e in (read.0, ap direction_of read.1, λ is. absurd (cc is), λ is. absurd (cc is))
  turns-so (lookaround negated false) at continuation e = let read = read-so true (suc at) e in (read.0, ap direction_of read.1, λ is. absurd (cc is), λ is. absurd (cc is))
  turns-so atomic at continuation e =
      let both = and_parts (is_on h (level_at h at) (suc at)) (outside_at h (suc at) == continuation) e in
      let read = on-so (level_at h at) (suc at) both.0 in
      (read.0, ap (λ n. direction_of (is_even n)) read.1, λ is. eqb-true (outside_at h (suc at)) continuation both.1, λ is. read.1)

  leaves-so : (at : ℕ) → leaves h at ≡ true → outside_at h at < length h.ranks → rank_at h (outside_at h at) < rank_at h at
  leaves-so at e within = elim (or_cases (nat_le (length h.ranks) (outside_at h at)) (nat_lt (rank_at h (outside_at h at)) (rank_at h at)) e) [
    | inl past ↦ let x = leb-true (length h.ranks) (outside_at h at) past in absurd (omega (arith, x, within))
    | inr lower ↦ ltb-true (rank_at h (outside_at h at)) (rank_at h at) lower
  ]

  inside-so : (kind : Submatch) (at continuation : ℕ) → holds_inside h kind at continuation ≡ true → Inside (ranking_of h) kind at continuation
  inside-so kind at continuation e =
      let both = and_parts (turns h kind at continuation) (is_apart h at) e in
      let read = turns-so kind at continuation both.0 in
      record {
        within = read.0;
        way = read.1;
        rank = elim (or_cases (is_on h (level_at h at) (suc at) && nat_lt (rank_at h (suc at)) (rank_at h at)) (nat_lt (level_at h at) (level_at h (suc at))) both.1) [
          | inl lower ↦ inl (
              let two = and_parts (is_on h (level_at h at) (suc at)) (nat_lt (rank_at h (suc at)) (rank_at h at)) lower in
              ((on-so (level_at h at) (suc at) two.0).1, ltb-true (rank_at h (suc at)) (rank_at h at) two.1)
              )
          | inr deeper ↦ inr (ltb-true (level_at h at) (level_at h (suc at)) deeper)
        ];
        level = read.3;
        outside = read.2;
      }

  module _ (program : Program) where
    cycles-so : (at begin : ℕ) → cycles h t at begin (fields_of (slice_get program.instructions begin)) ≡ true → Ranks (flow_of t) (ranking_of h) program at (code.loop_again begin)
    cycles-so at begin e = by_fields (fields_of (slice_get program.instructions begin)) refl e
      where
        by_fields : (x : Option LoopFields) → fields_of (slice_get program.instructions begin) ≡ x → cycles h t at begin x ≡ true → Ranks (flow_of t) (ranking_of h) program at (code.loop_again begin)
        by_fields None here e = absurd (cc e)
        by_fields (Some f) here e = (f, fields-stand (slice_get program.instructions begin) f here, cycle-so at begin f e)

    ranks-so : (at : ℕ) (i : Instruction) → ranks h t program at i ≡ true → Ranks (flow_of t) (ranking_of h) program at i
    ranks-so at code.goal e = leaves-so at e
    ranks-so at code.fail e = tt
    ranks-so at (code.back k icase) e = absurd (cc e)
    ranks-so at (code.jump a) e = lowers-so 0 at a e
    ranks-so at (code.alt a) e = let b = and_parts (lowers h 0 at (suc at)) (lowers h 0 at a) e in (lowers-so 0 at (suc at) b.0, lowers-so 0 at a b.1)
    ranks-so at (code.enter_loop f) e = cycle-so at at f e
    ranks-so at (code.loop_again begin) e = cycles-so at begin e
    ranks-so at (code.single_loop least most greedy) e = lowers-so least at (suc (suc at)) e
    ranks-so at (code.submatch kind first last continuation) e =
        let b = and_parts (lowers h (asked_less kind) at continuation) (holds_inside h kind at continuation) e in
        (lowers-so (asked_less kind) at continuation b.0, inside-so kind at continuation b.1)
    ranks-so at i e = lowers-so (taken_by i) at (suc at) e

    -- So it is decided by one pass over the instructions.
    pub ranks-decide : are_ranked h t program ≡ true → AreRanked (flow_of t) (ranking_of h) program
    ranks-decide e at i calm here = ranks-so at i (implied (calm_at t at) (ranks h t program at i) (each-passes (ranks_if_calm h t program) program e at i here) calm)

    module _ (at : ℕ) (i : Instruction) where
      -- what is not ranked at a calm address does not pass
      pub ranks-not : calm_at t at ≡ true → ranks h t program at i ≡ false → ranks_if_calm h t program at i ≡ false
      ranks-not calm none = ap (λ b. not b || ranks h t program at i) calm ∙ none

      -- what is ranked there, if it is calm, passes
      pub ranks-too : (calm_at t at ≡ true → ranks h t program at i ≡ true) → ranks_if_calm h t program at i ≡ true
      ranks-too leads = by_calm (calm_at t at) leads
        where
          by_calm : (b : Bool) → (b ≡ true → ranks h t program at i ≡ true) → (not b || ranks h t program at i) ≡ true
          by_calm true f = f refl
          by_calm false f = refl
