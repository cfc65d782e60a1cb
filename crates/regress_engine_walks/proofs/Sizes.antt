-- How many addresses of lookarounds with loops a walk may still come to, and how many of some addresses are ranked below others.
use Rattle.std.specs.Prelude.{nat_lt, slice_get}
use Rattle.std.proofs.Common.{◌≡◌, ◌==◌, ℕ, zero, suc, ◌+◌, ◌-◌, ◌*◌, ◌<◌, ◌≤◌, ◌⊎◌, inl, inr, ◌&&◌, Bool, true, false, List, [], ◌∷◌, drop, length, get_or, Option, None, Some, if◌then◌else◌, refl, sym, ap, ◌∙◌, subst, arith}
use Rattle.std.proofs.Math.Nat.{mul-le-mul_left}
use Rattle.std.proofs.Math.Seq.{drop-cons}
use Rattle.std.proofs.lemmas.Bool.{and_parts, cases_lt, lt-ltb, ltb-true}
use Rattle.std.proofs.lemmas.List.{drop_all}
use Rattle.std.proofs.lemmas.Option.{slice_get-get_or, slice_get_within}
use Rattle.regress_meaning.specs.Meaning.{Direction}
use Rattle.regress_meaning.specs.Inputs.{Input}
use Rattle.regress_front_nodes.specs.Trees.{Submatch, lookaround, atomic}
use Rattle.regress_engine_input.specs.Views.{View}
use Rattle.regress_engine_insn.specs.Instructions.{Instruction, Program, Stands}
use Rattle.regress_engine_insn.specs.Instructions as code
use Rattle.regress_engine_runs.specs.States.{Marks}
use Rattle.regress_engine_memory.specs.Flow.{Flow}
use Rattle.regress_engine_linear.specs.Linear.{AreLeaving, is_text_start, is_visited_once, lead_back, loop_size, loop_sizes, repeats_inside}
use Rattle.regress_engine_linear.specs.RankTables.{Heights, rank_at}
use Rattle.regress_engine_ways.specs.Ways.{MayPass, led}
use Rattle.regress_engine_ways.specs.declared.station.Station.{Station}
use Rattle.regress_engine_walks.specs.Walked.{in_loops, lower_among, sizes_from}
use Rattle.regress_engine_walks.proofs.NotBack.{not-back}

-- ---- how many of some addresses are ranked below a rank

module _ (h : Heights) where
  -- no more than there are
  pub lower-few : (r from n : ℕ) → lower_among h r from n ≤ n
  lower-few r from zero = omega arith
  lower-few r from (suc n) = by_test (nat_lt (rank_at h from) r) (lower-few r (suc from) n)
    where
      by_test : (b : Bool) → lower_among h r (suc from) n ≤ n → (if b then 1 else 0) + lower_among h r (suc from) n ≤ suc n
      by_test true few = omega (arith, few)
      by_test false few = omega (arith, few)

  -- a lower rank has no more below it
  lower-le : (r q from n : ℕ) → q ≤ r → lower_among h q from n ≤ lower_among h r from n
  lower-le r q from zero low = omega arith
  lower-le r q from (suc n) low = by_order (cases_lt (rank_at h from) q) (lower-le r q (suc from) n low)
    where
      Less : Bool → Bool → Type 0
      Less b c = (if b then 1 else 0) + lower_among h q (suc from) n ≤ (if c then 1 else 0) + lower_among h r (suc from) n

      by_test : (c : Bool) → lower_among h q (suc from) n ≤ lower_among h r (suc from) n → Less false c
      by_test true rest = omega (arith, rest)
      by_test false rest = omega (arith, rest)

      by_order : (rank_at h from < q) ⊎ (q ≤ rank_at h from) → lower_among h q (suc from) n ≤ lower_among h r (suc from) n
          → Less (nat_lt (rank_at h from) q) (nat_lt (rank_at h from) r)
      by_order (inl less) rest =
          subst (λ b. Less b (nat_lt (rank_at h from) r)) (sym (lt-ltb (rank_at h from) q less)) (subst (Less true) (sym (lt-ltb (rank_at h from) r (omega (arith, less, low)))) (omega (arith, rest)))
      by_order (inr more) rest =
          subst (λ b. Less b (nat_lt (rank_at h from) r)) (sym (never (nat_lt (rank_at h from) q) refl)) (by_test (nat_lt (rank_at h from) r) rest)
        where
          never : (b : Bool) → nat_lt (rank_at h from) q ≡ b → nat_lt (rank_at h from) q ≡ false
          never true is = absurd (let x = ltb-true (rank_at h from) q is in omega (arith, more, x))
          never false is = is

  -- what is ranked between is among those below one and not among those below the other
  pub lower-less : (r q x from n : ℕ) → from ≤ x → x < from + n → q ≤ rank_at h x → rank_at h x < r → lower_among h q from n < lower_among h r from n
  lower-less r q x from zero after ahead low high = absurd (omega (arith, after, ahead))
  lower-less r q x from (suc n) after ahead low high = by_order (cases_lt from x) (lower-less r q x (suc from) n)
    where
      Less : Bool → Bool → Type 0
      Less b c = (if b then 1 else 0) + lower_among h q (suc from) n < (if c then 1 else 0) + lower_among h r (suc from) n

      never : (y : ℕ) → q ≤ y → (b : Bool) → nat_lt y q ≡ b → nat_lt y q ≡ false
      never y more true is = absurd (let x = ltb-true y q is in omega (arith, more, x))
      never y more false is = is

      other : (b c : Bool) → (b ≡ true → c ≡ true) → lower_among h q (suc from) n < lower_among h r (suc from) n → Less b c
      other true true on rest = omega (arith, rest)
      other true false on rest = absurd (let x = on refl in cc x)
      other false true on rest = omega (arith, rest)
      other false false on rest = omega (arith, rest)

      by_order : (from < x) ⊎ (x ≤ from) → (suc from ≤ x → x < suc from + n → q ≤ rank_at h x → rank_at h x < r → lower_among h q (suc from) n < lower_among h r (suc from) n)
          → Less (nat_lt (rank_at h from) q) (nat_lt (rank_at h from) r)
      by_order (inl less) rest =
          other (nat_lt (rank_at h from) q) (nat_lt (rank_at h from) r) (λ is. let y = ltb-true (rank_at h from) q is in lt-ltb (rank_at h from) r (omega (arith, y, low, high)))
          (rest (omega (arith, less)) (omega (arith, ahead)) low high)
      by_order (inr more) rest =
          let same : x ≡ from = omega (arith, after, more) in
          let e = ap (rank_at h) same in
          let few = lower-le r q (suc from) n (omega (arith, low, high)) in
          subst (λ b. Less b (nat_lt (rank_at h from) r)) (sym (never (rank_at h from) (omega (arith, e, low)) (nat_lt (rank_at h from) q) refl))
          (subst (Less false) (sym (lt-ltb (rank_at h from) r (omega (arith, e, high)))) (omega (arith, few)))

  -- an address is not below itself
  pub lower-one : (x from n : ℕ) → from ≤ x → x < from + n → lower_among h (rank_at h x) from n < n
  lower-one x from n after ahead =
      let less = lower-less (suc (rank_at h x)) (rank_at h x) x from n after ahead (omega arith) (omega arith) in
      let few = lower-few (suc (rank_at h x)) from n in
      omega (arith, less, few)

-- ---- the sizes of lookarounds with loops

module _ (program : Program) where
  abbrev is : List Instruction
  is = program.instructions

  abbrev at-one : ℕ → Instruction
  at-one at = get_or is at code.goal

  pub sizes-one : (at : ℕ) → at < length is → sizes_from program at ≡ loop_size program at (at-one at) + sizes_from program (suc at)
  sizes-one at within = ap (loop_sizes program at) (drop-cons is at code.goal within)

  -- with the instruction that stands there
  pub sizes-here : (at : ℕ) (i : Instruction) → Stands program at i → sizes_from program at ≡ loop_size program at i + sizes_from program (suc at)
  sizes-here at i here =
      let within : at < length is = slice_get_within is at i here in
      let same : Some (at-one at) ≡ Some i = sym (slice_get-get_or is at code.goal within) ∙ here in
      let e : at-one at ≡ i = cc in
      sizes-one at within ∙ ap (λ j. loop_size program at j + sizes_from program (suc at)) e

  sizes-past : (at : ℕ) → length is ≤ at → sizes_from program at ≡ 0
  sizes-past at past = ap (loop_sizes program at) (drop_all at is past)

  sizes-next : (at : ℕ) → sizes_from program (suc at) ≤ sizes_from program at
  sizes-next at = by_order (cases_lt at (length is))
    where
      by_order : (at < length is) ⊎ (length is ≤ at) → sizes_from program (suc at) ≤ sizes_from program at
      by_order (inl within) = let one = sizes-one at within in omega (arith, one)
      by_order (inr past) = let none = sizes-past (suc at) (omega (arith, past)) in omega (arith, none)

  same-le : (a b : ℕ) → a ≡ b → sizes_from program a ≤ sizes_from program b
  same-le a b e = let same = ap (sizes_from program) e in omega (arith, same)

  sizes-on : (n at : ℕ) → sizes_from program (n + at) ≤ sizes_from program at
  sizes-on zero at = same-le (0 + at) at (omega arith)
  sizes-on (suc n) at =
      let rest = sizes-on n at in let next = sizes-next (n + at) in let same = same-le (suc n + at) (suc (n + at)) (omega arith) in omega (arith, rest, next, same)

  -- further on there are no more
  pub sizes-le : (at b : ℕ) → at ≤ b → sizes_from program b ≤ sizes_from program at
  sizes-le at b low = let rest = sizes-on (b - at) at in let same : (b - at) + at ≡ b = omega (arith, low) in subst (λ x. sizes_from program x ≤ sizes_from program at) same rest

  -- nor are there further back, where none stands between
  sizes-none : (n b : ℕ) → ((y : ℕ) → b ≤ y → y < n + b → y < length is → loop_size program y (at-one y) ≡ 0) → sizes_from program b ≤ sizes_from program (n + b)
  sizes-none zero b none = same-le b (0 + b) (omega arith)
  sizes-none (suc n) b none = by_order (cases_lt (n + b) (length is)) (sizes-none n b (λ y low less within. none y low (omega (arith, less)) within))
    where
      next : sizes_from program (suc (n + b)) ≤ sizes_from program (suc n + b)
      next = same-le (suc (n + b)) (suc n + b) (omega arith)

      by_order : (n + b < length is) ⊎ (length is ≤ n + b) → sizes_from program b ≤ sizes_from program (n + b) → sizes_from program b ≤ sizes_from program (suc n + b)
      by_order (inl within) rest =
          let one = sizes-one (n + b) within in
          let nothing = none (n + b) (omega arith) (omega arith) within in
          omega (arith, rest, one, nothing, next)
      by_order (inr past) rest = let nothing = sizes-past (n + b) past in omega (arith, rest, nothing, next)

  module _ (flow : Flow) (h : Heights) (v : View) (may : MayPass flow h program v) where
    -- what is visited at most once is told by what leads back
    not-led-back : (y : ℕ) → is_visited_once program y ≡ true → nat_lt y (lead_back (suc y) (drop (suc y) is)) ≡ true
    not-led-back y once = (and_parts (is_text_start (slice_get is 0)) (nat_lt y (lead_back (suc y) (drop (suc y) is))) once).1

    -- a lookaround with loops that leaves groups is visited at most once
    pub sized-once : (y : ℕ) (i : Instruction) → Stands program y i → (loop_size program y i ≡ 0) ⊎ (is_visited_once program y ≡ true)
    sized-once y (code.submatch (lookaround false backward) first last continuation) here = by_test (nat_lt first last) (repeats_inside program y continuation) refl refl
      where
        by_test : (b c : Bool) → nat_lt first last ≡ b → repeats_inside program y continuation ≡ c
            → ((if b && c then continuation - y else 0) ≡ 0) ⊎ (is_visited_once program y ≡ true)
        by_test false c some has = inl refl
        by_test true false some has = inl refl
        by_test true true some has =
            inr (subst (λ b. AreLeaving b h program y first last continuation) has (may.leaves y first last continuation (lookaround false backward) here (ltb-true first last some))).once
    sized-once y i here = inl refl

    -- so a way that leads back leads behind all of them
    pub sizes-led : (told : ℕ → ℕ → Bool) (input : Input) (dir : Direction) (hs : List Marks) (at o : ℕ) (i : Instruction) → Stands program at i → (x : Station)
        → led told program input dir hs i at o ≡ Some x → sizes_from program x.at ≤ sizes_from program at
    sizes-led told input dir hs at o i here x e = by_order (cases_lt x.at at)
      where
        none-there : (y : ℕ) → x.at ≤ y → y < at → y < length is → loop_size program y (at-one y) ≡ 0
        none-there y low less within = by_kind (sized-once y (at-one y) (slice_get-get_or is y code.goal within))
          where
            by_kind : (loop_size program y (at-one y) ≡ 0) ⊎ (is_visited_once program y ≡ true) → loop_size program y (at-one y) ≡ 0
            by_kind (inl none) = none
            by_kind (inr once) =
                let past = not-back program y (not-led-back y once) told input dir hs at o less x i here e in absurd (omega (arith, past, low))

        by_order : (x.at < at) ⊎ (at ≤ x.at) → sizes_from program x.at ≤ sizes_from program at
        by_order (inr further) = sizes-le at x.at further
        by_order (inl back) =
            let same : (at - x.at) + x.at ≡ at = omega (arith, back) in
            subst (λ b. sizes_from program x.at ≤ sizes_from program b) same
            (sizes-none (at - x.at) x.at (λ y low less within. none-there y low (omega (arith, less, back)) within))

-- where a walk begins there are no more than the program has addresses
pub loops-begin : (h : Heights) (program : Program) (v : View) → loop_sizes program 0 program.instructions ≤ length h.order → (start : ℕ)
    → in_loops h program v start 0 ≤ (if start == 0 then suc (length v.units) * length h.order else 0)
loops-begin h program v few start = by_start (start == 0)
  where
    by_start : (b : Bool) → (if b then suc (length v.units) * sizes_from program 0 else 0) ≤ (if b then suc (length v.units) * length h.order else 0)
    by_start true = mul-le-mul_left (suc (length v.units)) few
    by_start false = omega arith
