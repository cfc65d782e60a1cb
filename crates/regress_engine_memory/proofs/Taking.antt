-- Over a text each step leads onward, and where it takes characters by at least so many units as the instruction tells.
use Rattle.std.specs.Prelude.{slice_get, slice_range, option_and_then, option_map, nat_le, map}
use Rattle.std.specs.List.{AllByRecursion}
use Rattle.std.proofs.Common.{◌≡◌, ℕ, zero, suc, ◌+◌, ◌-◌, ◌<◌, ◌≤◌, inl, inr, Bool, true, false, List, [], ◌∷◌, length, All, Option, Some, None, if◌then◌else◌, refl, sym, ap, ◌∙◌, subst, arith, length-append, length-drop}
use Rattle.std.proofs.lemmas.Bool.{and_parts, leb-true, cases_lt}
use Rattle.std.proofs.lemmas.List.Elements.{All-nil, All-cons, All-weaker}
use Rattle.std.proofs.lemmas.Str.{chars-nil}
use Rattle.std.proofs.lemmas.Option.{slice_get_within}
use Rattle.regress_meaning.specs.Meaning.{Direction, Forward, Backward}
use Rattle.regress_meaning.specs.Text.{same_text}
use Rattle.regress_meaning.specs.Inputs.{Input, pair_right, onto_right, bytes_right, byte_at}
use Rattle.regress_meaning.specs.Steps.{passed, only_if, literal}
use Rattle.regress_front_nodes.specs.TreeMeaning.{bracket_has}
use Rattle.regress_engine_input.specs.Views.{View, Kind, utf8, ascii, utf16, ucs2, AreOfKind, input_of, input_of_kind, reading_of}
use Rattle.regress_engine_input.proofs.Standing.{stands_right, stands_left, right-split}
use Rattle.regress_engine_insn.specs.Instructions.{Instruction, Program, Stands}
use Rattle.regress_engine_insn.specs.Instructions as code
use Rattle.regress_engine_insn.proofs.LiteralLemmas.{one-character}
use Rattle.regress_engine_runs.specs.States.{Marks, Whole}
use Rattle.regress_engine_runs.specs.Runs.{successors, moved_to, given_back, advance, after_times, as_far, one_by_one, counted}
use Rattle.regress_engine_runs.specs.Meets.{referred, IsAtPlace}
use Rattle.regress_engine_runs.specs.Closed.{takes_character}
use Rattle.regress_engine_search.specs.Search.{Suits}
use Rattle.regress_engine_search.specs.Ready.{IsBody}
use Rattle.regress_engine_search.proofs.PlaceLemmas.{moves}
use Rattle.regress_engine_search.proofs.ReadyLemmas.{body-next}
use Rattle.regress_engine_search.proofs.GivenBack.{given-back}
use Rattle.regress_engine_memory.specs.Under.{IsFurther}
use Rattle.regress_engine_memory.specs.Needs.{taken_by}
use Rattle.regress_engine_memory.proofs.Onward.{Takes, takes-none, takes-one, takes-then, takes-fewer}
use Rattle.regress_engine_memory.proofs.Exits.{All-turned}
use Rattle.regress_engine_memory.proofs.EachState.{each-at}

-- ---- one step

found-inside : (f : ℕ → ℕ × ℕ) (units : List ℕ) (o : ℕ) (x : ℕ × ℕ) → option_map f (slice_get units o) ≡ Some x → o < length units
found-inside f units o x e = by_value (slice_get units o) refl e
  where
    by_value : (y : Option ℕ) → slice_get units o ≡ y → option_map f y ≡ Some x → o < length units
    by_value None here h = absurd (cc h)
    by_value (Some u) here h = slice_get_within units o u here

only-some : (b : Bool) (o q : ℕ) → only_if b o ≡ Some q → (b ≡ true) × (o ≡ q)
only-some true o q e = (refl, cc e)
only-some false o q e = absurd (cc e)

-- bytes or units that stand beside an offset
literal-takes : (input : Input) (dir : Direction) (bs : List ℕ) (o q : ℕ) → literal input dir bs o ≡ Some q → Takes (length input.units) dir (length bs) o q
literal-takes input Forward bs o q e =
    let found = only-some (stands_right input.units o bs) (o + length bs) q e in
    let split = right-split input.units o bs found.0 in
    let size = ap length split.1 in
    let a = length-append bs split.0 in
    let b = length-drop o input.units in
    let same = found.1 in
    (elim (cases_lt 0 (length bs)) [ inl some ↦ inr (omega (arith, same, some), omega (arith, size, a, b, some)) | inr none ↦ inl (omega (arith, same, none)) ], omega (arith, same, size, a, b))
literal-takes input Backward bs o q e =
    let found = only-some (stands_left input.units o bs) (o - length bs) q e in
    let fits = leb-true (length bs) o (and_parts (nat_le (length bs) o) (same_text bs (slice_range input.units (o - length bs) o)) found.0).0 in
    let same = found.1 in
    (elim (cases_lt q o) [ inl less ↦ inr less | inr more ↦ inl (omega (arith, same, more)) ], omega (arith, fits, same))

module _ (v : View) where
  abbrev last_of : ℕ
  last_of = length v.units

  -- behind what is read it is further on
  next-further : (dir : Direction) (o c q : ℕ) → (input_of v).next dir o ≡ Some (c, q) → IsFurther last_of dir o q
  next-further Backward o c q e = moves v Backward o c q e
  next-further Forward o c q e = (moves v Forward o c q e, by_kind v.kind e)
    where
      by_kind : (kind : Kind) → (input_of_kind kind v.table v.unicode v.units).next Forward o ≡ Some (c, q) → o < length v.units
      by_kind utf8 h =
          found-inside (λ w. onto_right o (bytes_right w (byte_at v.units (o + 1)) (byte_at v.units (o + 2)) (byte_at v.units (o + 3)))) v.units o (c, q) h
      by_kind ascii h = found-inside (λ u. (u, suc o)) v.units o (c, q) h
      by_kind utf16 h = found-inside (λ u. pair_right o u (slice_get v.units (suc o))) v.units o (c, q) h
      by_kind ucs2 h = found-inside (λ u. (u, suc o)) v.units o (c, q) h

  bytes-take : (dir : Direction) (bs : List ℕ) (o q : ℕ) → literal (input_of v) dir bs o ≡ Some q → Takes last_of dir (length bs) o q
  bytes-take dir bs o q e = by_kind v.kind e
    where
      by_kind : (kind : Kind) → literal (input_of_kind kind v.table v.unicode v.units) dir bs o ≡ Some q → Takes (length v.units) dir (length bs) o q
      by_kind utf8 h = literal-takes (input_of_kind utf8 v.table v.unicode v.units) dir bs o q h
      by_kind ascii h = literal-takes (input_of_kind ascii v.table v.unicode v.units) dir bs o q h
      by_kind utf16 h = literal-takes (input_of_kind utf16 v.table v.unicode v.units) dir bs o q h
      by_kind ucs2 h = literal-takes (input_of_kind ucs2 v.table v.unicode v.units) dir bs o q h

  passed-takes : (dir : Direction) (test : ℕ → Bool) (o q : ℕ) → passed test ((input_of v).next dir o) ≡ Some q → Takes last_of dir 1 o q
  passed-takes dir test o q e = by_value ((input_of v).next dir o) refl e
    where
      by_test : (b : Bool) (c r : ℕ) → (input_of v).next dir o ≡ Some (c, r) → (if b then Some r else None) ≡ Some q → Takes last_of dir 1 o q
      by_test true c r here h = let same : r ≡ q = cc in takes-one last_of dir o q (subst (λ x. IsFurther last_of dir o x) same (next-further dir o c r here))
      by_test false c r here h = absurd (cc h)

      by_value : (x : Option (ℕ × ℕ)) → (input_of v).next dir o ≡ x → passed test x ≡ Some q → Takes last_of dir 1 o q
      by_value None here h = absurd (cc h)
      by_value (Some (c, r)) here h = by_test (test c) c r here h

  edge-takes : (dir : Direction) (b : Bool) (o q : ℕ) → only_if b o ≡ Some q → Takes last_of dir 0 o q
  edge-takes dir b o q e = takes-none last_of dir o q (only-some b o q e).1

  module _ (program : Program) where
    -- an instruction that refers to no group takes at least what is told
    pub advance-takes : (i : Instruction) (dir : Direction) (groups : List Marks) (o q : ℕ) → referred i ≡ None → advance program (input_of v) i dir groups o ≡ Some q
        → Takes last_of dir (taken_by i) o q
    advance-takes (code.char c) dir groups o q calm e = passed-takes dir _ o q e
    advance-takes (code.char_set cs) dir groups o q calm e = passed-takes dir _ o q e
    advance-takes (code.byte_set bs) dir groups o q calm e = passed-takes dir _ o q e
    advance-takes (code.byte_seq bs) dir groups o q calm e = bytes-take dir bs o q e
    advance-takes code.any dir groups o q calm e = passed-takes dir (λ c. true) o q e
    advance-takes code.any_in_line dir groups o q calm e = passed-takes dir _ o q e
    advance-takes (code.bracket k) dir groups o q calm e = by_bracket (slice_get program.brackets k) e
      where
        by_bracket : (x : Option (Bool × List (ℕ × ℕ))) → option_and_then (λ b. passed (bracket_has b.0 b.1) ((input_of v).next dir o)) x ≡ Some q → Takes last_of dir 1 o q
        by_bracket None h = absurd (cc h)
        by_bracket (Some b) h = passed-takes dir (bracket_has b.0 b.1) o q h
    advance-takes (code.ascii_bracket cs) dir groups o q calm e = passed-takes dir _ o q e
    advance-takes (code.line_start multiline) dir groups o q calm e = edge-takes dir _ o q e
    advance-takes (code.line_end multiline) dir groups o q calm e = edge-takes dir _ o q e
    advance-takes (code.boundary inverted folded) dir groups o q calm e = edge-takes dir _ o q e
    advance-takes (code.back k icase) dir groups o q calm e = absurd (cc calm)
    advance-takes _ dir groups o q calm e = absurd (cc e)

-- what takes one character refers to no group, and takes a unit
pub taking-unreferring : (i : Instruction) → takes_character i ≡ true → referred i ≡ None
taking-unreferring (code.back k icase) e = absurd (grind arith)
taking-unreferring _ e = refl

pub one-takes : (i : Instruction) → takes_character i ≡ true → 1 ≤ taken_by i
one-takes (code.char c) e = omega arith
one-takes (code.char_set cs) e = omega arith
one-takes (code.byte_set bs) e = omega arith
one-takes (code.byte_seq []) e =
    let (c, is) = one-character [] e in
    let never : [] ≡ c ∷ [] = sym chars-nil ∙ is in
    absurd (cc never)
one-takes (code.byte_seq (b ∷ bs)) e = omega arith
one-takes code.any e = omega arith
one-takes code.any_in_line e = omega arith
one-takes (code.bracket k) e = omega arith
one-takes (code.ascii_bracket cs) e = omega arith
one-takes _ e = absurd (cc e)

-- ---- a one-character loop

module _ (v : View) (all : AreOfKind v.kind v.units) (program : Program) (suits : Suits program v) (dir : Direction) (groups : List Marks) (at : ℕ) (i : Instruction)
    (there : Stands program (at - 1) i) (takes : takes_character i ≡ true) where
  abbrev On : (n o q : ℕ) → Type 0
  On n o q = Takes (length v.units) dir n o q

  one-on : (o q : ℕ) → advance program (input_of v) i dir groups o ≡ Some q → On 1 o q
  one-on o q e = takes-fewer (length v.units) dir (taken_by i) 1 o q (one-takes i takes) (advance-takes v program i dir groups o q (taking-unreferring i takes) e)

  pub after-on : (n o q : ℕ) → IsBody program v at o → after_times program (input_of v) n i dir groups o ≡ Some q → On n o q × IsBody program v at q
  unfolding after_times
  after-on zero o q body e = let same : o ≡ q = cc in (takes-none (length v.units) dir o q same, subst (IsBody program v at) same body)
  after-on (suc n) o q body e = by_value (advance program (input_of v) i dir groups o) refl e (after-on n)
    where
      by_value : (x : Option ℕ) → advance program (input_of v) i dir groups o ≡ x → option_and_then (after_times program (input_of v) n i dir groups) x ≡ Some q
          → ((p r : ℕ) → IsBody program v at p → after_times program (input_of v) n i dir groups p ≡ Some r → On n p r × IsBody program v at r) → On (suc n) o q × IsBody program v at q
      by_value None here h rest = absurd (cc h)
      by_value (Some p) here h rest =
          let on = rest p q (body-next v all program suits at o p i dir groups body there here) h in
          (takes-then (length v.units) dir 1 n (suc n) o p q (omega arith) (one-on o p here) on.0, on.1)

  ones-on : (n least base o : ℕ) → On least base o → All (On least base) (one_by_one program (input_of v) n i dir groups o)
  unfolding one_by_one
  ones-on zero least base o on = All-cons (On least base) o [] on (All-nil (On least base))
  ones-on (suc n) least base o on = by_value (advance program (input_of v) i dir groups o) refl (ones-on n least base)
    where
      by_value : (x : Option ℕ) → advance program (input_of v) i dir groups o ≡ x → ((p : ℕ) → On least base p → All (On least base) (one_by_one program (input_of v) n i dir groups p))
          → All (On least base) (o ∷ elim x [ None ↦ [] | Some q ↦ one_by_one program (input_of v) n i dir groups q ])
      by_value None here rest = All-cons (On least base) o [] on (All-nil (On least base))
      by_value (Some p) here rest =
          All-cons (On least base) o (one_by_one program (input_of v) n i dir groups p) on
          (rest p (takes-then (length v.units) dir least 1 least base o p (omega arith) on (one-on o p here)))

  -- each exit is there or further, by as many units as there are iterations at least
  counted-on : (least most : ℕ) (greedy : Bool) (o : ℕ) → IsBody program v at o → All (On least o) (counted program (input_of v) least most greedy i dir groups o)
  counted-on least most greedy o body = by_near (after_times program (input_of v) least i dir groups o) refl
    where
      by_way : (near : ℕ) → On least o near → IsBody program v at near → (g : Bool)
          → All (On least o) (if g then given_back (input_of v) dir near (as_far program (input_of v) (most - least) i dir groups near) else one_by_one program (input_of v) (most - least) i dir groups near)
      by_way near on there' true =
          subst (All (On least o)) (sym (given-back v all program suits dir groups at i (most - least) near there' there))
          (All-turned (On least o) (one_by_one program (input_of v) (most - least) i dir groups near) (ones-on (most - least) least o near on))
      by_way near on there' false = ones-on (most - least) least o near on

      by_near : (x : Option ℕ) → after_times program (input_of v) least i dir groups o ≡ x
          → All (On least o) (elim x [
            | None ↦ []
            | Some near ↦ if greedy then given_back (input_of v) dir near (as_far program (input_of v) (most - least) i dir groups near)
                else one_by_one program (input_of v) (most - least) i dir groups near
          ])
      by_near None here = All-nil (On least o)
      by_near (Some near) here = let on = after-on least o near body here in by_way near on.0 on.1 greedy

-- ---- what holds of each state that an instruction leads to

module _ (v : View) (all : AreOfKind v.kind v.units) (program : Program) (suits : Suits program v) (d : Direction) (P : Whole → Type 0) (s : Whole) where
  -- that takes characters
  pub each-moved : (i : Instruction) → referred i ≡ None → ((q : ℕ) → Takes (length v.units) d (taken_by i) s.offset q → P (record s { at = suc s.at; offset = q }))
      → AllByRecursion P (moved_to s (advance program (input_of v) i d s.groups s.offset))
  each-moved i calm on = by_value (advance program (input_of v) i d s.groups s.offset) refl
    where
      by_value : (x : Option ℕ) → advance program (input_of v) i d s.groups s.offset ≡ x → AllByRecursion P (moved_to s x)
      by_value None here = tt
      by_value (Some q) here = (on q (advance-takes v program i d s.groups s.offset q calm here), tt)

  -- that is a one-character loop
  pub each-single : (least most : ℕ) (greedy : Bool) → Stands program s.at (code.single_loop least most greedy) → IsAtPlace (reading_of v) s.offset
      → ((q : ℕ) → Takes (length v.units) d least s.offset q → P (record s { at = suc (suc s.at); offset = q }))
      → AllByRecursion P (successors program (input_of v) (code.single_loop least most greedy) d s)
  each-single least most greedy here place on =
      let (i, stands, takes, order) = suits.closed s.at (code.single_loop least most greedy) here in
      let before : suc s.at ≡ suc (suc s.at) - 1 = omega arith in
      let there : Stands program (suc (suc s.at) - 1) i = subst (λ a. Stands program a i) before stands in
      let body : IsBody program v (suc (suc s.at)) s.offset = (i, there, takes, place, omega arith) in
      subst (λ (x : Option Instruction). AllByRecursion P (elim x [
        | None ↦ []
        | Some j ↦ map (λ o. record s { at = suc (suc s.at); offset = o }) (counted program (input_of v) least most greedy j d s.groups s.offset)
      ])) (sym stands)
      (each-at P s (suc (suc s.at)) (counted program (input_of v) least most greedy i d s.groups s.offset)
      (All-weaker (Takes (length v.units) d least s.offset) (λ q. P (record s { at = suc (suc s.at); offset = q })) on (counted program (input_of v) least most greedy i d s.groups s.offset)
      (counted-on v all program suits d s.groups (suc (suc s.at)) i there takes least most greedy s.offset body)))
