-- What an instruction leads to lies in the text.
use Rattle.std.specs.Prelude.{slice_get, option_and_then, map}
use Rattle.std.specs.List.{AllByRecursion}
use Rattle.std.proofs.Common.{◌≡◌, ℕ, zero, suc, ◌+◌, ◌-◌, ◌≤◌, Bool, true, false, List, [], ◌∷◌, length, All, Option, Some, None, if◌then◌else◌, refl, sym, ap, subst, arith, length-append, length-drop}
use Rattle.std.proofs.lemmas.List.Elements.{All-nil, All-cons}
use Rattle.regress_meaning.specs.Meaning.{Direction, Forward, Backward}
use Rattle.regress_meaning.specs.Inputs.{Input}
use Rattle.regress_meaning.specs.Steps.{passed, only_if, literal}
use Rattle.regress_front_nodes.specs.TreeMeaning.{bracket_has}
use Rattle.regress_engine_input.specs.Views.{View, Kind, utf8, ascii, utf16, ucs2, AreOfKind, input_of, input_of_kind, reading_of}
use Rattle.regress_engine_input.proofs.KindLemmas.{tells}
use Rattle.regress_engine_input.proofs.Standing.{stands_right, right-split}
use Rattle.regress_engine_insn.specs.Instructions.{LoopFields, Instruction, Program, Stands}
use Rattle.regress_engine_insn.specs.Instructions as code
use Rattle.regress_engine_runs.specs.Closed.{takes_character}
use Rattle.regress_engine_runs.specs.States.{Marks, Whole}
use Rattle.regress_engine_runs.specs.Runs.{advance, after_times, as_far, counted, entered, fields_of, given_back, is_plain, moved_to, one_by_one, successors}
use Rattle.regress_engine_runs.specs.Meets.{referred, reads_character, IsAtPlace}
use Rattle.regress_engine_runs.proofs.Literals.{place-on}
use Rattle.regress_engine_search.specs.Ready.{IsBody}
use Rattle.regress_engine_search.specs.Search.{Suits}
use Rattle.regress_engine_search.proofs.GivenBack.{given-back}
use Rattle.regress_engine_search.proofs.ReadyLemmas.{body-next}
use Rattle.regress_engine_search.proofs.SkipLemmas.{place-lies}
use Rattle.regress_engine_memory.proofs.EachState.{each-again, each-at, each-choices}
use Rattle.regress_engine_memory.proofs.Exits.{All-turned}
use Rattle.regress_engine_memory.proofs.Taking.{after-on}

only-one : (b : Bool) (o q : ℕ) → only_if b o ≡ Some q → (b ≡ true) × (o ≡ q)
only-one true o q e = (refl, cc e)
only-one false o q e = absurd (cc e)

-- behind bytes or units that stand there
literal-lies : (input : Input) (dir : Direction) (bs : List ℕ) (o q : ℕ) → o ≤ length input.units → literal input dir bs o ≡ Some q → q ≤ length input.units
literal-lies input Forward bs o q low e =
    let found = only-one (stands_right input.units o bs) (o + length bs) q e in
    let split = right-split input.units o bs found.0 in
    let size = ap length split.1 in
    let a = length-append bs split.0 in
    let b = length-drop o input.units in
    let same = found.1 in
    omega (arith, same, size, a, b, low)
literal-lies input Backward bs o q low e = let same = (only-one _ (o - length bs) q e).1 in omega (arith, same, low)

module _ (v : View) (all : AreOfKind v.kind v.units) (program : Program) (suits : Suits program v) (dir : Direction) where
  abbrev last : ℕ
  last = length v.units

  -- behind a character
  passed-lies : (test : ℕ → Bool) (o q : ℕ) → IsAtPlace (reading_of v) o → passed test ((input_of v).next dir o) ≡ Some q → q ≤ last
  passed-lies test o q place e = place-lies v all q (place-on (input_of v) (reading_of v) (tells v.kind v.table v.unicode v.units all) dir test o q place e)

  bytes-lie : (bs : List ℕ) (o q : ℕ) → o ≤ last → literal (input_of v) dir bs o ≡ Some q → q ≤ last
  bytes-lie bs o q low e = by_kind v.kind e
    where
      by_kind : (kind : Kind) → literal (input_of_kind kind v.table v.unicode v.units) dir bs o ≡ Some q → q ≤ length v.units
      by_kind utf8 h = literal-lies (input_of_kind utf8 v.table v.unicode v.units) dir bs o q low h
      by_kind ascii h = literal-lies (input_of_kind ascii v.table v.unicode v.units) dir bs o q low h
      by_kind utf16 h = literal-lies (input_of_kind utf16 v.table v.unicode v.units) dir bs o q low h
      by_kind ucs2 h = literal-lies (input_of_kind ucs2 v.table v.unicode v.units) dir bs o q low h

  edge-lies : (b : Bool) (o q : ℕ) → o ≤ last → only_if b o ≡ Some q → q ≤ last
  edge-lies b o q low e = let same = (only-one b o q e).1 in omega (arith, same, low)

  -- behind an instruction that changes nothing but the offset
  pub advance-lies : (i : Instruction) (groups : List Marks) (o q : ℕ) → referred i ≡ None → o ≤ last → (reads_character i ≡ true → IsAtPlace (reading_of v) o)
      → advance program (input_of v) i dir groups o ≡ Some q → q ≤ last
  advance-lies (code.char c) groups o q calm low reads e = passed-lies _ o q (reads refl) e
  advance-lies (code.char_set cs) groups o q calm low reads e = passed-lies _ o q (reads refl) e
  advance-lies (code.byte_set bs) groups o q calm low reads e = passed-lies _ o q (reads refl) e
  advance-lies (code.byte_seq bs) groups o q calm low reads e = bytes-lie bs o q low e
  advance-lies code.any groups o q calm low reads e = passed-lies (λ c. true) o q (reads refl) e
  advance-lies code.any_in_line groups o q calm low reads e = passed-lies _ o q (reads refl) e
  advance-lies (code.bracket k) groups o q calm low reads e = by_bracket (slice_get program.brackets k) e
    where
      by_bracket : (x : Option (Bool × List (ℕ × ℕ))) → option_and_then (λ b. passed (bracket_has b.0 b.1) ((input_of v).next dir o)) x ≡ Some q → q ≤ last
      by_bracket None h = absurd (cc h)
      by_bracket (Some b) h = passed-lies (bracket_has b.0 b.1) o q (reads refl) h
  advance-lies (code.ascii_bracket cs) groups o q calm low reads e = passed-lies _ o q (reads refl) e
  advance-lies (code.line_start multiline) groups o q calm low reads e = edge-lies _ o q low e
  advance-lies (code.line_end multiline) groups o q calm low reads e = edge-lies _ o q low e
  advance-lies (code.boundary inverted folded) groups o q calm low reads e = edge-lies _ o q low e
  advance-lies (code.back k icase) groups o q calm low reads e = absurd (cc calm)
  advance-lies _ groups o q calm low reads e = absurd (cc e)

  -- the exits of a one-character loop
  module _ (groups : List Marks) (at : ℕ) (i : Instruction) (there : Stands program (at - 1) i) where
    abbrev Lies : ℕ → Type 0
    Lies q = q ≤ last

    body-lies : (o : ℕ) → IsBody program v at o → o ≤ last
    body-lies o (j, here, takes, place, some) = place-lies v all o place

    ones-lie : (n o : ℕ) → IsBody program v at o → All Lies (one_by_one program (input_of v) n i dir groups o)
    unfolding one_by_one
    ones-lie zero o body = All-cons Lies o [] (body-lies o body) (All-nil Lies)
    ones-lie (suc n) o body = by_value (advance program (input_of v) i dir groups o) refl (ones-lie n)
      where
        by_value : (x : Option ℕ) → advance program (input_of v) i dir groups o ≡ x → ((p : ℕ) → IsBody program v at p → All Lies (one_by_one program (input_of v) n i dir groups p))
            → All Lies (o ∷ elim x [ None ↦ [] | Some q ↦ one_by_one program (input_of v) n i dir groups q ])
        by_value None here rest = All-cons Lies o [] (body-lies o body) (All-nil Lies)
        by_value (Some p) here rest =
            All-cons Lies o (one_by_one program (input_of v) n i dir groups p) (body-lies o body) (rest p (body-next v all program suits at o p i dir groups body there here))

    counted-lie : (takes : takes_character i ≡ true) (least most : ℕ) (greedy : Bool) (o : ℕ) → IsBody program v at o → All Lies (counted program (input_of v) least most greedy i dir groups o)
    counted-lie takes least most greedy o body = by_near (after_times program (input_of v) least i dir groups o) refl
      where
        by_way : (near : ℕ) → IsBody program v at near → (g : Bool)
            → All Lies (if g then given_back (input_of v) dir near (as_far program (input_of v) (most - least) i dir groups near) else one_by_one program (input_of v) (most - least) i dir groups near)
        by_way near there' true =
            subst (All Lies) (sym (given-back v all program suits dir groups at i (most - least) near there' there))
            (All-turned Lies (one_by_one program (input_of v) (most - least) i dir groups near) (ones-lie (most - least) near there'))
        by_way near there' false = ones-lie (most - least) near there'

        by_near : (x : Option ℕ) → after_times program (input_of v) least i dir groups o ≡ x
            → All Lies (elim x [
              | None ↦ []
              | Some near ↦ if greedy then given_back (input_of v) dir near (as_far program (input_of v) (most - least) i dir groups near)
                  else one_by_one program (input_of v) (most - least) i dir groups near
            ])
        by_near None here = All-nil Lies
        by_near (Some near) here = by_way near (after-on v all program suits dir groups at i there takes least o near body here).1 greedy

  -- Each state that an instruction leads to lies in the text.
  abbrev pub In : Whole → Type 0
  In u = u.offset ≤ last

  single-lies : (s : Whole) (least most : ℕ) (greedy : Bool) → Stands program s.at (code.single_loop least most greedy) → IsAtPlace (reading_of v) s.offset
      → AllByRecursion In (successors program (input_of v) (code.single_loop least most greedy) dir s)
  single-lies s least most greedy here place =
      let (i, stands, takes, order) = suits.closed s.at (code.single_loop least most greedy) here in
      let before : suc s.at ≡ suc (suc s.at) - 1 = omega arith in
      let there : Stands program (suc (suc s.at) - 1) i = subst (λ a. Stands program a i) before stands in
      let body : IsBody program v (suc (suc s.at)) s.offset = (i, there, takes, place, omega arith) in
      subst (λ (x : Option Instruction). AllByRecursion In (elim x [
        | None ↦ []
        | Some j ↦ map (λ o. record s { at = suc (suc s.at); offset = o }) (counted program (input_of v) least most greedy j dir s.groups s.offset)
      ])) (sym stands)
      (each-at In s (suc (suc s.at)) (counted program (input_of v) least most greedy i dir s.groups s.offset)
      (counted-lie s.groups (suc (suc s.at)) i there takes least most greedy s.offset body))

  moved-lies : (i : Instruction) (s : Whole) → referred i ≡ None → s.offset ≤ last → (reads_character i ≡ true → IsAtPlace (reading_of v) s.offset)
      → AllByRecursion In (moved_to s (advance program (input_of v) i dir s.groups s.offset))
  moved-lies i s calm low reads = by_value (advance program (input_of v) i dir s.groups s.offset) refl
    where
      by_value : (x : Option ℕ) → advance program (input_of v) i dir s.groups s.offset ≡ x → AllByRecursion In (moved_to s x)
      by_value None here = tt
      by_value (Some q) here = (advance-lies i s.groups s.offset q calm low reads here, tt)

  pub each-lies : (i : Instruction) (s : Whole) → referred i ≡ None → Stands program s.at i → is_plain i ≡ true → s.offset ≤ last
      → (reads_character i ≡ true → IsAtPlace (reading_of v) s.offset) → AllByRecursion In (successors program (input_of v) i dir s)
  each-lies code.goal s calm here plain low reads = absurd (cc plain)
  each-lies code.fail s calm here plain low reads = tt
  each-lies (code.submatch kind first high continuation) s calm here plain low reads = absurd (cc plain)
  each-lies (code.jump a) s calm here plain low reads = (low, tt)
  each-lies (code.alt a) s calm here plain low reads = (low, (low, tt))
  each-lies (code.begin_group k) s calm here plain low reads = (low, tt)
  each-lies (code.end_group k) s calm here plain low reads = (low, tt)
  each-lies (code.reset_group k) s calm here plain low reads = (low, tt)
  each-lies (code.enter_loop f) s calm here plain low reads = each-choices In f s.at (entered (input_of v) dir f s) low low
  each-lies (code.loop_again begin) s calm here plain low reads = each-again In (fields_of (slice_get program.instructions begin)) begin s (λ f is. (low, low))
  each-lies (code.single_loop least most greedy) s calm here plain low reads = single-lies s least most greedy here (reads refl)
  each-lies i s calm here plain low reads = moved-lies i s calm low reads
