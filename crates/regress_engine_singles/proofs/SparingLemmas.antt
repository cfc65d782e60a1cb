-- What is known of a program holds of its runs.
use Rattle.std.specs.Prelude.{slice_get, option_and_then, is_some, nat_eq, encode_utf8}
use Rattle.std.specs.Str.{encode_utf8_all}
use Rattle.std.proofs.lemmas.Str.{encodes-chars, IsUtf8-nil}
use Rattle.std.proofs.lemmas.Bool.{true≢false}
use Rattle.std.proofs.lemmas.Option.{slice_get_within}
use Rattle.std.proofs.Common.{◌≡◌, ℕ, ◌+◌, ◌<◌, Bool, true, false, not, List, [], ◌∷◌, ◌++◌, length, Option, Some, None, refl, sym, ap, ◌∙◌, arith}
use Rattle.regress_meaning.specs.Text.{holds}
use Rattle.regress_meaning.specs.Meaning.{Forward, is_line_end}
use Rattle.regress_meaning.specs.Steps.{passed}
use Rattle.regress_meaning.specs.Inputs.{Input}
use Rattle.regress_front_bytes.specs.Bitmaps.{byte_bitmap_contains}
use Rattle.regress_front_bytes.specs.declared.bitmaps.ByteBitmap.{ByteBitmap}
use Rattle.regress_front_nodes.specs.Singles.{is_one_character}
use Rattle.regress_front_nodes.specs.TreeMeaning.{bracket_has}
use Rattle.regress_engine_input.specs.Views.{View, AreOfKind, input_of}
use Rattle.regress_engine_insn.specs.Instructions.{Instruction, LoopFields, Program, Stands}
use Rattle.regress_engine_insn.specs.Instructions as code
use Rattle.regress_engine_analysis.specs.declared.facts.Facts.{Facts}
use Rattle.regress_engine_analysis.specs.declared.facts.Known.TheVariants as fact
use Rattle.regress_engine_analysis.specs.declared.facts.Turn.{Turn}
use Rattle.regress_engine_analysis.specs.MayBegin.{begins, may_begin_with}
use Rattle.regress_engine_analysis.specs.Planned.{AreApart, ArePlanned, firsts, is_class, known_of}
use Rattle.regress_engine_analysis.proofs.PlanLemmas.{end-stands, jump-stands, loop-stands, stands-of}
use Rattle.regress_engine_runs.specs.Closed.{takes_character}
use Rattle.regress_engine_runs.specs.Runs.{advance}
use Rattle.regress_engine_runs.specs.States.{Marks}
use Rattle.regress_engine_search.specs.Search.{Suits}
use Rattle.regress_engine_search.proofs.PlaceLemmas.{can-read, units-are}
use Rattle.regress_engine_singles.specs.Sparing.{IsDeadBefore, IsTurn}
use Rattle.regress_engine_singles.proofs.ByteLemmas.{other-first}
use Rattle.regress_engine_singles.proofs.FirstByteLemmas.{first_byte-dead, first_byte-may}
use Rattle.regress_front_sets.proofs.FirstByteLemmas.{lead}
use Rattle.regress_engine_insn.proofs.LiteralLemmas.{one-character}
use Rattle.regress_engine_prefix.proofs.LeadLemmas.{has-lead}
use Rattle.regress_engine_singles.proofs.LeadAheadLemmas.{lead-of}
use Rattle.regress_engine_singles.proofs.LeadLemmas.{first-of, some-ahead}
use Rattle.regress_engine_singles.proofs.LeadingLemmas.{class-takes}

-- no bytes are no character
no-character : is_one_character [] ≡ true → ⊥
no-character is =
    let (c, e) = one-character [] is in
    let none : encode_utf8 c ++ [] ≡ [] = ap encode_utf8_all (sym e) ∙ encodes-chars [] IsUtf8-nil in
    let never : Some (lead c) ≡ None = sym (first-of c [] ∙ has-lead c) ∙ ap (λ bs. slice_get bs 0) none in
    absurd (cc never)

module _ (program : Program) (facts : List Facts) (planned : ArePlanned program facts) where
  abbrev sets : List ByteBitmap
  sets = firsts facts

  -- what a program tells of an address, it tells of the instruction there
  pub first-told : (at b : ℕ) → b < 256 → may_begin_with sets at b ≡ false
      → (at < length sets) × ((i : Instruction) × Stands program at i × (begins program (may_begin_with sets) i at b ≡ false))
  first-told at b small not_there = (inside, by_insn (slice_get program.instructions at) refl)
    where
      by_set : (x : Option ByteBitmap) → slice_get sets at ≡ x → at < length sets
      by_set None e =
          let never : true ≡ false = ap (λ (x : Option ByteBitmap). elim x [ None ↦ true | Some set ↦ byte_bitmap_contains set b ]) (sym e) ∙ not_there in absurd (true≢false never)
      by_set (Some set) e = slice_get_within sets at set e

      inside : at < length sets
      inside = by_set (slice_get sets at) refl

      by_insn : (x : Option Instruction) → slice_get program.instructions at ≡ x
          → (i : Instruction) × Stands program at i × (begins program (may_begin_with sets) i at b ≡ false)
      by_insn x e = by_told x e (ap (λ (y : Option Instruction). elim y [ None ↦ true | Some i ↦ begins program (may_begin_with sets) i at b ]) (sym e) ∙ sym (planned.first at b inside small) ∙ not_there)
        where
          by_told : (x : Option Instruction) → slice_get program.instructions at ≡ x
              → (elim x as (λ _. Bool) [ None ↦ true | Some i ↦ begins program (may_begin_with sets) i at b ]) ≡ false
              → (i : Instruction) × Stands program at i × (begins program (may_begin_with sets) i at b ≡ false)
          by_told None e f = absurd (true≢false f)
          by_told (Some i) e f = (i, e, f)

  module _ (v : View) (all : AreOfKind v.kind v.units) (suits : Suits program v) where
    abbrev input : Input
    input = input_of v

    -- where no character is ahead a test passes nothing
    end-passes : (test : ℕ → Bool) (o : ℕ) → input.next Forward o ≡ None → None ≡ passed test (input.next Forward o)
    end-passes test o none = ap (passed test) (sym none)

    -- nor is a character taken
    end-takes : (at : ℕ) (i : Instruction) → Stands program at i → takes_character i ≡ true → (groups : List Marks) (o : ℕ) → input.next Forward o ≡ None
        → None ≡ advance program input i Forward groups o
    end-takes at (code.char c) here takes groups o none = end-passes (nat_eq c) o none
    end-takes at (code.char_set cs) here takes groups o none = end-passes (holds cs) o none
    end-takes at (code.byte_set cs) here takes groups o none = end-passes (holds cs) o none
    end-takes at code.any here takes groups o none = end-passes (λ c. true) o none
    end-takes at code.any_in_line here takes groups o none = end-passes (λ c. not (is_line_end c)) o none
    end-takes at (code.ascii_bracket cs) here takes groups o none = end-passes (holds cs) o none
    end-takes at (code.bracket k) here takes groups o none = by_class (slice_get program.brackets k)
      where
        by_class : (x : Option (Bool × List (ℕ × ℕ))) → None ≡ option_and_then (λ y. passed (bracket_has y.0 y.1) (input.next Forward o)) x
        by_class None = refl
        by_class (Some y) = end-passes (bracket_has y.0 y.1) o none
    end-takes at (code.byte_seq []) here takes groups o none = absurd (no-character takes)
    end-takes at (code.byte_seq (c ∷ cs)) here takes groups o none = other-first input (c ∷ cs) o (omega arith) (λ there.
        let are = suits.kind ∙ ap not (suits.closed at (code.byte_seq (c ∷ cs)) here) in
        let some = some-ahead v are o c (ap (λ us. slice_get us o) (sym (units-are v)) ∙ there) in
        absurd (true≢false (sym some ∙ ap is_some none)))
    end-takes at _ here takes groups o none = absurd (grind arith)

    -- where a character is taken one is ahead
    taken-next : (at : ℕ) (i : Instruction) → Stands program at i → takes_character i ≡ true → (groups : List Marks) (o q : ℕ) → advance program input i Forward groups o ≡ Some q
        → (x : ℕ × ℕ) × (input.next Forward o ≡ Some x)
    taken-next at i here takes groups o q e = by_next (input.next Forward o) refl
      where
        by_next : (x : Option (ℕ × ℕ)) → input.next Forward o ≡ x → (y : ℕ × ℕ) × (input.next Forward o ≡ Some y)
        by_next None none = let never : None ≡ Some q = end-takes at i here takes groups o none ∙ e in absurd (cc never)
        by_next (Some x) there = (x, there)

    -- Where a character is taken at one address, no match can be reached from another, if no byte begins both.
    apart-spares : (at other : ℕ) (i : Instruction) → Stands program at i → takes_character i ≡ true → AreApart sets at other → IsDeadBefore program v i other
    apart-spares at other i here takes apart = λ groups o q place e.
        let (x, ahead) = taken-next at i here takes groups o q e in
        let (b, is, outside, small) = lead-of v all o x (can-read v all o place) ahead in
        let may = first_byte-may program v all suits (may_begin_with sets) (length sets) first-told at o q b i groups small is here takes e in
        first_byte-dead program v all suits (may_begin_with sets) (length sets) first-told other o b small is (apart b small outside may)

    -- A loop that is known to give nothing back gives nothing back.
    pub possessive-spares : (at : ℕ) → known_of facts at ≡ fact.Possessive → (i : Instruction) → Stands program (at + 1) i → takes_character i ≡ true → IsDeadBefore program v i (at + 2)
    possessive-spares at e i here takes = apart-spares (at + 1) (at + 2) i here takes (planned.possessive at e)

    -- Iterations that are known to be one character each are.
    pub turn-spares : (at : ℕ) (t : Turn) → known_of facts at ≡ fact.Turn t → (second : ℕ) → Stands program at (code.alt second)
        → (i : Instruction) × (f : LoopFields) × IsTurn program v at second t.begin t.again i f
    turn-spares at t e second ways =
        let is = planned.turn at t e in
        let (i, first, class) = stands-of program is_class (at + 1) is.class in
        let (f, begins) = loop-stands program t.begin is.begins in
        let takes = class-takes i class in (
          i,
          f,
          record {
            class = class;
            first = first;
            jump = jump-stands program t.again (at + 2) is.jump;
            ends = end-stands program t.begin t.again is.ends;
            begins = begins;
            body = is.body;
            way = apart-spares (at + 1) second i first takes (is.way second ways);
            out = apart-spares (at + 1) f.exit i first takes (is.out f begins);
          },
        )
