-- Where a byte stands ahead with which no match from an address may begin, none can be reached from there.
use Rattle.std.specs.Prelude.{slice_get, get_or, is_some, nat_lt, nat_eq, encode_utf8, ◌&&◌, ◌||◌, option_and_then, option_map}
use Rattle.std.proofs.Common.{◌≡◌, ◌⊎◌, inl, inr, ℕ, zero, suc, ◌+◌, ◌<◌, ◌≤◌, Bool, true, false, not, ◌==◌, List, [], ◌∷◌, Option, Some, None, if◌then◌else◌, refl, sym, ap, ◌∙◌, subst, arith}
use Rattle.std.proofs.lemmas.Bool.{eq-eqb, ltb-true, not-false, or_parts, and_from, cases_lt, true≢false}
use Rattle.std.proofs.lemmas.Option.{get_or_from_slice_get}
use Rattle.regress_meaning.specs.Text.{holds}
use Rattle.regress_meaning.specs.Meaning.{Forward, is_line_end, is_some_and}
use Rattle.regress_meaning.specs.Table.{code_points}
use Rattle.regress_meaning.specs.TableParts.{is_code_point}
use Rattle.regress_meaning.specs.Inputs.{Input, is_continuation}
use Rattle.regress_meaning.specs.Steps.{passed, only_if, begins_line, ends_line, at_boundary}
use Rattle.regress_front_nodes.specs.TreeMeaning.{bracket_has}
use Rattle.regress_front_nodes.proofs.EmptyBrackets.{some_below-fails}
use Rattle.regress_front_nodes.specs.Trees.{atomic}
use Rattle.regress_engine_input.specs.Views.{View, AreOfKind, input_of}
use Rattle.regress_engine_insn.specs.Instructions.{LoopFields, Instruction, Program, Stands}
use Rattle.regress_engine_insn.specs.Instructions as code
use Rattle.regress_engine_runs.specs.States.{Marks}
use Rattle.regress_engine_runs.specs.Runs.{advance}
use Rattle.regress_engine_runs.specs.Closed.{takes_character}
use Rattle.regress_engine_runs.proofs.RunViews.{one_stands}
use Rattle.regress_engine_search.specs.Ready.{is_simple}
use Rattle.regress_engine_search.specs.Search.{Suits}
use Rattle.regress_engine_analysis.specs.MayBegin.{leads, may_lead, behind, begins}
use Rattle.regress_engine_singles.specs.Failing.{IsDead, TakesNothing}
use Rattle.regress_engine_singles.specs.Taking.{is_taking}
use Rattle.regress_engine_search.proofs.PlaceLemmas.{units-are}
use Rattle.regress_engine_singles.proofs.ByteLemmas.{other-first}
use Rattle.regress_engine_singles.specs.Leads.{lead_ahead}
use Rattle.regress_engine_singles.proofs.LeadAheadLemmas.{lead-begins, lead-byte, lead-some}
use Rattle.regress_engine_singles.proofs.DeadLemmas.{simple-dead, taken-dead, jump-dead, alt-dead, enter-dead, atomic-dead, begin-dead, end-dead, reset-dead, loop-dead, left-dead}

-- a character fails that begins with a byte with which none begins that passes
leads-fail : (test : ℕ → Bool) (c b : ℕ) → leads test b ≡ false → is_code_point c → slice_get (encode_utf8 c) 0 ≡ Some b → test c ≡ false
leads-fail test c b none point begins = by_test (test c) refl
  where
    by_test : (t : Bool) → test c ≡ t → t ≡ false
    by_test false passes = refl
    by_test true passes =
        let equal : (get_or (encode_utf8 c) 0 0 == b) ≡ true = eq-eqb (get_or (encode_utf8 c) 0 0) b (get_or_from_slice_get (encode_utf8 c) 0 b 0 begins) in
        let fails = some_below-fails code_points c (λ d. test d && (get_or (encode_utf8 d) 0 0 == b)) none (omega (arith, point)) in
        absurd (true≢false (sym (and_from (test c) (get_or (encode_utf8 c) 0 0 == b) passes equal) ∙ fails))

-- an address is behind another where no match from it may begin with a byte
behind-fails : (may : ℕ → ℕ → Bool) (at next b : ℕ) → behind may at next b ≡ false → (at < next) × (may next b ≡ false)
behind-fails may at next b e = let (later, fails) = or_parts (not (nat_lt at next)) (may next b) e in (ltb-true at next (not-false (nat_lt at next) later), fails)

-- of three tests that fail together the last fails where the others pass
rest-fails : (a b c : Bool) → (a && b) ≡ true → (a && b && c) ≡ false → c ≡ false
rest-fails true true c passes e = e
rest-fails true false c passes e = absurd (cc passes)
rest-fails false b c passes e = absurd (cc passes)

-- what takes one character takes something
pub takes-taking : (i : Instruction) → takes_character i ≡ true → is_taking i ≡ true
takes-taking (code.byte_seq bs) takes = refl
takes-taking _ takes = takes

module _ (program : Program) (v : View) (all : AreOfKind v.kind v.units) (suits : Suits program v) (may : ℕ → ℕ → Bool) (o b : ℕ) (is : Some b ≡ lead_ahead v o) where
  abbrev input : Input
  input = input_of v

  -- a test passes nothing where no character that passes begins with the byte
  fails-next : (test : ℕ → Bool) → may_lead test b ≡ false → None ≡ passed test (input.next Forward o)
  fails-next test e =
      let (none, lead) = or_parts (leads test b) (is_continuation b) e in
      let (c, q, next, point, begins) = lead-begins v all o b is lead in
      let fails : test c ≡ false = leads-fail test c b none point begins in
      ap (λ t. if t then Some q else None) (sym fails) ∙ ap (passed test) (sym next)

  -- no line ends where it stands, unless line terminators begin with it
  no-line_end : (multiline : Bool) → (multiline && may_lead is_line_end b) ≡ false → ends_line input multiline o ≡ false
  no-line_end false e = ap (λ t. not t || false) (lead-some v all o b is)
  no-line_end true e =
      let (none, lead) = or_parts (leads is_line_end b) (is_continuation b) e in
      let (c, q, next, point, begins) = lead-begins v all o b is lead in
      let fails : is_line_end c ≡ false = leads-fail is_line_end c b none point begins in
      ap (λ (x : Option (ℕ × ℕ)). not (is_some x) || is_some_and (option_map (λ y. y.0) x) is_line_end) next ∙ fails

  -- where it may not stand, what takes something takes nothing
  first_byte-takes : (at : ℕ) (i : Instruction) → Stands program at i → is_taking i ≡ true → begins program may i at b ≡ false → TakesNothing program input Forward i o
  first_byte-takes at (code.byte_seq []) here taking e groups = absurd (grind arith)
  first_byte-takes at (code.byte_seq (c ∷ cs)) here taking e groups = other-first input (c ∷ cs) o (omega arith) (λ there.
      let are = suits.kind ∙ ap not (suits.closed at (code.byte_seq (c ∷ cs)) here) in
      let same : Some b ≡ Some c = is ∙ lead-byte v are o ∙ ap (λ us. slice_get us o) (sym (units-are v)) ∙ there in
      let equal : c ≡ b = cc in
      let so = eq-eqb c b equal in
      absurd (grind arith))
  first_byte-takes at (code.byte_set cs) here taking e groups = fails-next (holds cs) e
  first_byte-takes at (code.ascii_bracket cs) here taking e groups = fails-next (holds cs) e
  first_byte-takes at (code.char c) here taking e groups = fails-next (nat_eq c) e
  first_byte-takes at (code.char_set cs) here taking e groups = fails-next (holds cs) e
  first_byte-takes at code.any here taking e groups = fails-next (λ c. true) e
  first_byte-takes at code.any_in_line here taking e groups = fails-next (λ c. not (is_line_end c)) e
  first_byte-takes at (code.bracket k) here taking e groups = by_class (slice_get program.brackets k) e
    where
      by_class : (x : Option (Bool × List (ℕ × ℕ))) → elim x [ None ↦ true | Some y ↦ may_lead (bracket_has y.0 y.1) b ] ≡ false
          → None ≡ option_and_then (λ y. passed (bracket_has y.0 y.1) (input.next Forward o)) x
      by_class None f = absurd (grind arith)
      by_class (Some y) f = fails-next (bracket_has y.0 y.1) f
  first_byte-takes at _ here taking e groups = absurd (grind arith)

  -- where a test passes or fails, and what follows leads nowhere
  only-dead : (at : ℕ) (i : Instruction) → Stands program at i → is_simple i ≡ true → (t : Bool) → ((groups : List Marks) → only_if t o ≡ advance program input i Forward groups o)
      → IsDead program input Forward (at + 1) o → IsDead program input Forward at o
  only-dead at i here simple true does next = taken-dead program input Forward at o o i here simple does next
  only-dead at i here simple false does next = simple-dead program input Forward at o i here simple does

  module _ (n : ℕ)
      (told : (at : ℕ) → may at b ≡ false → (at < n) × ((i : Instruction) × Stands program at i × (begins program may i at b ≡ false))) where
    -- the body of a one-character loop takes nothing
    body-takes : (at : ℕ) (i : Instruction) → Stands program at i → takes_character i ≡ true → may at b ≡ false → TakesNothing program input Forward i o
    body-takes at i here takes fails =
        let (low, (j, there, e)) = told at fails in
        let same : j ≡ i = one_stands program input at j i there here in
        first_byte-takes at i here (takes-taking i takes) (subst (λ x. begins program may x at b ≡ false) same e)

    -- one address further
    on : (at : ℕ) → ((next : ℕ) → behind may at next b ≡ false → IsDead program input Forward next o) → behind may at (suc at) b ≡ false → IsDead program input Forward (at + 1) o
    on at rest e = let one : suc at ≡ at + 1 = omega arith in subst (λ a. IsDead program input Forward a o) one (rest (suc at) e)

    -- by what stands at an address
    by_instruction : (at : ℕ) (i : Instruction) → Stands program at i → begins program may i at b ≡ false
        → ((next : ℕ) → behind may at next b ≡ false → IsDead program input Forward next o) → IsDead program input Forward at o
    by_instruction at (code.byte_seq bs) here e rest = simple-dead program input Forward at o (code.byte_seq bs) here refl (first_byte-takes at (code.byte_seq bs) here refl e)
    by_instruction at (code.byte_set cs) here e rest = simple-dead program input Forward at o (code.byte_set cs) here refl (first_byte-takes at (code.byte_set cs) here refl e)
    by_instruction at (code.ascii_bracket cs) here e rest = simple-dead program input Forward at o (code.ascii_bracket cs) here refl (first_byte-takes at (code.ascii_bracket cs) here refl e)
    by_instruction at (code.char c) here e rest = simple-dead program input Forward at o (code.char c) here refl (first_byte-takes at (code.char c) here refl e)
    by_instruction at (code.char_set cs) here e rest = simple-dead program input Forward at o (code.char_set cs) here refl (first_byte-takes at (code.char_set cs) here refl e)
    by_instruction at code.any here e rest = simple-dead program input Forward at o code.any here refl (first_byte-takes at code.any here refl e)
    by_instruction at code.any_in_line here e rest = simple-dead program input Forward at o code.any_in_line here refl (first_byte-takes at code.any_in_line here refl e)
    by_instruction at code.fail here e rest = simple-dead program input Forward at o code.fail here refl (λ groups. refl)
    by_instruction at (code.bracket k) here e rest = simple-dead program input Forward at o (code.bracket k) here refl (first_byte-takes at (code.bracket k) here refl e)
    by_instruction at (code.line_start multiline) here e rest =
        only-dead at (code.line_start multiline) here refl (begins_line input multiline o) (λ groups. refl) (on at rest e)
    by_instruction at (code.line_end multiline) here e rest = by_test (multiline && may_lead is_line_end b) refl
      where
        by_test : (t : Bool) → (multiline && may_lead is_line_end b) ≡ t → IsDead program input Forward at o
        by_test false none = simple-dead program input Forward at o (code.line_end multiline) here refl (λ groups. rw (no-line_end multiline none) refl)
        by_test true some =
            only-dead at (code.line_end multiline) here refl (ends_line input multiline o) (λ groups. refl)
            (on at rest (rest-fails multiline (may_lead is_line_end b) (behind may at (suc at) b) some e))
    by_instruction at (code.boundary inverted folded) here e rest =
        only-dead at (code.boundary inverted folded) here refl (let d = at_boundary input folded o in if inverted then not d else d) (λ groups. refl) (on at rest e)
    by_instruction at (code.submatch atomic first last continuation) here e rest = atomic-dead program input Forward at o first last continuation here (on at rest e)
    by_instruction at (code.begin_group k) here e rest = begin-dead program input Forward at o k here (on at rest e)
    by_instruction at (code.end_group k) here e rest = end-dead program input Forward at o k here (on at rest e)
    by_instruction at (code.reset_group k) here e rest = reset-dead program input Forward at o k here (on at rest e)
    by_instruction at (code.jump a) here e rest = jump-dead program input Forward at o a here (rest a e)
    by_instruction at (code.alt a) here e rest =
        let (first, second) = or_parts (behind may at (suc at) b) (behind may at a b) e in
        alt-dead program input Forward at o a here (on at rest first) (rest a second)
    by_instruction at (code.enter_loop f) here e rest =
        let (body, out) = or_parts (behind may at (suc at) b) (f.least == 0 && behind may at f.exit b) e in
        enter-dead program input Forward at o f here (on at rest body) (λ none. rest f.exit (ap (λ t. t && behind may at f.exit b) (sym (eq-eqb f.least 0 none)) ∙ out))
    by_instruction at (code.single_loop least most greedy) here e rest =
        let (body, out) = or_parts (behind may at (suc at) b) (least == 0 && behind may at (suc (suc at)) b) e in
        let (i, there, takes, order) = suits.closed at (code.single_loop least most greedy) here in
        let one : suc at ≡ at + 1 = omega arith in
        let two : suc (suc at) ≡ at + 2 = omega arith in
        let none = body-takes (suc at) i there takes (behind-fails may at (suc at) b body).1 in
        by_least i (subst (λ a. Stands program a i) one there) none (cases_lt 0 least)
        (λ few. let zero : least ≡ 0 = omega (arith, few) in
        subst (λ a. IsDead program input Forward a o) two (rest (suc (suc at)) (ap (λ t. t && behind may at (suc (suc at)) b) (sym (eq-eqb least 0 zero)) ∙ out)))
      where
        by_least : (i : Instruction) → Stands program (at + 1) i → TakesNothing program input Forward i o → (0 < least) ⊎ (least ≤ 0) → (least ≤ 0 → IsDead program input Forward (at + 2) o)
            → IsDead program input Forward at o
        by_least i there none (inl some) behind = loop-dead program input Forward at o least most greedy i here there some none
        by_least i there none (inr few) behind = left-dead program input Forward at o least most greedy i here there few none (behind few)
    by_instruction at _ here e rest = absurd (grind arith)

    -- so many addresses before the last
    first_byte-before : (m at : ℕ) → n ≤ at + m → may at b ≡ false → IsDead program input Forward at o
    first_byte-before zero at far fails = let (low, rest) = told at fails in absurd (omega (arith, low, far))
    first_byte-before (suc m) at far fails =
        let (low, (i, here, e)) = told at fails in
        by_instruction at i here e (λ next f.
        let (later, also) = behind-fails may at next b f in
        first_byte-before m next (omega (arith, later, far)) also)

-- Where a byte stands ahead with which no match from an address may begin, none can be reached from there.
module _ (program : Program) (v : View) (all : AreOfKind v.kind v.units) (suits : Suits program v) (may : ℕ → ℕ → Bool) (n : ℕ)
    (told : (at b : ℕ) → b < 256 → may at b ≡ false → (at < n) × ((i : Instruction) × Stands program at i × (begins program may i at b ≡ false))) where
  pub first_byte-dead : (at o b : ℕ) → b < 256 → Some b ≡ lead_ahead v o → may at b ≡ false → IsDead program (input_of v) Forward at o
  first_byte-dead at o b byte is fails = first_byte-before program v all suits may o b is n (λ at e. told at b byte e) n at (omega arith) fails

  -- Where a character is read at an address, a match may begin there with the byte ahead.
  pub first_byte-may : (at o q b : ℕ) (i : Instruction) (groups : List Marks) → b < 256 → Some b ≡ lead_ahead v o → Stands program at i → takes_character i ≡ true
      → advance program (input_of v) i Forward groups o ≡ Some q → may at b ≡ true
  first_byte-may at o q b i groups byte is here takes taken = by_test (may at b) refl
    where
      by_test : (t : Bool) → may at b ≡ t → t ≡ true
      by_test true e = refl
      by_test false e =
          let none = body-takes program v all suits may o b is n (λ at e. told at b byte e) at i here takes e groups in
          let never : None ≡ Some q = none ∙ taken in absurd (cc never)
