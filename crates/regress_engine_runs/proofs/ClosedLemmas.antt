-- The program that is a layout is closed.
use Rattle.std.proofs.Common.{◌≡◌, ◌⊎◌, inl, inr, ℕ, zero, suc, ◌+◌, ◌-◌, ◌<◌, ◌≤◌, ◌==◌, Bool, true, false, List, [], ◌∷◌, length, All, Some, if◌then◌else◌, refl, sym, ap, ◌∙◌, subst, arith}
use Rattle.std.proofs.lemmas.Bool.{cases_lt}
use Rattle.std.proofs.lemmas.Bool.Decides.{nat_tests}
use Rattle.std.proofs.lemmas.Option.{slice_get_within}
use Rattle.std.proofs.lemmas.List.Elements.{All-head, All-tail}
use Rattle.regress_front_nodes.specs.Trees.{Tree}
use Rattle.regress_front_nodes.specs.Trees as tree
use Rattle.regress_front_nodes.specs.Forms.{in_reading_order}
use Rattle.regress_front_nodes.specs.Pieces.{pieces_of}
use Rattle.regress_front_nodes.specs.Singles.{takes_one}
use Rattle.regress_front_nodes.specs.WellFormed.{AreLawful, AreNumbered, IsWellFormed, group_ids}
use Rattle.regress_front_nodes.specs.TreeMeaning.{reads_backward}
use Rattle.regress_engine_insn.specs.Instructions.{Instruction, Program, Stands, StandFrom}
use Rattle.regress_engine_insn.specs.Instructions as code
use Rattle.regress_engine_insn.specs.Layout.{char_set_code, byte_set_code, ProgramPoint, next, later, Target, literal_code, pieces_code, string_code, resets, IsBracket, IsOne, AreAll, AreArms, Lies, IsLayout}
use Rattle.regress_engine_insn.proofs.LayoutLemmas.{at-same}
use Rattle.regress_engine_insn.proofs.LiteralLemmas.{one-character, literal-alone}
use Rattle.regress_engine_insn.proofs.TakingLemmas.{OfTaking, char_set-taking, byte_set-taking, literal-taking, pieces-taking}
use Rattle.regress_engine_runs.specs.Closed.{takes_character, Fits, IsClosed}
use Rattle.regress_engine_runs.proofs.Places.{occurs, Lies-rises}
use Rattle.regress_engine_runs.proofs.Looks.{inside_one, outside_none}
use Rattle.regress_engine_runs.proofs.Loops.{within-true, within-false}

-- the instruction of a set that has members takes one character
char_set-takes-one : (cs : List ℕ) → takes_one (tree.char_set cs) ≡ true → takes_character (char_set_code cs) ≡ true
char_set-takes-one [] is = absurd (grind arith)
char_set-takes-one (a ∷ []) is = refl
char_set-takes-one (a ∷ b ∷ []) is = refl
char_set-takes-one (a ∷ b ∷ c ∷ []) is = refl
char_set-takes-one (a ∷ b ∷ c ∷ d ∷ cs) is = refl

byte_set-takes-one : (u : Bool) (bs : List ℕ) → takes_one (tree.byte_set bs) ≡ true → takes_character (byte_set_code u bs) ≡ true
byte_set-takes-one true [] is = absurd (grind arith)
byte_set-takes-one false [] is = absurd (grind arith)
byte_set-takes-one true (a ∷ []) is = refl
byte_set-takes-one false (a ∷ []) is = refl
byte_set-takes-one true (a ∷ b ∷ []) is = refl
byte_set-takes-one true (a ∷ b ∷ c ∷ []) is = refl
byte_set-takes-one true (a ∷ b ∷ c ∷ d ∷ bs) is = refl
byte_set-takes-one false (a ∷ b ∷ bs) is = refl

module _ (program : Program) where
  -- it fits at each address
  abbrev AlwaysFits : Instruction → Type 0
  AlwaysFits i = (at : ℕ) → Fits program at i

  -- each instruction that stands from an address on and up to before another fits
  abbrev AllFit : (low high : ℕ) → Type 0
  AllFit low high = (at : ℕ) (i : Instruction) → low ≤ at → at < high → Stands program at i → Fits program at i

  none-fit : (low high : ℕ) → high ≤ low → AllFit low high
  none-fit low high none at i below above here = absurd (omega (arith, none))

  both-fit : (low middle high : ℕ) → AllFit low middle → AllFit middle high → AllFit low high
  both-fit low middle high first second at i below above here = by_place (cases_lt at middle)
    where
      by_place : (at < middle) ⊎ (middle ≤ at) → Fits program at i
      by_place (inl less) = first at i below less here
      by_place (inr more) = second at i more above here

  -- one instruction
  one-fits : (low : ℕ) (j : Instruction) → Stands program low j → Fits program low j → AllFit low (suc low)
  one-fits low j stands fits at i below above here =
      let same : low ≡ at = omega (arith, below, above) in
      let e : Some j ≡ Some i = sym (subst (λ a. Stands program a j) same stands) ∙ here in
      let f : j ≡ i = cc in
      subst (Fits program at) f (subst (λ a. Fits program a j) same fits)

  -- instructions one after another
  list-fits : (is : List Instruction) (low : ℕ) → StandFrom program low is → All AlwaysFits is → AllFit low (low + length is)
  list-fits [] low stand fit = none-fit low (low + 0) (omega arith)
  list-fits (i ∷ is) low (here, stand) fit =
      let e : suc low + length is ≡ low + suc (length is) = omega arith in
      both-fit low (suc low) (low + suc (length is)) (one-fits low i here (All-head AlwaysFits i is fit low))
      (subst (AllFit (suc low)) e (list-fits is (suc low) stand (All-tail AlwaysFits i is fit)))

  fits-taking : OfTaking program AlwaysFits
  fits-taking = record {
    char = λ c at. tt;
    char_set = λ cs at. tt;
    byte_set = λ bs at. tt;
    byte_seq = λ units bs at. units;
    fail = λ at. tt;
  }

  -- of a literal, of sets, of a string
  literal-fits : (b : Bool) (bs : List ℕ) → All AlwaysFits (literal_code program b bs)
  literal-fits = literal-taking program AlwaysFits fits-taking

  char_set-fits : (cs : List ℕ) → AlwaysFits (char_set_code cs)
  char_set-fits = char_set-taking program AlwaysFits fits-taking

  set-fits : (bs : List ℕ) (u : Bool) → AlwaysFits (byte_set_code u bs)
  set-fits bs u = byte_set-taking program AlwaysFits fits-taking u bs

  pieces-fit : (b : Bool) (ts : List Tree) → All AlwaysFits (pieces_code program b ts)
  pieces-fit = pieces-taking program AlwaysFits fits-taking

  -- resets of groups that are there
  resets-fit : (first n low : ℕ) → ((k : ℕ) → first ≤ k → k < first + n → k < program.groups) → StandFrom program low (resets first n) → AllFit low (low + n)
  resets-fit first zero low groups stand = none-fit low (low + 0) (omega arith)
  resets-fit first (suc n) low groups (here, stand) =
      let e : suc low + n ≡ low + suc n = omega arith in
      both-fit low (suc low) (low + suc n) (one-fits low (code.reset_group first) here (groups first (omega arith) (omega arith)))
      (subst (AllFit (suc low)) e (resets-fit (suc first) n (suc low) (λ k below above. groups k (omega arith) (omega arith)) stand))

module _ (target : Target) where
  abbrev Between : ProgramPoint → ProgramPoint → Type 0
  Between p q = AllFit target.program p.address q.address

  nothing : (p q : ProgramPoint) → q ≡ p → Between p q
  nothing p q e = let a = at-same p q e in none-fit target.program p.address q.address (omega (arith, a))

  single : (i : Instruction) (p q : ProgramPoint) → IsOne target i p q → Fits target.program p.address i → Between p q
  single i p q (here, end) fits = subst (AllFit target.program p.address) (sym (at-same (next p) q end)) (one-fits target.program p.address i here fits)

  several : (is : List Instruction) (p q : ProgramPoint) → AreAll target is p q → All (AlwaysFits target.program) is → Between p q
  several is p q (stand, end) fit = subst (AllFit target.program p.address) (sym (at-same (later p (length is)) q end)) (list-fits target.program is p.address stand fit)

  -- what is before and behind a part
  around : (i j : Instruction) (p m q : ProgramPoint) → Stands target.program p.address i → Fits target.program p.address i → Between (next p) m
      → Stands target.program m.address j → Fits target.program m.address j → AllFit target.program p.address (suc m.address)
  around i j p m q here fits inner there fits' =
      both-fit target.program p.address (suc p.address) (suc m.address) (one-fits target.program p.address i here fits)
      (both-fit target.program (suc p.address) m.address (suc m.address) inner (one-fits target.program m.address j there fits'))

  arms-fit : (b icase : Bool) (strings : List (List ℕ)) (p q : ProgramPoint) → AreArms target b icase strings p q → Between p q
  arms-fit b icase [] p q h = single code.fail p q h tt
  arms-fit b icase (s ∷ []) p q h = several (string_code target b icase s) p q h (pieces-fit target.program b (in_reading_order b (pieces_of target.table icase target.unicode s)))
  arms-fit b icase (s ∷ t ∷ ss) p q (m, first, alt, jump, rest) =
      both-fit target.program p.address (suc m.address) q.address
      (around (code.alt (suc m.address)) (code.jump q.address) p m q alt tt
      (several (string_code target b icase s) (next p) m first (pieces-fit target.program b (in_reading_order b (pieces_of target.table icase target.unicode s)))) jump tt)
      (arms-fit b icase (t ∷ ss) (next m) q rest)

  -- groups inside are there
  groups-inside : (first last : ℕ) (a : Tree) → AreNumbered first last (group_ids a) → ((k : ℕ) → 0 < occurs k a → k < target.program.groups)
      → (k : ℕ) → first ≤ k → k < last → k < target.program.groups
  groups-inside first last a numbered there k below above =
      let one = inside_one first last a numbered k (within-true first last k below above) in there k (omega (arith, one))

  -- a bracket's instruction
  bracket-fits : (inverted : Bool) (intervals : List (ℕ × ℕ)) (i : Instruction) → IsBracket target.program inverted intervals i → (at : ℕ) → Fits target.program at i
  bracket-fits inverted intervals (code.bracket k) is at = slice_get_within target.program.brackets k (inverted, intervals) is
  bracket-fits inverted intervals (code.ascii_bracket cs) is at = tt
  bracket-fits inverted intervals _ is at = absurd is

  bracket-takes : (inverted : Bool) (intervals : List (ℕ × ℕ)) (i : Instruction) → IsBracket target.program inverted intervals i → takes_character i ≡ true
  bracket-takes inverted intervals (code.bracket k) is = refl
  bracket-takes inverted intervals (code.ascii_bracket cs) is = refl
  bracket-takes inverted intervals _ is = absurd is

  -- what takes one character is one instruction that does
  takes-one : (n : ℕ) (a : Tree) (b : Bool) (p q : ProgramPoint) → Lies target b a p q → takes_one a ≡ true → AreLawful n a
      → (i : Instruction) × Stands target.program p.address i × (takes_character i ≡ true)
  takes-one n (tree.char c) b p q h is lawful = (code.char c, h.0, refl)
  takes-one n tree.any b p q h is lawful = (code.any, h.0, refl)
  takes-one n tree.any_in_line b p q h is lawful = (code.any_in_line, h.0, refl)
  takes-one n (tree.byte_set bs) b p q h is lawful = (byte_set_code target.program.units bs, h.0, byte_set-takes-one target.program.units bs is)
  takes-one n (tree.char_set cs) b p q h is lawful = (char_set_code cs, h.0, char_set-takes-one cs is)
  takes-one n (tree.bracket inverted intervals) b p q (i, has, h) is lawful = (i, h.0, bracket-takes inverted intervals i has)
  takes-one n (tree.bytes bs) b p q (stand, end) is lawful =
      let alone = one-character bs is in
      let e = literal-alone target.program b bs alone.0 alone.1 lawful in
      (if target.program.units then code.char alone.0 else code.byte_seq bs, (subst (StandFrom target.program p.address) e stand).0, by_units alone.0 target.program.units)
    where
      by_units : (c : ℕ) (u : Bool) → takes_character (if u then code.char c else code.byte_seq bs) ≡ true
      by_units c true = refl
      by_units c false = is
  takes-one n _ b p q h is lawful = absurd (grind arith)

  -- Between the program points of a tree all fits.
  all-fit : (n : ℕ) (t : Tree) (b : Bool) (p q : ProgramPoint) → Lies target b t p q → AreLawful n t → n ≤ target.program.groups
      → ((k : ℕ) → 0 < occurs k t → k < target.program.groups) → q.loops ≤ target.program.loops → Between p q
  all-fit n tree.empty b p q h lawful count groups loops = nothing p q h
  all-fit n tree.no_part b p q h lawful count groups loops = nothing p q h
  all-fit n (tree.bytes bs) b p q h lawful count groups loops = several (literal_code target.program b bs) p q h (literal-fits target.program b bs)
  all-fit n (tree.cat s t) b p q (m, h, k) lawful count groups loops =
      let rises = Lies-rises target b t m q k in
      both-fit target.program p.address m.address q.address
      (all-fit n s b p m h lawful.0 count (λ j some. groups j (omega (arith, some))) (omega (arith, rises, loops)))
      (all-fit n t b m q k lawful.1 count (λ j some. groups j (omega (arith, some))) loops)
  all-fit n (tree.alt s t) b p q (m, alt, h, jump, k) lawful count groups loops =
      let rises = Lies-rises target b t (next m) q k in
      both-fit target.program p.address (suc m.address) q.address
      (around (code.alt (suc m.address)) (code.jump q.address) p m q alt tt
      (all-fit n s b (next p) m h lawful.0 count (λ j some. groups j (omega (arith, some))) (omega (arith, rises, loops))) jump tt)
      (all-fit n t b (next m) q k lawful.1 count (λ j some. groups j (omega (arith, some))) loops)
  all-fit n (tree.capture k name a) b p q (m, begin, h, end) lawful count groups loops =
      let place = at-same (next m) q end.1 in
      let same = ap (λ (r : ProgramPoint). r.loops) end.1 in
      let here : k < target.program.groups = groups k (omega (arith, own k)) in
      subst (AllFit target.program p.address) (sym place)
      (around (code.begin_group k) (code.end_group k) p m q begin here
      (all-fit n a b (next p) m h lawful.1 count (λ j some. groups j (omega (arith, some))) (omega (arith, same, loops))) end.0 here)
    where
      own : (k : ℕ) → if◌then◌else◌ {A = ℕ} (k == k) 1 0 ≡ 1
      own k = grind (arith, nat_tests)
  all-fit n (tree.submatch kind first last a) b p q (m, begin, h, end) lawful count groups loops =
      let place = at-same (next m) q end.1 in
      let same = ap (λ (r : ProgramPoint). r.loops) end.1 in
      subst (AllFit target.program p.address) (sym place)
      (around (code.submatch kind first last q.address) code.goal p m q begin (groups-inside first last a lawful.0 groups)
      (all-fit n a (reads_backward kind b) (next p) m h lawful.1 count groups (omega (arith, same, loops))) end.0 tt)
  all-fit n (tree.loop a first last least most greedy) b p q (m, begin, reset, h, end) lawful count groups loops =
      let place = at-same (next m) q end.1 in
      let same = ap (λ (r : ProgramPoint). r.loops) end.1 in
      let rises = Lies-rises target b a (record { address = suc p.address + (last - first); loops = suc p.loops }) m h in
      let inside = groups-inside first last a lawful.0 groups in
      subst (AllFit target.program p.address) (sym place)
      (around _ (code.loop_again p.address) p m q begin (omega (arith, rises, same, loops), lawful.1)
      (both-fit target.program (suc p.address) (suc p.address + (last - first)) m.address
      (resets-fit target.program first (last - first) (suc p.address) (λ k below above. inside k below (omega (arith, below, above))) reset)
      (all-fit n a b (record { address = suc p.address + (last - first); loops = suc p.loops }) m h lawful.2 count groups (omega (arith, same, loops))))
      end.0 (_, begin))
  all-fit n (tree.single_loop a least most greedy) b p q (here, h) lawful count groups loops =
      let one = takes-one n a b (next p) q h lawful.0 lawful.2 in
      both-fit target.program p.address (suc p.address) q.address
      (one-fits target.program p.address (code.single_loop least most greedy) here (one.0, one.1, one.2, lawful.1))
      (all-fit n a b (next p) q h lawful.2 count groups loops)
  all-fit n (tree.bracket inverted intervals) b p q (i, is, h) lawful count groups loops = single i p q h (bracket-fits inverted intervals i is p.address)
  all-fit n (tree.string_set strings icase) b p q h lawful count groups loops = arms-fit b icase strings p q h
  all-fit n (tree.back k icase) b p q h lawful count groups loops =
      let low = lawful.0 in let high = lawful.1 in single (code.back (k - 1) icase) p q h (omega (arith, low, high, count))
  all-fit n (tree.byte_set bs) b p q h lawful count groups loops =
      single (byte_set_code target.program.units bs) p q h (set-fits target.program bs target.program.units p.address)
  all-fit n tree.goal b p q h lawful count groups loops = single code.goal p q h tt
  all-fit n (tree.char c) b p q h lawful count groups loops = single (code.char c) p q h tt
  all-fit n (tree.char_set cs) b p q h lawful count groups loops = single (char_set_code cs) p q h (char_set-fits target.program cs p.address)
  all-fit n tree.any b p q h lawful count groups loops = single code.any p q h tt
  all-fit n tree.any_in_line b p q h lawful count groups loops = single code.any_in_line p q h tt
  all-fit n (tree.line_start multiline) b p q h lawful count groups loops = single (code.line_start multiline) p q h tt
  all-fit n (tree.line_end multiline) b p q h lawful count groups loops = single (code.line_end multiline) p q h tt
  all-fit n (tree.boundary inverted folded) b p q h lawful count groups loops = single (code.boundary inverted folded) p q h tt

  -- A program that is the layout of a well-formed tree is closed.
  pub layout-closed : (n : ℕ) (t : Tree) → IsWellFormed n t → IsLayout target n t → IsClosed target.program
  layout-closed n t formed layout at i here =
      let same = layout.groups in
      all-fit n t false (record { address = 0; loops = 0 }) (record { address = length target.program.instructions; loops = target.program.loops })
      layout.lies formed.lawful (omega (arith, same)) groups (omega arith) at i (omega arith) (slice_get_within target.program.instructions at i here) here
    where
      groups : (k : ℕ) → 0 < occurs k t → k < target.program.groups
      groups k some = by_place (cases_lt k n)
        where
          by_place : (k < n) ⊎ (n ≤ k) → k < target.program.groups
          by_place (inl less) = let same = layout.groups in omega (arith, less, same)
          by_place (inr more) = let none = outside_none 0 n t formed.numbered k (within-false 0 n k (inr more)) in absurd (omega (arith, some, none))
