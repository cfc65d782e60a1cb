-- What a program does: how its instructions lead from state to state, and what a run of it answers. It sees a text through
-- an input.
use Rattle.std.specs.Prelude.{◌≡◌, ℕ, zero, suc, ◌+◌, ◌-◌, Bool, true, false, not, ◌&&◌, ◌==◌, List, [], ◌∷◌, ◌++◌, length, Option, Some, None, if◌then◌else◌, slice_get, slice_set, get_or, map, nat_lt, nat_le, nat_eq, option_and_then}
use Rattle.regress_meaning.specs.Text.{holds}
use Rattle.regress_meaning.specs.Meaning.{Direction, Forward, Backward, is_line_end}
use Rattle.regress_meaning.specs.Inputs.{Input}
use Rattle.regress_meaning.specs.Steps.{passed, only_if, literal, repeated, begins_line, ends_line, at_boundary}
use Rattle.regress_front_nodes.specs.TreeMeaning.{submatch_direction, bracket_has}
use Rattle.regress_front_nodes.specs.Trees.{Submatch, lookaround, atomic}
use Rattle.regress_engine_insn.specs.Instructions.{LoopFields, Instruction, Program, Stands, surplus}
use Rattle.regress_engine_insn.specs.Instructions as code
use Rattle.regress_engine_runs.specs.States.{Marks, unset, range_of, Whole, onward, begun, ended, mixed}

-- What follows a lookaround in a state, by the answer of its contents: negated, the state goes on where there is none; else
-- it goes on where there is one, and takes the groups inside from it.
abbrev pub after_look : (negated : Bool) → (first last continuation : ℕ) → Whole → Option Whole → List Whole
after_look true first last continuation s None = record s { at = continuation } ∷ []
after_look true first last continuation s (Some t) = []
after_look false first last continuation s None = []
after_look false first last continuation s (Some t) =
    record s { at = continuation; groups = mixed 0 first last t.groups s.groups } ∷ []

-- What follows what is matched by itself. An atomic group goes on where its contents end, with the groups inside.
abbrev pub after_submatch : Submatch → (first last continuation : ℕ) → Whole → Option Whole → List Whole
after_submatch (lookaround negated backward) first last continuation s o = after_look negated first last continuation s o
after_submatch atomic first last continuation s None = []
after_submatch atomic first last continuation s (Some t) =
    record s { at = continuation; offset = t.offset; groups = mixed 0 first last t.groups s.groups } ∷ []

-- how many iterations of a loop have begun
abbrev pub count_of : ℕ → Whole → ℕ
count_of id s = (get_or s.loops id (0, 0)).0

-- the state in which one more iteration begins, of a repetition that begins at an address
abbrev pub one_more : (id begin : ℕ) → Whole → Whole
one_more id begin s = record s { at = suc begin; loops = slice_set s.loops id (suc (count_of id s), s.offset) }

-- one more iteration and the exit, those that may be: the first of them first where greedy
abbrev pub ordered : (greedy more out : Bool) → Whole → Whole → List Whole
ordered greedy more out s t =
    let first = if more then s ∷ [] else [] in
    let second = if out then t ∷ [] else [] in
    if greedy then first ++ second else second ++ first

-- how many units lie between an offset and the end of a text that is read in a direction; the first number is the last offset
abbrev pub room : (last : ℕ) → Direction → ℕ → ℕ
room last Forward o = last - o
room last Backward o = o

-- the state in which a repetition begins: so many of its iterations are taken as done
abbrev pub entered : Input → Direction → LoopFields → Whole → Whole
entered input dir f s = record s { loops = slice_set s.loops f.loop_id (surplus f.least (room (length input.units) dir s.offset), s.offset) }

-- how a repetition that begins at an address goes on
abbrev pub choices : LoopFields → (begin : ℕ) → Whole → List Whole
choices f begin s =
    ordered f.greedy (nat_lt (count_of f.loop_id s) f.most) (nat_le f.least (count_of f.loop_id s)) (one_more f.loop_id begin s) (record s { at = f.exit })

-- an iteration past the least number ends where it began
abbrev pub is_idle : LoopFields → Whole → Bool
is_idle f s = let entered = get_or s.loops f.loop_id (0, 0) in nat_lt f.least entered.0 && (entered.1 == s.offset)

-- the state one instruction further and at an offset, where there is one
abbrev pub moved_to : Whole → Option ℕ → List Whole
moved_to s None = []
moved_to s (Some o) = record s { at = suc s.at; offset = o } ∷ []

-- the repetition that an instruction begins
abbrev pub fields_of : Option Instruction → Option LoopFields
fields_of (Some (code.enter_loop f)) = Some f
fields_of _ = None

-- it leads to its successors, whatever other states there are
abbrev pub is_plain : Instruction → Bool
is_plain code.goal = false
is_plain (code.submatch kind first last continuation) = false
is_plain (code.char c) = true
is_plain (code.char_set cs) = true
is_plain (code.byte_set bs) = true
is_plain (code.byte_seq bs) = true
is_plain code.any = true
is_plain code.any_in_line = true
is_plain (code.bracket k) = true
is_plain (code.ascii_bracket cs) = true
is_plain (code.line_start multiline) = true
is_plain (code.line_end multiline) = true
is_plain (code.boundary inverted folded) = true
is_plain (code.back k icase) = true
is_plain (code.enter_loop f) = true
is_plain (code.loop_again begin) = true
is_plain (code.single_loop least most greedy) = true
is_plain (code.jump a) = true
is_plain (code.alt a) = true
is_plain (code.begin_group k) = true
is_plain (code.end_group k) = true
is_plain (code.reset_group k) = true
is_plain code.fail = true

-- the other direction
abbrev pub against : Direction → Direction
against Forward = Backward
against Backward = Forward

-- how many units the second offset lies ahead of the first
abbrev pub gap : Direction → (near far : ℕ) → ℕ
gap Forward near far = far - near
gap Backward near far = near - far

module _ (input : Input) where
  -- the offsets from a far one back to a near one, character by character; the number bounds how many follow the first
  unfoldable pub back_to : ℕ → Direction → (near far : ℕ) → List ℕ
  back_to zero dir near far = far ∷ []
  back_to (suc n) dir near far =
      if gap dir near far == 0 then far ∷ [] else far ∷ elim (input.next (against dir) far) [ None ↦ [] | Some x ↦ back_to n dir near x.1 ]

  -- all of them
  abbrev pub given_back : Direction → (near far : ℕ) → List ℕ
  given_back dir near far = back_to (gap dir near far) dir near far

module _ (program : Program) (input : Input) where
  -- the offset to which an instruction leads that changes nothing but the offset
  abbrev pub advance : Instruction → Direction → List Marks → ℕ → Option ℕ
  advance (code.char c) dir groups o = passed (nat_eq c) (input.next dir o)
  advance (code.char_set cs) dir groups o = passed (holds cs) (input.next dir o)
  advance (code.byte_set bs) dir groups o = passed (holds bs) (input.next dir o)
  advance (code.byte_seq bs) dir groups o = literal input dir bs o
  advance code.any dir groups o = passed (λ c. true) (input.next dir o)
  advance code.any_in_line dir groups o = passed (λ c. not (is_line_end c)) (input.next dir o)
  advance (code.bracket k) dir groups o =
      option_and_then (λ b. passed (bracket_has b.0 b.1) (input.next dir o)) (slice_get program.brackets k)
  advance (code.ascii_bracket cs) dir groups o = passed (holds cs) (input.next dir o)
  advance (code.line_start multiline) dir groups o = only_if (begins_line input multiline o) o
  advance (code.line_end multiline) dir groups o = only_if (ends_line input multiline o) o
  advance (code.boundary inverted folded) dir groups o =
      let d = at_boundary input folded o in only_if (if inverted then not d else d) o
  advance (code.back k icase) dir groups o = repeated input dir icase (range_of (get_or groups k unset)) o
  advance code.goal dir groups o = None
  advance (code.enter_loop f) dir groups o = None
  advance (code.loop_again begin) dir groups o = None
  advance (code.single_loop least most greedy) dir groups o = None
  advance (code.jump a) dir groups o = None
  advance (code.alt a) dir groups o = None
  advance (code.begin_group k) dir groups o = None
  advance (code.end_group k) dir groups o = None
  advance (code.reset_group k) dir groups o = None
  advance (code.submatch kind first last continuation) dir groups o = None
  advance code.fail dir groups o = None

  -- the offset behind so many iterations of an instruction that takes one character, where there are so many
  unfoldable pub after_times : ℕ → Instruction → Direction → List Marks → ℕ → Option ℕ
  after_times zero i dir groups o = Some o
  after_times (suc n) i dir groups o = option_and_then (after_times n i dir groups) (advance i dir groups o)

  -- the offset behind as many as there are, at most so many
  unfoldable pub as_far : ℕ → Instruction → Direction → List Marks → ℕ → ℕ
  as_far zero i dir groups o = o
  as_far (suc n) i dir groups o = elim (advance i dir groups o) [ None ↦ o | Some q ↦ as_far n i dir groups q ]

  -- the offsets behind none, behind one, behind two and so on, at most so many
  unfoldable pub one_by_one : ℕ → Instruction → Direction → List Marks → ℕ → List ℕ
  one_by_one zero i dir groups o = o ∷ []
  one_by_one (suc n) i dir groups o = o ∷ elim (advance i dir groups o) [ None ↦ [] | Some q ↦ one_by_one n i dir groups q ]

  -- The offsets behind each number of iterations from least to most. Where greedy it goes as far as it can, and then gives
  -- back one character after another; else it takes one after another.
  abbrev pub counted : (least most : ℕ) → (greedy : Bool) → Instruction → Direction → List Marks → ℕ → List ℕ
  counted least most greedy i dir groups o = elim (after_times least i dir groups o) [
    | None ↦ []
    | Some near ↦ if greedy then given_back input dir near (as_far (most - least) i dir groups near)
        else one_by_one (most - least) i dir groups near
  ]

  -- The states to which an instruction leads from a state, the most preferred first.
  abbrev pub successors : Instruction → Direction → Whole → List Whole
  successors (code.jump a) dir s = record s { at = a } ∷ []
  successors (code.alt a) dir s = onward s ∷ record s { at = a } ∷ []
  successors (code.begin_group k) dir s =
      onward (record s { groups = slice_set s.groups k (begun dir s.offset (get_or s.groups k unset)) }) ∷ []
  successors (code.end_group k) dir s =
      onward (record s { groups = slice_set s.groups k (ended dir s.offset (get_or s.groups k unset)) }) ∷ []
  successors (code.reset_group k) dir s = onward (record s { groups = slice_set s.groups k unset }) ∷ []
  successors (code.enter_loop f) dir s = choices f s.at (entered input dir f s)
  successors (code.loop_again begin) dir s = elim (fields_of (slice_get program.instructions begin)) [
    | None ↦ []
    | Some f ↦ if is_idle f s then [] else choices f begin s
  ]
  successors (code.single_loop least most greedy) dir s = elim (slice_get program.instructions (suc s.at)) [
    | None ↦ []
    | Some i ↦ map (λ o. record s { at = suc (suc s.at); offset = o }) (counted least most greedy i dir s.groups s.offset)
  ]
  successors i dir s = moved_to s (advance i dir s.groups s.offset)

  -- A run over states that are still to be tried, the most preferred first: how many steps it takes, and its answer.
  pub data Run : Direction → List Whole → ℕ → Option Whole → Type 0 where
    -- with no state left there is none
    ends : {dir : Direction} → Run dir [] 0 None
    -- a first state at its goal is the answer
    finds : {dir : Direction} {s : Whole} {ss : List Whole} → Stands program s.at code.goal → Run dir (s ∷ ss) 1 (Some s)
    -- else its successors take its place
    goes : {dir : Direction} {i : Instruction} {s : Whole} {ss : List Whole} {n : ℕ} {r : Option Whole}
        → Stands program s.at i → is_plain i ≡ true → Run dir (successors i dir s ++ ss) n r → Run dir (s ∷ ss) (suc n) r
    -- and at a lookaround or an atomic group what follows it, by the answer of a run of its contents
    looks : {dir : Direction} {kind : Submatch} {first last continuation : ℕ} {s : Whole} {ss : List Whole}
        {m n : ℕ} {q r : Option Whole} → Stands program s.at (code.submatch kind first last continuation)
        → Run (submatch_direction kind dir) (onward s ∷ []) m q → Run dir (after_submatch kind first last continuation s q ++ ss) n r
        → Run dir (s ∷ ss) (suc (m + n)) r

  -- a run over states has this answer
  abbrev pub Runs : Direction → List Whole → Option Whole → Type 0
  Runs dir ss r = (n : ℕ) × Run dir ss n r
