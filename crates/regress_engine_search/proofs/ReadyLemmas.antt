-- When what an instruction reads is there: offsets that are those of places, and where what stands once more ends.
use Rattle.std.proofs.Common.{◌≡◌, ◌==◌, ℕ, zero, suc, ◌-◌, Bool, true, false, not, List, [], length, Option, Some, None, if◌then◌else◌, option_and_then, refl, sym, ap, ◌∙◌, subst, arith}
use Rattle.regress_meaning.specs.Meaning.{Direction, Forward, Backward, same}
use Rattle.regress_meaning.specs.Steps.{copied, repeated, only_if}
use Rattle.regress_engine_input.specs.Views.{View, AreOfKind, CanRead, LiesIn, input_of, reading_of}
use Rattle.regress_engine_input.proofs.KindLemmas.{tells, tells_bytes}
use Rattle.regress_engine_insn.specs.Instructions.{Instruction, Program, Stands}
use Rattle.regress_engine_insn.specs.Instructions as code
use Rattle.regress_engine_runs.specs.States.{Marks, Whole}
use Rattle.regress_engine_runs.specs.Runs.{advance}
use Rattle.regress_engine_runs.specs.Meets.{IsAtPlace, reads_character, ReadsPlaces}
use Rattle.regress_engine_runs.specs.Closed.{Fits, takes_character}
use Rattle.regress_engine_runs.specs.UndoStack.{whole}
use Rattle.regress_engine_runs.proofs.BodyPlaces.{fits-anywhere, body-place}
use Rattle.regress_engine_runs.proofs.RunViews.{one_stands}
use Rattle.regress_engine_matchers.specs.References.{IsPlace}
use Rattle.regress_engine_matchers.proofs.MatcherLemmas.{Reads}
use Rattle.regress_engine_matchers.proofs.ViewLemmas.{view_reads}
use Rattle.regress_engine_search.specs.Search.{Suits}
use Rattle.regress_engine_search.specs.Ready.{IsReady, IsBody, is_simple}
use Rattle.regress_engine_search.proofs.PlaceLemmas.{can-read}

-- an offset of a place, as the matchers have it
pub place_is : (v : View) (o : ℕ) → IsAtPlace (reading_of v) o → IsPlace v o
place_is v o (p, room, here) = (p, room, sym here)

module _ (v : View) (reads : Reads v) (dir : Direction) (icase : Bool) where
  -- what is copied ends where characters may be read
  copied_read : (n from to o q : ℕ) → CanRead v o → copied (input_of v) n dir icase from to o ≡ Some q → CanRead v q
  unfolding copied
  copied_read zero from to o q can e = by_end (from == to) e
    where
      by_end : (b : Bool) → (if b then Some o else None) ≡ Some q → CanRead v q
      by_end true h = let same : o ≡ q = cc in subst (λ (n : ℕ). CanRead v n) same can
      by_end false h = absurd (cc h)
  copied_read (suc n) from to o q can e = by_end (from == to) ((input_of v).next dir from) ((input_of v).next dir o) refl (λ p r there. copied_read n p to r q there) e
    where
      by_same : (b : Bool) (p r : ℕ) → CanRead v r → ((p r : ℕ) → CanRead v r → copied (input_of v) n dir icase p to r ≡ Some q → CanRead v q)
          → (if b then copied (input_of v) n dir icase p to r else None) ≡ Some q → CanRead v q
      by_same true p r there again h = again p r there h
      by_same false p r there again h = absurd (cc h)

      by_end : (b : Bool) (x y : Option (ℕ × ℕ)) → (input_of v).next dir o ≡ y → ((p r : ℕ) → CanRead v r → copied (input_of v) n dir icase p to r ≡ Some q → CanRead v q)
          → (if b then Some o else option_and_then (λ (x : ℕ × ℕ). option_and_then (λ (y : ℕ × ℕ). if same (input_of v).table (input_of v).unicode icase x.0 y.0 then copied (input_of v) n dir icase x.1 to y.1 else None) y) x) ≡ Some q
          → CanRead v q
      by_end true x y read again h = let same : o ≡ q = cc in subst (λ (n : ℕ). CanRead v n) same can
      by_end false None y read again h = absurd (cc h)
      by_end false (Some x) None read again h = absurd (cc h)
      by_end false (Some x) (Some y) read again h =
          by_same (same (input_of v).table (input_of v).unicode icase x.0 y.0) x.1 y.1 (reads.on dir o y can read).0 again h

-- what stands once more ends in the text
pub repeated_lies : (v : View) → AreOfKind v.kind v.units → (dir : Direction) (icase : Bool) (a b o q : ℕ) → CanRead v o
    → only_if true q ≡ repeated (input_of v) dir icase (Some (a, b)) o → LiesIn v q
repeated_lies v all Forward icase a b o q can e =
    let reads = view_reads v all in reads.inside q (copied_read v reads Forward icase _ _ _ o q can (sym e))
repeated_lies v all Backward icase a b o q can e =
    let reads = view_reads v all in reads.inside q (copied_read v reads Backward icase _ _ _ o q can (sym e))

-- where an instruction that reads characters may be asked, characters may be read
pub ready_read : (program : Program) (v : View) → AreOfKind v.kind v.units → (i : Instruction) (groups : List Marks) (o : ℕ) → IsReady program v i groups o
    → reads_character i ≡ true → CanRead v o
ready_read program v all i groups o ready reads = can-read v all o (ready.reads reads).0

-- an instruction that changes nothing but the offset fits wherever it stands
simple-fits : (program : Program) (at : ℕ) (i : Instruction) → is_simple i ≡ true → Fits program at i → Fits program 0 i
simple-fits program at (code.single_loop least most greedy) e fits = absurd (grind arith)
simple-fits program at _ e fits = fits

-- so it may be asked where it stands
pub simple-ready : (program : Program) (v : View) → Suits program v → (i : Instruction) (s : Whole) → Stands program s.at i → is_simple i ≡ true → length s.groups ≡ program.groups
    → (reads_character i ≡ true → ReadsPlaces (reading_of v) i s) → IsReady program v i s.groups s.offset
simple-ready program v suits i s here simple count reads =
    record { fits = simple-fits program s.at i simple (suits.closed s.at i here); count = count; reads = reads }

-- at another place
pub body-at : (program : Program) (v : View) (at o q : ℕ) → IsBody program v at o → IsAtPlace (reading_of v) q → IsBody program v at q
body-at program v at o q (i, here, takes, place, some) there = (i, here, takes, there, some)

-- what is repeated is the same instruction
module _ (v : View) (all : AreOfKind v.kind v.units) (program : Program) (suits : Suits program v) where
  -- what takes one character may be asked at a place
  body-ready : (at : ℕ) (i : Instruction) (groups : List Marks) (o : ℕ) → Fits program at i → takes_character i ≡ true → length groups ≡ program.groups
      → IsAtPlace (reading_of v) o → IsReady program v i groups o
  body-ready at i groups o fits takes count place = record { fits = fits-anywhere program at i fits takes; count = count; reads = λ reads. alone i takes }
    where
      alone : (i : Instruction) → takes_character i ≡ true → ReadsPlaces (reading_of v) i (whole 0 o [] groups)
      alone (code.back k icase) takes = absurd (grind arith)
      alone _ takes = (place, tt)

  pub body-asked : (at o : ℕ) (j : Instruction) (groups : List Marks) → IsBody program v at o → Stands program (at - 1) j → length groups ≡ program.groups → IsReady program v j groups o
  body-asked at o j groups (i, here, takes, place, some) there count =
      let same : i ≡ j = one_stands program (input_of v) (at - 1) i j here there in
      let takes' : takes_character j ≡ true = ap takes_character (sym same) ∙ takes in
      body-ready (at - 1) j groups o (suits.closed (at - 1) j there) takes' count place

  pub body-next : (at o q : ℕ) (j : Instruction) (dir : Direction) (groups : List Marks) → IsBody program v at o → Stands program (at - 1) j
      → advance program (input_of v) j dir groups o ≡ Some q → IsBody program v at q
  body-next at o q j dir groups (i, here, takes, place, some) there e =
      let same : i ≡ j = one_stands program (input_of v) (at - 1) i j here there in
      let takes' : takes_character j ≡ true = ap takes_character (sym same) ∙ takes in
      (j, there, takes', body-place (input_of v) (reading_of v) (tells v.kind v.table v.unicode v.units all) program (λ none. tells_bytes v.kind v.table v.unicode v.units all (suits.kind ∙ ap not none)) (at - 1) j dir groups o q (suits.closed (at - 1) j there) takes' place e, some)
