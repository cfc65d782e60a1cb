-- What a search skips.
use Rattle.std.specs.Prelude.{All, option_map, slice_get, sum_by, replicate, take}
use Rattle.std.proofs.Common.{◌≡◌, ◌≢◌, ◌⊎◌, inl, inr, ℕ, suc, ◌+◌, ◌-◌, ◌<◌, ◌≤◌, Bool, true, false, not, List, [], ◌∷◌, length, Option, Some, None, refl, sym, ap, ◌∙◌, subst, arith}
use Rattle.std.specs.Char.{len_utf8}
use Rattle.std.specs.Str.{IsUtf8, IsAscii, IsCharBoundary}
use Rattle.std.proofs.Common.{length-take-le}
use Rattle.std.proofs.lemmas.Bool.{cases_lt}
use Rattle.std.proofs.lemmas.Str.{IsUtf8-from_ascii, chars-IsAscii, encodes-IsAscii, IsAscii-take}
use Rattle.regress_meaning.specs.Table.{Table}
use Rattle.regress_meaning.specs.TableParts.{is_code_point}
use Rattle.regress_meaning.specs.Meaning.{Context, State, Forward}
use Rattle.regress_meaning.specs.Inputs.{Tells, point_told, context_of}
use Rattle.regress_meaning.specs.Offsets.{Reading, offset, of_utf8}
use Rattle.regress_front_bytes.proofs.TextLemmas.{length-encodes, offset-le, place_of_boundary}
use Rattle.regress_front_nodes.specs.Trees.{Tree}
use Rattle.regress_front_nodes.specs.TreeMeaning.{node_outcomes}
use Rattle.regress_front_nodes.specs.WellFormed.{IsWellFormed}
use Rattle.regress_front_nodes.specs.ByteInputs.{TellsBytes}
use Rattle.regress_engine_input.specs.Views.{View, Kind, utf8, ascii, utf16, ucs2, AreOfKind, are_bytes, in_bytes, in_units, input_of, input_of_kind, reading_of, reading_of_kind}
use Rattle.regress_engine_input.proofs.KindLemmas.{tells, tells_bytes as bytes-told}
use Rattle.regress_engine_input.proofs.UnitTexts.{single_offset}
use Rattle.regress_engine_input.proofs.LowUnits.{low-read, low-place}
use Rattle.regress_engine_search.proofs.UnitsBegin.{units-begin, low-hit}
use Rattle.regress_engine_prefix.specs.Starts.{BeginsAs, is_arbitrary, tells_bytes, HoldsAtStart, HitsBoundaries, IsPlain, Serves}
use Rattle.regress_engine_prefix.specs.declared.start.StartPredicate.{StartPredicate}
use Rattle.regress_engine_prefix.specs.declared.start.StartPredicate.TheVariants.{Arbitrary, ByteSet1, ByteSet2, ByteSet3, ByteSeq, ByteBracket, ByteNear, BytePair, WordStart, StartAnchored}
use Rattle.regress_engine_insn.specs.Instructions.{Program}
use Rattle.regress_engine_insn.specs.Layout.{Target, IsLayout}
use Rattle.regress_engine_runs.specs.States.{Whole, first_state}
use Rattle.regress_engine_runs.specs.Stand.{IsMadeFor, IsFirst}
use Rattle.regress_engine_runs.specs.Items.{Answers, Finds, nowhere}
use Rattle.regress_engine_runs.specs.Meets.{IsAtPlace}
use Rattle.regress_engine_runs.proofs.Computed.{computed-runs, one_run}
use Rattle.regress_engine_runs.proofs.ItemLemmas.{skips}
use Rattle.regress_engine_runs.proofs.WholeTree.{runs_as_tree}
use Rattle.regress_engine_matchers.proofs.ViewLemmas.{view_reads}
use Rattle.regress_engine_search.proofs.FrontUnits.{front-units}
use Rattle.regress_engine_search.proofs.PlaceLemmas.{can-read, end-is}
use Rattle.regress_engine_search.specs.Answering.{FindsOn}
use Rattle.regress_engine_search.specs.Search.{IsSearchable}
use Rattle.regress_engine_search.specs.SearchProps.{rises}
use Rattle.regress_engine_search.specs.Prefiltering.{IsNextHit}
use Rattle.regress_engine_search.specs.Skipping.{MaySkip, IsNextStart}
use Rattle.regress_engine_search.proofs.SearchLemmas.{bytes-units}

-- ---- bytes that hold a text

-- they are its units
pub held-bytes : (kind : Kind) (units bytes : List ℕ) → Some bytes ≡ in_bytes kind (Some units) → bytes ≡ units
held-bytes utf8 units bytes e = cc
held-bytes ascii units bytes e = cc
held-bytes utf16 units bytes e = absurd (cc)
held-bytes ucs2 units bytes e = absurd (cc)

-- and so are 16-bit units that hold one
pub held-units : (kind : Kind) (units held : List ℕ) → Some held ≡ in_units kind (Some units) → (are_bytes kind ≡ false) × (held ≡ units)
held-units utf8 units held e = absurd (cc)
held-units ascii units held e = absurd (cc)
held-units utf16 units held e = (refl, cc)
held-units ucs2 units held e = (refl, cc)

-- a place lies in the text
pub place-lies : (v : View) → AreOfKind v.kind v.units → (o : ℕ) → IsAtPlace (reading_of v) o → o ≤ length v.units
place-lies v all o place = (view_reads v all).inside o (can-read v all o place)

-- ---- what a start predicate of a program's tree lets a search skip

-- the offset of a place in ASCII is its number
ascii-offset : (bytes : List ℕ) → IsAscii bytes → (p : ℕ) → p ≤ length bytes → offset (of_utf8 bytes) p ≡ p
ascii-offset bytes low p room =
    ap (λ cs. sum_by len_utf8 (take p cs)) (chars-IsAscii bytes low)
    ∙ sym (length-encodes (take p bytes)) ∙ ap length (encodes-IsAscii (take p bytes) (IsAscii-take bytes p low)) ∙ length-take-le p bytes room

not-units : (units : Bool) → false ≡ not units → units ≡ true
not-units true e = refl
not-units false e = absurd (cc)

-- where a tree has an outcome the bytes go on as its start predicate says
module _ (t : Tree) (start : StartPredicate) (table : Table) (unicode units : Bool) (serves : Serves units t start) where
  -- what speaks of no bytes speaks of the start of the text, or of nothing
  without_bytes : (p : StartPredicate) → tells_bytes p ≡ false → HoldsAtStart t p → (reading : Reading) (context : Context) → All is_code_point context.text
      → (s : State) → node_outcomes context t Forward s ≢ [] → (bytes : List ℕ) → BeginsAs p bytes (offset reading s.place)
  without_bytes StartAnchored told first reading context points s some bytes = ap (offset reading) (first context points s some)
  without_bytes Arbitrary told first reading context points s some bytes = tt
  without_bytes (ByteSet1 _) told first reading context points s some bytes = absurd (cc)
  without_bytes (ByteSet2 _) told first reading context points s some bytes = absurd (cc)
  without_bytes (ByteSet3 _) told first reading context points s some bytes = absurd (cc)
  without_bytes (ByteSeq _) told first reading context points s some bytes = absurd (cc)
  without_bytes (ByteBracket _) told first reading context points s some bytes = absurd (cc)
  without_bytes (ByteNear _ _) told first reading context points s some bytes = absurd (cc)
  without_bytes (BytePair _) told first reading context points s some bytes = absurd (cc)
  without_bytes (WordStart _) told first reading context points s some bytes = absurd (cc)

  -- where the characters begin so, the units that hold them do
  by_units : (kind : Kind) (held : List ℕ) → AreOfKind kind held → are_bytes kind ≡ false → units ≡ true → (s : State)
      → s.place ≤ length (reading_of_kind kind held).points
      → node_outcomes (context_of (reading_of_kind kind held) (input_of_kind kind table unicode held)) t Forward s ≢ []
      → BeginsAs start held (offset (reading_of_kind kind held) s.place)
  by_units kind held all are is s room some = by_bytes (tells_bytes start) refl
    where
      points : All is_code_point (reading_of_kind kind held).points
      points = (tells kind table unicode held all).points

      by_bytes : (b : Bool) → tells_bytes start ≡ b → BeginsAs start held (offset (reading_of_kind kind held) s.place)
      by_bytes true e =
          units-begin (reading_of_kind kind held).points held (λ p. offset (reading_of_kind kind held) p) points (low-read kind held all are) start (serves.plain is) e s.place
          (front-units kind table unicode held all are s.place room) ((serves.characters is).near _ points s some) ((serves.characters is).apart _ points s some)
          ((serves.characters is).each _ points s some)
      by_bytes false e = without_bytes start e serves.first (reading_of_kind kind held) _ points s some held

  pub outcomes-begin : (kind : Kind) (bytes : List ℕ) → AreOfKind kind bytes → are_bytes kind ≡ not units → (s : State) → s.place ≤ length (reading_of_kind kind bytes).points
      → node_outcomes (context_of (reading_of_kind kind bytes) (input_of_kind kind table unicode bytes)) t Forward s ≢ []
      → BeginsAs start bytes (offset (reading_of_kind kind bytes) s.place)
  outcomes-begin utf8 bytes all same s room some = serves.begins.each bytes all _ refl s some
  outcomes-begin ascii bytes all same s room some =
      subst (BeginsAs start bytes) (ascii-offset bytes all s.place room ∙ sym (single_offset bytes s.place room))
      (serves.begins.each bytes (IsUtf8-from_ascii bytes all) _ (sym (chars-IsAscii bytes all)) s some)
  outcomes-begin utf16 bytes all same s room some = by_units utf16 bytes all refl (not-units units same) s room some
  outcomes-begin ucs2 bytes all same s room some = by_units ucs2 bytes all refl (not-units units same) s room some

-- what may be cut in bytes is a place
cut-place : (kind : Kind) (bytes : List ℕ) → AreOfKind kind bytes → are_bytes kind ≡ true → (o : ℕ) → (IsUtf8 bytes → IsCharBoundary bytes o) → IsAtPlace (reading_of_kind kind bytes) o
cut-place utf8 bytes all are o cut = let (p, room, e) = place_of_boundary bytes all o (cut all) in (p, room, sym e)
cut-place ascii bytes all are o cut = let room = (cut (IsUtf8-from_ascii bytes all)).0 in (o, room, sym (single_offset bytes o room))
cut-place utf16 bytes all are o cut = absurd (cc)
cut-place ucs2 bytes all are o cut = absurd (cc)

-- and so is where a unit below 0x80 stands, and where the text begins
hit-at_place : (v : View) → AreOfKind v.kind v.units → (start : StartPredicate) → is_arbitrary start ≡ false → (are_bytes v.kind ≡ false → IsPlain start)
    → HitsBoundaries start → (o : ℕ) → BeginsAs start v.units o → IsAtPlace (reading_of v) o
hit-at_place v all start known plain cuts o here = by_bytes (tells_bytes start) refl
  where
    at_start : (p : StartPredicate) → is_arbitrary p ≡ false → tells_bytes p ≡ false → BeginsAs p v.units o → o ≡ 0
    at_start StartAnchored known told here = here
    at_start Arbitrary known told here = absurd (cc)
    at_start (ByteSet1 _) known told here = absurd (cc)
    at_start (ByteSet2 _) known told here = absurd (cc)
    at_start (ByteSet3 _) known told here = absurd (cc)
    at_start (ByteSeq _) known told here = absurd (cc)
    at_start (ByteBracket _) known told here = absurd (cc)
    at_start (ByteNear _ _) known told here = absurd (cc)
    at_start (BytePair _) known told here = absurd (cc)
    at_start (WordStart _) known told here = absurd (cc)

    by_kind : tells_bytes start ≡ true → (b : Bool) → are_bytes v.kind ≡ b → IsAtPlace (reading_of v) o
    by_kind told true are = cut-place v.kind v.units all are o (λ utf8. cuts known v.units utf8 o here)
    by_kind told false are = let (b, there, low) = low-hit start (plain are) cuts told v.units o here in low-place v.kind v.units all are o b there low

    by_bytes : (b : Bool) → tells_bytes start ≡ b → IsAtPlace (reading_of v) o
    by_bytes true e = by_kind e (are_bytes v.kind) refl
    by_bytes false e = (0, omega arith, at_start start known e here)

-- a search for the program of a tree may skip what its start predicate passes over
pub layout-skips : (target : Target) (v : View) → AreOfKind v.kind v.units → are_bytes v.kind ≡ not target.program.units → IsMadeFor target (input_of v)
    → (n : ℕ) (t : Tree) → IsWellFormed n t → IsLayout target n t → (start : StartPredicate) → Serves target.program.units t start → MaySkip target.program start v
layout-skips target v all kind made n t formed layout start serves = record {
  begins = begins;
  plain = plain;
  places = λ known o here. hit-at_place v all start known plain serves.boundary o here;
}
  where
    told : Tells (reading_of v) (input_of v)
    told = tells v.kind v.table v.unicode v.units all

    bytes : target.program.units ≡ false → TellsBytes (reading_of v) (input_of v)
    bytes none = bytes-told v.kind v.table v.unicode v.units all (bytes-units (are_bytes v.kind) target.program.units kind none)

    plain : are_bytes v.kind ≡ false → IsPlain start
    plain are = serves.plain (not-units target.program.units (sym are ∙ kind))

    begins : (o : ℕ) → IsAtPlace (reading_of v) o → (w : Whole) → Answers target.program (input_of v) o (Some w) → BeginsAs start v.units o
    begins o (p, room, e) w answers =
        subst (BeginsAs start v.units) (sym e) (outcomes-begin t start v.table v.unicode target.program.units serves v.kind v.units all kind s room some)
      where
        s : State
        s = record { place = p; groups = replicate n None }

        some : node_outcomes (context_of (reading_of v) (input_of v)) t Forward s ≢ []
        some none =
            let (r, run, first) = runs_as_tree target (input_of v) (reading_of v) told bytes made (end-is v all) n t formed layout p room in
            let here = subst (λ x. Answers target.program (input_of v) x (Some w)) e answers in
            let nothing : ◌≡◌ {A = Option Whole} r None = subst (λ ss. IsFirst (reading_of v) ss r) none first in
            let same : ◌≡◌ {A = Option Whole} r (Some w) = (one_run target.program (input_of v) run.1 here.1).1 in
            absurd (cc)

-- ---- what a search skips

module _ (program : Program) (start : StartPredicate) (v : View) (all : AreOfKind v.kind v.units) (searchable : IsSearchable program v) (skip : MaySkip program start v) where
  told : Tells (reading_of v) (input_of v)
  told = tells v.kind v.table v.unicode v.units all

  -- no run has an answer where the text does not go on so
  no-answer : (o : ℕ) → IsAtPlace (reading_of v) o → ¬ BeginsAs start v.units o → Answers program (input_of v) o None
  no-answer o place none =
      let (x, computed) = searchable.ends o place in
      by_answer x.1 (x.0, computed-runs program (input_of v) (suc x.0) Forward (first_state program o ∷ []) x.0 x.1 (computed (suc x.0) (omega arith)))
    where
      by_answer : (r : Option Whole) → Answers program (input_of v) o r → Answers program (input_of v) o None
      by_answer None h = h
      by_answer (Some w) h = absurd (none (skip.begins o place w h))

  -- what is found next is at a place
  hit-place : (from at : ℕ) → IsAtPlace (reading_of v) from → IsNextHit start v.units from (Some at) → IsAtPlace (reading_of v) at
  hit-place from at place (low, here, before) = by_kind (is_arbitrary start) refl
    where
      by_kind : (b : Bool) → is_arbitrary start ≡ b → IsAtPlace (reading_of v) at
      by_kind false e = skip.places e at here
      by_kind true e = by_order (cases_lt from at)
        where
          by_order : (from < at) ⊎ (at ≤ from) → IsAtPlace (reading_of v) at
          by_order (inl less) = absurd (before from (omega arith) less (anywhere start e))
            where
              anywhere : (p : StartPredicate) → is_arbitrary p ≡ true → BeginsAs p v.units from
              anywhere Arbitrary e = tt
              anywhere (ByteSet1 _) e = absurd (cc)
              anywhere (ByteSet2 _) e = absurd (cc)
              anywhere (ByteSet3 _) e = absurd (cc)
              anywhere (ByteSeq _) e = absurd (cc)
              anywhere (ByteBracket _) e = absurd (cc)
              anywhere (ByteNear _ _) e = absurd (cc)
              anywhere (BytePair _) e = absurd (cc)
              anywhere (WordStart _) e = absurd (cc)
              anywhere StartAnchored e = absurd (cc)
          by_order (inr more) = let same : from ≡ at = omega (arith, low, more) in subst (IsAtPlace (reading_of v)) same place

  -- a search goes on from there
  skip-to : (offset' from at : ℕ) → FindsOn program (input_of v) offset' from → IsAtPlace (reading_of v) from → IsNextHit start v.units from (Some at)
      → FindsOn program (input_of v) offset' at
  skip-to offset' from at on (p, low, e) hit = by_place (hit-place from at (p, low, e) hit)
    where
      by_place : IsAtPlace (reading_of v) at → FindsOn program (input_of v) offset' at
      by_place (q, high, f) i finds = by_order (cases_lt q p)
        where
          none : p ≤ q → (x : ℕ) → p ≤ x → x < p + (q - p) → Answers program (input_of v) (offset (reading_of v) x) None
          none order x above below =
              let room : x ≤ length (reading_of v).points = omega (arith, order, high, below) in
              let from_it = offset-le (reading_of v) p x above in
              let to_it = rises v.kind v.units x q (omega (arith, order, below)) high in
              no-answer (offset (reading_of v) x) (x, room, refl) (hit.2 (offset (reading_of v) x) (omega (arith, e, from_it)) (omega (arith, f, to_it)))

          by_order : (q < p) ⊎ (p ≤ q) → Finds program (input_of v) offset' i
          by_order (inl less) = let back = rises v.kind v.units q p less low in absurd (let order = hit.0 in omega (arith, e, f, back, order))
          by_order (inr order) =
              let same : q ≡ p + (q - p) = omega (arith, order) in
              let there : at ≡ offset (reading_of v) (p + (q - p)) = f ∙ ap (offset (reading_of v)) same in
              let here = skips program (input_of v) (reading_of v) told (q - p) p (omega (arith, order, high)) (none order) i (subst (λ o. Finds program (input_of v) o i) there finds) in
              on i (subst (λ o. Finds program (input_of v) o i) (sym e) here)

  -- and where nothing is found next there is no match
  skip-all : (offset' from : ℕ) → FindsOn program (input_of v) offset' from → IsAtPlace (reading_of v) from → IsNextHit start v.units from None
      → Finds program (input_of v) offset' None
  skip-all offset' from on (p, low, e) never =
      let size = length (reading_of v).points in
      let last : p + (size - p) ≡ size = omega (arith, low) in
      let over = skips program (input_of v) (reading_of v) told (size - p) p (omega (arith, low)) (λ x above below. none x above (omega (arith, below, last))) None
      (subst (λ x. Finds program (input_of v) (offset (reading_of v) x) None) (sym last) (nowhere (none size low (omega arith)) at_end)) in
      on None (subst (λ o. Finds program (input_of v) o None) (sym e) over)
    where
      none : (x : ℕ) → p ≤ x → x ≤ length (reading_of v).points → Answers program (input_of v) (offset (reading_of v) x) None
      none x above room =
          let from_it = offset-le (reading_of v) p x above in
          no-answer (offset (reading_of v) x) (x, room, refl) (never (offset (reading_of v) x) (omega (arith, e, from_it)))

      past : (points : List ℕ) → slice_get points (length points) ≡ None
      past [] = refl
      past (c ∷ points) = past points

      at_end : (input_of v).next Forward (offset (reading_of v) (length (reading_of v).points)) ≡ None
      at_end =
          told.next Forward (length (reading_of v).points) (omega arith)
          ∙ ap (λ (o : Option ℕ). option_map (point_told (reading_of v)) (option_map (λ c. (c, suc (length (reading_of v).points))) o)) (past (reading_of v).points)

  -- a search reaches what is found next
  next-start : (from : ℕ) → IsAtPlace (reading_of v) from → (next : Option ℕ) → IsNextHit start v.units from next → IsNextStart program v from next
  next-start from place None never = λ offset' on. skip-all offset' from on place never
  next-start from place (Some at) hit =
      record { low = hit.0; place = hit-place from at place hit; on = λ offset' on. skip-to offset' from at on place hit }

-- over an input, which shows what is read
pub shown-next_start : (program : Program) (start : StartPredicate) (shown v : View) → shown ≡ v → AreOfKind v.kind v.units → IsSearchable program shown → MaySkip program start shown
    → (from : ℕ) → IsAtPlace (reading_of v) from → (next : Option ℕ) → IsNextHit start v.units from next → IsNextStart program v from next
shown-next_start program start shown v shows all searchable skip =
    next-start program start v all (subst (IsSearchable program) shows searchable) (subst (MaySkip program start) shows skip)
