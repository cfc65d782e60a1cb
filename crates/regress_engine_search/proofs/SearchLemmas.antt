-- A text may be searched with the program of a tree, and what a search finds is at places.
use Rattle.std.specs.Prelude.{option_map, IfSome}
use Rattle.std.proofs.Common.{◌≡◌, ℕ, ◌-◌, ◌<◌, ◌≤◌, Bool, true, false, not, List, [], ◌∷◌, length, map, Option, Some, None, refl, sym, ap, ◌∙◌, subst, arith}
use Rattle.std.proofs.Math.Logic.{∥∥₁_elim}
use Rattle.std.proofs.lemmas.List.Elements.{All-map, All-weaker}
use Rattle.regress_meaning.specs.Meaning.{Forward}
use Rattle.regress_meaning.specs.Inputs.{Input, Tells, context_of}
use Rattle.regress_meaning.specs.Laws.{IsItemInside, LiesIn}
use Rattle.regress_meaning.specs.Matches.{Item}
use Rattle.regress_meaning.specs.Offsets.{Reading, offset, offset_range, told as told_in}
use Rattle.regress_front_core.specs.declared.state.GroupData.{GroupData}
use Rattle.regress_front_bytes.proofs.TextLemmas.{offset-le}
use Rattle.regress_front_nodes.specs.Trees.{Tree}
use Rattle.regress_front_nodes.specs.WellFormed.{IsWellFormed}
use Rattle.regress_front_nodes.specs.NodeMatches.{node_match_list}
use Rattle.regress_front_nodes.specs.ByteInputs.{TellsBytes}
use Rattle.regress_front_nodes.proofs.MatchLemmas.{matches_lie}
use Rattle.regress_engine_input.specs.Views.{View, AreOfKind, are_bytes, input_of, reading_of}
use Rattle.regress_engine_input.proofs.KindLemmas.{tells, tells_bytes}
use Rattle.regress_engine_insn.specs.Instructions.{Program}
use Rattle.regress_engine_insn.specs.Layout.{Target, IsLayout}
use Rattle.regress_engine_runs.specs.States.{Marks, Whole, range_of, first_state}
use Rattle.regress_engine_runs.specs.Computed.{IsComputed}
use Rattle.regress_engine_runs.specs.Items.{Finds, found, later, nowhere, item_of}
use Rattle.regress_engine_runs.specs.Meets.{IsAtPlace, AreAtPlaces}
use Rattle.regress_engine_runs.specs.Stand.{IsMadeFor}
use Rattle.regress_engine_runs.specs.UndoStack.{meets_alone, ReadOn, outermost}
use Rattle.regress_engine_runs.proofs.ClosedLemmas.{layout-closed}
use Rattle.regress_engine_runs.proofs.Computed.{runs-computed}
use Rattle.regress_engine_runs.proofs.FoundItems.{first-holds}
use Rattle.regress_engine_runs.proofs.ItemLemmas.{lists}
use Rattle.regress_engine_runs.proofs.SafeRuns.{reads-where_met}
use Rattle.regress_engine_runs.proofs.WholeTree.{runs_as_tree, runs_safely}
use Rattle.regress_engine_matchers.proofs.ViewLemmas.{view_reads}
use Rattle.regress_engine_search.specs.StateViews.{marks_of, item_with}
use Rattle.regress_engine_search.specs.Answering.{IsAnswer, IsFound, IsOutcome, FindsOn}
use Rattle.regress_engine_search.specs.Search.{IsItemAtPlaces, Listed, IsSearchable}
use Rattle.regress_engine_search.specs.SearchProps.{IsItemAtPlaces-prop}
use Rattle.regress_engine_search.proofs.PlaceLemmas.{can-read, end-is, moves, next-place}

-- a program that is not of units is for bytes
pub bytes-units : (k u : Bool) → k ≡ not u → u ≡ false → k ≡ true
bytes-units k u same none = same ∙ ap not none

-- the items of a tree, told in offsets, are at places
module _ (reading : Reading) where
  range-at_places : (x : ℕ × ℕ) → LiesIn (length reading.points) x → AreAtPlaces reading (offset_range reading x)
  range-at_places x (order, inside) = ((x.0, omega (arith, order, inside), refl), (x.1, inside, refl), offset-le reading x.0 x.1 order)

  group-at_places : (g : Option (ℕ × ℕ)) → IfSome g (LiesIn (length reading.points)) → IfSome (option_map (offset_range reading) g) (AreAtPlaces reading)
  group-at_places None inside = tt
  group-at_places (Some x) inside = range-at_places x inside

  item-at_places : (i : Item) → IsItemInside reading.points i → IsItemAtPlaces reading (told_in reading i)
  item-at_places i inside = (
    range-at_places (i.start, i.end) inside.range,
    All-map (λ g. IfSome g (AreAtPlaces reading)) (option_map (offset_range reading)) i.groups
        (All-weaker (λ g. IfSome g (LiesIn (length reading.points))) (λ g. IfSome (option_map (offset_range reading) g) (AreAtPlaces reading)) group-at_places i.groups inside.groups),
  )

-- a text may be searched with the program of a tree
pub layout-searchable : (target : Target) (v : View) → AreOfKind v.kind v.units → are_bytes v.kind ≡ not target.program.units → IsMadeFor target (input_of v)
    → (n : ℕ) (t : Tree) → IsWellFormed n t → IsLayout target n t → IsSearchable target.program v
layout-searchable target v all kind made n t formed layout = record {
  suits = record { closed = layout-closed target n t formed layout; kind = kind };
  ends = ends;
  reads = reads;
  lists = lists_from;
}
  where
    told : Tells (reading_of v) (input_of v)
    told = tells v.kind v.table v.unicode v.units all

    bytes : target.program.units ≡ false → TellsBytes (reading_of v) (input_of v)
    bytes none = tells_bytes v.kind v.table v.unicode v.units all (bytes-units (are_bytes v.kind) target.program.units kind none)

    ends : (o : ℕ) → IsAtPlace (reading_of v) o → IsComputed target.program (input_of v) Forward (first_state target.program o ∷ [])
    ends o (p, room, e) =
        let run = runs_as_tree target (input_of v) (reading_of v) told bytes made (end-is v all) n t formed layout p room in
        subst (λ x. IsComputed target.program (input_of v) Forward (first_state target.program x ∷ [])) (sym e)
        ((run.1.0, run.0), λ f less. runs-computed target.program (input_of v) run.1.1 f less)

    reads_at : (p : ℕ) → p ≤ length (reading_of v).points
        → ReadOn target.program (input_of v) (reading_of v) Forward (first_state target.program (offset (reading_of v) p) ∷ []) (outermost [])
    reads_at p room s i (meets_alone met) here reads =
        let run = runs_safely target (input_of v) (reading_of v) told bytes made (end-is v all) n t formed layout p room in
        reads-where_met target.program (input_of v) (reading_of v) met run.0 run.1 i here reads

    reads : (o : ℕ) → IsAtPlace (reading_of v) o → ReadOn target.program (input_of v) (reading_of v) Forward (first_state target.program o ∷ []) (outermost [])
    reads o (p, room, e) =
        subst (λ x. ReadOn target.program (input_of v) (reading_of v) Forward (first_state target.program x ∷ []) (outermost [])) (sym e) (reads_at p room)

    lists_from : (p : ℕ) → p ≤ length (reading_of v).points → Listed target.program v (offset (reading_of v) p)
    lists_from p room =
        let context = context_of (reading_of v) (input_of v) in
        let matches : List Item = node_match_list context n t p in
        record {
          items = map (told_in (reading_of v)) matches;
          lists = ∣ lists target.program (input_of v) (reading_of v) told n t (runs_as_tree target (input_of v) (reading_of v) told bytes made (end-is v all) n t formed layout) p room ∣₁;
          inside = All-map (IsItemAtPlaces (reading_of v)) (told_in (reading_of v)) matches
              (All-weaker (λ i. IsItemInside (reading_of v).points i × (length i.groups ≡ n)) (λ i. IsItemAtPlaces (reading_of v) (told_in (reading_of v) i))
              (λ i h. item-at_places (reading_of v) i h.0) matches (matches_lie context n t p));
        }

-- a match that a search finds is at places
pub found-inside : (program : Program) (v : View) → IsSearchable program v → (at : ℕ) → IsAtPlace (reading_of v) at → (i : Item) → Finds program (input_of v) at (Some i)
    → IsItemAtPlaces (reading_of v) i
found-inside program v searchable at (p, room, e) i finds =
    let listed = searchable.lists p room in
    ∥∥₁_elim listed.lists (IsItemAtPlaces-prop v i)
    (λ l. first-holds program (input_of v) (IsItemAtPlaces (reading_of v)) l i (subst (λ o. Finds program (input_of v) o (Some i)) e finds) listed.inside)

-- ---- a search from place to place

module _ (program : Program) (v : View) (all : AreOfKind v.kind v.units) where
  pub search-found : (offset start end : ℕ) (groups : List Marks) → FindsOn program (input_of v) offset start → IsAnswer program (input_of v) start (Some end) groups
      → IsFound program (input_of v) offset (Some (start, end)) groups
  search-found offset start end groups on (w, answers, at, same) = (w, on _ (found answers), at, same)

  pub search-none : (offset start : ℕ) (groups : List Marks) → FindsOn program (input_of v) offset start → IsAnswer program (input_of v) start None groups → (input_of v).next Forward start ≡ None
      → IsFound program (input_of v) offset None groups
  search-none offset start groups on answers none = on None (nowhere answers none)

  pub search-on : (offset start c q : ℕ) (groups : List Marks) → FindsOn program (input_of v) offset start → IsAnswer program (input_of v) start None groups → (input_of v).next Forward start ≡ Some (c, q)
      → FindsOn program (input_of v) offset q
  search-on offset start c q groups on answers next i finds = on i (later answers next finds)

  pub search-less : (start c q : ℕ) → IsAtPlace (reading_of v) start → (input_of v).next Forward start ≡ Some (c, q) → length v.units - q < length v.units - start
  search-less start c q place next =
      let past = moves v Forward start c q next in
      let room = (view_reads v all).inside q (can-read v all q (next-place v all Forward start c q place next)) in
      omega (arith, past, room)

-- ranges of groups, one by one
ranges-are : (gs : List (GroupData ℕ)) → map range_of (map marks_of gs) ≡ map (λ g. range_of (marks_of g)) gs
ranges-are [] = refl
ranges-are (g ∷ gs) = ap (λ xs. range_of (marks_of g) ∷ xs) (ranges-are gs)

-- the item of an answer is that between its ends, with its groups
item-told : (start end : ℕ) (w : Whole) (gs : List (GroupData ℕ)) → w.offset ≡ end → w.groups ≡ map marks_of gs → item_of start w ≡ item_with start end gs
item-told start end w gs last held =
    let ranges : map range_of w.groups ≡ map (λ g. range_of (marks_of g)) gs = ap (map range_of) held ∙ ranges-are gs in
    λ i. record { start = start; end = last i; groups = ranges i }

-- the item of what was found
pub found-item : (program : Program) (input : Input) (at start end : ℕ) (groups : List Marks) (i : Item) (gs : List (GroupData ℕ)) → IsFound program input at (Some (start, end)) groups
    → groups ≡ map marks_of gs → i ≡ item_with start end gs → Finds program input at (Some i)
found-item program input at start end groups i gs (w, finds, last, same) held is =
    subst (λ x. Finds program input at (Some x)) (item-told start end w gs last (same ∙ held) ∙ sym is) finds

-- and of the answer of one run
pub outcome-item : (program : Program) (input : Input) (start end : ℕ) (groups : List Marks) (i : Item) (gs : List (GroupData ℕ)) → IsAnswer program input start (Some end) groups
    → groups ≡ map marks_of gs → i ≡ item_with start end gs → IsOutcome program input start (Some i)
outcome-item program input start end groups i gs (w, answers, last, same) held is = (w, answers, item-told start end w gs last (same ∙ held) ∙ sym is)

-- the item of a run from a place is at places
pub outcome-inside : (program : Program) (v : View) → IsSearchable program v → (at : ℕ) → IsAtPlace (reading_of v) at → (i : Item) → IsOutcome program (input_of v) at (Some i)
    → IsItemAtPlaces (reading_of v) i
outcome-inside program v searchable at place i (w, answers, told) =
    found-inside program v searchable at place i (subst (λ x. Finds program (input_of v) at (Some x)) told (found answers))
