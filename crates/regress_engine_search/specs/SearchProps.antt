-- That a text may be searched with a program has one proof at most, and what a search may skip too, so a struct may keep them in
-- ghost fields.
use mathlib.Core.HLevel.{is_prop→PathP, Σ_prop_path, Π_prop, ×_prop, Unit-prop}
use Rattle.std.specs.Coded.{codes, le_prop}
use Rattle.std.specs.Prelude.{◌≡◌, ℕ, suc, ◌<◌, ◌≤◌, Bool, true, false, not, List, [], ◌∷◌, length, Option, Some, None, All, IfSome, get_or, slice_get, ◌⊎◌}
use Rattle.std.proofs.Common.{sym, ◌∙◌, nat_lt, inl, inr, arith}
use Rattle.std.proofs.Math.Logic.{∥∥₁_elim, ∥∥₁_prop}
use Rattle.std.proofs.lemmas.Bool.{cond_both, cases_lt}
use Rattle.std.proofs.lemmas.Str.{len_utf8_bounds}
use Rattle.regress_meaning.specs.Meaning.{Forward}
use Rattle.regress_meaning.specs.Laws.{OffsetsRise}
use Rattle.regress_meaning.specs.Matches.{Item}
use Rattle.regress_meaning.specs.Offsets.{offset, of_utf8, of_ascii, of_utf16, of_ucs2}
use Rattle.regress_meaning.proofs.OffsetLemmas.{rise}
use Rattle.regress_engine_input.specs.Views.{View, Kind, utf8, ascii, utf16, ucs2, are_bytes, input_of, reading_of, reading_of_kind}
use Rattle.regress_engine_insn.specs.Instructions.{LoopFields, Instruction, Program, Stands}
use Rattle.regress_engine_insn.specs.Instructions as code
use Rattle.regress_engine_runs.specs.States.{Whole, unset, range_of, first_state}
use Rattle.regress_engine_runs.specs.Closed.{Fits, IsClosed, takes_character}
use Rattle.regress_engine_runs.specs.Items.{Lists}
use Rattle.regress_engine_runs.specs.Meets.{IsAtPlace, AreAtPlaces, ReadsPlaces, referred}
use Rattle.regress_engine_runs.proofs.ItemLemmas.{one_list}
use Rattle.regress_engine_runs.proofs.OneAnswer.{IsComputed-prop}
use Rattle.regress_engine_scanning.specs.Landmarks.{IsLow}
use Rattle.regress_engine_scanning.specs.declared.landmark.Landmark.{Landmark}
use Rattle.regress_engine_scanning.specs.declared.landmark.Landmark.TheVariants.{Ahead, BehindRun}
use Rattle.regress_engine_prefix.specs.Starts.{BeginsAs, IsPlain}
use Rattle.regress_engine_prefix.specs.declared.start.StartPredicate.{StartPredicate}
use Rattle.regress_engine_prefix.specs.declared.start.StartPredicate.TheVariants.{Arbitrary, ByteSet1, ByteSet2, ByteSet3, ByteSeq, ByteBracket, ByteNear, BytePair, WordStart, StartAnchored}
use Rattle.regress_engine_search.specs.Skipping.{MaySkip}
use Rattle.regress_engine_search.specs.Search.{Suits}
use Rattle.regress_engine_search.specs.Search.{IsItemAtPlaces, Listed, IsSearchable}

-- later places have greater offsets in each kind of text
pub rises : (kind : Kind) (units : List ℕ) → OffsetsRise (reading_of_kind kind units)
rises utf8 units = rise (of_utf8 units) (λ c. (len_utf8_bounds c).0)
rises ascii units = rise (of_ascii units) (λ c. omega arith)
rises utf16 units = rise (of_utf16 units) (λ c. cond_both (nat_lt c 0x1_0000) 1 2 (λ w. 1 ≤ w) (λ e. omega arith) (λ e. omega arith))
rises ucs2 units = rise (of_ucs2 units) (λ c. omega arith)

bool-set : IsSet Bool
bool-set = hlevel codes

nat-set : IsSet ℕ
nat-set = hlevel codes

instruction-set : IsSet Instruction
instruction-set = hlevel codes

item-set : IsSet Item
item-set = hlevel codes

module _ (v : View) where
  -- an offset is that of one place
  pub same_place : (p q : ℕ) → p ≤ length (reading_of v).points → q ≤ length (reading_of v).points → offset (reading_of v) p ≡ offset (reading_of v) q → p ≡ q
  same_place p q low high same = by_order (cases_lt p q) (cases_lt q p)
    where
      by_order : (p < q) ⊎ (q ≤ p) → (q < p) ⊎ (p ≤ q) → p ≡ q
      by_order (inl less) _ = absurd (omega (arith, same, rises v.kind v.units p q less high))
      by_order (inr _) (inl less) = absurd (omega (arith, same, rises v.kind v.units q p less low))
      by_order (inr a) (inr b) = omega (arith, a, b)

  pub IsAtPlace-prop : (o : ℕ) → IsProp (IsAtPlace (reading_of v) o)
  IsAtPlace-prop o x y =
      let same : x.0 ≡ y.0 = same_place x.0 y.0 x.1 y.1 (sym x.2 ∙ y.2) in
      λ i. (
        same i,
        is_prop→PathP (λ j. same j ≤ length (reading_of v).points) (λ j. le_prop) x.1 y.1 i,
        is_prop→PathP (λ j. o ≡ offset (reading_of v) (same j)) (λ j. nat-set o (offset (reading_of v) (same j))) x.2 y.2 i,
      )

  pub AreAtPlaces-prop : (x : ℕ × ℕ) → IsProp (AreAtPlaces (reading_of v) x)
  AreAtPlaces-prop x = hlevel (IsAtPlace-prop, le_prop)

IfSome-prop : {A : Type 0} (P : A → Type 0) → ((x : A) → IsProp (P x)) → (o : Option A) → IsProp (IfSome o P)
IfSome-prop P each None = Unit-prop
IfSome-prop P each (Some x) = each x

All-prop : {A : Type 0} (P : A → Type 0) → ((x : A) → IsProp (P x)) → (xs : List A) → IsProp (All P xs)
All-prop P each xs = Π_prop (λ k. Π_prop (λ d. Π_prop (λ less. each (get_or xs k d))))

-- ---- items

pub IsItemAtPlaces-prop : (v : View) (i : Item) → IsProp (IsItemAtPlaces (reading_of v) i)
IsItemAtPlaces-prop v i = ×_prop (AreAtPlaces-prop v (i.start, i.end)) (All-prop _ (IfSome-prop (AreAtPlaces (reading_of v)) (AreAtPlaces-prop v)) i.groups)

module _ (program : Program) (v : View) where
  -- searches list the same items
  pub same_items : (o : Option ℕ) (items others : List Item) → ∥ Lists program (input_of v) o items ∥₁ → ∥ Lists program (input_of v) o others ∥₁ → items ≡ others
  same_items o items others h k = ∥∥₁_elim h (items-set items others) (λ a. ∥∥₁_elim k (items-set items others) (λ b. one_list program (input_of v) a b))
    where
      items-set : IsSet (List Item)
      items-set = hlevel (codes, item-set)

  Listed-prop : (at : ℕ) → IsProp (Listed program v at)
  Listed-prop at x y =
      let same : x.items ≡ y.items = same_items (Some at) x.items y.items x.lists y.lists in
      λ i. record {
        items = same i;
        lists = is_prop→PathP (λ j. ∥ Lists program (input_of v) (Some at) (same j) ∥₁) (λ j. ∥∥₁_prop) x.lists y.lists i;
        inside = is_prop→PathP (λ j. All (IsItemAtPlaces (reading_of v)) (same j)) (λ j. All-prop _ (IsItemAtPlaces-prop v) (same j)) x.inside y.inside i;
      }

-- ---- instructions

module _ (program : Program) where
  Stands-prop : (at : ℕ) (i : Instruction) → IsProp (Stands program at i)
  Stands-prop at i = option-set (slice_get program.instructions at) (Some i)
    where
      option-set : IsSet (Option Instruction)
      option-set = hlevel (codes, instruction-set)

  -- one repetition begins at an address
  begins-prop : (at : ℕ) → IsProp ((f : LoopFields) × Stands program at (code.enter_loop f))
  begins-prop at x y =
      let e : ◌≡◌ {A = Option Instruction} (Some (code.enter_loop x.0)) (Some (code.enter_loop y.0)) = sym x.1 ∙ y.1 in
      let same : x.0 ≡ y.0 = cc in
      Σ_prop_path (λ (f : LoopFields). Stands-prop at (code.enter_loop f)) same

  -- one instruction stands at an address
  takes-prop : (at least most : ℕ) → IsProp ((i : Instruction) × Stands program at i × (takes_character i ≡ true) × (least ≤ most))
  takes-prop at least most x y =
      let e : ◌≡◌ {A = Option Instruction} (Some x.0) (Some y.0) = sym x.1 ∙ y.1 in
      let same : x.0 ≡ y.0 = cc in
      λ i. (
        same i,
        is_prop→PathP (λ j. Stands program at (same j)) (λ j. Stands-prop at (same j)) x.1 y.1 i,
        is_prop→PathP (λ j. takes_character (same j) ≡ true) (λ j. bool-set (takes_character (same j)) true) x.2 y.2 i,
        le_prop x.3 y.3 i,
      )

  Fits-prop : (at : ℕ) (i : Instruction) → IsProp (Fits program at i)
  Fits-prop at (code.byte_seq bs) = bool-set program.units false
  Fits-prop at (code.bracket k) = le_prop
  Fits-prop at (code.back k icase) = le_prop
  Fits-prop at (code.enter_loop f) = ×_prop le_prop le_prop
  Fits-prop at (code.loop_again begin) = begins-prop begin
  Fits-prop at (code.single_loop least most greedy) = takes-prop (suc at) least most
  Fits-prop at (code.begin_group k) = le_prop
  Fits-prop at (code.end_group k) = le_prop
  Fits-prop at (code.reset_group k) = le_prop
  Fits-prop at (code.submatch kind first last continuation) = Π_prop (λ k. Π_prop (λ low. Π_prop (λ high. le_prop)))
  Fits-prop at code.goal = Unit-prop
  Fits-prop at (code.char c) = Unit-prop
  Fits-prop at (code.char_set cs) = Unit-prop
  Fits-prop at (code.byte_set bs) = Unit-prop
  Fits-prop at code.any = Unit-prop
  Fits-prop at code.any_in_line = Unit-prop
  Fits-prop at (code.ascii_bracket cs) = Unit-prop
  Fits-prop at (code.line_start multiline) = Unit-prop
  Fits-prop at (code.line_end multiline) = Unit-prop
  Fits-prop at (code.boundary inverted folded) = Unit-prop
  Fits-prop at (code.jump a) = Unit-prop
  Fits-prop at (code.alt a) = Unit-prop
  Fits-prop at code.fail = Unit-prop

-- ---- searches

module _ (program : Program) (v : View) where
  ReadsPlaces-prop : (i : Instruction) (s : Whole) → IsProp (ReadsPlaces (reading_of v) i s)
  ReadsPlaces-prop i s =
      ×_prop (IsAtPlace-prop v s.offset)
      (IfSome-prop _ (λ k. IfSome-prop (AreAtPlaces (reading_of v)) (AreAtPlaces-prop v) (range_of (get_or s.groups k unset))) (referred i))

  IsClosed-prop : IsProp (IsClosed program)
  IsClosed-prop = Π_prop (λ at. Π_prop (λ i. Π_prop (λ stands. Fits-prop program at i)))

  Suits-prop : IsProp (Suits program v)
  Suits-prop x y = λ i. record { closed = IsClosed-prop x.closed y.closed i; kind = bool-set (are_bytes v.kind) (not program.units) x.kind y.kind i }

  pub IsSearchable-prop : IsProp (IsSearchable program v)
  IsSearchable-prop x y = λ i. record {
    suits = Suits-prop x.suits y.suits i;
    ends = (Π_prop (λ o. Π_prop (λ place. IsComputed-prop program (input_of v) Forward (first_state program o ∷ [])))) x.ends y.ends i;
    reads = (Π_prop (λ o. Π_prop (λ place. Π_prop (λ t. Π_prop (λ j. Π_prop (λ met. Π_prop (λ stands. Π_prop (λ reads. ReadsPlaces-prop j t)))))))) x.reads y.reads i;
    lists = (Π_prop (λ p. Π_prop (λ room. Listed-prop program v (offset (reading_of v) p)))) x.lists y.lists i;
  }

-- ---- what may be skipped

list-set : IsSet (List ℕ)
list-set = hlevel codes

BeginsAs-prop : (start : StartPredicate) (bytes : List ℕ) (at : ℕ) → IsProp (BeginsAs start bytes at)
BeginsAs-prop Arbitrary bytes at = Unit-prop
BeginsAs-prop (ByteSet1 set) bytes at = bool-set _ true
BeginsAs-prop (ByteSet2 set) bytes at = bool-set _ true
BeginsAs-prop (ByteSet3 set) bytes at = bool-set _ true
BeginsAs-prop (ByteSeq front) bytes at = list-set _ front.items
BeginsAs-prop (ByteBracket set) bytes at = bool-set _ true
BeginsAs-prop (ByteNear set landmark) bytes at = bool-set _ true
BeginsAs-prop (BytePair pair) bytes at = bool-set _ true
BeginsAs-prop (WordStart word) bytes at = bool-set _ true
BeginsAs-prop StartAnchored bytes at = nat-set at 0

IsLow-prop : (landmark : Landmark) → IsProp (IsLow landmark)
IsLow-prop (Ahead distance byte) = le_prop
IsLow-prop (BehindRun run byte) = ×_prop (Π_prop (λ b. Π_prop (λ held. le_prop))) le_prop

IsPlain-prop : (start : StartPredicate) → IsProp (IsPlain start)
IsPlain-prop Arbitrary = Unit-prop
IsPlain-prop (ByteSet1 set) = Π_prop (λ b. Π_prop (λ held. le_prop))
IsPlain-prop (ByteSet2 set) = Π_prop (λ b. Π_prop (λ held. le_prop))
IsPlain-prop (ByteSet3 set) = Π_prop (λ b. Π_prop (λ held. le_prop))
IsPlain-prop (ByteSeq front) = Π_prop (λ b. Π_prop (λ held. le_prop))
IsPlain-prop (ByteBracket set) = Π_prop (λ b. Π_prop (λ held. le_prop))
IsPlain-prop (ByteNear set landmark) = ×_prop (Π_prop (λ b. Π_prop (λ held. le_prop))) (IsLow-prop landmark)
IsPlain-prop (BytePair pair) = ×_prop (Π_prop (λ b. Π_prop (λ held. le_prop))) (Π_prop (λ b. Π_prop (λ held. le_prop)))
IsPlain-prop (WordStart word) = ×_prop (Π_prop (λ b. Π_prop (λ held. le_prop))) (Π_prop (λ b. Π_prop (λ held. le_prop)))
IsPlain-prop StartAnchored = Unit-prop

pub MaySkip-prop : (program : Program) (start : StartPredicate) (v : View) → IsProp (MaySkip program start v)
MaySkip-prop program start v x y = λ i. record {
  begins = (Π_prop (λ o. Π_prop (λ place. Π_prop (λ w. Π_prop (λ answers. BeginsAs-prop start v.units o))))) x.begins y.begins i;
  plain = (Π_prop (λ units. IsPlain-prop start)) x.plain y.plain i;
  places = (Π_prop (λ known. Π_prop (λ o. Π_prop (λ begins. IsAtPlace-prop v o)))) x.places y.places i;
}
