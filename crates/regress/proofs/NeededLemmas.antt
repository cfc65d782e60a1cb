-- A text in which the literal of a program's start predicate stands nowhere has no match.
use Rattle.std.proofs.Common.{◌≡◌, Vec, Global, ℕ, zero, suc, ◌+◌, ◌-◌, ◌≤◌, ◌<◌, ◌⊎◌, inl, inr, true, false, not, List, [], ◌∷◌, length, map, take, drop, chars, slice_get, None, Some, refl, sym, ap, ◌∙◌, subst, arith}
use Rattle.std.proofs.Math.Logic.{∥∥₁_elim}
use Rattle.std.proofs.lemmas.Bool.{cases_lt}
use Rattle.std.specs.Prelude.{replicate}
use Rattle.std.specs.Str.{IsUtf8}
use mathlib.Core.HLevel.{⊥_prop}
use Rattle.regress_meaning.specs.Meaning.{State, Context, Forward}
use Rattle.regress_meaning.specs.Matches.{Item, item_at, first_from, list_from, first_found}
use Rattle.regress_meaning.specs.Offsets.{of_utf8, offset, told}
use Rattle.regress_front.specs.FlagWords.{options}
use Rattle.regress_front.specs.TableViews.{table}
use Rattle.regress_front.specs.NodeMatches.{node_attempt, node_match_list}
use Rattle.regress_front.specs.Trees.{Tree}
use Rattle.regress_front.specs.TreeMeaning.{node_outcomes}
use Rattle.regress_meaning.specs.Flags.{is_unicode}
use Rattle.regress_engine_input.specs.Views.{View, utf8}
use Rattle.regress_engine_code.specs.declared.compiled.CompiledRegex.{CompiledRegex}
use Rattle.regress_engine_code.specs.Laid.{IsLaid}
use Rattle.regress_engine_code.specs.Standing.{target_of}
use Rattle.regress_engine_prefix.specs.Starts.{BeginsAs}
use Rattle.regress_engine_prefix.specs.declared.start.StartPredicate.{StartPredicate}
use Rattle.regress_engine_prefix.specs.declared.start.StartPredicate.TheVariants.{ByteNear, ByteSeq}
use Rattle.regress_front_bytes.specs.declared.bitmaps.ByteBitmap.{ByteBitmap}
use Rattle.regress_front_bytes.specs.Bitmaps.{byte_bitmap_contains}
use Rattle.regress_engine_scanning.specs.Landmarks.{stands}
use Rattle.regress_engine_scanning.specs.declared.landmark.Landmark.{Landmark}
use Rattle.regress_engine_scanning.specs.declared.landmark.Landmark.TheVariants.{Ahead, BehindRun}
use Rattle.regress_engine_scanning.proofs.ByteLemmas.{slice_get-behind}
use Rattle.regress_engine_scanning.proofs.LandmarkLemmas.{begins-parts, byte-is, run-reaches}
use Rattle.regress_engine_search.specs.Search.{Search, IsMadeOf}
use Rattle.regress_engine_search.proofs.ProducerLemmas.{items-of_tree}
use Rattle.regress_engine_search.proofs.SearchLemmas.{layout-searchable}
use Rattle.regress.specs.Literals.{IsNowhereIn, byte_by}
use Rattle.regress.specs.Programs.{IsLaidOutFrom, items_of_tree}

module _ (context : Context) (n : ℕ) (t : Tree) (none : (s : State) → node_outcomes context t Forward s ≡ []) where
  -- without outcomes there is no item at any place
  attempt-none : (q : ℕ) → node_attempt context n t q ≡ None
  unfolding node_attempt
  attempt-none q = ap (item_at q) (none (record { place = q; groups = replicate n None }))

  first-none : (k q : ℕ) → first_from (node_attempt context n t) k q ≡ None
  unfolding first_from
  first-none zero q = refl
  first-none (suc k) q = rw (attempt-none q) (first-none k (q + 1))

  -- and the match list is empty
  list-none : (q : ℕ) → node_match_list context n t q ≡ []
  unfolding node_match_list list_from
  list-none q = listed (length context.text + 1 - q)
    where
      listed : (k : ℕ) → list_from (first_found (node_attempt context n t) (length context.text)) k q ≡ []
      listed zero = refl
      listed (suc k) = rw (first-none (length context.text + 1 - q) q) refl

-- a match list from past the end is empty
list-past : (context : Context) (n : ℕ) (t : Tree) (q : ℕ) → length context.text < q → node_match_list context n t q ≡ []
unfolding node_match_list list_from
list-past context n t q past =
    let room : length context.text + 1 - q ≡ 0 = omega (arith, past) in
    rw room refl

-- where the bytes that are looked for stand nowhere, the text nowhere begins as the predicate says
pub never-begins : (start : StartPredicate) (bytes : Vec ℕ Global) → start ≡ ByteSeq bytes → (text : List ℕ) → IsNowhereIn bytes.items text
    → (at : ℕ) → BeginsAs start text at → ⊥
never-begins start bytes e text nowhere at begins = nowhere at (subst (λ p. BeginsAs p text at) e begins)

-- a byte that stands nowhere by itself stands nowhere
nowhere-byte : (byte : ℕ) (text : List ℕ) → IsNowhereIn (byte ∷ []) text → (k : ℕ) → slice_get text k ≡ Some byte → ⊥
nowhere-byte byte text nowhere k is = nowhere k (one text k is)
  where
    one : (xs : List ℕ) (k : ℕ) → slice_get xs k ≡ Some byte → take 1 (drop k xs) ≡ byte ∷ []
    one [] zero e = absurd (cc e)
    one [] (suc k) e = absurd (cc e)
    one (x ∷ xs) zero e = let same : x ≡ byte = cc e in ap (λ b. b ∷ []) same
    one (x ∷ xs) (suc k) e = one xs k e

-- where the byte of a landmark stands nowhere, the text nowhere begins as the predicate says
pub never-near : (start : StartPredicate) (set : ByteBitmap) (landmark : Landmark) → start ≡ ByteNear set landmark → (text : List ℕ) → IsNowhereIn (byte_by landmark ∷ []) text
    → (at : ℕ) → BeginsAs start text at → ⊥
never-near start set landmark e text nowhere at begins = by_kind landmark nowhere (begins-parts set landmark text at (subst (λ p. BeginsAs p text at) e begins)).1
  where
    by_kind : (l : Landmark) → IsNowhereIn (byte_by l ∷ []) text → stands l text at ≡ true → ⊥
    by_kind (Ahead distance byte) nowhere is = nowhere-byte byte text nowhere (at + distance) (byte-is _ byte is)
    by_kind (BehindRun run byte) nowhere is =
        let (n, some, all, end) = run-reaches (byte_bitmap_contains run) byte (drop at text) is in
        nowhere-byte byte text nowhere (at + n) (sym (slice_get-behind text at n) ∙ end)

module _ (compiled : CompiledRegex) (of_bytes : compiled.units ≡ false) (text : List ℕ) (is_utf8 : IsUtf8 text)
    (never : (at : ℕ) → BeginsAs compiled.start_pred text at → ⊥) where
  abbrev view : View
  view = record { kind = utf8; units = text; table = table compiled.tables; unicode = is_unicode (options compiled.flags) }

  abbrev context : Context
  context = record { text = chars text; table = (target_of compiled).table; unicode = (target_of compiled).unicode }

  made : IsMadeOf compiled view
  made = record { kind = sym (ap not of_bytes); made = record { table = refl; unicode = refl } }

  -- the tree whose start predicate it is has no outcome
  no-outcome : IsLaid (target_of compiled) compiled.start_pred → (n : ℕ) × (t : Tree) × IsLaidOutFrom (target_of compiled) n t × ((s : State) → node_outcomes context t Forward s ≡ [])
  no-outcome (n, t, formed, layout, serves) = (n, t, (formed, layout), λ s. by_list s (node_outcomes context t Forward s) refl)
    where
      by_list : (s : State) (outcomes : List State) → node_outcomes context t Forward s ≡ outcomes → outcomes ≡ []
      by_list s [] e = refl
      by_list s (u ∷ outcomes) e = absurd (never (offset (of_utf8 text) s.place) (serves.begins.each text is_utf8 context refl s (λ none. let two : u ∷ outcomes ≡ [] = sym e ∙ none in absurd (cc))))

  module _ (n : ℕ) (t : Tree) (laid : IsLaidOutFrom (target_of compiled) n t) (place : ℕ) where
    abbrev search : Search
    search = record { compiled = compiled; view = view; searchable = layout-searchable (target_of compiled) view is_utf8 made.kind made.made n t laid.0 laid.1 }

    -- a search finds of each tree what it finds of that one
    no-item : place ≤ length (chars text) → (i : Item) (items : List Item) → node_match_list context n t place ≡ i ∷ items
        → (m : ℕ) × (u : Tree) × IsLaidOutFrom (target_of compiled) m u × ((s : State) → node_outcomes context u Forward s ≡ []) → ⊥
    no-item room i items e (m, u, other, none) =
        let tell : List Item → List Item = map (told (of_utf8 text)) in
        let here = items-of_tree search is_utf8 made n t laid.0 laid.1 place room in
        let there = items-of_tree search is_utf8 made m u other.0 other.1 place room in
        let both : tell (i ∷ items) ≡ [] = ap tell (sym e) ∙ sym here ∙ there ∙ ap tell (list-none context m u none place) in
        absurd (cc)

    -- so no tree of the program has a match
    pub no-match : items_of_tree (target_of compiled) n t (chars text) place ≡ []
    no-match = by_room (cases_lt (length (chars text)) place)
      where
        by_list : place ≤ length (chars text) → (items : List Item) → node_match_list context n t place ≡ items → items ≡ []
        by_list room [] e = refl
        by_list room (i ∷ items) e = absurd (∥∥₁_elim compiled.laid ⊥_prop (λ x. no-item room i items e (no-outcome x)))

        by_room : (length (chars text) < place) ⊎ (place ≤ length (chars text)) → node_match_list context n t place ≡ []
        by_room (inl past) = list-past context n t place past
        by_room (inr room) = by_list room (node_match_list context n t place) refl
