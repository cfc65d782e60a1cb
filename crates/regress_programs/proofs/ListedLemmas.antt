-- What an executor of a program lists: the matches of its pattern, told in offsets, one behind the other.
use Rattle.std.proofs.Common.{◌≡◌, ℕ, List, [], ◌∷◌, length, map, chars, Option, All, refl, sym, ap, ◌∙◌, subst, arith}
use Rattle.std.proofs.Math.Logic.{∥∥₁_elim}
use Rattle.std.proofs.lemmas.List.Elements.{All-head, All-tail}
use Rattle.std.specs.Coded.{le_prop}
use Rattle.std.specs.Str.{IsUtf8}
use mathlib.Core.HLevel.{Unit-prop}
use denote.Struct.Props as logic
use Rattle.regress_meaning.specs.Table.{Table}
use Rattle.regress_meaning.specs.TableParts.{is_code_point}
use Rattle.regress_meaning.specs.Pattern.{Pattern, names_of}
use Rattle.regress_meaning.specs.Flags.{Options, is_unicode}
use Rattle.regress_meaning.specs.Meaning.{Context}
use Rattle.regress_meaning.specs.Inputs.{context_of}
use Rattle.regress_meaning.specs.Laws.{IsItemInside, ItemsRise, OffsetsRise}
use Rattle.regress_meaning.specs.Matches.{Item, match_list}
use Rattle.regress_meaning.specs.Offsets.{Reading, of_utf8, told, Begins}
use Rattle.regress_front.specs.NodeMatches.{node_match_list}
use Rattle.regress_front.specs.Trees.{Tree}
use Rattle.regress_programs.proofs.AlikeMatches.{match_list-same}
use Rattle.regress_front_nodes.proofs.MatchLemmas.{matches_rise, matches_lie}
use Rattle.regress_match.specs.declared.found.Match.{Match}
use Rattle.regress_match.specs.Iterating.{coming_on}
use Rattle.regress_front_bytes.proofs.TextLemmas.{offset-le, chars-code_points}
use Rattle.regress_engine_input.specs.Views.{AreOfKind, input_of, reading_of, reading_of_kind}
use Rattle.regress_engine_input.proofs.KindLemmas.{tells}
use Rattle.regress_engine_code.specs.declared.compiled.CompiledRegex.{CompiledRegex}
use Rattle.regress_engine_code.specs.Laid.{IsLaid}
use Rattle.regress_engine_code.specs.Standing.{target_of}
use Rattle.regress_engine_search.specs.Searching.{Searches}
use Rattle.regress_engine_search.specs.Search.{Search, IsMadeOf, StartsAt, items_from}
use Rattle.regress_engine_search.specs.SearchProps.{rises}
use Rattle.regress_engine_search.proofs.ProducerLemmas.{items-asked}
use Rattle.regress_programs.specs.Programs.{IsProgramOf, IsLaidOutFrom, items_of_tree}
use Rattle.regress_programs.specs.SearchFor.{IsSearchFor}

-- items that rise do so told in offsets, where each lies in the text
told-rise : (r : Reading) → OffsetsRise r → (P : Item → Type 0) → ((i : Item) → P i → IsItemInside r.points i) → (items : List Item) → All P items
    → ItemsRise items → ItemsRise (map (told r) items)
told-rise r up P inside [] all rises = tt
told-rise r up P inside (i ∷ []) all rises = offset-le r i.start i.end rises
told-rise r up P inside (i ∷ j ∷ items) all rises =
    let others = All-tail P i (j ∷ items) all in
    let next = inside j (All-head P j items others) in (
      offset-le r i.start i.end rises.0,
      up i.start j.start rises.1 (omega (arith, next.range)),
      offset-le r i.end j.start rises.2,
      told-rise r up P inside (j ∷ items) others rises.3,
    )

-- that items rise has one proof at most
ItemsRise-prop : (items : List Item) → IsProp (ItemsRise items)
ItemsRise-prop [] = Unit-prop
ItemsRise-prop (i ∷ []) = le_prop
ItemsRise-prop (i ∷ j ∷ items) = let rest = ItemsRise-prop (j ∷ items) in Prim.hlevel (rest, logic.props)

-- the tree of a pattern's program has the pattern's matches
pub pattern-listed : (compiled : CompiledRegex) (t : Table) (o : Options) (p : Pattern) (stands : IsProgramOf compiled t o p) (text : List ℕ) → All is_code_point text → (place : ℕ)
    → match_list t o p text place ≡ items_of_tree (target_of compiled) (length (names_of p)) stands.node text place
pattern-listed compiled t o p stands text points place =
    sym (ap (λ (context : Context). node_match_list context (length (names_of p)) stands.node place)
    (λ i. record { text = text; table = stands.table i; unicode = is_unicode (stands.flags i) })
    ∙ match_list-same t o p text stands.node (length (names_of p)) refl stands.alike points place)

-- and in a text of UTF-8
pub pattern-in_text : (compiled : CompiledRegex) (t : Table) (o : Options) (p : Pattern) (stands : IsProgramOf compiled t o p) (bytes : List ℕ) → IsUtf8 bytes → (place : ℕ)
    → match_list t o p (chars bytes) place ≡ items_of_tree (target_of compiled) (length (names_of p)) stands.node (chars bytes) place
pattern-in_text compiled t o p stands bytes utf8 place = pattern-listed compiled t o p stands (chars bytes) (chars-code_points bytes utf8) place

module _ (s : Search) (all : AreOfKind s.view.kind s.view.units) (made : IsMadeOf s.compiled s.view)
    (at place : ℕ) (begins : Begins (reading_of s.view) at place) (position : Option ℕ) (starts : StartsAt s at position) where
  abbrev reading : Reading
  reading = reading_of s.view

  -- an executor has the matches of each tree of its program still to find
  pub tree-coming : (n : ℕ) (t : Tree) → IsLaidOutFrom (target_of s.compiled) n t
      → coming_on (items_from s) position ≡ map (told reading) (items_of_tree (target_of s.compiled) n t reading.points place)
  tree-coming n t laid =
      items-asked s all made n t laid.0 laid.1 at place begins position starts
      ∙ ap (λ (context : Context). map (told reading) (node_match_list context n t place))
      (λ i. record { text = reading.points; table = sym made.made.table i; unicode = sym made.made.unicode i })

  -- so that of a pattern's program has the pattern's matches
  pub pattern-coming : (t : Table) (o : Options) (p : Pattern) → IsProgramOf s.compiled t o p
      → coming_on (items_from s) position ≡ map (told reading) (match_list t o p reading.points place)
  pattern-coming t o p stands =
      tree-coming (length (names_of p)) stands.node (stands.well_formed, stands.layout)
      ∙ ap (map (told reading)) (sym (pattern-listed s.compiled t o p stands reading.points (tells s.view.kind s.view.table s.view.unicode s.view.units all).points place))

  -- what an executor has still to find rises, since its program is laid out from a tree
  pub coming-rises : ItemsRise (coming_on (items_from s) position)
  coming-rises = ∥∥₁_elim s.compiled.laid (ItemsRise-prop (coming_on (items_from s) position)) rise
    where
      rise : IsLaid (target_of s.compiled) s.compiled.start_pred → ItemsRise (coming_on (items_from s) position)
      rise (n, t, formed, layout, serves) =
          let context = context_of reading (input_of s.view) in
          subst ItemsRise (sym (items-asked s all made n t formed layout at place begins position starts))
          (told-rise reading (rises s.view.kind s.view.units) (λ i. IsItemInside reading.points i × (length i.groups ≡ n)) (λ i h. h.0)
          (node_match_list context n t place) (matches_lie context n t place) (matches_rise context n t place))

module _ (s : Search) (compiled : CompiledRegex) (units : List ℕ) (is_search : IsSearchFor compiled units s) (all : AreOfKind s.view.kind units)
    (at place : ℕ) (begins : Begins (reading_of_kind s.view.kind units) at place) (position : Option ℕ) (starts : StartsAt s at position) where
  -- what seeks a program has that part of the match list of each of its trees still to come
  pub tree-searchable : (n : ℕ) (t : Tree) → IsLaidOutFrom (target_of compiled) n t
      → coming_on (items_from s) position ≡ map (told (reading_of_kind s.view.kind units)) (items_of_tree (target_of compiled) n t (reading_of_kind s.view.kind units).points place)
  tree-searchable n t laid =
      subst (λ us. AreOfKind s.view.kind us → Begins (reading_of_kind s.view.kind us) at place
      → coming_on (items_from s) position ≡ map (told (reading_of_kind s.view.kind us)) (items_of_tree (target_of compiled) n t (reading_of_kind s.view.kind us).points place)) is_search.over
      (λ among start. tree-coming s among is_search.made at place start position starts n t (subst (λ c. IsLaidOutFrom (target_of c) n t) (sym is_search.program) laid)
      ∙ ap (λ (c : CompiledRegex). map (told (reading_of s.view)) (items_of_tree (target_of c) n t (reading_of s.view).points place)) is_search.program)
      all begins

  -- a search with a pattern's program has that part of the pattern's match list still to come
  pub coming-searched : (t : Table) (o : Options) (p : Pattern) → IsProgramOf compiled t o p
      → coming_on (items_from s) position ≡ map (told (reading_of_kind s.view.kind units)) (match_list t o p (reading_of_kind s.view.kind units).points place)
  coming-searched t o p stands =
      subst (λ us. AreOfKind s.view.kind us → Begins (reading_of_kind s.view.kind us) at place
      → coming_on (items_from s) position ≡ map (told (reading_of_kind s.view.kind us)) (match_list t o p (reading_of_kind s.view.kind us).points place)) is_search.over
      (λ among start. pattern-coming s among is_search.made at place start position starts t o p (subst (λ c. IsProgramOf c t o p) (sym is_search.program) stands))
      all begins

  -- and it rises
  pub searched-rises : ItemsRise (coming_on (items_from s) position)
  searched-rises =
      subst (λ us. AreOfKind s.view.kind us → Begins (reading_of_kind s.view.kind us) at place → ItemsRise (coming_on (items_from s) position)) is_search.over
      (λ among start. coming-rises s among is_search.made at place start position starts) all begins

-- what finds the matches of trees by a program of bytes finds those of each tree of it
pub tree-searched : {Position : Type 0} (compiled : CompiledRegex) (bytes : List ℕ) → IsUtf8 bytes → (IsStart : ℕ → Type 0) (starts_at : ℕ → Option Position → Type 0)
    (items : Position → List Item) (IsOfSearch : Match → Type 0) → Searches compiled bytes IsStart starts_at items IsOfSearch
    → (n : ℕ) (t : Tree) → IsLaidOutFrom (target_of compiled) n t → (at place : ℕ) → Begins (of_utf8 bytes) at place → (position : Option Position) → starts_at at position
    → coming_on items position ≡ map (told (of_utf8 bytes)) (items_of_tree (target_of compiled) n t (chars bytes) place)
tree-searched compiled bytes utf8 IsStart starts_at items IsOfSearch searches n t laid = searches.lists n t laid.0 laid.1

-- and so those of the program's pattern
pub pattern-searched : {Position : Type 0} (compiled : CompiledRegex) (bytes : List ℕ) → IsUtf8 bytes → (IsStart : ℕ → Type 0) (starts_at : ℕ → Option Position → Type 0)
    (items : Position → List Item) (IsOfSearch : Match → Type 0) → Searches compiled bytes IsStart starts_at items IsOfSearch
    → (t : Table) (o : Options) (p : Pattern) → IsProgramOf compiled t o p → (at place : ℕ) → Begins (of_utf8 bytes) at place → (position : Option Position) → starts_at at position
    → coming_on items position ≡ map (told (of_utf8 bytes)) (match_list t o p (chars bytes) place)
pattern-searched compiled bytes utf8 IsStart starts_at items IsOfSearch searches t o p stands at place begins position starts =
    searches.lists (length (names_of p)) stands.node stands.well_formed stands.layout at place begins position starts
    ∙ ap (map (told (of_utf8 bytes))) (sym (pattern-in_text compiled t o p stands bytes utf8 place))
