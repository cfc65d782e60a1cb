-- Over ASCII a match is told as over UTF-8; and what is written to slots is told of the text that an input shows.
use Rattle.std.specs.Str.{IsAscii}
use Rattle.std.specs.declared.ops.Range.{Range}
use Rattle.std.proofs.Common.{◌≡◌, ℕ, List, Option, Result, option_map, IfOk, refl, ap, subst, ◌∙◌}
use Rattle.regress_meaning.specs.Matches.{Item}
use Rattle.regress_meaning.specs.Offsets.{Begins, of_ascii, of_utf8, told}
use Rattle.regress_front.specs.Trees.{Tree}
use Rattle.regress_match.specs.declared.found.Match.{Match}
use Rattle.regress_match.specs.Slots.{Fills}
use Rattle.regress_match.specs.Views.{item_of}
use Rattle.regress_engine_input.specs.Views.{View, ascii, reading_of}
use Rattle.regress_engine_code.specs.declared.compiled.CompiledRegex.{CompiledRegex}
use Rattle.regress_engine_code.specs.Standing.{target_of}
use Rattle.regress_engine_exec.specs.declared.error.SearchError.{SearchError}
use Rattle.regress_engine_search.proofs.ByteTexts.{told-alike, bytes-alike}
use Rattle.regress_programs.specs.declared.slots.Anchored.{Anchored}
use Rattle.regress_programs.specs.Filling.{SlotsAreAtPlaces, first_item, first_told}

-- the first match of a tree in ASCII is told as in UTF-8
pub first-alike : (bytes : List ℕ) → IsAscii bytes → (anchored : Anchored) (compiled : CompiledRegex) (n : ℕ) (t : Tree) (place : ℕ) (r : Result (Option Match) SearchError)
    → IfOk r (λ found. option_map item_of found ≡ first_told anchored compiled (of_ascii bytes) n t place)
    → IfOk r (λ found. option_map item_of found ≡ first_told anchored compiled (of_utf8 bytes) n t place)
first-alike bytes all anchored compiled n t place r =
    let alike = bytes-alike ascii bytes refl all in
    subst (λ (j : Option Item). IfOk r (λ found. option_map item_of found ≡ j))
    (ap (λ (points : List ℕ). option_map (told (of_ascii bytes)) (first_item anchored (target_of compiled) n t points place)) alike.points
    ∙ ap (λ (tell : Item → Item). option_map tell (first_item anchored (target_of compiled) n t (of_utf8 bytes).points place)) (told-alike (of_ascii bytes) (of_utf8 bytes) alike))

module _ (v w : View) (same : v ≡ w) (r : Result (Option (Range ℕ)) SearchError) (before after : List (Option (Range ℕ))) where
  -- what is written is the match of the tree in the text
  pub filled-shown : (anchored : Anchored) (compiled : CompiledRegex) (n : ℕ) (t : Tree) (start : ℕ)
      → ((place : ℕ) → Begins (reading_of v) start place → IfOk r (λ found. Fills (first_told anchored compiled (reading_of v) n t place) found before after))
      → (place : ℕ) → Begins (reading_of w) start place → IfOk r (λ found. Fills (first_told anchored compiled (reading_of w) n t place) found before after)
  filled-shown anchored compiled n t start =
      subst (λ (x : View). (place : ℕ) → Begins (reading_of x) start place
      → IfOk r (λ found. Fills (first_told anchored compiled (reading_of x) n t place) found before after)) same

  -- and it lies at places of the text
  pub slots-shown : IfOk r (λ found. SlotsAreAtPlaces (reading_of v) found after) → IfOk r (λ found. SlotsAreAtPlaces (reading_of w) found after)
  slots-shown = subst (λ (x : View). IfOk r (λ found. SlotsAreAtPlaces (reading_of x) found after)) same
