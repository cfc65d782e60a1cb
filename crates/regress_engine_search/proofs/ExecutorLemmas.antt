-- A search of a text with a program of bytes finds its items there, told in bytes of UTF-8.
use Rattle.std.proofs.Common.{◌≡◌, ℕ, true, false, List, map, not, refl, sym, ap, ◌∙◌, subst}
use Rattle.regress_meaning.specs.Inputs.{context_of}
use Rattle.regress_meaning.specs.Flags.{is_unicode}
use Rattle.regress_meaning.specs.Matches.{Item}
use Rattle.regress_meaning.specs.Meaning.{Context}
use Rattle.regress_meaning.specs.Offsets.{of_utf8, told, Begins}
use Rattle.regress_front_core.specs.FlagWords.{options}
use Rattle.regress_front_tables.specs.TableViews.{table}
use Rattle.regress_front_nodes.specs.NodeMatches.{node_match_list}
use Rattle.regress_engine_input.specs.Views.{View, Kind, utf8, ascii, utf16, ucs2, AreOfKind, are_bytes, input_of, reading_of}
use Rattle.regress_engine_code.specs.declared.compiled.CompiledRegex.{CompiledRegex}
use Rattle.regress_engine_search.specs.Searching.{Searches, context_in}
use Rattle.regress_engine_search.specs.Search.{Search, IsMadeOf, IsStart, StartsAt, IsMatchOf, items_from}
use Rattle.regress_engine_search.proofs.ByteTexts.{ReadAlike, begins-alike, told-alike, bytes-alike}
use Rattle.regress_engine_search.proofs.ProducerLemmas.{items-asked, match-in_bytes}

-- what is shown of a text of bytes, with a program's tables and mode
abbrev pub shown_of : Kind → CompiledRegex → List ℕ → View
shown_of kind compiled bytes = record { kind = kind; units = bytes; table = table compiled.tables; unicode = is_unicode (options compiled.flags) }

-- a program of bytes is made for it
pub made-of_bytes : (kind : Kind) (compiled : CompiledRegex) (bytes : List ℕ) → are_bytes kind ≡ true → compiled.units ≡ false → IsMadeOf compiled (shown_of kind compiled bytes)
made-of_bytes utf8 compiled bytes are of_bytes = record { kind = sym (ap not of_bytes); made = record { table = refl; unicode = refl } }
made-of_bytes ascii compiled bytes are of_bytes = record { kind = sym (ap not of_bytes); made = record { table = refl; unicode = refl } }
made-of_bytes utf16 compiled bytes are of_bytes = absurd cc
made-of_bytes ucs2 compiled bytes are of_bytes = absurd cc

module _ (s : Search) (are : are_bytes s.view.kind ≡ true) (all : AreOfKind s.view.kind s.view.units) (made : IsMadeOf s.compiled s.view) where
  alike : ReadAlike (reading_of s.view) (of_utf8 s.view.units)
  alike = bytes-alike s.view.kind s.view.units are all

  same_context : context_of (reading_of s.view) (input_of s.view) ≡ context_in s.compiled s.view.units
  same_context = λ i. record { text = alike.points i; table = sym made.made.table i; unicode = sym made.made.unicode i }

  begins-there : (at place : ℕ) → Begins (of_utf8 s.view.units) at place → Begins (reading_of s.view) at place
  begins-there = begins-alike (reading_of s.view) (of_utf8 s.view.units) alike

  searches-there : Searches s.compiled s.view.units (IsStart s) (StartsAt s) (items_from s) (IsMatchOf s)
  searches-there = record {
    starts = λ at place begins. (place, begins-there at place begins);
    lists = λ n t formed layout at place begins position starts.
        items-asked s all made n t formed layout at place (begins-there at place begins) position starts
        ∙ ap (λ (context : Context). map (told (reading_of s.view)) (node_match_list context n t place)) same_context
        ∙ ap (λ (tell : Item → Item). map tell (node_match_list (context_in s.compiled s.view.units) n t place)) (told-alike (reading_of s.view) (of_utf8 s.view.units) alike);
    inside = λ m found. (match-in_bytes s.view.kind s.view.units are all m found.0, found.1);
  }

-- a search of a text with a program of bytes finds its items there
pub searches : (s : Search) (kind : Kind) (compiled : CompiledRegex) (bytes : List ℕ) → are_bytes kind ≡ true → AreOfKind kind bytes → compiled.units ≡ false
    → s.compiled ≡ compiled → s.view ≡ shown_of kind compiled bytes → Searches compiled bytes (IsStart s) (StartsAt s) (items_from s) (IsMatchOf s)
searches s kind compiled bytes are all of_bytes program text =
    let made : IsMadeOf s.compiled s.view =
    subst (λ (x : CompiledRegex × View). IsMadeOf x.0 x.1) (λ i. (sym program i, sym text i)) (made-of_bytes kind compiled bytes are of_bytes) in
    subst (λ (x : CompiledRegex × List ℕ). Searches x.0 x.1 (IsStart s) (StartsAt s) (items_from s) (IsMatchOf s)) (λ i. (program i, (text i).units))
    (searches-there s (subst (λ (v : View). are_bytes v.kind ≡ true) (sym text) are) (subst (λ (v : View). AreOfKind v.kind v.units) (sym text) all) made)
