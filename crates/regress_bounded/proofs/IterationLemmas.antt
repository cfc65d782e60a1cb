-- An iterator with a budget: what it searches, and what holds of each match that it gives.
use Rattle.std.specs.Prelude.{not}
use Rattle.std.specs.Iterator.{Yields}
use Rattle.std.proofs.Common.{◌≡◌, Bool, ℕ, List, Option, Result, refl, sym, ap, subst}
use Rattle.regress_match.specs.declared.found.Match.{Match}
use Rattle.regress_engine_input.specs.Views.{View, Kind, utf8, ascii, utf16, ucs2, are_bytes}
use Rattle.regress_engine_code.specs.declared.compiled.CompiledRegex.{CompiledRegex}
use Rattle.regress_engine_exec.specs.declared.error.SearchError.{SearchError}
use Rattle.regress_engine_search.specs.Search.{Search, IsMadeOf, IsMatchOf}
use Rattle.regress_programs.specs.Coming.{HoldsOfEach}
use Rattle.regress_programs.specs.SearchFor.{IsSearchFor}
use Rattle.regress_programs.proofs.UnitLemmas.{search_of-along, each-match}
use Rattle.regress_bounded.specs.Coming.{GivesWithin}
use Rattle.regress_bounded.specs.Stopping.{seen_by}

-- a program is made for what it reads
pub made-for : (compiled : CompiledRegex) (kind : Kind) (units : List ℕ) → are_bytes kind ≡ not compiled.units → IsMadeOf compiled (seen_by compiled kind units)
made-for compiled utf8 units same = record { kind = same; made = record { table = refl; unicode = refl } }
made-for compiled ascii units same = record { kind = same; made = record { table = refl; unicode = refl } }
made-for compiled utf16 units same = record { kind = same; made = record { table = refl; unicode = refl } }
made-for compiled ucs2 units same = record { kind = same; made = record { table = refl; unicode = refl } }

-- what searches with a program, over what the program reads, searches for it
pub search-for : (compiled : CompiledRegex) (kind : Kind) (units : List ℕ) → are_bytes kind ≡ not compiled.units → (s : Search) → s.view ≡ seen_by compiled kind units
    → s.compiled ≡ compiled → IsSearchFor compiled units s
search-for compiled kind units same s view program = record {
  over = ap (λ (v : View). v.units) view;
  program = program;
  made = subst (λ (x : CompiledRegex × View). IsMadeOf x.0 x.1) (λ i. (sym program i, sym view i)) (made-for compiled kind units same);
}

module _ {S : Type 0} (search_by : S → Search) (next_from : S → Option ℕ) (budget_of : S → ℕ) (turns_of : S → Bool) where
  abbrev gives : S → Option (Result Match SearchError) → S → Type 0
  gives old r new = GivesWithin search_by next_from budget_of turns_of old r new

  -- calls go over one text
  pub searched-along : (ms old : S) (given : List (Result Match SearchError)) → Yields gives ms given old → search_by old ≡ search_by ms
  searched-along ms old given yields = search_of-along search_by gives (λ old new r step. step.kept) (λ old new m step. step.first.1) ms old given yields

  -- what is said of each match of what is searched for is said of each that calls give
  pub each-given : (Q : Match → Type 0) (ms : S) → ((m : Match) → IsMatchOf (search_by ms) m → Q m) → HoldsOfEach gives Q ms
  each-given Q ms said = each-match search_by gives (λ old new r step. step.kept) (λ old new m step. step.first.1) Q ms said
