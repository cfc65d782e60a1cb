-- The first of some names that is wanted.
use Rattle.std.proofs.Common.{◌≡◌, ℕ, ◌<◌, ◌≤◌, ◌⊎◌, inl, inr, List, length, map, get_or, Option, Some, None, option_map, String, Global, sym, ap, ◌∙◌, arith}
use Rattle.std.specs.Prelude.{slice_get, ◌≢◌, IfSome, IfNone}
use Rattle.std.specs.List.{HoldsAt, AllWithin}
use Rattle.std.specs.String.{string_bytes}
use Rattle.std.specs.Option.{MatchOption}
use Rattle.std.proofs.lemmas.Option.{slice_get-map, slice_get_cases, slice_get_within}
use Rattle.std.proofs.lemmas.List.{length-map}

-- what stands at an index, or that nothing does
module _ (wanted : List ℕ) (names : List (String Global)) where
  name-there : (i : ℕ) → i < length names → HoldsAt (λ n. string_bytes n ≡ wanted) names i → slice_get (map string_bytes names) i ≡ Some wanted
  name-there i within holds = go (slice_get_cases names i).1
    where
      go : ((x : String Global) × (i < length names) × (slice_get names i ≡ Some x) × (get_or names i x ≡ x)) ⊎ ((length names ≤ i) × (slice_get names i ≡ None))
          → slice_get (map string_bytes names) i ≡ Some wanted
      go (inl (x, inside, is, read)) =
          slice_get-map string_bytes names i ∙ ap (option_map string_bytes) is
          ∙ ap (λ (n : List ℕ). Some n) (sym (ap string_bytes read) ∙ holds x)
      go (inr (past, none)) = absurd (omega (arith, past, within))

  name-elsewhere : (n j : ℕ) → AllWithin (λ m. string_bytes m ≢ wanted) names 0 n → j < n → slice_get (map string_bytes names) j ≢ Some wanted
  name-elsewhere n j others before same = go (slice_get_cases names j).1
    where
      go : ((x : String Global) × (j < length names) × (slice_get names j ≡ Some x) × (get_or names j x ≡ x)) ⊎ ((length names ≤ j) × (slice_get names j ≡ None)) → ⊥
      go (inl (x, inside, is, read)) =
          let told : Some (string_bytes x) ≡ Some wanted = sym (slice_get-map string_bytes names j ∙ ap (option_map string_bytes) is) ∙ same in
          let is_wanted : string_bytes x ≡ wanted = cc in
          others j x (omega arith) before (ap string_bytes read ∙ is_wanted)
      go (inr (past, none)) = let told = sym (slice_get-map string_bytes names j ∙ ap (option_map string_bytes) none) ∙ same in cc

  -- a search told which name is the first that is wanted, if any
  abbrev pub FindsName : Option ℕ → Type 0
  FindsName r = MatchOption r (AllWithin (λ n. string_bytes n ≢ wanted) names 0 (length names))
      (λ i. (i < length names) × HoldsAt (λ n. string_bytes n ≡ wanted) names i × AllWithin (λ n. string_bytes n ≢ wanted) names 0 i)

  pub found-there : (r : Option ℕ) → FindsName r → IfSome r (λ i. (i < length names) × (slice_get (map string_bytes names) i ≡ Some wanted))
  found-there None found = tt
  found-there (Some i) found = (found.0, name-there i found.0 found.1)

  pub found-first : (r : Option ℕ) → FindsName r → IfSome r (λ i. (j : ℕ) → j < i → slice_get (map string_bytes names) j ≢ Some wanted)
  found-first None found = tt
  found-first (Some i) found = λ j before. name-elsewhere i j found.2 before

  pub found-nowhere : (r : Option ℕ) → FindsName r → IfNone r ((j : ℕ) → slice_get (map string_bytes names) j ≢ Some wanted)
  found-nowhere None found = λ j same. name-elsewhere (length names) j found (slice_get_within_map j same) same
    where
      slice_get_within_map : (j : ℕ) → slice_get (map string_bytes names) j ≡ Some wanted → j < length names
      slice_get_within_map j same = omega (arith, slice_get_within (map string_bytes names) j wanted same, length-map names string_bytes)
  found-nowhere (Some i) found = tt
