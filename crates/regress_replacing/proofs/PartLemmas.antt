-- A template is read part by part.
use Rattle.std.proofs.Common.{◌≡◌, ◌≢◌, ℕ, ◌<◌, ◌≤◌, List, [], ◌∷◌, ◌++◌, length, get_or, flat_map, refl, sym, ap, ◌∙◌, arith, append-nil, append_assoc, length-append}
use Rattle.std.proofs.lemmas.Grind.{flat_map-append}
use Rattle.regress_meaning.specs.Matches.{Item}
use Rattle.regress_replacing.specs.declared.template.Part.{Part}
use Rattle.regress_replacing.specs.Substitution.{substitution}
use Rattle.regress_replacing.specs.TemplateParts.{part_gives}
use Rattle.regress_replacing.proofs.TemplateLemmas.{substituted-plain, substituted-end}

module _ (names : List (List ℕ)) (text : List ℕ) (i : Item) where
  -- one part more
  parts-one : (parts : List Part) (p : Part)
      → flat_map (part_gives names text i) (parts ++ p ∷ []) ≡ flat_map (part_gives names text i) parts ++ part_gives names text i p
  parts-one parts p = rw (flat_map-append, append-nil) refl

  -- a text up to a `$`, and what the `$` stands for
  pub parts-step : (parts : List Part) (plain what : Part) (front behind left rest : List ℕ) → rest ≡ front ++ (0x24 ∷ behind)
      → ((k : ℕ) → k < length front → get_or front k 0 ≢ 0x24) → part_gives names text i plain ≡ front
      → substitution names (0x24 ∷ behind) text i ≡ part_gives names text i what ++ substitution names left text i
      → flat_map (part_gives names text i) ((parts ++ plain ∷ []) ++ what ∷ []) ++ substitution names left text i
      ≡ flat_map (part_gives names text i) parts ++ substitution names rest text i
  parts-step parts plain what front behind left rest cut none is gives =
      rw (parts-one (parts ++ plain ∷ []) what, parts-one parts plain, is, cut, substituted-plain names text i front (0x24 ∷ behind) none, gives)
      (simp append_assoc)

  -- the rest of the template
  pub parts-last : (parts : List Part) (plain : Part) (rest : List ℕ) → ((k : ℕ) → k < length rest → get_or rest k 0 ≢ 0x24)
      → part_gives names text i plain ≡ rest
      → flat_map (part_gives names text i) (parts ++ plain ∷ []) ≡ flat_map (part_gives names text i) parts ++ substitution names rest text i
  parts-last parts plain rest none is =
      let alone : substitution names rest text i ≡ rest =
      ap (λ (t : List ℕ). substitution names t text i) (sym (append-nil rest)) ∙ substituted-plain names text i rest [] none
      ∙ ap (λ (r : List ℕ). rest ++ r) (substituted-end names text i) ∙ append-nil rest in
      rw (parts-one parts plain, is, alone) refl

-- what is left is shorter
pub rest-shorter : (front behind left rest : List ℕ) → rest ≡ front ++ (0x24 ∷ behind) → length left ≤ length behind → length left < length rest
rest-shorter front behind left rest cut within = omega (arith, ap length cut, length-append front (0x24 ∷ behind))
