-- Reading back undoes reading on.
use Rattle.std.specs.Prelude.{slice_get}
use Rattle.std.proofs.Common.{◌≡◌, ℕ, suc, ◌<◌, ◌≤◌, length, Option, Some, None, option_map, refl, sym, ap, ◌∙◌}
use Rattle.std.proofs.lemmas.Option.{slice_get_within}
use Rattle.regress_meaning.specs.Meaning.{Forward, Backward}
use Rattle.regress_meaning.specs.Offsets.{Reading, offset}
use Rattle.regress_meaning.specs.Inputs.{Input, Tells, point_told}

module _ (input : Input) (reading : Reading) (tells : Tells reading input) where
  -- Behind a character the same character stands before.
  pub goes-back : (p c o : ℕ) → p ≤ length reading.points → input.next Forward (offset reading p) ≡ Some (c, o) → input.next Backward o ≡ Some (c, offset reading p)
  goes-back p c o room e = by_point (slice_get reading.points p) refl
    where
      by_point : (x : Option ℕ) → slice_get reading.points p ≡ x → input.next Backward o ≡ Some (c, offset reading p)
      by_point None f =
          let g = tells.next Forward p room ∙ ap (λ (o : Option ℕ). option_map (point_told reading) (option_map (λ c. (c, suc p)) o)) f in absurd (cc)
      by_point (Some d) f =
          let less : p < length reading.points = slice_get_within reading.points p d f in
          let g : ◌≡◌ {A = Option (ℕ × ℕ)} (Some (d, offset reading (suc p))) (Some (c, o)) =
          sym (tells.next Forward p room ∙ ap (λ (o : Option ℕ). option_map (point_told reading) (option_map (λ c. (c, suc p)) o)) f) ∙ e in
          let h : ◌≡◌ {A = ℕ × ℕ} (d, offset reading (suc p)) (c, o) = cc in
          ap (input.next Backward) (sym (ap (λ (v : ℕ × ℕ). v.1) h)) ∙ tells.next Backward (suc p) less
          ∙ ap (λ (o : Option ℕ). option_map (point_told reading) (option_map (λ c. (c, p)) o)) f ∙ ap (λ (v : ℕ × ℕ). Some (v.0, offset reading p)) h
