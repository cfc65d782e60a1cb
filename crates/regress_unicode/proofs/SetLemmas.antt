-- Ranges of Unicode's data as intervals.
use Rattle.std.proofs.Common.{◌≡◌, ℕ, ◌+◌, ◌<◌, Bool, false, ◌&&◌, ◌||◌, nat_le, List, [], ◌∷◌, ◌++◌, length, take, get_or, refl, sym, ◌∙◌}
use Rattle.std.proofs.lemmas.List.{take_more}
use Rattle.std.proofs.lemmas.List.Recursion.{or_push}
use Rattle.std.proofs.lemmas.Bool.{and_parts, and_from, leb-true, le-leb}
use Rattle.ucd_table.specs.Rows.{in_ranges, HasExactly}
use Rattle.regress_meaning.specs.Text.{between}
use Rattle.regress_meaning.specs.Table.{last_code_point}
use Rattle.regress_meaning.specs.TableParts.{in_intervals, IntervalsRise}
use Rattle.regress_meaning.proofs.TableLemmas.{same_bool}
use Rattle.regress_front_sets.proofs.IntervalLemmas.{in_intervals-bounded}

pub in_ranges-nil : (c : ℕ) → in_ranges [] c ≡ false
unfolding in_ranges
in_ranges-nil c = refl

in_ranges-push : (rs : List (ℕ × ℕ)) (r : ℕ × ℕ) (c : ℕ) → in_ranges (rs ++ r ∷ []) c ≡ (in_ranges rs c || between r.0 r.1 c)
unfolding in_ranges
in_ranges-push rs r c = or_push (λ ranges. in_ranges ranges c) (λ s. between s.0 s.1 c) refl (λ _ _. refl) rs r

-- one range more
pub in_ranges-more : (rs : List (ℕ × ℕ)) (i : ℕ) (c : ℕ) → i < length rs
    → in_ranges (take (i + 1) rs) c ≡ (in_ranges (take i rs) c || between (get_or rs i (0, 0)).0 (get_or rs i (0, 0)).1 c)
in_ranges-more rs i c h = rw (take_more rs i (0, 0) h) (in_ranges-push (take i rs) (get_or rs i (0, 0)) c)

-- intervals that hold what ranges hold, hold what the ranges are of
pub holds-exactly : (xs rs : List (ℕ × ℕ)) (p : ℕ → Bool) → IntervalsRise xs → ((c : ℕ) → in_intervals xs c ≡ in_ranges rs c) → HasExactly rs p
    → (c : ℕ) → in_intervals xs c ≡ (nat_le c last_code_point && p c)
holds-exactly xs rs p rise same exact c =
    same_bool _ _
    (λ h. let small = in_intervals-bounded xs c rise h in and_from _ _ (le-leb c last_code_point small) (sym (exact c small) ∙ sym (same c) ∙ h))
    (λ h. let parts = and_parts _ _ h in same c ∙ exact c (leb-true _ _ parts.0) ∙ parts.1)
