use Rattle.std.proofs.Common.{◌≡◌, ◌&&◌, not, Bool, true, false, refl, sym, ap, ◌∙◌}
use Rattle.std.proofs.lemmas.Bool.{eqb-true, true≢false}
use Rattle.regress_front_bytes.specs.Bitmaps.{byte_bitmap_contains}
use Rattle.regress_engine_analysis.proofs.FirstOfLemmas.{none-counted}
use Rattle.regress_engine_analysis.proofs.apart.share_none.Goals as goal

-- a member of a first set that is in no place with a second
not-both : (first second outside : Bool) → (first && second && outside) ≡ false → outside ≡ true → first ≡ true → second ≡ false
not-both first false outside none out is = refl
not-both first true outside none out is = absurd (true≢false (rw (is, out) at none))

pub returns : goal.returns
returns c = λ zero b small out is.
    let none = none-counted (byte_bitmap_contains c.both.result) (sym c.count_bits.ensures ∙ eqb-true c.count_bits.result 0 zero) b small in
    not-both (byte_bitmap_contains c.args.first.now b) (byte_bitmap_contains c.args.second.now b) (byte_bitmap_contains c.outside_of_characters.result b)
    (sym (c.both.ensures b small ∙ ap (λ t. t && byte_bitmap_contains c.outside_of_characters.result b) (c.both-shared.ensures b small)) ∙ none)
    (c.outside_of_characters.ensures b small ∙ ap not out) is
