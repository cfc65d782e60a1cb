use Rattle.std.proofs.Common.{◌≡◌, ◌-◌, ◌||◌, not, length, take, drop, sym, ap, ◌∙◌, arith}
use Rattle.std.proofs.lemmas.List.{take_all, length-drop}
use Rattle.std.specs.List.{list_any}
use Rattle.regress_meaning.specs.TableParts.{is_surrogate}
use Rattle.regress_meaning.specs.Offsets.{characters}
use Rattle.regress_engine_inputs.proofs.Utf16Whole.{characters-front, characters-none}
use Rattle.regress_engine_inputs.proofs.units.is_well_formed_utf16.Goals as goal

pub returns-then-is_half : goal.returns-then-is_half
returns-then-is_half c =
    let rest = c.loop-c.rest.now in
    let (first, less, room) = characters-front rest c.in-Some.c c.in-Some.next (sym c.utf16_right.ensures ∙ c.in-Some.is) in
    ap not (ap (λ b. b || list_any is_surrogate (characters (drop c.in-Some.next rest))) c.if-is_half.ensures ∙ sym (ap (list_any is_surrogate) first) ∙ c.loop-c.invariant)

pub slice_bounds-rest-count : goal.slice_bounds-rest-count
slice_bounds-rest-count c = (characters-front c.loop-c.rest.now c.in-Some.c c.in-Some.next (sym c.utf16_right.ensures ∙ c.in-Some.is)).2

pub slice_bounds-rest-start : goal.slice_bounds-rest-start
slice_bounds-rest-start c = (characters-front c.loop-c.rest.now c.in-Some.c c.in-Some.next (sym c.utf16_right.ensures ∙ c.in-Some.is)).2

pub loop-c-preserved : goal.loop-c-preserved
loop-c-preserved c =
    let rest = c.loop-c.rest.now in
    let next = c.in-Some.next in
    let (first, less, room) = characters-front rest c.in-Some.c next (sym c.utf16_right.ensures ∙ c.in-Some.is) in
    let size = length-drop next rest in
    let whole : take (length rest - next) (drop next rest) ≡ drop next rest = take_all (length rest - next) (drop next rest) (omega (arith, size)) in
    let behind : list_any is_surrogate (characters (drop next rest)) ≡ list_any is_surrogate (characters rest) =
    ap (λ b. b || list_any is_surrogate (characters (drop next rest))) c.if-is_half.ensures ∙ sym (ap (list_any is_surrogate) first) in
    ap (λ units. list_any is_surrogate (characters units)) whole ∙ behind ∙ c.loop-c.invariant

pub returns : goal.returns
returns c = ap not (sym (ap (list_any is_surrogate) (characters-none c.loop-c.rest.now (sym c.utf16_right.ensures ∙ c.in_default.is))) ∙ c.loop-c.invariant)
