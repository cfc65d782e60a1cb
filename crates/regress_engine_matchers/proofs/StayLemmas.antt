-- What stands beside an offset in a text ends in it.
use Rattle.std.proofs.Common.{◌≡◌, ℕ, ◌+◌, ◌-◌, ◌≤◌, Bool, true, false, List, length, Some, refl, ap, arith, length-append, length-drop}
use Rattle.std.proofs.lemmas.Option.{slice_get_within}
use Rattle.regress_meaning.specs.Meaning.{Direction, Forward, Backward}
use Rattle.regress_meaning.specs.Inputs.{Input}
use Rattle.regress_meaning.specs.Steps.{only_if, literal}
use Rattle.regress_engine_input.specs.Views.{View, LiesIn, Kind, utf8, ascii, utf16, ucs2, input_of, input_of_kind, unit_beside, past_unit}
use Rattle.regress_engine_input.proofs.Standing.{stands_right, stands_left, right-split}

only-some : (b : Bool) (o q : ℕ) → only_if b o ≡ Some q → (b ≡ true) × (o ≡ q)
only-some true o q e = (refl, cc e)
only-some false o q e = absurd (cc e)

stays : (input : Input) (dir : Direction) (part : List ℕ) (o q : ℕ) → o ≤ length input.units → literal input dir part o ≡ Some q → q ≤ length input.units
stays input Forward part o q room e =
    let found = only-some (stands_right input.units o part) (o + length part) q e in
    let split = right-split input.units o part found.0 in
    let size = ap length split.1 in
    let a = length-append part split.0 in
    let b = length-drop o input.units in
    let same = found.1 in omega (arith, size, a, b, same, room)
stays input Backward part o q room e =
    let found = only-some (stands_left input.units o part) (o - length part) q e in
    let same = found.1 in omega (arith, same, room)

pub literal-stays : (v : View) (dir : Direction) (part : List ℕ) (o q : ℕ) → LiesIn v o → literal (input_of v) dir part o ≡ Some q → LiesIn v q
literal-stays v dir part o q room e = by_kind v.kind e
  where
    by_kind : (kind : Kind) → literal (input_of_kind kind v.table v.unicode v.units) dir part o ≡ Some q → q ≤ length v.units
    by_kind utf8 h = stays (input_of_kind utf8 v.table v.unicode v.units) dir part o q room h
    by_kind ascii h = stays (input_of_kind ascii v.table v.unicode v.units) dir part o q room h
    by_kind utf16 h = stays (input_of_kind utf16 v.table v.unicode v.units) dir part o q room h
    by_kind ucs2 h = stays (input_of_kind ucs2 v.table v.unicode v.units) dir part o q room h

pub unit-stays : (v : View) (dir : Direction) (o u : ℕ) → LiesIn v o → unit_beside v.units dir o ≡ Some u → LiesIn v (past_unit dir o)
unit-stays v Forward o u room e = slice_get_within v.units o u e
unit-stays v Backward o u room e = omega (arith, room)
