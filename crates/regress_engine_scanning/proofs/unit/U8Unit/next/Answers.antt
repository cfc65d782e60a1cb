use Rattle.std.specs.Prelude.{Option, None, Some, drop, slice_get}
use Rattle.std.proofs.Common.{◌≡◌, ◌-◌, ℕ, length, take, take_all, length-drop, subst, rules, arith}
use Rattle.std.proofs.lemmas.List.{map-id}
use Rattle.memchr.specs.Find.{IsFirstByte, is_byte}
use Rattle.regress_engine_scanning.specs.Least.{IsLeast}
use Rattle.regress_engine_scanning.proofs.LandmarkLemmas.{next-least}
use Rattle.regress_engine_scanning.proofs.unit.U8Unit.next.Goals as goal

pub returns-in_err-index-clause-least : goal.returns-in_err-index-clause-least
returns-in_err-index-clause-least c =
    let byte = c.args.byte in
    let bytes = c.args.units.now in
    let from = c.args.from in
    let size = length-drop from bytes in
    let rest : take (length bytes - from) (drop from bytes) ≡ drop from bytes = take_all _ _ (omega (arith, size)) in
    let none : IsFirstByte (is_byte byte) (drop from bytes) None = subst (λ hay. IsFirstByte (is_byte byte) hay None) rest c.in_err-index.ensures in
    let same : ◌≡◌ {A = Option ℕ} None c.from_residual.result = search rules in
    rw (map-id bytes) (subst (IsLeast (λ k. slice_get bytes k ≡ Some byte) from) same (next-least byte bytes from None c.requires none))

pub returns-clause-least : goal.returns-clause-least
returns-clause-least c =
    let byte = c.args.byte in
    let bytes = c.args.units.now in
    let from = c.args.from in
    let size = length-drop from bytes in
    let rest : take (length bytes - from) (drop from bytes) ≡ drop from bytes = take_all _ _ (omega (arith, size)) in
    let at = Some c.in_ok-index.index in
    let some : IsFirstByte (is_byte byte) (drop from bytes) at = subst (λ hay. IsFirstByte (is_byte byte) hay at) rest c.in_ok-index.ensures in
    rw (map-id bytes) (next-least byte bytes from at c.requires some)
