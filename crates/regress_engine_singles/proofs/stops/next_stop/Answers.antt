use Rattle.std.specs.Prelude.{slice_index}
use Rattle.std.proofs.Common.{◌≡◌, ◌-◌, None, Some, length, take, drop, take_all, length-drop, rules, subst, arith}
use Rattle.memchr.specs.Find.{IsFirstByte, is_byte3}
use Rattle.regress_engine_singles.proofs.StopLemmas.{first-stop, no-stop}
use Rattle.regress_engine_singles.proofs.stops.next_stop.Goals as goal

pub returns-in-Some : goal.returns-in-Some
returns-in-Some c =
    let bytes = c.args.bytes.now in
    let size = length-drop c.args.offset bytes in
    let rest : take (length bytes - c.args.offset) (drop c.args.offset bytes) ≡ drop c.args.offset bytes = take_all _ _ (omega (arith, size)) in
    (first-stop c.args.stops (search rules) bytes c.args.offset c.requires c.in-Some.index (subst (λ bs. IsFirstByte (is_byte3 (slice_index c.args.stops 0) (slice_index c.args.stops 1) (slice_index c.args.stops 2)) bs (Some c.in-Some.index)) rest c.in-Some.ensures))

pub returns-in-None : goal.returns-in-None
returns-in-None c =
    let bytes = c.args.bytes.now in
    let size = length-drop c.args.offset bytes in
    let rest : take (length bytes - c.args.offset) (drop c.args.offset bytes) ≡ drop c.args.offset bytes = take_all _ _ (omega (arith, size)) in
    (no-stop c.args.stops (search rules) bytes c.args.offset c.requires (subst (λ bs. IsFirstByte (is_byte3 (slice_index c.args.stops 0) (slice_index c.args.stops 1) (slice_index c.args.stops 2)) bs None) rest c.in-None.ensures))
