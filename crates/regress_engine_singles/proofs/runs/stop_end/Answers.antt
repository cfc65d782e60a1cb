use Rattle.std.specs.Prelude.{slice_index}
use Rattle.std.proofs.Common.{◌≡◌, not, take, length-take, sym, ap, ◌∙◌, arith}
use Rattle.std.proofs.lemmas.List.{get_or-take}
use Rattle.regress_meaning.specs.Text.{holds}
use Rattle.regress_engine_singles.proofs.AsciiLemmas.{part-low}
use Rattle.regress_engine_singles.proofs.runs.stop_end.Goals as goal

pub returns-then-are_ascii : goal.returns-then-are_ascii
returns-then-are_ascii c =
    let bytes = c.args.bytes.now in
    let end = c.args.end in
    let far = c.next_stop-far.result in
    let at = c.next_stop-far.ensures in
    let size = length-take end bytes in
    let room = at.room in
    record {
      low = at.low;
      high = omega (arith, size, room);
      small = part-low bytes c.args.offset far (omega (arith, size, room)) (c.are_ascii.ensures.0 c.if-are_ascii.true);
      each = λ k from less.
          let here : slice_index (take end bytes) k ≡ slice_index bytes k = get_or-take end bytes k 0 (omega (arith, size, room, less)) in
          ap not (ap (holds c.args.stops) (sym here) ∙ at.none k from less);
    }
