use Rattle.std.proofs.Common.{subst, sym, rules}
use Rattle.regress_meaning.specs.Meaning.{Forward}
use Rattle.regress_engine_input.specs.Views.{CanRead}
use Rattle.regress_engine_singles.proofs.PassingLemmas.{reads-on}
use Rattle.regress_engine_singles.proofs.ascii.passed_ahead.Goals as goal

pub pos_to_offset-requires : goal.pos_to_offset-requires
pos_to_offset-requires g c =
    let v = g.Input.InputIndexer.view c.args.input.now in
    let here = g.Input.Position.PositionType.offset c.new-behind.result in
    let behind = g.Input.Position.PositionType.offset c.matches.new.pos in
    let can : CanRead v behind = reads-on v (g.met.Input.InputIndexer.are_of_kind c.args.input.now) (g.Matcher.SingleCharMatcher.passes c.args.matcher.now) Forward here behind (subst (CanRead v) (sym c.new-behind.ensures) c.requires.place) c.if-matches.ensures in
    search rules
