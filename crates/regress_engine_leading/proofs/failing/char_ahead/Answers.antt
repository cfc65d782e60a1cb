use Rattle.std.proofs.Common.{nat_eq}
use Rattle.regress_engine_search.proofs.PlaceLemmas.{can-read}
use Rattle.regress_engine_singles.proofs.LeadingLemmas.{passed-places}
use Rattle.regress_engine_leading.proofs.failing.char_ahead.Goals as goal

pub this_char-requires : goal.this_char-requires
this_char-requires g c = can-read (g.Input.InputIndexer.view c.args.input.now) (g.met.Input.InputIndexer.are_of_kind c.args.input.now) c.args.offset c.requires

pub returns-clause-place : goal.returns-clause-place
returns-clause-place g c =
    passed-places (g.Input.InputIndexer.view c.args.input.now) (g.met.Input.InputIndexer.are_of_kind c.args.input.now) (nat_eq c.args.wanted) c.args.offset c.requires c.this_char.result c.this_char.ensures
