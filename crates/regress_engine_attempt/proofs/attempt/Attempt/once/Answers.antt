use Rattle.std.proofs.Common.{refl}
use Rattle.regress_engine_search.proofs.ReadyLemmas.{ready_read}
use Rattle.regress_engine_attempt.proofs.attempt.Attempt.once.Goals as goal

pub ascii_bracket-requires : goal.ascii_bracket-requires
ascii_bracket-requires g c =
    ready_read _ (g.Input.InputIndexer.view c.args.self.now.input) (g.met.Input.InputIndexer.are_of_kind c.args.self.now.input) _ _ _ c.requires.ready (rw c.in-AsciiBracket.is refl)

pub any_in_line-requires : goal.any_in_line-requires
any_in_line-requires g c =
    ready_read _ (g.Input.InputIndexer.view c.args.self.now.input) (g.met.Input.InputIndexer.are_of_kind c.args.self.now.input) _ _ _ c.requires.ready (rw c.in-MatchAnyExceptLineTerminator.is refl)
