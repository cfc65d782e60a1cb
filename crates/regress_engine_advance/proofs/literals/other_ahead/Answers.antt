use Rattle.std.proofs.Common.{◌∷◌, sym, ◌∙◌, arith}
use Rattle.regress_engine_singles.proofs.ByteLemmas.{not-there}
use Rattle.regress_engine_advance.proofs.literals.other_ahead.Goals as goal

pub returns : goal.returns
returns g c = λ rest yes.
    not-there (g.Input.InputIndexer.view c.args.input.now) c.requires (c.args.byte ∷ rest) c.args.offset _ (omega arith) c.new-position.ensures c.peek_byte_right.result c.peek_byte_right.ensures (sym yes ∙ c.ne.ensures)
