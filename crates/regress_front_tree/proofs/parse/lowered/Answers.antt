use Rattle.regress_front_tree.proofs.parse.lowered.Goals as goals

pub returns : goals.returns
returns c = λ last ranges.
    rw (c.first_scope.ensures.backward, c.first_scope.ensures.settings, c.new-lowering.ensures.tables, c.new-lowering.ensures.unicode, c.is_unicode.ensures) at c.in_ok-lower.ensures 0 last ranges
