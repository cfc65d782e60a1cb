use Rattle.inspect.proofs.compiling.rewritten.Goals as goal

pub returns : goal.returns
returns c = let (n, formed) = c.in_ok-regex.ensures in (n, (c.optimize.ensures.rewritten n formed).well_formed)
