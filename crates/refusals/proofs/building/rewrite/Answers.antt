use Rattle.refusals.proofs.building.rewrite.Goals as goal

pub returns : goal.returns
returns c = let (n, formed) = c.requires in (n, (c.optimize.ensures.rewritten n formed).well_formed)
