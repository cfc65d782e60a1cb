use Rattle.regress_match.proofs.found.Match.named_str.Goals as goal

pub range-requires-clause-start_boundary : goal.range-requires-clause-start_boundary
range-requires-clause-start_boundary c = λ _. (c.in_ok-range.ensures.inside c.args.text.now c.requires).1
