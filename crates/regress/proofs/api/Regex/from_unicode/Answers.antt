use Rattle.regress.proofs.api.Regex.from_unicode.Goals as goal

pub returns-clause-accepted : goal.returns-clause-accepted
returns-clause-accepted c = c.in_ok-compiled.ensures.accepted
