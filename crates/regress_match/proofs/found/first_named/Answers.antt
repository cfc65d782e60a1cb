use Rattle.std.proofs.Common.{◌≡◌, rules}
use Rattle.std.specs.Prelude.{◌≢◌}
use Rattle.std.specs.String.{string_bytes}
use Rattle.std.proofs.lemmas.Iterator.{YieldsList-from_slice, IsFirst-from_position}
use Rattle.regress_match.proofs.NameLemmas.{FindsName, found-there, found-first, found-nowhere}
use Rattle.regress_match.proofs.found.first_named.Goals as goal

-- what the search found
found : (c : goal.After-wanted-2-1) → FindsName c.args.wanted.now c.args.names.now c.position.result
found c =
    let wanted = c.args.wanted.now in
    IsFirst-from_position _ _ _ (λ n. string_bytes n ≡ wanted) (λ n. string_bytes n ≢ wanted) c.position.ensures.ran (YieldsList-from_slice c.args.names.now cc) (λ x q k. search rules) (λ x q k. search rules)

pub returns-clause-there : goal.returns-clause-there
returns-clause-there c = found-there c.args.wanted.now c.args.names.now c.position.result (found c)

pub returns-clause-first : goal.returns-clause-first
returns-clause-first c = found-first c.args.wanted.now c.args.names.now c.position.result (found c)

pub returns-clause-nowhere : goal.returns-clause-nowhere
returns-clause-nowhere c = found-nowhere c.args.wanted.now c.args.names.now c.position.result (found c)
