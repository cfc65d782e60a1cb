use Rattle.std.specs.Prelude.{replicate}
use Rattle.std.proofs.Common.{rules, ◌≡◌, ◌∷◌, [], ap₂, ◌∙◌}
use Rattle.regress_engine_analysis.specs.Shared.{placed}
use Rattle.regress_engine_analysis.proofs.SharedLemmas.{placed-one}
use Rattle.regress_engine_analysis.proofs.shared.SharedFacts.new.Goals as goal

pub returns : goal.returns
returns c =
    let places : c.resize.new.self.items ≡ replicate c.args.count 0 = search rules in
    let only : c.push.new.self.items ≡ c.args.facts ∷ [] = search rules in
    ap₂ placed only places ∙ placed-one c.args.facts c.args.count
