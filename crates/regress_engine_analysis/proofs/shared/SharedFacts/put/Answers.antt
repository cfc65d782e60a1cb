use Rattle.std.specs.Prelude.{slice_set}
use Rattle.std.proofs.Common.{rules, ◌≡◌, ℕ, ◌∷◌, [], ◌++◌, List, length, ap₂, ◌∙◌}
use Rattle.regress_engine_analysis.specs.declared.facts.Facts.{Facts}
use Rattle.regress_engine_analysis.specs.Shared.{placed}
use Rattle.regress_engine_analysis.proofs.SharedLemmas.{placed-put}
use Rattle.regress_engine_analysis.proofs.shared.SharedFacts.put.Goals as goal

pub returns : goal.returns
returns c =
    let self = c.args.self.now in
    let pushed : c.push.new.self.items ≡ self.facts.items ++ c.args.facts ∷ [] = search rules in
    let last : c.in-Ok.place ≡ length self.facts.items = search rules in
    ap₂ (λ (fs : List Facts) (k : ℕ). placed fs (slice_set self.places.items c.args.at k)) pushed last
    ∙ placed-put self.facts.items c.args.facts self.places.items c.args.at self.within
