use Rattle.std.proofs.Common.{ℕ, List, [], sym, ap, ◌∙◌, subst}
use Rattle.std.proofs.lemmas.Result.{IfOk-weaker}
use Rattle.std.proofs.Math.Seq.{map-set_same}
use Rattle.regress_engine_analysis.specs.declared.facts.Facts.{Facts}
use Rattle.regress_engine_analysis.specs.Planned.{IsSo, firsts, known_of}
use Rattle.regress_engine_analysis.specs.Shared.{no_facts, shared}
use Rattle.regress_engine_analysis.proofs.SharedLemmas.{known-set}
use Rattle.regress_engine_analysis.proofs.shortcuts.add_known.Goals as goal

pub returns-clause-first : goal.returns-clause-first
returns-clause-first c =
    let facts = shared c.args.facts.now in
    let f : Facts = record { first = c.at.result.now.first; known = c.known_at-known.result } in
    IfOk-weaker c.put.result _ _
    (λ _ is. ap firsts is ∙ map-set_same (λ (g : Facts). g.first) facts c.args.at f no_facts (ap (λ (g : Facts). g.first) c.at.ensures)) c.put.ensures

pub returns-clause-known : goal.returns-clause-known
returns-clause-known c =
    let facts = shared c.args.facts.now in
    let f : Facts = record { first = c.at.result.now.first; known = c.known_at-known.result } in
    IfOk-weaker c.put.result _ _
    (λ _ is program same so.
    subst (λ (fs : List Facts). (k : ℕ) → IsSo program (firsts facts) [] k (known_of fs k)) (sym is)
    (known-set (λ k known. IsSo program (firsts facts) [] k known) facts c.args.at f c.requires.inside (c.known_at-known.ensures program same) so)) c.put.ensures
