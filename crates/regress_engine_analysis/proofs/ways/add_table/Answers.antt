use Rattle.std.specs.Prelude.{slice_set}
use Rattle.std.proofs.Common.{rules, ◌≡◌, ℕ, ◌∷◌, [], ◌++◌, List, length, sym, ap, ◌∙◌, subst}
use Rattle.std.proofs.lemmas.Result.{IfOk-weaker}
use Rattle.std.proofs.Math.Seq.{map-set_same}
use Rattle.regress_engine_analysis.specs.declared.facts.Facts.{Facts}
use Rattle.regress_engine_analysis.specs.declared.facts.Known.TheVariants.{Ways}
use Rattle.regress_engine_analysis.specs.declared.ways.Ways as table
use Rattle.regress_engine_analysis.specs.Planned.{IsSo, firsts, known_of}
use Rattle.regress_engine_analysis.specs.Shared.{no_facts, shared}
use Rattle.regress_engine_analysis.proofs.SharedLemmas.{known-set}
use Rattle.regress_engine_analysis.proofs.WaysLemmas.{has-last, so-more}
use Rattle.regress_engine_analysis.proofs.ways.add_table.Goals as goal

pub returns-clause-first : goal.returns-clause-first
returns-clause-first c =
    let facts = shared c.args.facts.now in
    let f : Facts = record { first = c.at-2.result.now.first; known = Ways c.len.result } in
    IfOk-weaker c.put.result _ _
    (λ _ is. ap firsts is ∙ map-set_same (λ (g : Facts). g.first) facts c.args.at f no_facts (ap (λ (g : Facts). g.first) c.at-2.ensures)) c.put.ensures

pub returns-clause-known : goal.returns-clause-known
returns-clause-known c =
    let facts = shared c.args.facts.now in
    let old = c.args.tables.now.items in
    let f : Facts = record { first = c.at-2.result.now.first; known = Ways c.len.result } in
    let pushed : c.push.new.self.items ≡ old ++ c.table_of-table.result ∷ [] = search rules in
    let last : length old ≡ c.len.result = search rules in
    IfOk-weaker c.put.result _ _
    (λ _ is program same so.
    subst (λ (fs : List Facts). (k : ℕ) → IsSo program (firsts facts) c.push.new.self.items k (known_of fs k)) (sym is)
    (subst (λ (ts : List table.Ways). (k : ℕ) → IsSo program (firsts facts) ts k (known_of (slice_set facts c.args.at f) k)) (sym pushed)
    (known-set (λ k known. IsSo program (firsts facts) (old ++ c.table_of-table.result ∷ []) k known) facts c.args.at f c.requires.inside
    (subst (λ n. IsSo program (firsts facts) (old ++ c.table_of-table.result ∷ []) c.args.at (Ways n)) last
    (has-last program (firsts facts) old c.table_of-table.result c.args.at (c.table_of-table.ensures program same)))
    (λ k. so-more program (firsts facts) old c.table_of-table.result k (known_of facts k) (so k))))) c.put.ensures
