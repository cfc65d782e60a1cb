use Rattle.std.proofs.Common.{false, subst, sym}
use Rattle.regress_meaning.specs.Meaning.{Forward}
use Rattle.regress_front_nodes.specs.Trees.{tree}
use Rattle.regress_front_rules.specs.Laws.{IsRewritten}
use Rattle.regress_front_rules.proofs.KeepLemmas.{reaches-then}
use Rattle.regress_front_rules.proofs.RewriteLemmas.{wholes-right}
use Rattle.regress_front_opt.proofs.PassLemmas.{reaches-laws, visited-reaches}
use Rattle.regress_front_opt.proofs.rounds.optimize.Goals as goal
use Rattle.regress_front_opt.proofs.rounds.optimize.Goals.{then-branch+in_ok-settle-2, else-branch}

pub share-requires : goal.share-requires
share-requires c = reaches-laws c.settle.ensures.reached (c.requires.0, c.requires.1.lawful)

pub settle-requires-then-branch : goal.settle-requires-then-branch
settle-requires-then-branch c =
    let shared = visited-reaches Forward (λ v. false) (tree c.settle.new.node) (tree c.share.new.node) c.in_ok-share.field-0 c.in_ok-share.ensures in
    reaches-laws (reaches-then c.settle.ensures.reached shared) (c.requires.0, c.requires.1.lawful)

pub returns-in_err-settle-clause-rewritten : goal.returns-in_err-settle-clause-rewritten
returns-in_err-settle-clause-rewritten c = λ n whole. wholes-right n (tree c.args.regex.now.node) (tree c.settle.new.node) c.settle.ensures.reached whole

pub returns-in_err-share-clause-rewritten : goal.returns-in_err-share-clause-rewritten
returns-in_err-share-clause-rewritten c = λ n whole.
    wholes-right n (tree c.args.regex.now.node) (tree c.share.new.node) (reaches-then c.settle.ensures.reached c.in_err-share.ensures.0) whole

pub returns-in_err-settle-2-clause-rewritten : goal.returns-in_err-settle-2-clause-rewritten
returns-in_err-settle-2-clause-rewritten c = λ n whole.
    let shared = visited-reaches Forward (λ v. false) (tree c.settle.new.node) (tree c.share.new.node) c.in_ok-share.field-0 c.in_ok-share.ensures in
    wholes-right n (tree c.args.regex.now.node) (tree c.settle-then-branch.new.node) (reaches-then c.settle.ensures.reached (reaches-then shared c.settle-then-branch.ensures.reached)) whole

pub returns-clause-rewritten : goal.returns-clause-rewritten
returns-clause-rewritten c = λ n whole.
    let t = tree c.args.regex.now.node in
    let so_far = reaches-then c.settle.ensures.reached (visited-reaches Forward (λ v. false) (tree c.settle.new.node) (tree c.share.new.node) c.in_ok-share.field-0 c.in_ok-share.ensures) in
    elim c.if-branch.branch [
      | then-branch+in_ok-settle-2 w ↦ subst (λ r. IsRewritten n t (tree r.node)) (sym w.regex-is)
          (wholes-right n t (tree w.settle-then-branch.new.node) (reaches-then so_far w.settle-then-branch.ensures.reached) whole)
      | else-branch w ↦ subst (λ r. IsRewritten n t (tree r.node)) (sym w.regex-is) (wholes-right n t (tree c.share.new.node) so_far whole)
    ]
