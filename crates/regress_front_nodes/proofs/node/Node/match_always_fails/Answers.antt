use Rattle.std.proofs.Common.{◌==◌, sym, ◌∙◌, ap}
use Rattle.std.proofs.lemmas.Bool.{false≢true}
use Rattle.regress_front_nodes.proofs.TreeLaws.{tree-ByteSet, tree-CharSet, tree-Bracket}
use Rattle.regress_front_nodes.proofs.NodeLemmas.{always_fails-nothing}
use Rattle.regress_front_nodes.proofs.KindLemmas.{other_than_set}
use Rattle.regress_front_nodes.proofs.node.Node.match_always_fails.Goals as goal

pub returns-in-ByteSet-clause-nothing : goal.returns-in-ByteSet-clause-nothing
returns-in-ByteSet-clause-nothing c = λ h context dir s all inside.
    always_fails-nothing context _ dir s (rw (c.in-ByteSet.is, tree-ByteSet) (ap (λ n. n == 0) (sym c.in-ByteSet.bytes.ok.0) ∙ sym c.is_empty.ensures ∙ h)) all inside

pub returns-in-CharSet-clause-nothing : goal.returns-in-CharSet-clause-nothing
returns-in-CharSet-clause-nothing c = λ h context dir s all inside.
    always_fails-nothing context _ dir s (rw (c.in-CharSet.is, tree-CharSet) (ap (λ n. n == 0) (sym c.in-CharSet.chars.ok.0) ∙ sym c.is_empty-in-CharSet.ensures ∙ h)) all inside

pub returns-in-Bracket-clause-nothing : goal.returns-in-Bracket-clause-nothing
returns-in-Bracket-clause-nothing c = λ h context dir s all inside.
    always_fails-nothing context _ dir s (rw (c.in-Bracket.is, tree-Bracket) (sym c.is_empty-in-Bracket.ensures ∙ h)) all inside

pub returns-in_default : goal.returns-in_default
returns-in_default c = record {
  form = sym (other_than_set c.args.self.now c.in_default.not-ByteSet c.in_default.not-CharSet c.in_default.not-Bracket);
  nothing = λ h. absurd (false≢true h);
}
