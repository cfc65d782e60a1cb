use Rattle.std.proofs.Common.{rules, ◌≡◌, true, not, sym, ◌∙◌}
use Rattle.std.proofs.lemmas.Bool.{false≢true}
use Rattle.regress_front_nodes.specs.Trees.{tree}
use Rattle.regress_front_nodes.specs.Singles.{takes_one}
use Rattle.regress_front_nodes.proofs.TreeLaws.{tree-Char, tree-ByteSequence, tree-ByteSet, tree-CharSet, tree-MatchAny, tree-MatchAnyExceptLineTerminator, tree-Bracket}
use Rattle.regress_front_nodes.proofs.NodeLemmas.{takes_one-further}
use Rattle.regress_front_nodes.proofs.KindLemmas.{other_than_single}
use Rattle.regress_front_nodes.proofs.node.Node.matches_exactly_one_char.Goals as goal

pub returns-in-Char-clause-steps : goal.returns-in-Char-clause-steps
returns-in-Char-clause-steps c = λ h context dir s.
    let form : true ≡ takes_one (tree c.args.self.now) = search (rules, tree-Char, tree-MatchAny, tree-MatchAnyExceptLineTerminator) in
    takes_one-further context _ dir s (sym form)

pub returns-in-Char-2-clause-steps : goal.returns-in-Char-2-clause-steps
returns-in-Char-2-clause-steps c = λ h context dir s.
    let form : true ≡ takes_one (tree c.args.self.now) = search (rules, tree-Char, tree-MatchAny, tree-MatchAnyExceptLineTerminator) in
    takes_one-further context _ dir s (sym form)

pub returns-in-Char-3-clause-steps : goal.returns-in-Char-3-clause-steps
returns-in-Char-3-clause-steps c = λ h context dir s.
    let form : true ≡ takes_one (tree c.args.self.now) = search (rules, tree-Char, tree-MatchAny, tree-MatchAnyExceptLineTerminator) in
    takes_one-further context _ dir s (sym form)

pub returns-in-ByteSequence-clause-steps : goal.returns-in-ByteSequence-clause-steps
returns-in-ByteSequence-clause-steps c = λ h context dir s.
    let form : c.is_one_char.result ≡ takes_one (tree c.args.self.now) = rw (c.in-ByteSequence.is, tree-ByteSequence, ← c.deref.ensures.value) c.is_one_char.ensures in
    takes_one-further context _ dir s (sym form ∙ h)

pub returns-in-ByteSet-clause-steps : goal.returns-in-ByteSet-clause-steps
returns-in-ByteSet-clause-steps c = λ h context dir s.
    let form : not c.match_always_fails.result ≡ takes_one (tree c.args.self.now) = search (rules, tree-ByteSet, tree-CharSet, tree-Bracket) in
    takes_one-further context _ dir s (sym form ∙ h)

pub returns-in_default : goal.returns-in_default
returns-in_default c = record {
  form = let i = c.in_default in
      sym (other_than_single c.args.self.now i.not-Char i.not-ByteSequence i.not-ByteSet i.not-CharSet i.not-MatchAny i.not-MatchAnyExceptLineTerminator i.not-Bracket);
  steps = λ h. absurd (false≢true h);
}
