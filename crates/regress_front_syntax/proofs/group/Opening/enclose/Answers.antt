use Rattle.std.proofs.Common.{ap, ◌∙◌}
use Rattle.regress_front_tokens.specs.Ranges.{opens}
use Rattle.regress_front_tokens.proofs.RangeLemmas.{opens-Capture, opens-Group, opens-Atomic, opens-Modified, opens-Look, in_range}
use Rattle.regress_front_syntax.proofs.group.Opening.enclose.Goals as goal

pub returns-in-Capture-clause-ranges : goal.returns-in-Capture-clause-ranges
returns-in-Capture-clause-ranges c = rw c.in-Capture.is (λ e. ap (λ f. f c.args.enclosed_groups.start) (opens-Capture _ _ _) ∙ e)

pub returns-in-Group-clause-ranges : goal.returns-in-Group-clause-ranges
returns-in-Group-clause-ranges c = rw c.in-Group.is (λ e. ap (λ f. f c.args.enclosed_groups.start) (opens-Group _) ∙ e)

pub returns-in-Modified-clause-ranges : goal.returns-in-Modified-clause-ranges
returns-in-Modified-clause-ranges c = rw c.in-Modified.is (λ e. ap (λ f. f c.args.enclosed_groups.start) (opens-Modified _ _ _) ∙ e)

pub returns-in-Atomic-clause-ranges : goal.returns-in-Atomic-clause-ranges
returns-in-Atomic-clause-ranges c =
    let groups = c.args.enclosed_groups in
    rw c.in-Atomic.is (λ e. ap (λ f. f groups.start) (opens-Atomic _ _) ∙ in_range (opens c.args.contents.value) groups.start groups.end e)

pub returns-in-Lookahead-clause-ranges : goal.returns-in-Lookahead-clause-ranges
returns-in-Lookahead-clause-ranges c =
    let groups = c.args.enclosed_groups in
    rw c.in-Lookahead.is (λ e. ap (λ f. f groups.start) (opens-Look _ _ _ _) ∙ in_range (opens c.args.contents.value) groups.start groups.end e)

pub returns-in-Lookbehind-clause-ranges : goal.returns-in-Lookbehind-clause-ranges
returns-in-Lookbehind-clause-ranges c =
    let groups = c.args.enclosed_groups in
    rw c.in-Lookbehind.is (λ e. ap (λ f. f groups.start) (opens-Look _ _ _ _) ∙ in_range (opens c.args.contents.value) groups.start groups.end e)
