use Rattle.std.specs.Prelude.{IfSome}
use Rattle.std.proofs.Common.{inl, inr, sym, subst}
use Rattle.regress_engine_singles.specs.Taking.{IsFirstAlone}
use Rattle.regress_engine_insn.specs.InsnViews.{instruction}
use Rattle.regress_engine_search.proofs.PlaceLemmas.{can-read}
use Rattle.regress_engine_attempt.specs.Attempts.{world_of}
use Rattle.regress_engine_trying.specs.Trying.{IsPassed}
use Rattle.regress_engine_trying.proofs.PassedLemmas.{passed-none, passed-other, passed-char}
use Rattle.regress_engine_attempt.proofs.attempt.Attempt.passed_before.Goals as goal

pub taken_before-requires : goal.taken_before-requires
taken_before-requires g c = can-read (g.Input.InputIndexer.view c.args.self.now.input) (g.met.Input.InputIndexer.are_of_kind c.args.self.now.input) c.args.offset c.requires.place

pub returns-in-Some : goal.returns-in-Some
returns-in-Some g c =
    let w = world_of c.args.self.now.program.now (g.Input.InputIndexer.view c.args.self.now.input) in
    let i = instruction c.args.insn.now in
    let j = instruction c.args.body.now in
    let taken = c.taken_before.ensures in
    subst (λ f. IsPassed w i j f c.args.left c.args.offset c.taken_before.result) (sym c.if-forward.true)
    (elim (subst (λ x. IfSome x (IsFirstAlone i)) c.in-Some.is c.requires.first) [
      | inl (rest, is) ↦ passed-other w i j c.args.left c.args.offset c.taken_before.result c.in-Some.byte rest is taken.low taken.high taken.each taken.other
      | inr (low, is) ↦ passed-char w i j c.args.left c.args.offset c.taken_before.result c.in-Some.byte is taken.low taken.high taken.each taken.ascii taken.other
    ])

pub returns-in_default : goal.returns-in_default
returns-in_default g c = passed-none (world_of c.args.self.now.program.now (g.Input.InputIndexer.view c.args.self.now.input)) (instruction c.args.insn.now) (instruction c.args.body.now) c.args.forward c.args.left c.args.offset
