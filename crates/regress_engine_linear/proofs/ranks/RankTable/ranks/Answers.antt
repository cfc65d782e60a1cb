use Rattle.std.proofs.Common.{◌≡◌, ℕ, suc, ◌+◌, refl, sym, ap, ◌∙◌, arith}
use Rattle.regress_engine_insn.specs.InsnViews.{instruction}
use Rattle.regress_engine_insn.specs.declared.insn.Insn.{Insn}
use Rattle.regress_engine_insn.specs.declared.insn.Insn.TheVariants.{Goal, JustFail, EnterLoop, LoopAgain, Loop1CharBody, Jump, Alt, BackRef, Lookahead, Lookbehind, Atomic}
use Rattle.regress_engine_memory.specs.Deciding.{Table}
use Rattle.regress_engine_memory.specs.Needs.{taken_by}
use Rattle.regress_engine_memory.specs.TableViews.{table_of}
use Rattle.regress_engine_linear.specs.RankTables.{Heights, heights_of, lowers, ranks}
use Rattle.regress_engine_linear.proofs.ranks.RankTable.ranks.Goals as goal

pub returns-in_default : goal.returns-in_default
returns-in_default c program are =
    c.lowers-in_default.ensures ∙ ap (λ n. lowers h n at (at + 1)) c.taken_by.ensures ∙ ap (lowers h (taken_by (instruction c.args.insn.now)) at) next ∙ sym (by_kind c.args.insn.now refl)
  where
    h : Heights
    h = heights_of c.args.self.now

    t : Table
    t = table_of c.args.flow.now

    at : ℕ
    at = c.args.at

    next : at + 1 ≡ suc at
    next = omega arith

    by_kind : (i : Insn) → c.args.insn.now ≡ i → ranks h t program at (instruction i) ≡ lowers h (taken_by (instruction i)) at (suc at)
    by_kind Goal e = absurd (c.in_default.not-Goal e)
    by_kind JustFail e = absurd (c.in_default.not-JustFail e)
    by_kind (EnterLoop x) e = absurd (c.in_default.not-EnterLoop x e)
    by_kind (LoopAgain x) e = absurd (c.in_default.not-LoopAgain x e)
    by_kind (Loop1CharBody x y z) e = absurd (c.in_default.not-Loop1CharBody x y z e)
    by_kind (Jump x) e = absurd (c.in_default.not-Jump x e)
    by_kind (Alt x) e = absurd (c.in_default.not-Alt x e)
    by_kind (BackRef x y) e = absurd (c.in_default.not-BackRef x y e)
    by_kind (Lookahead x y z w) e = absurd (c.in_default.not-Lookahead x y z w e)
    by_kind (Lookbehind x y z w) e = absurd (c.in_default.not-Lookbehind x y z w e)
    by_kind (Atomic x y z) e = absurd (c.in_default.not-Atomic x y z e)
    by_kind _ e = refl
