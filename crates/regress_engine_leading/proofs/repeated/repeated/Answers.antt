use Rattle.std.proofs.Common.{◌≡◌, ℕ, true, Option, Some, None, sym, subst, ◌∙◌, ap, arith}
use Rattle.regress_engine_insn.specs.Instructions.{Instruction, Program, Stands}
use Rattle.regress_engine_insn.specs.Instructions as code
use Rattle.regress_engine_insn.specs.declared.insn.Insn.TheVariants.{Goal}
use Rattle.regress_engine_code.specs.Standing.{program_of}
use Rattle.regress_engine_analysis.specs.Planned.{is_class}
use Rattle.regress_engine_search.proofs.InsnLemmas.{stands-as}
use Rattle.regress_engine_advance.proofs.ReadLemmas.{stands-read}
use Rattle.regress_engine_leading.specs.Repeating.{ClassAt}
use Rattle.regress_engine_leading.proofs.repeated.repeated.Goals as goal

-- a class stands at an address, since that which stands there is one
class-at : (program : Program) (at : ℕ) (i : Instruction) → Stands program at i → is_class i ≡ true → ClassAt program at
class-at program at i here class j there =
    let is : Some i ≡ Some j = sym here ∙ there in
    let same : i ≡ j = ap (λ (x : Option Instruction). elim x [ None ↦ i | Some y ↦ y ]) is in
    subst (λ x. is_class x ≡ true) same class

pub returns-clause-asked : goal.returns-clause-asked
returns-clause-asked c =
    let program = program_of c.args.program.now in
    let insns = c.args.program.now.insns.items in
    let size = c.if-insns-lt10.false in
    let at1 = stands-read c.insns-insns.result.now insns 1 Goal c.insns-insns.ensures (omega (arith, size)) in
    let at2 = stands-read c.insns-insns.result.now insns 2 Goal c.insns-insns.ensures (omega (arith, size)) in
    let at3 = stands-read c.insns-insns.result.now insns 3 Goal c.insns-insns.ensures (omega (arith, size)) in
    let at4 = stands-read c.insns-insns.result.now insns 4 Goal c.insns-insns.ensures (omega (arith, size)) in
    let at5 = stands-read c.insns-insns.result.now insns 5 Goal c.insns-insns.ensures (omega (arith, size)) in
    let at6 = stands-read c.insns-insns.result.now insns 6 Goal c.insns-insns.ensures (omega (arith, size)) in
    let at7 = stands-read c.insns-insns.result.now insns 7 Goal c.insns-insns.ensures (omega (arith, size)) in
    let at8 = stands-read c.insns-insns.result.now insns 8 Goal c.insns-insns.ensures (omega (arith, size)) in
    let at9 = stands-read c.insns-insns.result.now insns 9 Goal c.insns-insns.ensures (omega (arith, size)) in (
      c.in-BackRef.group,
      record {
        begins = subst (Stands program 1) (c.begins.ensures c.if-not-begins.false) at1;
        first = class-at program 2 _ at2 (sym c.is_class.ensures ∙ c.if-not-is_class.false);
        loop = subst (Stands program 3) c.in_ok-word.ensures at3;
        body = class-at program 4 _ at4 (sym c.is_class-else-not-is_class.ensures ∙ c.if-not-is_class-2.false);
        ends = subst (Stands program 5) (c.ends.ensures c.if-not-ends.false) at5;
        second = class-at program 6 _ at6 (sym c.is_class-else-not-is_class-2.ensures ∙ c.if-not-is_class-3.false);
        again = subst (Stands program 7) c.in_ok-between.ensures at7;
        other = class-at program 8 _ at8 (sym c.is_class-else-not-is_class-3.ensures ∙ c.if-not-is_class-4.false);
        refers = subst (λ b. Stands program 9 (code.back c.in-BackRef.group b)) c.if-icase.false (stands-as program 9 _ _ c.in-BackRef.is at9);
      },
    )
