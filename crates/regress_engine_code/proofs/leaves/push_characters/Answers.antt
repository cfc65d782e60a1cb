use Rattle.std.proofs.Common.{◌∷◌, [], ◌++◌, List, ℕ, map, map-id, sym, ap, ◌∙◌, append_assoc, append-nil}
use Rattle.std.proofs.lemmas.Iterator.{YieldsList-from_chars}
use Rattle.std.proofs.lemmas.Iterator.Consumers.{YieldsList-end}
use Rattle.std.proofs.lemmas.List.{map-append}
use Rattle.regress_engine_insn.specs.declared.insn.Insn.{Insn}
use Rattle.regress_engine_insn.specs.declared.insn.Insn.TheVariants as insn
use Rattle.regress_engine_code.proofs.leaves.push_characters.Goals as goal

pub loop-c-init : goal.loop-c-init
loop-c-init c = sym (append-nil c.args.insns.now.items)

pub loop-c-preserved : goal.loop-c-preserved
loop-c-preserved c =
    c.in_ok-push.ensures.items ∙ ap (λ (is : List Insn). is ++ insn.Char c.from.result ∷ []) c.loop-c.invariant
    ∙ append_assoc c.args.insns.now.items (map (λ d. insn.Char d) c.loop-c.yielded) (insn.Char c.from.result ∷ [])
    ∙ ap (λ (is : List Insn). c.args.insns.now.items ++ is)
    (ap (λ (x : ℕ). map (λ d. insn.Char d) c.loop-c.yielded ++ insn.Char x ∷ []) c.from.ensures ∙ sym (map-append (λ d. insn.Char d) c.loop-c.yielded (c.in-Some.c ∷ [])))

pub returns : goal.returns
returns c =
    let done = YieldsList-end (YieldsList-from_chars c.args.text.now c.utf8.text cc) c.loop-c.yielded _ c.loop-c.yielded_by _ _ c.in-None.is c.next.ensures.steps in
    c.loop-c.invariant ∙ ap (λ (cs : List ℕ). c.args.insns.now.items ++ map (λ d. insn.Char d) cs) (sym (map-id c.loop-c.yielded) ∙ done.0)
