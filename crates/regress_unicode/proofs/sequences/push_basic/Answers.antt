use Rattle.std.proofs.Common.{◌++◌, sym, ap, ◌∙◌, append-nil}
use Rattle.std.proofs.lemmas.Result.{IfOk-equal}
use Rattle.regress_unicode.specs.Sequences.{strings_of, emoji_of}
use Rattle.regress_unicode.proofs.CaseLemmas.{basic_of-scalar, basic_of-surrogate}
use Rattle.regress_unicode.proofs.sequences.push_basic.Goals as goal

pub returns-in-Some : goal.returns-in-Some
returns-in-Some c =
    let here = ap emoji_of c.in-Some.ensures.value.1 ∙ sym (basic_of-scalar c.args.c c.in-Some.ensures.cases) in
    IfOk-equal c.push_emoji.result _ _ _ c.push_emoji.ensures (ap (λ l. strings_of c.args.strings.now ++ l) here)

pub returns-in-None : goal.returns-in-None
returns-in-None c =
    let old = strings_of c.args.strings.now in
    sym (ap (λ l. old ++ l) (basic_of-surrogate c.args.c c.requires c.in-None.ensures.cases) ∙ append-nil old)
