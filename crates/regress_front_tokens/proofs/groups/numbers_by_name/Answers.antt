use Rattle.std.proofs.Common.{◌≡◌, map, chars, string_bytes, sym, take, ap, ◌∙◌, refl, arith}
use Rattle.std.proofs.lemmas.List.{take_all}
use Rattle.std.proofs.lemmas.Grind.{text_groups}
use Rattle.std.proofs.lemmas.Str.{IsUtf8-string_bytes}
use Rattle.std.specs.Str.{bytes_eq}
use Rattle.std.specs.Cmp.Lexicographic.{nat_list_eq_equiv}
use Rattle.regress_meaning.specs.Tokens.{numbers_from}
use Rattle.regress_front_tokens.specs.Words.{code_points_of}
use Rattle.regress_front_tables.proofs.EntryLemmas.{same_text-chars}
use Rattle.regress_front_tokens.proofs.ModeLemmas.{numbers_from-step}
use Rattle.regress_front_tokens.proofs.groups.numbers_by_name.Goals as goal

pub loop-group-init : goal.loop-group-init
loop-group-init c = λ name utf8. rw c.new-lists.ensures.empty refl

pub loop-group-preserved : goal.loop-group-preserved
loop-group-preserved c = λ name utf8.
    let other = c.index-names-group.result in
    let same = nat_list_eq_equiv.symm name (string_bytes other) ∙ sym (same_text-chars (string_bytes other) name (IsUtf8-string_bytes other) utf8) in
    let step = numbers_from-step (chars name) (take c.min.result c.args.names.now) c.loop-group.group other (bytes_eq name (string_bytes other)) (omega arith) c.index-names-group.is same in
    grind (arith, text_groups, step, c.loop-group.invariant name utf8)

pub returns : goal.returns
returns c = λ few name utf8.
    let names = c.args.names.now in
    let counted = take c.min.result names in
    let all : counted ≡ names = take_all c.min.result names (omega arith) in
    let done : take c.loop-group.group counted ≡ counted = take_all c.loop-group.group counted (omega arith) in
    c.loop-group.invariant name utf8 ∙ ap (λ ns. numbers_from 0 (chars name) (map code_points_of ns)) (done ∙ all)
