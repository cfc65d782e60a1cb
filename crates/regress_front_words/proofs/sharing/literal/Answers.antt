use Rattle.std.proofs.Common.{◌≡◌, false, [], ◌∷◌, ◌++◌, encode_utf8, encode_utf8_all, string_bytes, Vec, ℕ, Global, subst, sym, ap, ◌∙◌, arith}
use Rattle.std.proofs.lemmas.List.{take_all}
use Rattle.std.proofs.lemmas.Str.{IsUtf8-string_bytes}
use Rattle.regress_front_nodes.specs.Trees.{bytes}
use Rattle.regress_front_nodes.proofs.TreeLaws.{tree-ByteSequence}
use Rattle.regress_front_rules.specs.Words.{words}
use Rattle.regress_front_words.specs.Sharing.{IsMadeOf}
use Rattle.regress_front_words.proofs.ShareLemmas.{made-literal, literal-words, encode-more, some-members}
use Rattle.regress_front_words.proofs.sharing.literal.Goals as goal

pub loop-letter-preserved : goal.loop-letter-preserved
loop-letter-preserved c =
    c.in_ok-push.ensures.bytes ∙ ap (λ bs. bs ++ encode_utf8 c.letter-item.result) c.loop-letter.invariant
    ∙ encode-more c.args.word.now c.loop-letter.letter-index c.letter-item.result c.loop-letter-test.true c.letter-item.is

pub returns : goal.returns
returns c =
    let word = c.args.word.now in
    let some = some-members word (sym c.is_empty.ensures ∙ c.if-is_empty.false) in
    let whole = take_all c.loop-letter.letter-index word (omega (arith, c.loop-letter-test.false, c.loop-letter.auto.letter-index-end)) in
    let same = ap (λ (v : Vec ℕ Global). v.items) c.into_bytes.ensures.value in
    let bytes-same = c.loop-letter.invariant ∙ ap encode_utf8_all whole in
    rw (tree-ByteSequence c.into_bytes.result)
    record {
      made = subst (λ bs. IsMadeOf (word ∷ []) false (bytes bs)) (sym same) (made-literal word (string_bytes c.loop-letter.text) some (IsUtf8-string_bytes c.loop-letter.text) bytes-same);
      word = subst (λ bs. words (bytes bs) ≡ word ∷ []) (sym same) (literal-words word (string_bytes c.loop-letter.text) (IsUtf8-string_bytes c.loop-letter.text) bytes-same);
    }
