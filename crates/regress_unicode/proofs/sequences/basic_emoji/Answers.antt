use Rattle.std.proofs.Common.{◌≡◌, map, ◌++◌, sym, ap, ◌∙◌, arith}
use Rattle.std.specs.List.{flat_map}
use Rattle.regress_meaning.specs.Text.{count_up}
use Rattle.regress_meaning.specs.Table.{code_points}
use Rattle.regress_unicode.specs.Sequences.{basic_emoji, basic_of}
use Rattle.regress_unicode.proofs.CountLemmas.{counted-more}
use Rattle.regress_unicode.proofs.sequences.basic_emoji.Goals as goal

pub loop-c-init : goal.loop-c-init
loop-c-init c = ap (map (λ s. s.items)) c.new-strings.ensures.items

pub loop-c-preserved : goal.loop-c-preserved
loop-c-preserved c =
    c.in_ok-push_basic.ensures ∙ ap (λ l. l ++ basic_of c.loop-c.c) c.loop-c.invariant ∙ sym (counted-more basic_of c.loop-c.c)

pub returns : goal.returns
unfolding basic_emoji
returns c =
    let whole : c.loop-c.c ≡ code_points = omega (arith, c.loop-c-test.false, c.loop-c.auto.c-end) in
    c.loop-c.invariant ∙ ap (λ n. flat_map basic_of (count_up 0 n)) whole
