use Rattle.std.proofs.Common.{◌≡◌, ◌∙◌, map, string_bytes, ℕ, ◌+◌, List, [], ◌∷◌, ◌++◌, length, slice_set, refl, ap, arith}
use Rattle.std.proofs.lemmas.List.{length-append}
use Rattle.regress_calls.specs.Names.{AreNumbers, written_over}
use Rattle.regress_calls.proofs.NameLemmas.{one-more, taken, skipped}
use Rattle.regress_calls.proofs.numbers.write_numbers.Goals as goal
use Rattle.regress_calls.proofs.numbers.write_numbers.Goals.{then-is_named, else-is_named}

pub loop-k-init : goal.loop-k-init
unfolding written_over
loop-k-init c = (omega arith, ([], refl, refl, refl))

pub loop-k-preserved : goal.loop-k-preserved
loop-k-preserved c =
    let names = map string_bytes c.args.names.now in let name = c.args.name.now in let k = c.loop-k.k in
    let before : List ℕ = c.loop-k.invariant.1.0 in
    let are : AreNumbers names name k before = c.loop-k.invariant.1.1 in
    let counted : c.loop-k.count ≡ length before = c.loop-k.invariant.1.2 in
    let written : c.loop-k.numbers ≡ written_over before c.args.numbers.now = c.loop-k.invariant.1.3 in
    elim c.if-is_named.branch [
      | then-is_named w ↦ (
        omega (arith, w.count-is, c.loop-k.invariant.0),
        (
          before ++ (k + 1) ∷ [],
          taken names name k before are (c.is_named.ensures.named w.if-is_named.true),
          omega (arith, w.count-is, counted, length-append before ((k + 1) ∷ [])),
          w.numbers-is ∙ w.write_number.ensures ∙ ap (λ (l : List ℕ). slice_set l c.loop-k.count (k + 1)) written
              ∙ ap (λ (n : ℕ). slice_set (written_over before c.args.numbers.now) n (k + 1)) counted ∙ one-more before c.args.numbers.now (k + 1),
        ),
      )
      | else-is_named w ↦ (
        omega (arith, w.count-is, c.loop-k.invariant.0),
        (
          before,
          skipped names name k before are (λ is. let yes = c.is_named.ensures.other is in let no = w.if-is_named.false in absurd (cc)),
          w.count-is ∙ counted,
          w.numbers-is ∙ written,
        ),
      )
    ]
