use Rattle.std.proofs.Common.{◌≡◌, ℕ, List, [], ◌∷◌, ◌++◌, length, sym, ap, ap₂, ◌∙◌, arith}
use Rattle.std.proofs.lemmas.List.{length-set, take_more, take_more_set, take_all}
use Rattle.regress_engine_insn.specs.Layout.{char_set_code}
use Rattle.regress_engine_code.proofs.leaves.byte_set.Goals as goal

pub loop-i-preserved : goal.loop-i-preserved
loop-i-preserved c =
    let places = c.loop-i.invariant.places in
    record {
      front = take_more_set c.loop-i.chars c.loop-i.i c.from.result (omega (arith, c.requires, c.loop-i-test.true, places))
          ∙ ap₂ (λ (xs : List ℕ) (x : ℕ). xs ++ x ∷ []) c.loop-i.invariant.front c.from.ensures
          ∙ sym (take_more c.args.bytes.now c.loop-i.i 0 c.loop-i-test.true);
      places = length-set c.loop-i.chars c.loop-i.i c.from.result ∙ places;
    }

pub returns : goal.returns
returns c =
    let bs = c.args.bytes.now in
    let all : c.loop-i.i ≡ length bs = omega (arith, c.loop-i.auto.i-end, c.loop-i-test.false) in
    rw c.if-not-units.false
    (c.char_set.ensures ∙ ap char_set_code (rw all at c.loop-i.invariant.front ∙ take_all (length bs) bs (omega arith)))
