use Rattle.std.proofs.Common.{◌≡◌, inl, inr, refl, sym, ap, ◌∙◌, arith, rules}
use Rattle.std.proofs.lemmas.Bool.{cases_lt}
use Rattle.regress_engine_scanning.specs.NibbleSets.{nibble_set_contains}
use Rattle.regress_engine_scanning.proofs.NibbleLemmas.{low-members}
use Rattle.regress_engine_scanning.proofs.nibble_set.NibbleSet.is_ascii.Goals as goal

pub returns : goal.returns
returns c =
    let past = c.loop-byte-test.false in
    (λ _. low-members c.args.self.now (search rules) (λ b low small. c.loop-byte.invariant b low (omega (arith, small, past))), λ _. refl)

pub returns-then-contains : goal.returns-then-contains
returns-then-contains c = (
  λ none. absurd (cc none),
  λ low. absurd (let less = low c.loop-byte.byte (sym c.contains.ensures ∙ c.if-contains.true) in let past = c.loop-byte.auto.byte in omega (arith, less, past)),
)

-- the last byte is none either
pub returns-else-contains : goal.returns-else-contains
returns-else-contains c = (
  λ _. low-members c.args.self.now (search rules)
      (λ b low small. elim (cases_lt b c.loop-byte.byte) [
        | inl less ↦ c.loop-byte.invariant b low less
        | inr more ↦
            let same : b ≡ c.loop-byte.byte = omega arith in
            ap (nibble_set_contains c.args.self.now) same ∙ sym c.contains.ensures ∙ c.if-contains.false
      ]),
  λ _. refl,
)
