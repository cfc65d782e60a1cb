use Rattle.std.proofs.Common.{◌≡◌, inl, inr, ◌∷◌, ℕ, List, Some, None, false, drop, option_map, sym, ap, ◌∙◌, arith}
use Rattle.std.specs.Prelude.{slice_get}
use Rattle.std.specs.Char.{is_ascii_digit}
use Rattle.std.proofs.lemmas.Str.Pattern.{split_once_first}
use Rattle.regress_replacing.specs.TemplateParts.{mark_gives, part_gives}
use Rattle.regress_replacing.proofs.TemplateLemmas.{template-end, template-mark, template-name, template-none, read-first, read-none, first-cut}
use Rattle.regress_replacing.proofs.template.reference.Goals as goal
use Rattle.regress_replacing.proofs.template.reference.Goals.{then-first-eq60+then-is_named+in_default-split_once, else-first-eq60, else-first-eq60-via-then-first-eq60+else-is_named, else-first-eq60-via-else-first-eq60}

pub returns-in_default-clause-begins : goal.returns-in_default-clause-begins
returns-in_default-clause-begins c = λ names text i same.
    let nothing = read-none c.args.behind.now c.first.result (c.first.ensures.value ∙ ap (λ t. slice_get t 0) c.as_bytes.ensures.value) c.in_default.is in
    rw nothing (template-end names text i)

-- the first character
first : (c : goal.In-Some-mark) → c.args.behind.now ≡ c.in-Some.first.now ∷ drop 1 c.args.behind.now
first c = read-first c.args.behind.now c.first.result c.in-Some.first (c.first.ensures.value ∙ ap (λ t. slice_get t 0) c.as_bytes.ensures.value) c.in-Some.is

pub range_from-requires : goal.range_from-requires
range_from-requires c = λ _. first-cut c.args.behind.now (drop 1 c.args.behind.now) c.in-Some.first.now c.utf8.behind (first c) c.in-Some-mark.ensures.ascii

pub returns-in-Some-mark-clause-begins : goal.returns-in-Some-mark-clause-begins
returns-in-Some-mark-clause-begins c = λ names text i same.
    let behind = c.args.behind.now in
    let is = read-first behind c.first.result c.in-Some.first (c.first.ensures.value ∙ ap (λ t. slice_get t 0) c.as_bytes.ensures.value) c.in-Some.is in
    let there : mark_gives text i c.in-Some.first.now ≡ Some (part_gives names text i c.in-Some-mark.part) =
    sym (c.mark.ensures.gives names text i) ∙ ap (option_map (part_gives names text i)) c.in-Some-mark.is in
    rw c.range_from.ensures.value (template-mark names text i behind (drop 1 behind) (part_gives names text i c.in-Some-mark.part) c.in-Some.first.now is there)

pub range_from-requires-then-is_named : goal.range_from-requires-then-is_named
range_from-requires-then-is_named c = λ _.
    let is = read-first c.args.behind.now c.first.result c.in-Some.first (c.first.ensures.value ∙ ap (λ t. slice_get t 0) c.as_bytes.ensures.value) c.in-Some.is in
    first-cut c.args.behind.now (drop 1 c.args.behind.now) c.in-Some.first.now c.utf8.behind is (omega arith)

pub returns-in-Some-split_once-clause-begins : goal.returns-in-Some-split_once-clause-begins
returns-in-Some-split_once-clause-begins c = λ names text i same.
    let behind = c.args.behind.now in
    let inside = c.range_from-then-is_named.result.now in
    let is = read-first behind c.first.result c.in-Some.first (c.first.ensures.value ∙ ap (λ t. slice_get t 0) c.as_bytes.ensures.value) c.in-Some.is in
    let bracket : behind ≡ 0x3C ∷ inside = is ∙ ap (λ (d : ℕ). d ∷ drop 1 behind) c.if-first-eq60.true ∙ ap (λ (t : List ℕ). 0x3C ∷ t) (sym c.range_from-then-is_named.ensures.value) in
    let split = rw c.in-Some-split_once.is at (split_once_first 0x3E inside c.split_once.result c.split_once.ensures.cases (omega arith)) in
    template-name names text i behind inside c.in-Some-split_once.name.now c.in-Some-split_once.rest.now bracket (same ∙ c.if-is_named.true) split.0 split.1 split.2

pub returns-clause-begins : goal.returns-clause-begins
returns-clause-begins c = λ names text i same.
    let behind = c.args.behind.now in
    let d = c.in-Some.first.now in
    let is = read-first behind c.first.result c.in-Some.first (c.first.ensures.value ∙ ap (λ t. slice_get t 0) c.as_bytes.ensures.value) c.in-Some.is in
    let unmarked : mark_gives text i d ≡ None = sym (c.mark.ensures.gives names text i) ∙ ap (option_map (part_gives names text i)) c.in_default-mark.is in
    let other : is_ascii_digit d ≡ false = sym c.is_ascii_digit.ensures.value ∙ c.if-is_ascii_digit.false in
    template-none names text i behind (drop 1 behind) d is unmarked other
    (elim c.if-first-eq60.branch [
      | then-first-eq60+then-is_named+in_default-split_once w ↦
          let inside = w.range_from-then-is_named.result.now in
          let none = rw w.in_default-split_once.is at (split_once_first 0x3E inside w.split_once.result w.split_once.ensures.cases (omega arith)) in
          inr (inr (rw w.range_from-then-is_named.ensures.value at none))
      | else-first-eq60 w ↦
          elim w.else-first-eq60.branch [
            | else-first-eq60-via-then-first-eq60+else-is_named v ↦ inr (inl (same ∙ v.if-is_named.false))
            | else-first-eq60-via-else-first-eq60 v ↦ inl v.if-first-eq60.false
          ]
    ])
