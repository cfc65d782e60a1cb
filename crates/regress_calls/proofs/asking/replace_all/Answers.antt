use Rattle.std.proofs.Common.{◌≡◌, ◌∙◌, ℕ, List, map, chars, sym, ap, subst}
use Rattle.std.specs.Arc.{arc_value}
use Rattle.regress_meaning.specs.Matches.{Item, match_list}
use Rattle.regress_meaning.specs.Offsets.{of_utf8, told}
use Rattle.regress_replacing.specs.Replacing.{replaced}
use Rattle.regress_replacing.specs.Substitution.{substitution}
use Rattle.regress.specs.declared.api.Regex.{Regex}
use Rattle.regress.specs.Standing.{StandsFor, names_of_regex}
use Rattle.regress_calls.proofs.CopyLemmas.{made-as, one-pattern}
use Rattle.regress_calls.proofs.asking.replace_all.Goals as goal

pub returns-clause-replaced : goal.returns-clause-replaced
returns-clause-replaced c = λ r holds t o p stands.
    let text = c.args.text.now in
    let items : List Item = map (told (of_utf8 text)) (match_list t o p (chars text) 0) in
    let made : Regex → List ℕ = λ x. replaced text items (map (substitution (names_of_regex x) c.args.replacement.now text) items) in
    let same : c.deref.result.now ≡ r = c.deref.ensures ∙ one-pattern (arc_value c.in_ok-regex.regex) r (sym c.in_ok-regex.ensures.shared ∙ holds) in
    made-as c.as_bytes.result.now (made r) c.args.buffer.now c.copy_text.new.buffer c.copy_text.new.written c.copy_text.result
    (c.as_bytes.ensures.value ∙ c.in_ok-made.ensures.replaced t o p (subst (λ (x : Regex). StandsFor x t o p) (sym same) stands) ∙ ap made same)
    c.copy_text.ensures
