use Rattle.std.proofs.Common.{codes, refl, sym, ap, ap₂, ◌++◌, ◌∷◌, [], ◌∙◌}
use Rattle.std.specs.List.{flat_map}
use Rattle.std.proofs.lemmas.List.Folds.{flat_map-map}
use Rattle.regress_unicode.specs.Sequences.{unicode_sequences, strings_of}
use Rattle.regress_unicode.proofs.KeyLemmas.{plain-chars}
use Rattle.regress_unicode.proofs.sequences.sequences.Goals as goal

pub returns-clause-listed : goal.returns-clause-listed
unfolding unicode_sequences
returns-clause-listed c =
    let before = c.in_ok-sequences.ensures.listed in
    let held = c.in_ok-sequences.sequences.items in
    let all = c.in_ok-all.ensures ∙ ap (flat_map (λ s. strings_of s.1)) c.deref.ensures.value ∙ sym (flat_map-map _ _ held) ∙ ap (flat_map (λ k. k.1)) before in
    let last = ap₂ (λ key strings. (key, strings) ∷ []) (plain-chars (codes "RGI_Emoji") refl) all in
    c.in_ok-push_kind.ensures ∙ ap₂ (λ k l. k ++ l) before last
