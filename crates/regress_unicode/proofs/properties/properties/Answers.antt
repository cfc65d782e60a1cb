use Rattle.std.proofs.Common.{◌≡◌, ℕ, Bool, List, String, Vec, Global, chars, codes, string_bytes, map, refl, ap, subst, ◌++◌, ◌∷◌, [], ◌∙◌, append_assoc}
use Rattle.std.specs.List.{AllZip}
use Rattle.std.proofs.lemmas.List.{map_push}
use Rattle.regress_front_sets.specs.declared.interval.Interval.{Interval}
use Rattle.regress_front_sets.specs.Intervals.{ends_of}
use Rattle.regress_front_tables.specs.Entries.{entry_of}
use Rattle.regress_unicode.specs.Unicode.{Hold, IsHeld}
use Rattle.regress_unicode.specs.Casefold.{changes_when_nfkc_casefolded}
use Rattle.regress_unicode.specs.Keys.{key_sets}
use Rattle.regress_unicode.proofs.KeyLemmas.{plain-chars, zip-more}
use Rattle.regress_unicode.proofs.properties.properties.Goals as goal

-- one entry more
held-more : (entries new : List (String Global × Vec Interval Global)) (keys : List (List ℕ × (ℕ → Bool))) (e : String Global × Vec Interval Global) (k : List ℕ × (ℕ → Bool))
    → AllZip IsHeld (map (entry_of (λ v. ends_of v.items)) entries) keys → IsHeld (entry_of (λ v. ends_of v.items) e) k → new ≡ entries ++ e ∷ []
    → AllZip IsHeld (map (entry_of (λ v. ends_of v.items)) new) (keys ++ k ∷ [])
held-more entries new keys e k before here is =
    rw (is, map_push {X = String Global × Vec Interval Global} (entry_of (λ v. ends_of v.items)) entries e) (zip-more IsHeld _ _ _ _ before here)

pub returns-clause-held : goal.returns-clause-held
returns-clause-held c =
    let named : chars (string_bytes c.in_ok-name.name) ≡ codes "Changes_When_NFKC_Casefolded" = ap chars c.in_ok-name.ensures.ok ∙ plain-chars (codes "Changes_When_NFKC_Casefolded") refl in
    let called : chars (string_bytes c.in_ok-alias.alias) ≡ codes "CWKCF" = ap chars c.in_ok-alias.ensures.ok ∙ plain-chars (codes "CWKCF") refl in
    let folded = c.in_ok-folded.ensures in
    let again : Hold (ends_of c.in_ok-again.again.items) changes_when_nfkc_casefolded = λ n. rw (c.in_ok-again.ensures.items, c.deref.ensures.value) (folded n) in
    let first = held-more _ _ _ (c.in_ok-name.name, c.in_ok-folded.folded) (codes "Changes_When_NFKC_Casefolded", changes_when_nfkc_casefolded) c.in_ok-properties.ensures.held (named, folded) c.in_ok-push.ensures.items in
    let second = held-more _ _ _ (c.in_ok-alias.alias, c.in_ok-again.again) (codes "CWKCF", changes_when_nfkc_casefolded) first (called, again) c.in_ok-push-2.ensures.items in
    subst (AllZip IsHeld _) (append_assoc key_sets _ _) second
