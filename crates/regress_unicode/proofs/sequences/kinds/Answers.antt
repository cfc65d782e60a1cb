use Rattle.std.proofs.Common.{◌≡◌, List, [], ◌∷◌, ◌++◌, codes, ap, refl}
use Rattle.regress_meaning.specs.TableParts.{small_parts}
use Rattle.regress_unicode.specs.declared.emoji.TheConstants.{MODIFIED, FLAGS, TAGGED, JOINED}
use Rattle.regress_unicode.specs.Sequences.{kinds, basic_emoji, between_spaces}
use Rattle.regress_unicode.proofs.KeyLemmas.{plain-chars}
use Rattle.regress_unicode.proofs.sequences.kinds.Goals as goal

-- five elements are added one after another
five-added : {X : Type 0} (xs : List X) (a b c d e : X) → ((((xs ++ a ∷ []) ++ b ∷ []) ++ c ∷ []) ++ d ∷ []) ++ e ∷ [] ≡ xs ++ a ∷ b ∷ c ∷ d ∷ e ∷ []
five-added [] a b c d e = refl
five-added (x ∷ xs) a b c d e = ap (λ l. x ∷ l) (five-added xs a b c d e)

pub returns-clause-listed : goal.returns-clause-listed
unfolding kinds
returns-clause-listed c =
    let small = ap (λ parts. parts.sequences) c.in_ok-sequences.ensures.small in
    rw (
      c.in_ok-push_kind-5.ensures,
      c.in_ok-push_kind-4.ensures,
      c.in_ok-push_kind-3.ensures,
      c.in_ok-push_kind-2.ensures,
      c.in_ok-push_kind.ensures,
      c.in_ok-basic.ensures,
      c.in_ok-modified.ensures,
      c.in_ok-flags.ensures,
      c.in_ok-tagged.ensures,
      c.in_ok-joined.ensures,
      small,
      plain-chars (codes "Basic_Emoji") refl,
      plain-chars (codes "RGI_Emoji_Modifier_Sequence") refl,
      plain-chars (codes "RGI_Emoji_Flag_Sequence") refl,
      plain-chars (codes "RGI_Emoji_Tag_Sequence") refl,
      plain-chars (codes "RGI_Emoji_ZWJ_Sequence") refl,
    ) (
    five-added
    small_parts.sequences
    (codes "Basic_Emoji", basic_emoji)
    (codes "RGI_Emoji_Modifier_Sequence", between_spaces MODIFIED.now)
    (codes "RGI_Emoji_Flag_Sequence", between_spaces FLAGS.now)
    (codes "RGI_Emoji_Tag_Sequence", between_spaces TAGGED.now)
    (codes "RGI_Emoji_ZWJ_Sequence", between_spaces JOINED.now)
    )
