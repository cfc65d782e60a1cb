-- The properties of strings that the standard lists ("Binary Unicode properties of strings").
use Rattle.std.specs.Prelude.{ℕ, Bool, not, ◌==◌, ◌&&◌, ◌||◌, Vec, List, [], ◌∷◌, ◌++◌, map, chars, codes, if◌then◌else◌}
use Rattle.std.specs.List.{flat_map, slice_split}
use Rattle.regress_meaning.specs.Text.{count_up}
use Rattle.regress_meaning.specs.Table.{code_points}
use Rattle.regress_meaning.specs.TableParts.{is_surrogate, small_parts}
use Rattle.ucd_emoji.specs.Binary.{is_emoji, is_emoji_component, is_emoji_presentation}
use Rattle.ucd_props.specs.Binary.{is_regional_indicator}
use Rattle.regress_unicode.specs.declared.emoji.TheConstants.{MODIFIED, FLAGS, TAGGED, JOINED}

-- strings as lists
abbrev pub strings_of : {Y Z : Type 0} → Vec (Vec ℕ Z) Y → List (List ℕ)
strings_of strings = map (λ s. s.items) strings.items

-- the strings of a text, which spaces part
unfoldable pub between_spaces : List ℕ → List (List ℕ)
between_spaces text = map chars (slice_split (λ b. b == 0x20) text)

-- shown as an emoji by itself
abbrev pub is_shown_alone : ℕ → Bool
is_shown_alone c = is_emoji_presentation c && not (is_regional_indicator c)

-- shown as an emoji with FE0F behind it
abbrev pub is_shown_marked : ℕ → Bool
is_shown_marked c = is_emoji c && not (is_emoji_presentation c || is_emoji_component c)

-- the emoji that is this character, or this and FE0F, if there is one
abbrev pub emoji_of : ℕ → List (List ℕ)
emoji_of c = if is_shown_alone c then (c ∷ []) ∷ [] else if is_shown_marked c then (c ∷ 0xFE0F ∷ []) ∷ [] else []

-- the same of a code point; a surrogate is no character
unfoldable pub basic_of : ℕ → List (List ℕ)
basic_of c = if is_surrogate c then [] else emoji_of c

-- Basic_Emoji: the emoji of one character, from low to high
unfoldable pub basic_emoji : List (List ℕ)
basic_emoji = flat_map basic_of (count_up 0 code_points)

-- each property of strings but RGI_Emoji; Emoji_Keycap_Sequence is the one of the small table
unfoldable pub kinds : List (List ℕ × List (List ℕ))
kinds =
    small_parts.sequences
    ++ (codes "Basic_Emoji", basic_emoji)
    ∷ (codes "RGI_Emoji_Modifier_Sequence", between_spaces MODIFIED.now)
    ∷ (codes "RGI_Emoji_Flag_Sequence", between_spaces FLAGS.now)
    ∷ (codes "RGI_Emoji_Tag_Sequence", between_spaces TAGGED.now)
    ∷ (codes "RGI_Emoji_ZWJ_Sequence", between_spaces JOINED.now)
    ∷ []

-- all properties of strings: to RGI_Emoji belongs each string of another one
unfoldable pub unicode_sequences : List (List ℕ × List (List ℕ))
unicode_sequences = kinds ++ (codes "RGI_Emoji", flat_map (λ k. k.1) kinds) ∷ []
