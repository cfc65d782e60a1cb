-- What patterns match, by example. Each tree is the one that the grammar reads in the pattern of the comment above it,
-- and each match list is computed. Places count code points.
use Rattle.std.proofs.Common.{◌≡◌, ℕ, true, false, List, [], ◌∷◌, map, Option, Some, None, refl}
use Prim.Native.Char.{Char, code}
use Prim.Native.String.{String}
use lib.Chars.{codes}
use Rattle.std.specs.Str.{chars}
use Rattle.std.specs.Fmt.{digits as number_digits}
use Rattle.regress_meaning.specs.Table.{Table, canon}
use Rattle.regress_meaning.specs.TableParts.{table_of, small_parts, image, in_intervals, entry}
use Rattle.regress_meaning.specs.Class.{value_of, is_word, no_string, range, digits, words, sequences, union, intersection, difference, nested}
use Rattle.regress_meaning.specs.Pattern.{Pattern, nothing, character, any, class, class_escape, sequence, choice, capture, grouped, atomic, modified, repeated, look, reference, line_start, line_end, word_boundary}
use Rattle.regress_meaning.specs.Flags.{Options, options_of, settings_of}
use Rattle.regress_meaning.specs.Tokens.{greatest}
use Rattle.regress_meaning.specs.Grammar.{class_of}
use Rattle.regress_meaning.specs.Meaning.{outcomes, step, beside, iterations, string_steps, class_steps, references, repeat_group}
use Rattle.regress_meaning.specs.Matches.{Item, match_list, attempt, first_match, first_from, list_from}
use Rattle.regress_meaning.specs.Literal.{occurrences}
use Rattle.regress_meaning.specs.Offsets.{Reading, of_utf8, of_utf16, of_ucs2, characters, told}
use Rattle.regress_meaning.specs.Output.{lines_of}

-- ---- words for the examples

-- what they compute with
computation : Unit {0}
unfolding outcomes step beside iterations string_steps class_steps references repeat_group match_list attempt
    first_match first_from list_from occurrences value_of is_word canon image in_intervals entry characters chars
    number_digits
computation = tt

-- no flags
abbrev pub off : Options
off = options_of []

abbrev pub small : Table
small = table_of small_parts

-- the match list from a place on, under flags and the small table
abbrev matches_under : Options → Pattern → List ℕ → ℕ → List Item
matches_under o p text place = match_list small o p text place

-- the same without flags, from the text's start
abbrev matches : Pattern → String → List Item
matches p text = matches_under off p (codes text) 0

-- the match list in what a reading reads, told in its offsets
abbrev matches_in : Reading → Pattern → List Item
matches_in r p = map (told r) (matches_under off p r.points 0)

abbrev item : ℕ → ℕ → List (Option (ℕ × ℕ)) → Item
item start end groups = record { start = start; end = end; groups = groups }

-- what a group took
abbrev took : ℕ → ℕ → Option (ℕ × ℕ)
took start end = Some (start, end)

-- terms one after another
abbrev pub terms : List Pattern → Pattern
terms [] = nothing
terms (p ∷ ps) = sequence p (terms ps)

abbrev pub letter : Char → Pattern
letter c = character (code c)

-- characters one after another
abbrev pub letters : String → Pattern
letters s = terms (map character (codes s))

-- a capturing group without a name
abbrev pub group : ℕ → Pattern → Pattern
group k a = capture k None a

-- `*`, `+` and `?` behind a, in which the groups from first to before last are opened
abbrev pub star : Pattern → ℕ → ℕ → Pattern
star a first last = repeated a first last 0 greatest true

abbrev pub plus : Pattern → ℕ → ℕ → Pattern
plus a first last = repeated a first last 1 greatest true

abbrev pub maybe : Pattern → ℕ → ℕ → Pattern
maybe a first last = repeated a first last 0 1 true

-- ---- alternatives, repetitions and groups

-- (a|ab)(c|bcd)(d*) on abcd
abbrev pub two_choices : Pattern
two_choices =
    terms (group 0 (choice (letters "a") (letters "ab")) ∷ group 1 (choice (letters "c") (letters "bcd"))
    ∷ group 2 (terms (star (letter "d") 3 3 ∷ [])) ∷ [])

ordered_alternatives_prefer_the_first : matches two_choices "abcd" ≡ item 0 4 (took 0 1 ∷ took 1 4 ∷ took 4 4 ∷ []) ∷ []
unfolding computation
ordered_alternatives_prefer_the_first = refl

-- (z)((a+)?(b+)?(c))* on zaacbbbcac
abbrev pub groups_in_a_repetition : Pattern
groups_in_a_repetition =
    terms (group 0 (letters "z") ∷ star (group 1 (terms (
    maybe (group 2 (terms (plus (letter "a") 3 3 ∷ []))) 2 3
    ∷ maybe (group 3 (terms (plus (letter "b") 4 4 ∷ []))) 3 4
    ∷ group 4 (letters "c") ∷ []))) 1 5 ∷ [])

each_iteration_clears_the_groups_inside : matches groups_in_a_repetition "zaacbbbcac"
    ≡ item 0 10 (took 0 1 ∷ took 8 10 ∷ took 8 9 ∷ None ∷ took 9 10 ∷ []) ∷ []
unfolding computation
each_iteration_clears_the_groups_inside = refl

-- a* on baa, from places 0, 1 and 4
abbrev pub any_number : Pattern
any_number = terms (star (letter "a") 0 0 ∷ [])

after_an_empty_match_the_search_goes_on_one_place_later : matches any_number "baa"
    ≡ item 0 0 [] ∷ item 1 3 [] ∷ item 3 3 [] ∷ []
unfolding computation
after_an_empty_match_the_search_goes_on_one_place_later = refl

a_search_may_begin_at_a_later_place : matches_under off any_number (codes "baa") 1 ≡ item 1 3 [] ∷ item 3 3 [] ∷ []
unfolding computation
a_search_may_begin_at_a_later_place = refl

past_the_end_there_is_no_match : matches_under off any_number (codes "baa") 4 ≡ []
unfolding computation
past_the_end_there_is_no_match = refl

-- a* on the empty text
the_empty_text_has_its_empty_match : matches any_number "" ≡ item 0 0 [] ∷ []
unfolding computation
the_empty_text_has_its_empty_match = refl

-- a on the empty text
abbrev pub single_letter : Pattern
single_letter = letters "a"

the_empty_text_holds_no_letter : matches single_letter "" ≡ []
unfolding computation
the_empty_text_holds_no_letter = refl

-- (a*)* on b
abbrev pub nested_repetition : Pattern
nested_repetition = terms (star (group 0 (terms (star (letter "a") 1 1 ∷ []))) 0 1 ∷ [])

an_iteration_that_takes_nothing_is_dropped : matches nested_repetition "b"
    ≡ item 0 0 (None ∷ []) ∷ item 1 1 (None ∷ []) ∷ []
unfolding computation
an_iteration_that_takes_nothing_is_dropped = refl

-- ^(?:(?:a|ab){2}){1,2}$ on aab
abbrev pub counted_repetitions : Pattern
counted_repetitions =
    terms (line_start
    ∷ repeated (grouped (terms (repeated (grouped (choice (letters "a") (letters "ab"))) 0 0 2 2 true ∷ [])))
    0 0 1 2 true
    ∷ line_end ∷ [])

counts_are_tried_until_the_rest_matches : matches counted_repetitions "aab" ≡ item 0 3 [] ∷ []
unfolding computation
counts_are_tried_until_the_rest_matches = refl

-- a+? on aa
abbrev pub lazy_repetition : Pattern
lazy_repetition = terms (repeated (letter "a") 0 0 1 greatest false ∷ [])

a_lazy_repetition_takes_the_least : matches lazy_repetition "aa" ≡ item 0 1 [] ∷ item 1 2 [] ∷ []
unfolding computation
a_lazy_repetition_takes_the_least = refl

-- a{99999999999999999999} on aaa
abbrev pub as_often_as_counts_go : Pattern
as_often_as_counts_go = terms (repeated (letter "a") 0 0 greatest greatest true ∷ [])

a_count_past_the_text_has_no_match : matches as_often_as_counts_go "aaa" ≡ []
unfolding computation
a_count_past_the_text_has_no_match = refl

-- a{0,99999999999999999999} on aaa
abbrev pub at_most_as_often_as_counts_go : Pattern
at_most_as_often_as_counts_go = terms (repeated (letter "a") 0 0 0 greatest true ∷ [])

a_great_count_bounds_nothing : matches at_most_as_often_as_counts_go "aaa" ≡ item 0 3 [] ∷ item 3 3 [] ∷ []
unfolding computation
a_great_count_bounds_nothing = refl

-- (?:) on é, told in places, in UTF-8 and in UTF-16
abbrev pub empty_group : Pattern
empty_group = terms (grouped nothing ∷ [])

an_empty_group_matches_at_each_place : matches_under off empty_group (0xE9 ∷ []) 0 ≡ item 0 0 [] ∷ item 1 1 [] ∷ []
unfolding computation
an_empty_group_matches_at_each_place = refl

empty_matches_in_utf8 : matches_in (of_utf8 (0xC3 ∷ 0xA9 ∷ [])) empty_group ≡ item 0 0 [] ∷ item 2 2 [] ∷ []
unfolding computation
empty_matches_in_utf8 = refl

empty_matches_in_utf16 : matches_in (of_utf16 (0xE9 ∷ [])) empty_group ≡ item 0 0 [] ∷ item 1 1 [] ∷ []
unfolding computation
empty_matches_in_utf16 = refl

-- ---- references

-- (a|a\1)$ on aa
abbrev pub reference_in_its_group : Pattern
reference_in_its_group =
    terms (group 0 (choice (letters "a") (terms (letter "a" ∷ reference (0 ∷ []) ∷ []))) ∷ line_end ∷ [])

a_reference_inside_its_group_repeats_nothing : matches reference_in_its_group "aa" ≡ item 1 2 (took 1 2 ∷ []) ∷ []
unfolding computation
a_reference_inside_its_group_repeats_nothing = refl

-- \1(a) on a
abbrev pub reference_ahead_of_its_group : Pattern
reference_ahead_of_its_group = terms (reference (0 ∷ []) ∷ group 0 (letters "a") ∷ [])

a_group_not_yet_met_repeats_nothing : matches reference_ahead_of_its_group "a" ≡ item 0 1 (took 0 1 ∷ []) ∷ []
unfolding computation
a_group_not_yet_met_repeats_nothing = refl

-- (a)\2 on a and U+0002
abbrev pub number_without_a_group : Pattern
number_without_a_group = terms (group 0 (letters "a") ∷ character 2 ∷ [])

a_number_without_a_group_is_octal : matches_under off number_without_a_group (0x61 ∷ 2 ∷ []) 0
    ≡ item 0 2 (took 0 1 ∷ []) ∷ []
unfolding computation
a_number_without_a_group_is_octal = refl

-- (?<n>a)|(?<n>b) on b
abbrev pub one_name_in_two_alternatives : Pattern
one_name_in_two_alternatives =
    choice (terms (capture 0 (Some (codes "n")) (letters "a") ∷ []))
    (terms (capture 1 (Some (codes "n")) (letters "b") ∷ []))

each_group_of_a_name_has_its_own_range : matches one_name_in_two_alternatives "b" ≡ item 0 1 (None ∷ took 0 1 ∷ []) ∷ []
unfolding computation
each_group_of_a_name_has_its_own_range = refl

-- ---- what stands around a place

-- (?<=(\d+)(\d+))$ on 1053
abbrev pub digits_behind : Pattern
digits_behind =
    terms (look false true (terms (group 0 (terms (plus (class_escape digits) 1 1 ∷ []))
    ∷ group 1 (terms (plus (class_escape digits) 2 2 ∷ [])) ∷ [])) ∷ line_end ∷ [])

a_lookbehind_is_read_backward : matches digits_behind "1053" ≡ item 4 4 (took 0 1 ∷ took 1 4 ∷ []) ∷ []
unfolding computation
a_lookbehind_is_read_backward = refl

-- (?=(a+))a*b\1 on baaabac
abbrev pub letters_ahead : Pattern
letters_ahead =
    terms (look false false (terms (group 0 (terms (plus (letter "a") 1 1 ∷ [])) ∷ []))
    ∷ star (letter "a") 1 1 ∷ letter "b" ∷ reference (0 ∷ []) ∷ [])

a_lookahead_gives_only_its_first_outcome : matches letters_ahead "baaabac" ≡ item 3 6 (took 3 4 ∷ []) ∷ []
unfolding computation
a_lookahead_gives_only_its_first_outcome = refl

-- (?<=(?<a>x)(?<b>y))z on xyz
abbrev pub names_behind : Pattern
names_behind =
    terms (look false true (terms (
    capture 0 (Some (codes "a")) (letters "x") ∷ capture 1 (Some (codes "b")) (letters "y") ∷ []))
    ∷ letter "z" ∷ [])

groups_in_a_lookbehind_keep_their_order : matches names_behind "xyz" ≡ item 2 3 (took 0 1 ∷ took 1 2 ∷ []) ∷ []
unfolding computation
groups_in_a_lookbehind_keep_their_order = refl

-- (?<=x)y on xyxy, from places 1, 4 and 5
abbrev pub letter_behind : Pattern
letter_behind = terms (look false true (letters "x") ∷ letter "y" ∷ [])

a_lookbehind_sees_what_is_before_the_first_place : matches_under off letter_behind (codes "xyxy") 1
    ≡ item 1 2 [] ∷ item 3 4 [] ∷ []
unfolding computation
a_lookbehind_sees_what_is_before_the_first_place = refl

at_the_end_there_is_no_letter : matches_under off letter_behind (codes "xyxy") 4 ≡ []
unfolding computation
at_the_end_there_is_no_letter = refl

past_the_end_there_is_no_letter : matches_under off letter_behind (codes "xyxy") 5 ≡ []
unfolding computation
past_the_end_there_is_no_letter = refl

-- (?!(a))b on b
abbrev pub not_ahead : Pattern
not_ahead = terms (look true false (terms (group 0 (letters "a") ∷ [])) ∷ letter "b" ∷ [])

a_negated_lookahead_sets_no_group : matches not_ahead "b" ≡ item 0 1 (None ∷ []) ∷ []
unfolding computation
a_negated_lookahead_sets_no_group = refl

-- (?=a)*b on b
abbrev pub repeated_lookahead : Pattern
repeated_lookahead = terms (star (look false false (letters "a")) 0 0 ∷ letter "b" ∷ [])

a_lookahead_may_be_repeated : matches repeated_lookahead "b" ≡ item 0 1 [] ∷ []
unfolding computation
a_lookahead_may_be_repeated = refl

-- (?=\d) on a1b2c
abbrev pub digit_ahead : Pattern
digit_ahead = terms (look false false (terms (class_escape digits ∷ [])) ∷ [])

a_lookahead_takes_nothing : matches digit_ahead "a1b2c" ≡ item 1 1 [] ∷ item 3 3 [] ∷ []
unfolding computation
a_lookahead_takes_nothing = refl

-- \b(\w)(\w+) on hello world
abbrev pub first_letter_of_a_word : Pattern
first_letter_of_a_word =
    terms (word_boundary false ∷ group 0 (terms (class_escape words ∷ []))
    ∷ group 1 (terms (plus (class_escape words) 2 2 ∷ [])) ∷ [])

words_begin_at_boundaries : matches first_letter_of_a_word "hello world"
    ≡ item 0 5 (took 0 1 ∷ took 1 5 ∷ []) ∷ item 6 11 (took 6 7 ∷ took 7 11 ∷ []) ∷ []
unfolding computation
words_begin_at_boundaries = refl

-- ---- atomic groups

-- (?>a|ab)c on abc
abbrev pub shorter_first : Pattern
shorter_first = terms (atomic (choice (letters "a") (letters "ab")) ∷ letter "c" ∷ [])

an_atomic_group_tries_no_other_choice : matches shorter_first "abc" ≡ []
unfolding computation
an_atomic_group_tries_no_other_choice = refl

-- (?>ab|a)c on abc
abbrev pub longer_first : Pattern
longer_first = terms (atomic (choice (letters "ab") (letters "a")) ∷ letter "c" ∷ [])

an_atomic_group_keeps_its_first_outcome : matches longer_first "abc" ≡ item 0 3 [] ∷ []
unfolding computation
an_atomic_group_keeps_its_first_outcome = refl

-- (?>a*)a on aaa
abbrev pub all_letters : Pattern
all_letters = terms (atomic (terms (star (letter "a") 0 0 ∷ [])) ∷ letter "a" ∷ [])

an_atomic_group_gives_nothing_back : matches all_letters "aaa" ≡ []
unfolding computation
an_atomic_group_gives_nothing_back = refl

-- ((?>a+))b on aab
abbrev pub captured_letters : Pattern
captured_letters = terms (group 0 (terms (atomic (terms (plus (letter "a") 1 1 ∷ [])) ∷ [])) ∷ letter "b" ∷ [])

a_group_takes_what_its_atomic_group_takes : matches captured_letters "aab" ≡ item 0 3 (took 0 2 ∷ []) ∷ []
unfolding computation
a_group_takes_what_its_atomic_group_takes = refl

-- (?>(a)|b)* on ab
abbrev pub repeated_atomic_group : Pattern
repeated_atomic_group = terms (star (atomic (choice (terms (group 0 (letters "a") ∷ [])) (letters "b"))) 0 1 ∷ [])

groups_in_an_atomic_group_are_forgotten_at_each_round : matches repeated_atomic_group "ab" ≡ item 0 2 (None ∷ []) ∷ item 2 2 (None ∷ []) ∷ []
unfolding computation
groups_in_an_atomic_group_are_forgotten_at_each_round = refl

-- (?<=^(?>b|ab))c on abc
abbrev pub atomic_group_behind : Pattern
atomic_group_behind = terms (look false true (terms (line_start ∷ atomic (choice (letters "b") (letters "ab")) ∷ [])) ∷ letter "c" ∷ [])

an_atomic_group_is_read_backward : matches atomic_group_behind "abc" ≡ []
unfolding computation
an_atomic_group_is_read_backward = refl

-- ---- code points and what holds them

-- \uD800*a on a
abbrev pub repeated_half : Pattern
repeated_half = terms (star (character 0xD800) 0 0 ∷ letter "a" ∷ [])

half_a_pair_may_be_repeated : matches repeated_half "a" ≡ item 0 1 [] ∷ []
unfolding computation
half_a_pair_may_be_repeated = refl

-- . on U+1F600, told in UTF-8, in UTF-16 and in UCS-2
abbrev pub dot : Pattern
dot = terms (any ∷ [])

a_dot_takes_four_bytes_of_utf8 : matches_in (of_utf8 (0xF0 ∷ 0x9F ∷ 0x98 ∷ 0x80 ∷ [])) dot ≡ item 0 4 [] ∷ []
unfolding computation
a_dot_takes_four_bytes_of_utf8 = refl

a_dot_takes_a_pair_of_utf16 : matches_in (of_utf16 (0xD83D ∷ 0xDE00 ∷ [])) dot ≡ item 0 2 [] ∷ []
unfolding computation
a_dot_takes_a_pair_of_utf16 = refl

a_dot_takes_one_unit_of_ucs2 : matches_in (of_ucs2 (0xD83D ∷ 0xDE00 ∷ [])) dot ≡ item 0 1 [] ∷ item 1 2 [] ∷ []
unfolding computation
a_dot_takes_one_unit_of_ucs2 = refl

-- \uD83D on the units of U+1F600
abbrev pub high_half : Pattern
high_half = terms (character 0xD83D ∷ [])

ucs2_holds_half_a_pair : matches_in (of_ucs2 (0xD83D ∷ 0xDE00 ∷ [])) high_half ≡ item 0 1 [] ∷ []
unfolding computation
ucs2_holds_half_a_pair = refl

utf16_holds_no_half_of_a_pair : matches_in (of_utf16 (0xD83D ∷ 0xDE00 ∷ [])) high_half ≡ []
unfolding computation
utf16_holds_no_half_of_a_pair = refl

-- ---- case

-- θ with flags i and u on U+03F4
abbrev pub theta : Pattern
theta = terms (character 0x3B8 ∷ [])

letters_with_one_fold_are_the_same : matches_under (options_of (codes "iu")) theta (0x3F4 ∷ []) 0 ≡ item 0 1 [] ∷ []
unfolding computation
letters_with_one_fold_are_the_same = refl

-- (a)\1 with flag i on aA
abbrev pub letter_twice : Pattern
letter_twice = terms (group 0 (letters "a") ∷ reference (0 ∷ []) ∷ [])

a_reference_ignores_case_too : matches_under (options_of (codes "i")) letter_twice (codes "aA") 0
    ≡ item 0 2 (took 0 1 ∷ []) ∷ []
unfolding computation
a_reference_ignores_case_too = refl

-- (?i:a)b on ABAb
abbrev pub case_ignored_inside : Pattern
case_ignored_inside = terms (modified (settings_of (codes "i")) (settings_of []) (letters "a") ∷ letter "b" ∷ [])

a_modifier_holds_inside_its_group : matches case_ignored_inside "ABAb" ≡ item 2 4 [] ∷ []
unfolding computation
a_modifier_holds_inside_its_group = refl

-- (?-i:a)b with flag i on AbaB
abbrev pub case_kept_inside : Pattern
case_kept_inside = terms (modified (settings_of []) (settings_of (codes "i")) (letters "a") ∷ letter "b" ∷ [])

a_modifier_may_switch_off : matches_under (options_of (codes "i")) case_kept_inside (codes "AbaB") 0 ≡ item 2 4 [] ∷ []
unfolding computation
a_modifier_may_switch_off = refl

-- ---- classes

-- [\w-z] on -
abbrev pub dash_beside_a_set : Pattern
dash_beside_a_set =
    terms (class false (union words (union (class_of (code "-")) (union (class_of (code "z")) no_string))) ∷ [])

a_dash_beside_a_set_is_itself : matches dash_beside_a_set "-" ≡ item 0 1 [] ∷ []
unfolding computation
a_dash_beside_a_set_is_itself = refl

-- \c on \c
abbrev pub backslash_and_c : Pattern
backslash_and_c = letters "\\c"

a_backslash_without_a_control_letter_is_itself : matches backslash_and_c "\\c" ≡ item 0 2 [] ∷ []
unfolding computation
a_backslash_without_a_control_letter_is_itself = refl

-- \p{Emoji_Keycap_Sequence} with flag v on 1 U+FE0F U+20E3
abbrev pub keycaps : Pattern
keycaps = terms (class_escape (sequences (codes "Emoji_Keycap_Sequence")) ∷ [])

a_property_of_strings_takes_a_string : matches_under (options_of (codes "v")) keycaps (0x31 ∷ 0xFE0F ∷ 0x20E3 ∷ []) 0
    ≡ item 0 3 [] ∷ []
unfolding computation
a_property_of_strings_takes_a_string = refl

-- [a--b] with flag v on b
abbrev pub a_without_b : Pattern
a_without_b = terms (class false (difference (class_of (code "a")) (class_of (code "b"))) ∷ [])

a_difference_lacks_what_is_taken_away : matches_under (options_of (codes "v")) a_without_b (codes "b") 0 ≡ []
unfolding computation
a_difference_lacks_what_is_taken_away = refl

-- [[a-z]&&[aeiou]] with flag v on xe
abbrev pub vowels : Pattern
vowels =
    terms (class false (intersection
    (nested false (union (range (code "a") (code "z")) no_string))
    (nested false (union (class_of (code "a")) (union (class_of (code "e")) (union (class_of (code "i"))
    (union (class_of (code "o")) (union (class_of (code "u")) no_string))))))) ∷ [])

an_intersection_holds_what_both_hold : matches_under (options_of (codes "v")) vowels (codes "xe") 0 ≡ item 1 2 [] ∷ []
unfolding computation
an_intersection_holds_what_both_hold = refl

-- ---- literals and lines

-- the literal a.b in a.b axb a.b
a_literal_is_found_as_it_stands : occurrences small off (codes "a.b") (codes "a.b axb a.b") 0 ≡ item 0 3 [] ∷ item 8 11 [] ∷ []
unfolding computation
a_literal_is_found_as_it_stands = refl

-- the same where case is ignored
a_literal_is_found_in_either_case : occurrences small (options_of (codes "i")) (codes "a.B") (codes "A.b axb a.B") 0 ≡ item 0 3 [] ∷ item 8 11 [] ∷ []
unfolding computation
a_literal_is_found_in_either_case = refl

-- the empty literal in é
the_empty_literal_is_found_at_each_place : occurrences small off [] (0xE9 ∷ []) 0 ≡ item 0 0 [] ∷ item 1 1 [] ∷ []
unfolding computation
the_empty_literal_is_found_at_each_place = refl

-- two items as lines
a_line_tells_the_match_and_its_groups : lines_of (item 0 1 (took 0 1 ∷ []) ∷ item 1 2 (None ∷ []) ∷ [])
    ≡ codes "0..1 0..1\n1..2 -\n"
unfolding computation
a_line_tells_the_match_and_its_groups = refl
