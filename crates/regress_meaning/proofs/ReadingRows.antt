-- Which trees texts spell, by example: terms, quantifiers, groups and names. Each tree is computed by the reading
-- function, with the small table.
use Rattle.std.proofs.Common.{◌≡◌, ℕ, Bool, true, false, List, [], ◌∷◌, map, Option, Some, refl, ◌^◌, ◌-◌}
use Prim.Native.String.{String}
use lib.Chars.{codes}
use Rattle.regress_meaning.specs.Text.{span, span_up_to}
use Rattle.regress_meaning.specs.TableParts.{image, in_intervals, entry}
use Rattle.regress_meaning.specs.Flags.{options_of, settings_of}
use Rattle.regress_meaning.specs.Pattern.{Pattern, nothing, character, any, choice, capture, grouped, atomic, modified, repeated, look, reference, line_start, line_end, word_boundary}
use Rattle.regress_meaning.specs.Tokens.{greatest, decimal_at, bounds_at, hex_at, low_half, pair_at, braces_at, unicode_escape, octal_at, name_point, name_rest, name_at, key_at, property_at, named_reference, octal_or_digit, decimal_escape, escape_at, class_escape_at}
use Rattle.regress_meaning.specs.Class.{Class, no_string, union}
use Rattle.regress_meaning.specs.Grammar.{class_of, holds_a_name}
use Rattle.regress_meaning.specs.Scan.{group_names}
use Rattle.regress_meaning.specs.ReadingClass.{read_member, read_members, read_set_escape, read_set_atom, read_set_character, read_set_string, read_set_strings, read_range, read_operand, read_contents, read_union, read_intersection, read_difference, read_class}
use Rattle.regress_meaning.specs.Reading.{modifiers_at, escape_opening, class_opening, angle_opening, question_opening, parenthesis_opening, opening, bounded, quantified, closed, closed_and_quantified, read_term, alternatives_if, alternatives, terms as terms_of, read_terms, read_disjunction, read_alternative, whole_tree, disjunction_at, read_pattern}
use Rattle.regress_meaning.proofs.Rows.{small, terms, letter, letters, group, star, maybe}

-- ---- words for the examples

-- what the reading function computes with
unfoldable pub reading : Unit {0}
unfolding span span_up_to image in_intervals entry decimal_at bounds_at hex_at low_half pair_at braces_at
    unicode_escape octal_at name_point name_rest name_at key_at property_at named_reference octal_or_digit
    decimal_escape escape_at class_escape_at holds_a_name group_names read_member read_members read_set_escape
    read_set_atom read_set_character read_set_string read_set_strings read_range read_operand read_contents read_union
    read_intersection read_difference read_class modifiers_at escape_opening class_opening angle_opening
    question_opening parenthesis_opening opening bounded quantified closed closed_and_quantified read_term
    alternatives_if alternatives terms_of read_terms read_disjunction read_alternative disjunction_at whole_tree read_pattern
reading = tt

-- what is read in code points under flags
abbrev pub read : String → List ℕ → Option Pattern
read flags text = read_pattern small (options_of (codes flags)) text

-- under these flags the text spells the tree
abbrev pub Reads : String → String → Pattern → Type 0
Reads flags text tree = read flags (codes text) ≡ Some tree

-- without Unicode mode it does
abbrev pub PlainReads : String → Pattern → Type 0
PlainReads text tree = Reads "" text tree

-- in Unicode mode it does, by either flag
abbrev pub UnicodeReads : String → Pattern → Type 0
UnicodeReads text tree = Reads "u" text tree × Reads "v" text tree

-- in every mode it does
abbrev pub AlwaysReads : String → Pattern → Type 0
AlwaysReads text tree = Reads "" text tree × Reads "u" text tree × Reads "v" text tree

-- one term
abbrev pub alone : Pattern → Pattern
alone p = terms (p ∷ [])

-- members of a class side by side
abbrev pub members : List Class → Class
members [] = no_string
members (s ∷ ss) = union s (members ss)

-- code points side by side in a class
abbrev pub points : String → Class
points s = members (map class_of (codes s))

-- ---- characters, assertions and alternatives

empty_pattern : AlwaysReads "" nothing
unfolding reading
empty_pattern = (refl, refl, refl)

characters_side_by_side : AlwaysReads "ab" (letters "ab")
unfolding reading
characters_side_by_side = (refl, refl, refl)

marks_that_stand_for_themselves : AlwaysReads " !\"#%&',-/:;<=>@_`~" (letters " !\"#%&',-/:;<=>@_`~")
unfolding reading
marks_that_stand_for_themselves = (refl, refl, refl)

closing_marks_without_unicode_mode : PlainReads "]}" (letters "]}")
unfolding reading
closing_marks_without_unicode_mode = refl

brace_without_unicode_mode : PlainReads "{a}" (letters "{a}")
unfolding reading
brace_without_unicode_mode = refl

-- U+1F600
code_point_past_ffff : (read "" (0x1F600 ∷ []) ≡ Some (alone (character 0x1F600))) × (read "u" (0x1F600 ∷ []) ≡ Some (alone (character 0x1F600)))
unfolding reading
code_point_past_ffff = (refl, refl)

-- U+D83D and U+DE00 as they stand
raw_halves_are_not_joined : read "u" (0xD83D ∷ 0xDE00 ∷ []) ≡ Some (terms (character 0xD83D ∷ character 0xDE00 ∷ []))
unfolding reading
raw_halves_are_not_joined = refl

dot : AlwaysReads "." (alone any)
unfolding reading
dot = (refl, refl, refl)

dot_under_flags : Reads "ims" "." (alone any) × Reads "gyd" "." (alone any)
unfolding reading
dot_under_flags = (refl, refl)

line_ends : AlwaysReads "^a$" (terms (line_start ∷ letter "a" ∷ line_end ∷ []))
unfolding reading
line_ends = (refl, refl, refl)

boundaries : AlwaysReads "\\b\\B" (terms (word_boundary false ∷ word_boundary true ∷ []))
unfolding reading
boundaries = (refl, refl, refl)

alternatives_with_an_empty_one : AlwaysReads "a|b|" (choice (letters "a") (choice (letters "b") nothing))
unfolding reading
alternatives_with_an_empty_one = (refl, refl, refl)

two_empty_alternatives : AlwaysReads "|" (choice nothing nothing)
unfolding reading
two_empty_alternatives = (refl, refl, refl)

a_choice_a_star_and_a_lookahead : AlwaysReads "(?:a|b)c*(?=d)"
    (terms (grouped (choice (letters "a") (letters "b")) ∷ star (letter "c") 0 0 ∷ look false false (letters "d") ∷ []))
unfolding reading
a_choice_a_star_and_a_lookahead = (refl, refl, refl)

-- ---- quantifiers

-- a quantifier behind the letter a
abbrev times : ℕ → ℕ → Bool → Pattern
times least most greedy = alone (repeated (letter "a") 0 0 least most greedy)

any_number_of_times : AlwaysReads "a*" (times 0 greatest true)
unfolding reading
any_number_of_times = (refl, refl, refl)

at_least_once : AlwaysReads "a+" (times 1 greatest true)
unfolding reading
at_least_once = (refl, refl, refl)

at_most_once : AlwaysReads "a?" (times 0 1 true)
unfolding reading
at_most_once = (refl, refl, refl)

exactly_twice : AlwaysReads "a{2}" (times 2 2 true)
unfolding reading
exactly_twice = (refl, refl, refl)

at_least_twice : AlwaysReads "a{2,}" (times 2 greatest true)
unfolding reading
at_least_twice = (refl, refl, refl)

twice_or_three_times : AlwaysReads "a{2,3}" (times 2 3 true)
unfolding reading
twice_or_three_times = (refl, refl, refl)

lazily_any_number_of_times : AlwaysReads "a*?" (times 0 greatest false)
unfolding reading
lazily_any_number_of_times = (refl, refl, refl)

lazily_at_least_once : AlwaysReads "a+?" (times 1 greatest false)
unfolding reading
lazily_at_least_once = (refl, refl, refl)

lazily_at_most_once : AlwaysReads "a??" (times 0 1 false)
unfolding reading
lazily_at_most_once = (refl, refl, refl)

lazily_exactly_twice : AlwaysReads "a{2}?" (times 2 2 false)
unfolding reading
lazily_exactly_twice = (refl, refl, refl)

lazily_at_least_twice : AlwaysReads "a{2,}?" (times 2 greatest false)
unfolding reading
lazily_at_least_twice = (refl, refl, refl)

lazily_twice_or_three_times : AlwaysReads "a{2,3}?" (times 2 3 false)
unfolding reading
lazily_twice_or_three_times = (refl, refl, refl)

never : AlwaysReads "a{0}" (times 0 0 true)
unfolding reading
never = (refl, refl, refl)

counts_with_leading_zeros : AlwaysReads "a{002,010}" (times 2 10 true)
unfolding reading
counts_with_leading_zeros = (refl, refl, refl)

greatest_count : AlwaysReads "a{18446744073709551615}" (times (2 ^ 64 - 1) (2 ^ 64 - 1) true)
unfolding reading
greatest_count = (refl, refl, refl)

count_past_the_greatest : AlwaysReads "a{18446744073709551616}" (times (2 ^ 64 - 1) (2 ^ 64 - 1) true)
unfolding reading
count_past_the_greatest = (refl, refl, refl)

-- the counts are compared after they are cut
counts_past_the_greatest_are_in_order : AlwaysReads "a{18446744073709551618,18446744073709551617}" (times greatest greatest true)
unfolding reading
counts_past_the_greatest_are_in_order = (refl, refl, refl)

brace_behind_a_letter : PlainReads "a{" (letters "a{")
unfolding reading
brace_behind_a_letter = refl

count_without_a_first_number : PlainReads "a{,2}" (letters "a{,2}")
unfolding reading
count_without_a_first_number = refl

count_that_is_not_closed : PlainReads "a{2" (letters "a{2") × PlainReads "a{2,3" (letters "a{2,3")
unfolding reading
count_that_is_not_closed = (refl, refl)

count_without_an_atom_that_is_not_closed : PlainReads "{2" (letters "{2") × PlainReads "{,2}" (letters "{,2}") × PlainReads "a{3,2" (letters "a{3,2")
unfolding reading
count_without_an_atom_that_is_not_closed = (refl, refl, refl)

brace_behind_an_assertion : PlainReads "^{" (terms (line_start ∷ letter "{" ∷ [])) × PlainReads "(?<=a){" (terms (look false true (letters "a") ∷ letter "{" ∷ []))
unfolding reading
brace_behind_an_assertion = (refl, refl)

count_with_a_space : PlainReads "a{2, 3}" (letters "a{2, 3}")
unfolding reading
count_with_a_space = refl

brace_behind_a_quantifier : PlainReads "a*{" (terms (star (letter "a") 0 0 ∷ letter "{" ∷ []))
unfolding reading
brace_behind_a_quantifier = refl

quantified_brace : PlainReads "{{2}" (alone (repeated (letter "{") 0 0 2 2 true))
unfolding reading
quantified_brace = refl

quantified_dot : AlwaysReads ".*" (alone (star any 0 0))
unfolding reading
quantified_dot = (refl, refl, refl)

quantified_group_of_an_assertion : AlwaysReads "(?:$){4294967296}" (alone (repeated (grouped (alone line_end)) 0 0 4294967296 4294967296 true))
unfolding reading
quantified_group_of_an_assertion = (refl, refl, refl)

quantified_lookahead : PlainReads "(?=a)*" (alone (star (look false false (letters "a")) 0 0))
unfolding reading
quantified_lookahead = refl

lazily_quantified_lookahead : PlainReads "(?!(a)){2}?" (alone (repeated (look true false (alone (group 0 (letters "a")))) 0 1 2 2 false))
unfolding reading
lazily_quantified_lookahead = refl

-- the groups inside are those opened before it and up to its end
quantified_groups : AlwaysReads "(a)((b)c)*(d)?"
    (terms (group 0 (letters "a") ∷ star (group 1 (terms (group 2 (letters "b") ∷ letter "c" ∷ []))) 1 3
    ∷ maybe (group 3 (letters "d")) 3 4 ∷ []))
unfolding reading
quantified_groups = (refl, refl, refl)

-- ---- groups

capturing_group : AlwaysReads "(a)" (alone (group 0 (letters "a")))
unfolding reading
capturing_group = (refl, refl, refl)

empty_capturing_group : AlwaysReads "()" (alone (group 0 nothing))
unfolding reading
empty_capturing_group = (refl, refl, refl)

groups_are_numbered_by_their_openings : AlwaysReads "((a)|(b))(c)"
    (terms (group 0 (choice (alone (group 1 (letters "a"))) (alone (group 2 (letters "b")))) ∷ group 3 (letters "c") ∷ []))
unfolding reading
groups_are_numbered_by_their_openings = (refl, refl, refl)

uncapturing_group : AlwaysReads "(?:a)" (alone (grouped (letters "a")))
unfolding reading
uncapturing_group = (refl, refl, refl)

atomic_group : AlwaysReads "(?>a)" (alone (atomic (letters "a")))
unfolding reading
atomic_group = (refl, refl, refl)

empty_atomic_group : AlwaysReads "(?>)" (alone (atomic nothing))
unfolding reading
empty_atomic_group = (refl, refl, refl)

quantified_atomic_group : AlwaysReads "(?>(a)|b)*" (alone (star (atomic (choice (alone (group 0 (letters "a"))) (letters "b"))) 0 1))
unfolding reading
quantified_atomic_group = (refl, refl, refl)

lookahead : AlwaysReads "(?=a)" (alone (look false false (letters "a")))
unfolding reading
lookahead = (refl, refl, refl)

negated_lookahead : AlwaysReads "(?!a)" (alone (look true false (letters "a")))
unfolding reading
negated_lookahead = (refl, refl, refl)

lookbehind : AlwaysReads "(?<=a)" (alone (look false true (letters "a")))
unfolding reading
lookbehind = (refl, refl, refl)

negated_lookbehind : AlwaysReads "(?<!a)" (alone (look true true (letters "a")))
unfolding reading
negated_lookbehind = (refl, refl, refl)

-- a group with modifiers, with the letter a inside
abbrev switched : String → String → Pattern
switched on off = alone (modified (settings_of (codes on)) (settings_of (codes off)) (letters "a"))

switches_on : AlwaysReads "(?i:a)" (switched "i" "")
unfolding reading
switches_on = (refl, refl, refl)

switches_in_both_alternatives : AlwaysReads "(?i:a|b)" (alone (modified (settings_of (codes "i")) (settings_of []) (choice (letters "a") (letters "b"))))
unfolding reading
switches_in_both_alternatives = (refl, refl, refl)

switches_on_and_off : AlwaysReads "(?i-m:a)" (switched "i" "m")
unfolding reading
switches_on_and_off = (refl, refl, refl)

switches_off : AlwaysReads "(?-s:a)" (switched "" "s")
unfolding reading
switches_off = (refl, refl, refl)

switches_nothing_off : AlwaysReads "(?i-:a)" (switched "i" "")
unfolding reading
switches_nothing_off = (refl, refl, refl)

switches_three_on : AlwaysReads "(?sim:a)" (switched "ims" "")
unfolding reading
switches_three_on = (refl, refl, refl)

switches_two_off : AlwaysReads "(?m-is:a)" (switched "m" "is")
unfolding reading
switches_two_off = (refl, refl, refl)

-- ---- names

-- a capturing group with a name
abbrev pub named : ℕ → String → Pattern → Pattern
named k name a = capture k (Some (codes name)) a

named_group : AlwaysReads "(?<n>a)" (alone (named 0 "n" (letters "a")))
unfolding reading
named_group = (refl, refl, refl)

name_by_an_escape : AlwaysReads "(?<\\u0061>a)" (alone (named 0 "a" (letters "a")))
unfolding reading
name_by_an_escape = (refl, refl, refl)

name_by_an_escape_in_braces : AlwaysReads "(?<n\\u{000031}>a)" (alone (named 0 "n1" (letters "a")))
unfolding reading
name_by_an_escape_in_braces = (refl, refl, refl)

name_of_other_marks : AlwaysReads "(?<$_b1>a)" (alone (named 0 "$_b1" (letters "a")))
unfolding reading
name_of_other_marks = (refl, refl, refl)

-- (?<éU+200DU+200C>)
name_past_ascii : read "" (0x28 ∷ 0x3F ∷ 0x3C ∷ 0xE9 ∷ 0x200D ∷ 0x200C ∷ 0x3E ∷ 0x29 ∷ []) ≡ Some (alone (capture 0 (Some (0xE9 ∷ 0x200D ∷ 0x200C ∷ [])) nothing))
unfolding reading
name_past_ascii = refl

named_groups_are_numbered_with_the_others : AlwaysReads "(a)(?<n>b)(c)\\2"
    (terms (group 0 (letters "a") ∷ named 1 "n" (letters "b") ∷ group 2 (letters "c") ∷ reference (1 ∷ []) ∷ []))
unfolding reading
named_groups_are_numbered_with_the_others = (refl, refl, refl)

one_name_in_two_alternatives : AlwaysReads "(?<n>a)|(?<n>b)"
    (choice (alone (named 0 "n" (letters "a"))) (alone (named 1 "n" (letters "b"))))
unfolding reading
one_name_in_two_alternatives = (refl, refl, refl)

one_name_in_the_first_and_the_last_alternative : AlwaysReads "(?<n>a)|b|(?<n>c)"
    (choice (alone (named 0 "n" (letters "a"))) (choice (letters "b") (alone (named 1 "n" (letters "c")))))
unfolding reading
one_name_in_the_first_and_the_last_alternative = (refl, refl, refl)

one_name_in_two_inner_alternatives : AlwaysReads "(?:x(?<n>a)|(?<n>b))*"
    (alone (star (grouped (choice (terms (letter "x" ∷ named 0 "n" (letters "a") ∷ [])) (alone (named 1 "n" (letters "b"))))) 0 2))
unfolding reading
one_name_in_two_inner_alternatives = (refl, refl, refl)

reference_ahead_of_its_name : AlwaysReads "\\k<n>(?<n>a)" (terms (reference (0 ∷ []) ∷ named 0 "n" (letters "a") ∷ []))
unfolding reading
reference_ahead_of_its_name = (refl, refl, refl)

reference_by_an_escaped_name : AlwaysReads "(?<n>a)\\k<\\u006E>" (terms (named 0 "n" (letters "a") ∷ reference (0 ∷ []) ∷ []))
unfolding reading
reference_by_an_escaped_name = (refl, refl, refl)

reference_inside_its_group : AlwaysReads "(?<n>\\k<n>)" (alone (named 0 "n" (alone (reference (0 ∷ [])))))
unfolding reading
reference_inside_its_group = (refl, refl, refl)

reference_to_two_groups_of_a_name : AlwaysReads "(?<n>a)|(?<n>b)\\k<n>"
    (choice (alone (named 0 "n" (letters "a"))) (terms (named 1 "n" (letters "b") ∷ reference (0 ∷ 1 ∷ []) ∷ [])))
unfolding reading
reference_to_two_groups_of_a_name = (refl, refl, refl)

reference_behind_two_groups_of_a_name : AlwaysReads "(?:(?<n>a)|(?<m>b)|(?<n>c))\\k<n>"
    (terms (grouped (choice (alone (named 0 "n" (letters "a"))) (choice (alone (named 1 "m" (letters "b"))) (alone (named 2 "n" (letters "c")))))
    ∷ reference (0 ∷ 2 ∷ []) ∷ []))
unfolding reading
reference_behind_two_groups_of_a_name = (refl, refl, refl)
