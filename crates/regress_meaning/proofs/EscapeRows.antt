-- Which trees escapes outside a class spell, by example, with Unicode mode and without it.
use Rattle.std.proofs.Common.{◌≡◌, true, false, [], ◌∷◌, ◌++◌, map, Some, refl}
use lib.Chars.{codes}
use Rattle.regress_meaning.specs.Class.{digits, spaces, words, property, sequences, complement}
use Rattle.regress_meaning.specs.Table.{Table}
use Rattle.regress_meaning.specs.TableParts.{table_of, small_parts}
use Rattle.regress_meaning.specs.Flags.{options_of, settings_of}
use Rattle.regress_meaning.specs.Pattern.{nothing, character, class, class_escape, capture, grouped, modified, repeated, look, reference}
use Rattle.regress_meaning.specs.Reading.{read_pattern}
use Rattle.regress_meaning.proofs.Rows.{terms, letter, letters, group, star, plus, maybe}
use Rattle.regress_meaning.proofs.ReadingRows.{reading, read, Reads, PlainReads, UnicodeReads, AlwaysReads, alone, named, points}

-- ---- classes and control characters

digits_and_others : AlwaysReads "\\d\\D" (terms (class_escape digits ∷ class_escape (complement digits) ∷ []))
unfolding reading
digits_and_others = (refl, refl, refl)

spaces_and_others : AlwaysReads "\\s\\S" (terms (class_escape spaces ∷ class_escape (complement spaces) ∷ []))
unfolding reading
spaces_and_others = (refl, refl, refl)

word_characters_and_others : AlwaysReads "\\w\\W" (terms (class_escape words ∷ class_escape (complement words) ∷ []))
unfolding reading
word_characters_and_others = (refl, refl, refl)

counted_digits : AlwaysReads "(\\d{2})-\\d+"
    (terms (group 0 (alone (repeated (class_escape digits) 1 1 2 2 true)) ∷ letter "-" ∷ plus (class_escape digits) 1 1 ∷ []))
unfolding reading
counted_digits = (refl, refl, refl)

-- form feed, line feed, carriage return, tab and vertical tab
control_escapes : AlwaysReads "\\f\\n\\r\\t\\v" (terms (map character (0xC ∷ 0xA ∷ 0xD ∷ 9 ∷ 0xB ∷ [])))
unfolding reading
control_escapes = (refl, refl, refl)

control_letters : AlwaysReads "\\cA\\cz\\cJ" (terms (map character (1 ∷ 26 ∷ 10 ∷ [])))
unfolding reading
control_letters = (refl, refl, refl)

backslash_before_c_alone : PlainReads "\\c" (letters "\\c")
unfolding reading
backslash_before_c_alone = refl

backslash_before_c_and_a_digit : PlainReads "\\c1" (letters "\\c1")
unfolding reading
backslash_before_c_and_a_digit = refl

-- the quantifier is that of the c
backslash_before_quantified_c : PlainReads "\\c*" (terms (letter "\\" ∷ star (letter "c") 0 0 ∷ []))
unfolding reading
backslash_before_quantified_c = refl

-- ---- numbers

zero_alone : AlwaysReads "\\0" (alone (character 0))
unfolding reading
zero_alone = (refl, refl, refl)

zero_before_a_letter : AlwaysReads "\\0a" (terms (character 0 ∷ letter "a" ∷ []))
unfolding reading
zero_before_a_letter = (refl, refl, refl)

octal_behind_zero : PlainReads "\\01" (alone (character 1)) × PlainReads "\\00" (alone (character 0)) × PlainReads "\\012" (alone (character 10))
unfolding reading
octal_behind_zero = (refl, refl, refl)

octal_takes_three_digits : PlainReads "\\0123" (terms (character 10 ∷ letter "3" ∷ []))
unfolding reading
octal_takes_three_digits = refl

octal_stops_at_eight : PlainReads "\\08" (terms (character 0 ∷ letter "8" ∷ []))
unfolding reading
octal_stops_at_eight = refl

-- A
octal_letter : PlainReads "\\101" (letters "A")
unfolding reading
octal_letter = refl

greatest_octal : PlainReads "\\377" (alone (character 255))
unfolding reading
greatest_octal = refl

-- from 4 on an octal has two digits
octal_takes_two_digits : PlainReads "\\400" (terms (character 32 ∷ letter "0" ∷ []))
unfolding reading
octal_takes_two_digits = refl

octal_of_one_digit : PlainReads "\\18" (terms (character 1 ∷ letter "8" ∷ []))
unfolding reading
octal_of_one_digit = refl

eight_and_nine : PlainReads "\\8" (letters "8") × PlainReads "\\9" (letters "9") × PlainReads "\\81" (letters "81") × PlainReads "\\99" (letters "99")
unfolding reading
eight_and_nine = (refl, refl, refl, refl)

reference_by_number : AlwaysReads "(a)\\1" (terms (group 0 (letters "a") ∷ reference (0 ∷ []) ∷ []))
unfolding reading
reference_by_number = (refl, refl, refl)

reference_ahead : AlwaysReads "\\2(a)(b)" (terms (reference (1 ∷ []) ∷ group 0 (letters "a") ∷ group 1 (letters "b") ∷ []))
unfolding reading
reference_ahead = (refl, refl, refl)

reference_before_a_letter : AlwaysReads "(a)\\1a" (terms (group 0 (letters "a") ∷ reference (0 ∷ []) ∷ letter "a" ∷ []))
unfolding reading
reference_before_a_letter = (refl, refl, refl)

-- all digits make the number, also in Unicode mode
reference_by_two_digits : AlwaysReads "()()()()()()()()()()\\10"
    (terms (map (λ k. group k nothing) (0 ∷ 1 ∷ 2 ∷ 3 ∷ 4 ∷ 5 ∷ 6 ∷ 7 ∷ 8 ∷ 9 ∷ []) ++ reference (9 ∷ []) ∷ []))
unfolding reading
reference_by_two_digits = (refl, refl, refl)

number_past_the_groups : PlainReads "(a)\\2" (terms (group 0 (letters "a") ∷ character 2 ∷ []))
unfolding reading
number_past_the_groups = refl

number_of_two_digits_past_the_groups : PlainReads "(a)\\11" (terms (group 0 (letters "a") ∷ character 9 ∷ []))
unfolding reading
number_of_two_digits_past_the_groups = refl

nine_past_the_groups : PlainReads "(a)\\9" (terms (group 0 (letters "a") ∷ letter "9" ∷ []))
unfolding reading
nine_past_the_groups = refl

quantified_reference : AlwaysReads "(a)\\1*" (terms (group 0 (letters "a") ∷ star (reference (0 ∷ [])) 1 1 ∷ []))
unfolding reading
quantified_reference = (refl, refl, refl)

-- what is no group has no number: it is escaped, in a class, or captures nothing
escaped_parentheses_are_no_group : AlwaysReads "\\((a)\\)\\1" (terms (letter "(" ∷ group 0 (letters "a") ∷ letter ")" ∷ reference (0 ∷ []) ∷ []))
unfolding reading
escaped_parentheses_are_no_group = (refl, refl, refl)

parenthesis_behind_an_escaped_backslash : AlwaysReads "\\\\(a)\\1" (terms (letter "\\" ∷ group 0 (letters "a") ∷ reference (0 ∷ []) ∷ []))
unfolding reading
parenthesis_behind_an_escaped_backslash = (refl, refl, refl)

parenthesis_behind_a_lone_backslash : PlainReads "\\c(a)\\1" (terms (letter "\\" ∷ letter "c" ∷ group 0 (letters "a") ∷ reference (0 ∷ []) ∷ []))
unfolding reading
parenthesis_behind_a_lone_backslash = refl

parentheses_of_a_class_are_no_group : PlainReads "[()]\\1" (terms (class false (points "()") ∷ character 1 ∷ []))
unfolding reading
parentheses_of_a_class_are_no_group = refl

uncapturing_parentheses_are_no_group : PlainReads "(?:a)(?=b)(?<!c)(?i:d)\\1"
    (terms (grouped (letters "a") ∷ look false false (letters "b") ∷ look true true (letters "c") ∷ modified (settings_of (codes "i")) (settings_of []) (letters "d") ∷ character 1 ∷ []))
unfolding reading
uncapturing_parentheses_are_no_group = refl

-- ---- code points by their digits

two_hex_digits : AlwaysReads "\\x41\\xfF" (terms (letter "A" ∷ character 0xFF ∷ []))
unfolding reading
two_hex_digits = (refl, refl, refl)

hex_takes_two_digits : AlwaysReads "\\x410" (letters "A0")
unfolding reading
hex_takes_two_digits = (refl, refl, refl)

x_without_two_digits : PlainReads "\\x" (letters "x") × PlainReads "\\x4" (letters "x4") × PlainReads "\\x4g" (letters "x4g")
unfolding reading
x_without_two_digits = (refl, refl, refl)

four_hex_digits : AlwaysReads "\\u0041" (letters "A")
unfolding reading
four_hex_digits = (refl, refl, refl)

pair_in_unicode_mode : UnicodeReads "\\uD83D\\uDE00" (alone (character 0x1F600))
unfolding reading
pair_in_unicode_mode = (refl, refl)

pair_without_unicode_mode : PlainReads "\\uD83D\\uDE00" (terms (character 0xD83D ∷ character 0xDE00 ∷ []))
unfolding reading
pair_without_unicode_mode = refl

half_alone : AlwaysReads "\\uD83D" (alone (character 0xD83D)) × AlwaysReads "\\uDE00" (alone (character 0xDE00))
unfolding reading
half_alone = ((refl, refl, refl), (refl, refl, refl))

half_before_another : AlwaysReads "\\uD83D\\u0041" (terms (character 0xD83D ∷ letter "A" ∷ []))
unfolding reading
half_before_another = (refl, refl, refl)

halves_in_the_other_order : AlwaysReads "\\uDE00\\uD83D" (terms (character 0xDE00 ∷ character 0xD83D ∷ []))
unfolding reading
halves_in_the_other_order = (refl, refl, refl)

first_half_twice : UnicodeReads "\\uD83D\\uD83D\\uDE00" (terms (character 0xD83D ∷ character 0x1F600 ∷ []))
unfolding reading
first_half_twice = (refl, refl)

half_in_braces_is_not_joined : UnicodeReads "\\uD83D\\u{DE00}" (terms (character 0xD83D ∷ character 0xDE00 ∷ []))
unfolding reading
half_in_braces_is_not_joined = (refl, refl)

-- a half as it stands and an escaped one
raw_half_beside_an_escaped_half : (read "u" (0xD83D ∷ codes "\\uDE00") ≡ Some (terms (character 0xD83D ∷ character 0xDE00 ∷ [])))
    × (read "u" (codes "\\uD83D" ++ 0xDE00 ∷ []) ≡ Some (terms (character 0xD83D ∷ character 0xDE00 ∷ [])))
unfolding reading
raw_half_beside_an_escaped_half = (refl, refl)

quantified_pair : UnicodeReads "\\uD83D\\uDE00?" (alone (maybe (character 0x1F600) 0 0))
unfolding reading
quantified_pair = (refl, refl)

digits_in_braces : UnicodeReads "\\u{1F600}" (alone (character 0x1F600))
unfolding reading
digits_in_braces = (refl, refl)

greatest_digits_in_braces : UnicodeReads "\\u{10fFFf}" (alone (character 0x10FFFF))
unfolding reading
greatest_digits_in_braces = (refl, refl)

zeros_in_braces : UnicodeReads "\\u{000000041}" (letters "A")
unfolding reading
zeros_in_braces = (refl, refl)

braces_behind_u : PlainReads "\\u{1F600}" (letters "u{1F600}")
unfolding reading
braces_behind_u = refl

-- the braces are a quantifier
count_behind_u : PlainReads "\\u{110000}" (alone (repeated (letter "u") 0 0 110000 110000 true))
unfolding reading
count_behind_u = refl

u_without_four_digits : PlainReads "\\u" (letters "u") × PlainReads "\\u004" (letters "u004") × PlainReads "\\u{}" (letters "u{}")
unfolding reading
u_without_four_digits = (refl, refl, refl)

-- ---- names

reference_by_name : AlwaysReads "(?<n>a)\\k<n>" (terms (named 0 "n" (letters "a") ∷ reference (0 ∷ []) ∷ []))
unfolding reading
reference_by_name = (refl, refl, refl)

k_without_a_named_group : PlainReads "(a)\\k<n>" (terms (group 0 (letters "a") ∷ map character (codes "k<n>")))
unfolding reading
k_without_a_named_group = refl

k_and_a_group : PlainReads "\\k<(a)>\\1" (terms (letter "k" ∷ letter "<" ∷ group 0 (letters "a") ∷ letter ">" ∷ reference (0 ∷ []) ∷ []))
unfolding reading
k_and_a_group = refl

k_alone : PlainReads "\\k" (letters "k")
unfolding reading
k_alone = refl

-- a lookbehind, an escaped parenthesis and a class hold no named group
k_behind_what_is_no_named_group : PlainReads "(?<=a)(?<!b)\\k" (terms (look false true (letters "a") ∷ look true true (letters "b") ∷ letter "k" ∷ []))
    × PlainReads "\\(?<n>\\k" (terms (maybe (letter "(") 0 0 ∷ map character (codes "<n>k")))
    × PlainReads "[(?<n>]\\k" (terms (class false (points "(?<n>") ∷ letter "k" ∷ []))
unfolding reading
k_behind_what_is_no_named_group = (refl, refl, refl)

-- ---- properties

property_of_code_points : UnicodeReads "\\p{ASCII}" (alone (class_escape (property (codes "ASCII"))))
unfolding reading
property_of_code_points = (refl, refl)

complement_of_a_property : UnicodeReads "\\P{Any}" (alone (class_escape (complement (property (codes "Any")))))
unfolding reading
complement_of_a_property = (refl, refl)

property_with_marks_in_its_name : UnicodeReads "\\p{ASCII_Hex_Digit}+" (alone (plus (class_escape (property (codes "ASCII_Hex_Digit"))) 0 0))
unfolding reading
property_with_marks_in_its_name = (refl, refl)

property_of_strings : Reads "v" "\\p{Emoji_Keycap_Sequence}" (alone (class_escape (sequences (codes "Emoji_Keycap_Sequence"))))
unfolding reading
property_of_strings = refl

p_without_unicode_mode : PlainReads "\\p" (letters "p") × PlainReads "\\P" (letters "P")
unfolding reading
p_without_unicode_mode = (refl, refl)

braces_behind_p : PlainReads "\\p{ASCII}" (letters "p{ASCII}") × PlainReads "\\P{2}" (alone (repeated (letter "P") 0 0 2 2 true))
unfolding reading
braces_behind_p = (refl, refl)

-- ---- another table

-- one that knows one letter, a property with a value, and one name both as a property and as strings
abbrev other_table : Table
other_table = table_of (record small_parts {
  id_start = (0x1F600, 0x1F600) ∷ [];
  properties = (codes "Script=Greek", []) ∷ (codes "Both", []) ∷ [];
  sequences = (codes "Both", []) ∷ [];
})

property_with_a_value : read_pattern other_table (options_of (codes "u")) (codes "\\p{Script=Greek}") ≡ Some (alone (class_escape (property (codes "Script=Greek"))))
unfolding reading
property_with_a_value = refl

property_of_code_points_comes_first : read_pattern other_table (options_of (codes "v")) (codes "\\P{Both}") ≡ Some (alone (class_escape (complement (property (codes "Both")))))
unfolding reading
property_of_code_points_comes_first = refl

-- without Unicode mode too
pair_in_a_name : read_pattern other_table (options_of []) (codes "(?<\\uD83D\\uDE00>)\\k<\\u{1F600}>")
    ≡ Some (terms (capture 0 (Some (0x1F600 ∷ [])) nothing ∷ reference (0 ∷ []) ∷ []))
unfolding reading
pair_in_a_name = refl

-- ---- characters escaped

syntax_characters : AlwaysReads "\\^\\$\\\\\\.\\*\\+\\?\\(\\)\\[\\]\\{\\}\\|\\/" (letters "^$\\.*+?()[]{}|/")
unfolding reading
syntax_characters = (refl, refl, refl)

escaped_dot : AlwaysReads "a\\.b" (letters "a.b")
unfolding reading
escaped_dot = (refl, refl, refl)

other_characters : PlainReads "\\-\\a\\e\\_\\,\\ \\Z\\C" (letters "-ae_, ZC")
unfolding reading
other_characters = refl

-- a backslash and é
other_character_past_ascii : read "" (0x5C ∷ 0xE9 ∷ []) ≡ Some (alone (character 0xE9))
unfolding reading
other_character_past_ascii = refl
