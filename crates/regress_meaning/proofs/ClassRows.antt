-- Which trees classes spell, by example, without flag v and with it.
use Rattle.std.proofs.Common.{◌≡◌, true, false, List, [], ◌∷◌, Some, refl}
use Prim.Native.Char.{Char, code}
use Prim.Native.String.{String}
use lib.Chars.{codes}
use Rattle.regress_meaning.specs.Grammar.{class_of}
use Rattle.regress_meaning.specs.Class.{Class, no_string, range, digits, spaces, words, property, sequences, strings, intersection, difference, complement, nested}
use Rattle.regress_meaning.specs.Pattern.{Pattern, class, reference}
use Rattle.regress_meaning.proofs.Rows.{terms, letter, letters, group, star}
use Rattle.regress_meaning.proofs.ReadingRows.{reading, read, Reads, PlainReads, UnicodeReads, AlwaysReads, alone, named, members, points}

-- ---- words for the examples

-- a class alone in its pattern
abbrev in_brackets : Class → Pattern
in_brackets s = alone (class false s)

-- a negated one
abbrev not_in_brackets : Class → Pattern
not_in_brackets s = alone (class true s)

-- one code point
abbrev one : Char → Class
one c = class_of (code c)

-- all from a to b
abbrev from_to : Char → Char → Class
from_to a b = range (code a) (code b)

-- a class alone in another
abbrev inner : List Class → Class
inner ss = nested false (members ss)

-- ---- members

empty_class : AlwaysReads "[]" (in_brackets no_string)
unfolding reading
empty_class = (refl, refl, refl)

class_of_all : AlwaysReads "[^]" (not_in_brackets no_string)
unfolding reading
class_of_all = (refl, refl, refl)

members_side_by_side : AlwaysReads "[ab]" (in_brackets (points "ab"))
unfolding reading
members_side_by_side = (refl, refl, refl)

range_of_members : AlwaysReads "[a-c]" (in_brackets (members (from_to "a" "c" ∷ [])))
unfolding reading
range_of_members = (refl, refl, refl)

negated_range : AlwaysReads "[^a-c]" (not_in_brackets (members (from_to "a" "c" ∷ [])))
unfolding reading
negated_range = (refl, refl, refl)

range_of_one : AlwaysReads "[a-a]" (in_brackets (members (one "a" ∷ [])))
unfolding reading
range_of_one = (refl, refl, refl)

two_ranges : AlwaysReads "[a-cx0-9]" (in_brackets (members (from_to "a" "c" ∷ one "x" ∷ from_to "0" "9" ∷ [])))
unfolding reading
two_ranges = (refl, refl, refl)

range_of_escapes : AlwaysReads "[\\x00-\\u00FF]" (in_brackets (members (range 0 0xFF ∷ [])))
unfolding reading
range_of_escapes = (refl, refl, refl)

sets_as_members : AlwaysReads "[\\d\\D\\s\\S\\w\\W]"
    (in_brackets (members (digits ∷ complement digits ∷ spaces ∷ complement spaces ∷ words ∷ complement words ∷ [])))
unfolding reading
sets_as_members = (refl, refl, refl)

caret_behind_a_member : AlwaysReads "[a^]" (in_brackets (points "a^"))
unfolding reading
caret_behind_a_member = (refl, refl, refl)

second_caret_is_a_member : AlwaysReads "[^^]" (not_in_brackets (points "^"))
unfolding reading
second_caret_is_a_member = (refl, refl, refl)

class_ends_at_the_first_bracket : PlainReads "[]]" (terms (class false no_string ∷ letter "]" ∷ [])) × PlainReads "[[]]" (terms (class false (points "[") ∷ letter "]" ∷ []))
unfolding reading
class_ends_at_the_first_bracket = (refl, refl)

marks_without_v : PlainReads "[.*+?(){}|/$&&!!]" (in_brackets (points ".*+?(){}|/$&&!!")) × Reads "u" "[.*+?(){}|/$&&!!]" (in_brackets (points ".*+?(){}|/$&&!!"))
unfolding reading
marks_without_v = (refl, refl)

quantified_class : AlwaysReads "[a]*" (alone (star (class false (points "a")) 0 0))
unfolding reading
quantified_class = (refl, refl, refl)

-- [U+1F600]
member_past_ffff : (read "" (0x5B ∷ 0x1F600 ∷ 0x5D ∷ []) ≡ Some (in_brackets (members (class_of 0x1F600 ∷ []))))
    × (read "v" (0x5B ∷ 0x1F600 ∷ 0x5D ∷ []) ≡ Some (in_brackets (members (class_of 0x1F600 ∷ []))))
unfolding reading
member_past_ffff = (refl, refl)

-- ---- dashes without v

-- without v it is so with Unicode mode and without it
abbrev BothRead : String → Pattern → Type 0
BothRead text tree = Reads "" text tree × Reads "u" text tree

last_dash : BothRead "[a-]" (in_brackets (points "a-"))
unfolding reading
last_dash = (refl, refl)

first_dash : BothRead "[-a]" (in_brackets (points "-a"))
unfolding reading
first_dash = (refl, refl)

first_dash_of_a_negated_class : BothRead "[^-a]" (not_in_brackets (points "-a"))
unfolding reading
first_dash_of_a_negated_class = (refl, refl)

dash_alone : BothRead "[-]" (in_brackets (points "-")) × BothRead "[--]" (in_brackets (points "--"))
unfolding reading
dash_alone = ((refl, refl), (refl, refl))

dash_behind_a_range : BothRead "[a-c-e]" (in_brackets (members (from_to "a" "c" ∷ one "-" ∷ one "e" ∷ [])))
unfolding reading
dash_behind_a_range = (refl, refl)

range_from_a_dash_behind_a_range : BothRead "[a-c--e]" (in_brackets (members (from_to "a" "c" ∷ from_to "-" "e" ∷ [])))
unfolding reading
range_from_a_dash_behind_a_range = (refl, refl)

dash_between_a_range_and_a_set : BothRead "[a-b-\\d]" (in_brackets (members (from_to "a" "b" ∷ one "-" ∷ digits ∷ [])))
unfolding reading
dash_between_a_range_and_a_set = (refl, refl)

-- the second dash stands between two members, of which the first dash is one
range_from_a_dash : BothRead "[--a]" (in_brackets (members (from_to "-" "a" ∷ [])))
unfolding reading
range_from_a_dash = (refl, refl)

range_to_a_dash : BothRead "[+--]" (in_brackets (members (from_to "+" "-" ∷ [])))
unfolding reading
range_to_a_dash = (refl, refl)

dash_beside_a_set_at_the_end : BothRead "[\\d-]" (in_brackets (members (digits ∷ one "-" ∷ []))) × BothRead "[-\\d]" (in_brackets (members (one "-" ∷ digits ∷ [])))
unfolding reading
dash_beside_a_set_at_the_end = ((refl, refl), (refl, refl))

dash_behind_a_set : PlainReads "[\\d-z]" (in_brackets (members (digits ∷ one "-" ∷ one "z" ∷ [])))
unfolding reading
dash_behind_a_set = refl

dash_before_a_set : PlainReads "[a-\\d]" (in_brackets (members (one "a" ∷ one "-" ∷ digits ∷ [])))
unfolding reading
dash_before_a_set = refl

dash_between_two_sets : PlainReads "[\\s-\\d]" (in_brackets (members (spaces ∷ one "-" ∷ digits ∷ [])))
unfolding reading
dash_between_two_sets = refl

-- the three of the first dash are taken together
dash_behind_three : PlainReads "[\\d-a-z]" (in_brackets (members (digits ∷ one "-" ∷ one "a" ∷ one "-" ∷ one "z" ∷ [])))
unfolding reading
dash_behind_three = refl

-- ---- escapes without v

backspace : AlwaysReads "[\\b]" (in_brackets (members (class_of 8 ∷ [])))
unfolding reading
backspace = (refl, refl, refl)

range_from_backspace : AlwaysReads "[\\b-\\n]" (in_brackets (members (range 8 10 ∷ [])))
unfolding reading
range_from_backspace = (refl, refl, refl)

no_boundary_in_a_class : PlainReads "[\\B]" (in_brackets (points "B"))
unfolding reading
no_boundary_in_a_class = refl

escaped_dash : AlwaysReads "[\\-]" (in_brackets (points "-")) × AlwaysReads "[a\\-c]" (in_brackets (points "a-c"))
unfolding reading
escaped_dash = ((refl, refl, refl), (refl, refl, refl))

control_letters_in_a_class : AlwaysReads "[\\cA\\f\\0]" (in_brackets (members (class_of 1 ∷ class_of 12 ∷ class_of 0 ∷ [])))
unfolding reading
control_letters_in_a_class = (refl, refl, refl)

control_digit : PlainReads "[\\c1]" (in_brackets (members (class_of 17 ∷ []))) × PlainReads "[\\c_]" (in_brackets (members (class_of 31 ∷ [])))
unfolding reading
control_digit = (refl, refl)

backslash_before_c_in_a_class : PlainReads "[\\c]" (in_brackets (points "\\c")) × PlainReads "[\\c*]" (in_brackets (points "\\c*"))
unfolding reading
backslash_before_c_in_a_class = (refl, refl)

-- the range begins with the c
backslash_before_a_range_from_c : PlainReads "[\\c-e]" (in_brackets (members (one "\\" ∷ from_to "c" "e" ∷ [])))
unfolding reading
backslash_before_a_range_from_c = refl

octal_in_a_class : PlainReads "[\\1\\012\\400]" (in_brackets (members (class_of 1 ∷ class_of 10 ∷ class_of 32 ∷ one "0" ∷ [])))
unfolding reading
octal_in_a_class = refl

eight_and_nine_in_a_class : PlainReads "[\\8\\9]" (in_brackets (points "89"))
unfolding reading
eight_and_nine_in_a_class = refl

-- there are no references in a class
number_of_a_group_in_a_class : PlainReads "(a)[\\1]" (terms (group 0 (letters "a") ∷ class false (members (class_of 1 ∷ [])) ∷ []))
unfolding reading
number_of_a_group_in_a_class = refl

k_in_a_class : PlainReads "[\\k]" (in_brackets (points "k")) × PlainReads "[\\k<n>]" (in_brackets (points "k<n>"))
unfolding reading
k_in_a_class = (refl, refl)

other_characters_in_a_class : PlainReads "[\\a\\x\\u\\p\\]]" (in_brackets (points "axup]"))
unfolding reading
other_characters_in_a_class = refl

syntax_characters_in_a_class : AlwaysReads "[\\^\\$\\\\\\.\\*\\+\\?\\(\\)\\[\\]\\{\\}\\|\\/]" (in_brackets (points "^$\\.*+?()[]{}|/"))
unfolding reading
syntax_characters_in_a_class = (refl, refl, refl)

pair_in_a_class : UnicodeReads "[\\uD83D\\uDE00\\u{61}]" (in_brackets (members (class_of 0x1F600 ∷ one "a" ∷ [])))
unfolding reading
pair_in_a_class = (refl, refl)

range_of_pairs : UnicodeReads "[\\uD83D\\uDE00-\\uD83D\\uDE02]" (in_brackets (members (range 0x1F600 0x1F602 ∷ [])))
unfolding reading
range_of_pairs = (refl, refl)

range_of_halves : AlwaysReads "[\\uD83D-\\uDE00]" (in_brackets (members (range 0xD83D 0xDE00 ∷ [])))
unfolding reading
range_of_halves = (refl, refl, refl)

halves_in_a_class : PlainReads "[\\uD83D\\uDE00]" (in_brackets (members (class_of 0xD83D ∷ class_of 0xDE00 ∷ [])))
unfolding reading
halves_in_a_class = refl

properties_in_a_class : UnicodeReads "[\\p{ASCII}\\P{Any}]" (in_brackets (members (property (codes "ASCII") ∷ complement (property (codes "Any")) ∷ [])))
unfolding reading
properties_in_a_class = (refl, refl)

p_in_a_class : PlainReads "[\\p{Any}]" (in_brackets (points "p{Any}"))
unfolding reading
p_in_a_class = refl

-- a bracket or a backslash inside a class leaves the groups behind it as they are
groups_behind_classes : PlainReads "[[](a)[\\]](?<n>b)\\k<n>\\2"
    (terms (class false (points "[") ∷ group 0 (letters "a") ∷ class false (points "]") ∷ named 1 "n" (letters "b")
    ∷ reference (1 ∷ []) ∷ reference (1 ∷ []) ∷ []))
unfolding reading
groups_behind_classes = refl

-- ---- with v

-- with flag v a class is read so, with flag u beside it or not
abbrev SetsRead : String → Pattern → Type 0
SetsRead text tree = Reads "v" text tree × Reads "uv" text tree

class_in_a_class : SetsRead "[[a]b]" (in_brackets (members (inner (one "a" ∷ []) ∷ one "b" ∷ [])))
unfolding reading
class_in_a_class = (refl, refl)

class_in_a_negated_class : SetsRead "[^[a]]" (not_in_brackets (members (inner (one "a" ∷ []) ∷ [])))
unfolding reading
class_in_a_negated_class = (refl, refl)

negated_class_in_a_class : SetsRead "[[^a]]" (in_brackets (members (nested true (points "a") ∷ [])))
unfolding reading
negated_class_in_a_class = (refl, refl)

empty_class_in_a_class : SetsRead "[[][^]]" (in_brackets (members (nested false no_string ∷ nested true no_string ∷ [])))
unfolding reading
empty_class_in_a_class = (refl, refl)

classes_three_deep : SetsRead "[a[b[c]]]" (in_brackets (members (one "a" ∷ inner (one "b" ∷ inner (one "c" ∷ []) ∷ []) ∷ [])))
unfolding reading
classes_three_deep = (refl, refl)

class_behind_a_range : SetsRead "[a-c[x]\\d]" (in_brackets (members (from_to "a" "c" ∷ inner (one "x" ∷ []) ∷ digits ∷ [])))
unfolding reading
class_behind_a_range = (refl, refl)

intersection_of_two : SetsRead "[a&&b]" (in_brackets (intersection (one "a") (one "b")))
unfolding reading
intersection_of_two = (refl, refl)

intersection_of_three : SetsRead "[^\\w&&\\d&&[0]]" (not_in_brackets (intersection (intersection words digits) (inner (one "0" ∷ []))))
unfolding reading
intersection_of_three = (refl, refl)

intersection_of_classes : SetsRead "[[a-z]&&[aeiou]]" (in_brackets (intersection (inner (from_to "a" "z" ∷ [])) (nested false (points "aeiou"))))
unfolding reading
intersection_of_classes = (refl, refl)

difference_of_two : SetsRead "[a--b]" (in_brackets (difference (one "a") (one "b")))
unfolding reading
difference_of_two = (refl, refl)

difference_of_three : SetsRead "[\\w--\\d--_]" (in_brackets (difference (difference words digits) (one "_")))
unfolding reading
difference_of_three = (refl, refl)

difference_from_a_property : SetsRead "[\\p{ASCII}--[a]]" (in_brackets (difference (property (codes "ASCII")) (inner (one "a" ∷ []))))
unfolding reading
difference_from_a_property = (refl, refl)

-- a nested class may hold what its neighbours may not
intersection_in_a_difference : SetsRead "[[a&&b]--[c-d]]" (in_brackets (difference (nested false (intersection (one "a") (one "b"))) (inner (from_to "c" "d" ∷ []))))
unfolding reading
intersection_in_a_difference = (refl, refl)

strings_of_a_class : SetsRead "[\\q{ab|c|}]" (in_brackets (members (strings (codes "ab" ∷ codes "c" ∷ [] ∷ []) ∷ [])))
unfolding reading
strings_of_a_class = (refl, refl)

empty_string_alone : SetsRead "[\\q{}]" (in_brackets (members (strings ([] ∷ []) ∷ [])))
unfolding reading
empty_string_alone = (refl, refl)

strings_of_escapes : SetsRead "[\\q{\\-\\u{61}|\\b&}x]" (in_brackets (members (strings (codes "-a" ∷ (8 ∷ codes "&") ∷ []) ∷ one "x" ∷ [])))
unfolding reading
strings_of_escapes = (refl, refl)

strings_less_others : SetsRead "[\\q{ab|c}--\\q{ab}]" (in_brackets (difference (strings (codes "ab" ∷ codes "c" ∷ [])) (strings (codes "ab" ∷ []))))
unfolding reading
strings_less_others = (refl, refl)

property_of_strings_in_a_class : SetsRead "[\\p{Emoji_Keycap_Sequence}]" (in_brackets (members (sequences (codes "Emoji_Keycap_Sequence") ∷ [])))
unfolding reading
property_of_strings_in_a_class = (refl, refl)

-- strings of one code point each are no strings in this sense
negated_class_of_short_strings : SetsRead "[^\\q{a|b}]" (not_in_brackets (members (strings (codes "a" ∷ codes "b" ∷ []) ∷ [])))
unfolding reading
negated_class_of_short_strings = (refl, refl)

-- the other operand holds none
negated_intersection_with_strings : SetsRead "[^\\q{ab}&&a]" (not_in_brackets (intersection (strings (codes "ab" ∷ [])) (one "a")))
unfolding reading
negated_intersection_with_strings = (refl, refl)

-- the first operand holds none
negated_difference_with_strings : SetsRead "[^a--\\q{ab}]" (not_in_brackets (difference (one "a") (strings (codes "ab" ∷ []))))
unfolding reading
negated_difference_with_strings = (refl, refl)

-- each of the marks once, and none beside itself
single_marks_with_v : SetsRead "[!#$%&*+,.:;<=>?@^`~]" (in_brackets (points "!#$%&*+,.:;<=>?@^`~"))
unfolding reading
single_marks_with_v = (refl, refl)

escaped_marks_with_v : SetsRead "[\\&\\-\\!\\#\\%\\,\\:\\;\\<\\=\\>\\@\\`\\~]" (in_brackets (points "&-!#%,:;<=>@`~"))
unfolding reading
escaped_marks_with_v = (refl, refl)

escaped_mark_beside_itself : SetsRead "[&\\&\\!!]" (in_brackets (points "&&!!"))
unfolding reading
escaped_mark_beside_itself = (refl, refl)

range_of_marks : SetsRead "[!-~]" (in_brackets (members (from_to "!" "~" ∷ [])))
unfolding reading
range_of_marks = (refl, refl)

-- the groups behind classes in classes have their numbers
group_behind_classes_in_classes : SetsRead "[[a]&&[\\(]](a)\\1"
    (terms (class false (intersection (inner (one "a" ∷ [])) (inner (one "(" ∷ []))) ∷ group 0 (letters "a") ∷ reference (0 ∷ []) ∷ []))
unfolding reading
group_behind_classes_in_classes = (refl, refl)
