-- Which texts spell no tree, by example: the reading function finds none, with the small table.
use Rattle.std.proofs.Common.{◌≡◌, List, [], ◌∷◌, map, None, refl}
use Prim.Native.String.{String}
use lib.Chars.{codes}
use Rattle.regress_meaning.proofs.ReadingRows.{reading, read}

-- ---- words for the examples

-- Under these flags none of the texts spells a tree.
abbrev Refused : String → List String → Type 0
Refused flags texts = map (λ text. read flags (codes text)) texts ≡ map (λ text. None) texts

-- without Unicode mode
abbrev PlainRefused : List String → Type 0
PlainRefused texts = Refused "" texts

-- in Unicode mode, by either flag
abbrev UnicodeRefused : List String → Type 0
UnicodeRefused texts = Refused "u" texts × Refused "v" texts

-- in every mode
abbrev AlwaysRefused : List String → Type 0
AlwaysRefused texts = Refused "" texts × Refused "u" texts × Refused "v" texts

-- ---- in every mode

backslash_at_the_end : AlwaysRefused ("\\" ∷ "a\\" ∷ "[\\" ∷ "(\\" ∷ [])
unfolding reading
backslash_at_the_end = (refl, refl, refl)

parenthesis_without_its_partner : AlwaysRefused ("(" ∷ "(a" ∷ ")" ∷ "a)" ∷ "(a|b" ∷ "((a)" ∷ "(a))" ∷ "(?:a" ∷ "(?=a" ∷ "(?<!a" ∷ "(?i:a" ∷ "(\\)" ∷ "([)]" ∷ [])
unfolding reading
parenthesis_without_its_partner = (refl, refl, refl)

class_that_is_not_closed : AlwaysRefused ("[" ∷ "[a" ∷ "[^" ∷ "[^a" ∷ "[a-" ∷ "[a-b" ∷ "[\\]" ∷ [])
unfolding reading
class_that_is_not_closed = (refl, refl, refl)

quantifier_without_an_atom : AlwaysRefused ("*" ∷ "+" ∷ "?" ∷ "*a" ∷ "a|*" ∷ "(+)" ∷ "(?:?)" ∷ "(?<n>*)" ∷ [])
unfolding reading
quantifier_without_an_atom = (refl, refl, refl)

quantifier_behind_a_quantifier : AlwaysRefused ("a**" ∷ "a*+" ∷ "a+*" ∷ "a???" ∷ "a*??" ∷ "a{2}*" ∷ "a{2}{3}" ∷ "a*{2}" ∷ [])
unfolding reading
quantifier_behind_a_quantifier = (refl, refl, refl)

braced_quantifier_without_an_atom : AlwaysRefused ("{1}" ∷ "{1,}" ∷ "{1,2}" ∷ "{1}?" ∷ "a|{1}" ∷ "({1})" ∷ [])
unfolding reading
braced_quantifier_without_an_atom = (refl, refl, refl)

counts_out_of_order : AlwaysRefused ("a{3,2}" ∷ "a{3,2}?" ∷ "[a]{1,0}" ∷ "(a){2,1}" ∷ "a{99999999999999999999,5}" ∷ [])
unfolding reading
counts_out_of_order = (refl, refl, refl)

counts_of_a_lookahead_out_of_order : PlainRefused ("(?=a){3,2}" ∷ [])
unfolding reading
counts_of_a_lookahead_out_of_order = refl

quantified_lookbehind : AlwaysRefused ("(?<=a)*" ∷ "(?<=a){2}" ∷ "(?<!a)?" ∷ "(?<!a)+" ∷ [])
unfolding reading
quantified_lookbehind = (refl, refl, refl)

quantified_assertion : AlwaysRefused ("^*" ∷ "^{1}" ∷ "$+" ∷ "\\b?" ∷ "\\B*" ∷ "\\b{2,3}" ∷ [])
unfolding reading
quantified_assertion = (refl, refl, refl)

modifiers_that_are_none : AlwaysRefused ("(?ii:a)" ∷ "(?-:a)" ∷ "(?i)" ∷ "(?i-i:a)" ∷ "(?-ii:a)" ∷ "(?ims-i:a)" ∷ "(?x:a)" ∷ "(?I:a)" ∷ "(?i-u:a)" ∷ "(?i-m)" ∷ "(?i-m-s:a)" ∷ "(?--i:a)" ∷ "(?-)" ∷ "(?i" ∷ [])
unfolding reading
modifiers_that_are_none = (refl, refl, refl)

openings_that_are_none : AlwaysRefused ("(?>a" ∷ "(?>" ∷ "(?>+)" ∷ "(? >a)" ∷ "(?" ∷ "(?)" ∷ "(?a)" ∷ "(?#a)" ∷ "(?P<n>a)" ∷ "(? :a)" ∷ [])
unfolding reading
openings_that_are_none = (refl, refl, refl)

-- ---- names, in every mode

name_twice : AlwaysRefused ("(?<n>a)(?<n>b)" ∷ "(?<n>a)(?<\\u006E>b)" ∷ "(?<n>(?<n>a))" ∷ "(?<n>a|(?<n>b))" ∷ "(?:(?<n>a)|b)(?<n>c)" ∷ "a|(?<n>b)((?<m>c)|(?<n>d))" ∷ "(?<n>a)(?=(?<n>b))" ∷ [])
unfolding reading
name_twice = (refl, refl, refl)

name_that_is_no_identifier : AlwaysRefused ("(?<1>a)" ∷ "(?<>a)" ∷ "(?<-n>a)" ∷ "(?<n m>a)" ∷ "(?<n-m>a)" ∷ "(?<n\\x61>a)" ∷ "(?<n\\u00>a)" ∷ "(?<n\\u{110000}>a)" ∷ "(?<n\\u{}>a)" ∷ "(?<\\u0031>a)" ∷ "(?<\\uD83D\\uDE00>a)" ∷ [])
unfolding reading
name_that_is_no_identifier = (refl, refl, refl)

-- U+200D does not begin a name
name_that_begins_with_a_joiner : read "" (0x28 ∷ 0x3F ∷ 0x3C ∷ 0x200D ∷ 0x3E ∷ 0x29 ∷ []) ≡ None
unfolding reading
name_that_begins_with_a_joiner = refl

name_that_is_not_closed : AlwaysRefused ("(?<n" ∷ "(?<n>" ∷ "(?<" ∷ "(?<n)" ∷ "(?<n\\" ∷ [])
unfolding reading
name_that_is_not_closed = (refl, refl, refl)

-- a named group anywhere makes `\k` a reference
reference_without_its_group : AlwaysRefused ("(?<n>a)\\k<m>" ∷ "\\k<m>(?<n>a)" ∷ "(?<n>a)\\k" ∷ "\\k(?<n>a)" ∷ "(?<n>a)\\k<n" ∷ "(?<n>a)\\kn" ∷ "(?<n>a)\\k<>" ∷ "(?<n>a)\\k<1>" ∷ [])
unfolding reading
reference_without_its_group = (refl, refl, refl)

reference_in_a_class : AlwaysRefused ("(?<n>a)[\\k]" ∷ "[\\k<n>](?<n>a)" ∷ [])
unfolding reading
reference_in_a_class = (refl, refl, refl)

-- ---- in Unicode mode, outside classes

marks_that_must_be_escaped : UnicodeRefused ("]" ∷ "}" ∷ "{" ∷ "a]" ∷ "a}" ∷ "{a}" ∷ "[a]]" ∷ [])
unfolding reading
marks_that_must_be_escaped = (refl, refl)

brace_that_is_no_quantifier : UnicodeRefused ("a{" ∷ "a{,2}" ∷ "a{2" ∷ "a{2,3" ∷ "a{2, 3}" ∷ "a*{" ∷ "^{" ∷ [])
unfolding reading
brace_that_is_no_quantifier = (refl, refl)

quantified_lookahead : UnicodeRefused ("(?=a)*" ∷ "(?!a)+" ∷ "(?=a){2}" ∷ "(?=a)*b" ∷ [])
unfolding reading
quantified_lookahead = (refl, refl)

c_without_a_letter : UnicodeRefused ("\\c" ∷ "\\c1" ∷ "\\c_" ∷ "\\c*" ∷ [])
unfolding reading
c_without_a_letter = (refl, refl)

octal : UnicodeRefused ("\\00" ∷ "\\01" ∷ "\\08" ∷ "\\101" ∷ "\\400" ∷ [])
unfolding reading
octal = (refl, refl)

number_past_the_groups : UnicodeRefused ("\\1" ∷ "\\8" ∷ "(a)\\2" ∷ "(a)\\11" ∷ "(?:a)\\1" ∷ "[(]\\1" ∷ "\\(\\1" ∷ "(?=a)\\1" ∷ [])
unfolding reading
number_past_the_groups = (refl, refl)

hex_digits_missing : UnicodeRefused ("\\x" ∷ "\\x4" ∷ "\\xg1" ∷ "\\u" ∷ "\\u004" ∷ "\\u004g" ∷ "\\uD83D\\u" ∷ [])
unfolding reading
hex_digits_missing = (refl, refl)

braces_with_no_code_point : UnicodeRefused ("\\u{}" ∷ "\\u{g}" ∷ "\\u{61" ∷ "\\u{ 61}" ∷ "\\u{110000}" ∷ "\\u{0110000}" ∷ "\\u{fffffffffffffffff}" ∷ [])
unfolding reading
braces_with_no_code_point = (refl, refl)

k_without_a_name : UnicodeRefused ("\\k" ∷ "\\k<n>" ∷ "(a)\\k<n>" ∷ [])
unfolding reading
k_without_a_name = (refl, refl)

property_that_is_not_known : UnicodeRefused ("\\p{Foo}" ∷ "\\P{Foo}" ∷ "\\p{L}" ∷ "\\p{ascii}" ∷ "\\p{ASCII=Yes}" ∷ [])
unfolding reading
property_that_is_not_known = (refl, refl)

property_without_its_braces : UnicodeRefused ("\\p" ∷ "\\P" ∷ "\\pL" ∷ "\\p{" ∷ "\\p{}" ∷ "\\p{ASCII" ∷ "\\p{ASCII }" ∷ "\\p{^ASCII}" ∷ "\\p{=ASCII}" ∷ "\\p{ASCII=}" ∷ "\\p{ASCII=" ∷ [])
unfolding reading
property_without_its_braces = (refl, refl)

complement_of_a_property_of_strings : UnicodeRefused ("\\P{Emoji_Keycap_Sequence}" ∷ "[\\P{Emoji_Keycap_Sequence}]" ∷ [])
unfolding reading
complement_of_a_property_of_strings = (refl, refl)

property_of_strings_without_v : Refused "u" ("\\p{Emoji_Keycap_Sequence}" ∷ "[\\p{Emoji_Keycap_Sequence}]" ∷ [])
unfolding reading
property_of_strings_without_v = refl

other_escapes : UnicodeRefused ("\\-" ∷ "\\a" ∷ "\\e" ∷ "\\_" ∷ "\\ " ∷ "\\," ∷ "\\Z" ∷ "\\q{a}" ∷ [])
unfolding reading
other_escapes = (refl, refl)

-- a backslash and é
other_escape_past_ascii : read "u" (0x5C ∷ 0xE9 ∷ []) ≡ None
unfolding reading
other_escape_past_ascii = refl

-- ---- classes without v

-- without v it is so with Unicode mode and without it
abbrev BothRefused : List String → Type 0
BothRefused texts = Refused "" texts × Refused "u" texts

range_out_of_order : BothRefused ("[z-a]" ∷ "[b-a]" ∷ "[^z-a]" ∷ "[a--]" ∷ "[\\x41-\\0]" ∷ "[a-cz-x]" ∷ [])
unfolding reading
range_out_of_order = (refl, refl)

-- the range is from a to the backslash, and from c to a
range_of_a_lone_backslash : PlainRefused ("[a-\\c]" ∷ "[\\c-a]" ∷ [])
unfolding reading
range_of_a_lone_backslash = refl

pair_that_is_not_joined : PlainRefused ("[\\uD83D\\uDE00-\\uD83D\\uDE02]" ∷ [])
unfolding reading
pair_that_is_not_joined = refl

range_beside_a_set : Refused "u" ("[\\d-z]" ∷ "[a-\\d]" ∷ "[\\s-\\d]" ∷ "[\\w-z]" ∷ "[\\p{ASCII}-z]" ∷ [])
unfolding reading
range_beside_a_set = refl

escape_in_a_class : UnicodeRefused ("[\\B]" ∷ "[\\c]" ∷ "[\\c1]" ∷ "[\\c_]" ∷ "[\\k]" ∷ "[\\a]" ∷ "[\\_]" ∷ "[\\x4]" ∷ "[\\u]" ∷ "[\\u{110000}]" ∷ "[\\p]" ∷ "[\\p{Foo}]" ∷ [])
unfolding reading
escape_in_a_class = (refl, refl)

number_in_a_class : UnicodeRefused ("[\\1]" ∷ "[\\8]" ∷ "[\\00]" ∷ "[\\101]" ∷ "(a)[\\1]" ∷ [])
unfolding reading
number_in_a_class = (refl, refl)

strings_without_v : Refused "u" ("[\\q{a}]" ∷ [])
unfolding reading
strings_without_v = refl

-- ---- classes with v

-- with flag v they spell none, with flag u beside it or not
abbrev SetsRefused : List String → Type 0
SetsRefused texts = Refused "v" texts × Refused "uv" texts

operations_mixed : SetsRefused ("[a&&b--c]" ∷ "[a--b&&c]" ∷ "[ab&&c]" ∷ "[a&&bc]" ∷ "[ab--c]" ∷ "[a--bc]" ∷ "[[a][b]&&c]" ∷ "[a&&[b]\\d]" ∷ [])
unfolding reading
operations_mixed = (refl, refl)

range_in_an_operation : SetsRefused ("[a-z&&b]" ∷ "[a&&b-z]" ∷ "[a-z--b]" ∷ "[a--b-z]" ∷ [])
unfolding reading
range_in_an_operation = (refl, refl)

operand_missing : SetsRefused ("[&&]" ∷ "[&&a]" ∷ "[a&&]" ∷ "[--]" ∷ "[--a]" ∷ "[a--]" ∷ "[a&&&&b]" ∷ "[a----b]" ∷ [])
unfolding reading
operand_missing = (refl, refl)

third_mark : SetsRefused ("[a&&&b]" ∷ "[a---b]" ∷ [])
unfolding reading
third_mark = (refl, refl)

marks_that_must_be_escaped_in_a_class : SetsRefused ("[(]" ∷ "[)]" ∷ "[[]" ∷ "[{]" ∷ "[}]" ∷ "[/]" ∷ "[-]" ∷ "[|]" ∷ "[a-]" ∷ "[-a]" ∷ "[a-c-e]" ∷ "[+--]" ∷ [])
unfolding reading
marks_that_must_be_escaped_in_a_class = (refl, refl)

-- each mark twice, behind the letter a
reserved_pairs : map (λ c. read "v" (0x5B ∷ 0x61 ∷ c ∷ c ∷ 0x5D ∷ [])) (codes "&!#$%*+,.:;<=>?@^`~") ≡ map (λ c. None) (codes "&!#$%*+,.:;<=>?@^`~")
unfolding reading
reserved_pairs = refl

reserved_pairs_elsewhere : SetsRefused ("[!!]" ∷ "[^^^]" ∷ "[a-!!]" ∷ "[[..]]" ∷ "[!!!]" ∷ "[a&&!!]" ∷ [])
unfolding reading
reserved_pairs_elsewhere = (refl, refl)

range_of_no_characters : SetsRefused ("[z-a]" ∷ "[a-\\d]" ∷ "[\\d-a]" ∷ "[[a]-b]" ∷ "[a-[b]]" ∷ "[a-\\q{b}]" ∷ "[\\q{a}-b]" ∷ [])
unfolding reading
range_of_no_characters = (refl, refl)

inner_class_that_is_not_closed : SetsRefused ("[[a]" ∷ "[a[b]" ∷ "[a&&[b]" ∷ [])
unfolding reading
inner_class_that_is_not_closed = (refl, refl)

strings_that_are_none : SetsRefused ("[\\q]" ∷ "[\\q{ab]" ∷ "[\\q{ab}" ∷ "[\\qa]" ∷ "[\\q{a-b}]" ∷ "[\\q{a&&b}]" ∷ "[\\q{[a]}]" ∷ "[\\q{\\d}]" ∷ "[\\q{(}]" ∷ "[\\q{\\q{a}}]" ∷ [])
unfolding reading
strings_that_are_none = (refl, refl)

negated_class_with_strings : SetsRefused ("[^\\q{ab}]" ∷ "[^\\q{}]" ∷ "[^\\q{a|bc}]" ∷ "[^\\p{Emoji_Keycap_Sequence}]" ∷ "[[^\\q{ab}]]" ∷ "[^[\\q{ab}]]" ∷ "[^a\\q{ab}]" ∷ "[^\\q{ab}&&\\q{cd}]" ∷ "[^\\q{ab}--a]" ∷ [])
unfolding reading
negated_class_with_strings = (refl, refl)
