-- Runs of programs, by example, in programs of bytes and of units. Offsets count bytes of ASCII.
use Prim.Native.Char.{Char, code}
use Prim.Native.String.{String}
use lib.Chars.{codes}
use lib.Utf8.{encode}
use Rattle.std.specs.Str.{chars}
use Rattle.std.specs.Prelude.{◌&&◌, if◌then◌else◌, nat_le, nat_lt}
use Rattle.std.specs.List.{list_all}
use Rattle.std.proofs.Common.{◌≡◌, ℕ, Bool, true, false, List, [], ◌∷◌, map, Option, Some, None, refl, option_map, All, arith}
use Rattle.std.proofs.lemmas.Bool.{and_parts, leb-true}
use Rattle.std.proofs.lemmas.Bool.Decides.{nat_tests}
use Rattle.std.proofs.lemmas.List.Elements.{All-nil, All-cons}
use Rattle.regress_meaning.specs.Table.{canon, last_code_point}
use Rattle.regress_meaning.specs.TableParts.{is_code_point, table_of, small_parts, image, in_intervals, entry}
use Rattle.regress_meaning.specs.Class.{is_word}
use Rattle.regress_meaning.specs.Tokens.{greatest}
use Rattle.regress_meaning.specs.Meaning.{Forward}
use Rattle.regress_meaning.specs.Inputs.{Input, ascii_input, ucs2_input, utf16_input, utf8_input}
use Rattle.regress_meaning.specs.Steps.{copied}
use Rattle.regress_front_nodes.specs.Trees.{Tree, cat_of, empty, any_in_line, char, cat, no_part, alt, capture, back, submatch, lookaround, atomic, loop, goal, line_start, line_end, bytes, char_set, string_set, single_loop, bracket, boundary}
use Rattle.regress_front_nodes.specs.WellFormed.{IsWellFormed}
use Rattle.regress_front_nodes.specs.Pieces.{pieces_of, expansion}
use Rattle.regress_engine_insn.specs.Instructions.{Program}
use Rattle.regress_engine_insn.specs.Layout.{ProgramPoint, Target, IsLayout}
use Rattle.regress_engine_insn.specs.Counts.{count}
use Rattle.regress_engine_runs.specs.States.{Whole, range_of, first_state}
use Rattle.regress_engine_runs.specs.Runs.{after_times, as_far, one_by_one, back_to}
use Rattle.regress_engine_runs.specs.Computed.{run}
use Rattle.regress_engine_runs.proofs.Emitted.{emitted, index_of, are_same}

-- what the examples compute with
computation : Unit {0}
unfolding run copied index_of are_same after_times as_far one_by_one back_to emitted pieces_of expansion count encode chars is_word canon image in_intervals entry
computation = tt

-- an ASCII text as an input
abbrev ascii : String → Input
ascii text = ascii_input (table_of small_parts) false (codes text)

-- the brackets of a program
abbrev Brackets : Type 0
Brackets = List (Bool × List (ℕ × ℕ))

-- what a program without instructions is made for
abbrev blank_with : Brackets → Bool → Target
blank_with brackets units = record { program = record { instructions = []; brackets = brackets; loops = 0; groups = 0; units = units }; table = table_of small_parts; unicode = false }

abbrev blank : Bool → Target
blank units = blank_with [] units

-- the program of a tree with so many loops and groups, of bytes or of units
abbrev made_with : Brackets → Bool → ℕ → ℕ → Tree → Program
made_with brackets units loops groups t =
    record { instructions = emitted (blank_with brackets units) false (cat t (cat goal no_part)) 0 0; brackets = brackets; loops = loops; groups = groups; units = units }

abbrev made_of : Bool → ℕ → ℕ → Tree → Program
made_of units loops groups t = made_with [] units loops groups t

abbrev program_of : ℕ → ℕ → Tree → Program
program_of loops groups t = made_of false loops groups t

-- where a state is and what its groups took
abbrev told : Whole → ℕ × List (Option (ℕ × ℕ))
told w = (w.offset, map range_of w.groups)

-- the answer of a program from an offset
abbrev answer_of : Program → String → ℕ → Option (Option (ℕ × List (Option (ℕ × ℕ))))
answer_of program text o = option_map (λ (x : ℕ × Option Whole). option_map told x.1) (run program (ascii text) 2000 Forward (first_state program o ∷ []))

abbrev answer : ℕ → ℕ → Tree → String → ℕ → Option (Option (ℕ × List (Option (ℕ × ℕ))))
answer loops groups t text o = answer_of (program_of loops groups t) text o

abbrev found : ℕ → List (Option (ℕ × ℕ)) → Option (Option (ℕ × List (Option (ℕ × ℕ))))
found e groups = Some (Some (e, groups))

abbrev nothing : Option (Option (ℕ × List (Option (ℕ × ℕ))))
nothing = Some None

abbrev letter : Char → Tree
letter c = char (code c)

-- ^(?:(?:a|ab){2}){1,2}$ on aab
abbrev nested : Tree
nested = cat_of (line_start false ∷ loop (loop (alt (letter "a") (cat_of (letter "a" ∷ letter "b" ∷ []))) 0 0 2 2 true) 0 0 1 2 true ∷ line_end false ∷ [])

nested_loops : answer 2 0 nested "aab" 0 ≡ found 3 []
unfolding computation
nested_loops = refl

-- (z)((a+)?(b+)?(c))* on zaacbbbcac
abbrev resetting : Tree
resetting =
    cat_of (capture 0 None (letter "z") ∷ loop (capture 1 None (cat_of (
    loop (capture 2 None (loop (letter "a") 3 3 1 greatest true)) 2 3 0 1 true
    ∷ loop (capture 3 None (loop (letter "b") 4 4 1 greatest true)) 3 4 0 1 true
    ∷ capture 4 None (letter "c") ∷ []))) 1 5 0 greatest true ∷ [])

iterations_reset_groups : answer 5 5 resetting "zaacbbbcac" 0 ≡ found 10 (Some (0, 1) ∷ Some (8, 10) ∷ Some (8, 9) ∷ None ∷ Some (9, 10) ∷ [])
unfolding computation
iterations_reset_groups = refl

-- (a|a\1)$ on aa, from 0 and from 1
abbrev inside_itself : Tree
inside_itself = cat_of (capture 0 None (alt (letter "a") (cat_of (letter "a" ∷ back 1 false ∷ []))) ∷ line_end false ∷ [])

an_open_group_is_unset : answer 0 1 inside_itself "aa" 0 ≡ nothing
unfolding computation
an_open_group_is_unset = refl

an_open_group_is_unset_later : answer 0 1 inside_itself "aa" 1 ≡ found 2 (Some (1, 2) ∷ [])
unfolding computation
an_open_group_is_unset_later = refl

abbrev digit : Tree
digit = char_set (codes "0123456789")

-- (?<=(\d+)(\d+))$ on 1053
abbrev behind : Tree
behind = cat_of (submatch (lookaround false true) 0 2 (cat_of (capture 1 None (loop digit 2 2 1 greatest true) ∷ capture 0 None (loop digit 2 2 1 greatest true) ∷ [])) ∷ line_end false ∷ [])

a_lookbehind_reads_backward : answer 2 2 behind "1053" 4 ≡ found 4 (Some (0, 1) ∷ Some (1, 4) ∷ [])
unfolding computation
a_lookbehind_reads_backward = refl

-- (?:a|(a))\1$ on aa
abbrev one_arm : Tree
one_arm = cat_of (alt (letter "a") (capture 0 None (letter "a")) ∷ back 1 false ∷ line_end false ∷ [])

an_unset_group_repeats_nothing : answer 0 1 one_arm "aa" 0 ≡ found 2 (Some (0, 1) ∷ [])
unfolding computation
an_unset_group_repeats_nothing = refl

-- (a*)* on b
abbrev empty_iterations : Tree
empty_iterations = loop (capture 0 None (loop (letter "a") 1 1 0 greatest true)) 0 1 0 greatest true

an_empty_iteration_is_dropped : answer 2 1 empty_iterations "b" 0 ≡ found 0 (None ∷ [])
unfolding computation
an_empty_iteration_is_dropped = refl

-- (?:a?){2,}b on ab
abbrev needed : Tree
needed = cat_of (loop (loop (letter "a") 0 0 0 1 true) 0 0 2 greatest true ∷ letter "b" ∷ [])

an_empty_iteration_may_be_needed : answer 2 0 needed "ab" 0 ≡ found 2 []
unfolding computation
an_empty_iteration_may_be_needed = refl

-- the same with a* as a one-character loop, greedy and lazy
abbrev single : Bool → Tree
single greedy = cat_of (capture 0 None (single_loop (letter "a") 1 greatest greedy) ∷ letter "a" ∷ [])

a_one_character_loop_gives_back : answer 0 1 (single true) "aaab" 0 ≡ found 3 (Some (0, 2) ∷ [])
unfolding computation
a_one_character_loop_gives_back = refl

a_lazy_one_takes_few : answer 0 1 (single false) "aaab" 0 ≡ found 2 (Some (0, 1) ∷ [])
unfolding computation
a_lazy_one_takes_few = refl

abbrev word : String → Tree
word text = cat_of (map char (codes text))

-- (a|ab)(c|bcd)(d*) on abcd
abbrev preferring : Tree
preferring =
    cat_of (capture 0 None (alt (letter "a") (word "ab")) ∷ capture 1 None (alt (letter "c") (word "bcd"))
    ∷ capture 2 None (loop (letter "d") 3 3 0 greatest true) ∷ [])

earlier_arms_are_preferred : answer 1 3 preferring "abcd" 0 ≡ found 4 (Some (0, 1) ∷ Some (1, 4) ∷ Some (4, 4) ∷ [])
unfolding computation
earlier_arms_are_preferred = refl

-- a* on baa from each place where a search of it begins, and on the empty text
abbrev letters : Tree
letters = loop (letter "a") 0 0 0 greatest true

a_loop_may_take_nothing : (answer 1 0 letters "baa" 0 ≡ found 0 []) × (answer 1 0 letters "" 0 ≡ found 0 [])
unfolding computation
a_loop_may_take_nothing = (refl, refl)

a_loop_takes_all : (answer 1 0 letters "baa" 1 ≡ found 3 []) × (answer 1 0 letters "baa" 3 ≡ found 3 [])
unfolding computation
a_loop_takes_all = (refl, refl)

-- a on the empty text
a_letter_is_missed : answer 0 0 (letter "a") "" 0 ≡ nothing
unfolding computation
a_letter_is_missed = refl

-- a+? on aa, from 0 and from 1
abbrev lazily : Tree
lazily = loop (letter "a") 0 0 1 greatest false

a_lazy_loop_takes_few : (answer 1 0 lazily "aa" 0 ≡ found 1 []) × (answer 1 0 lazily "aa" 1 ≡ found 2 [])
unfolding computation
a_lazy_loop_takes_few = (refl, refl)

-- (?=(a+))a*b\1 on baaabac, from 1 and from 3
abbrev looking_ahead : Tree
looking_ahead = cat_of (submatch (lookaround false false) 0 1 (capture 0 None (loop (letter "a") 1 1 1 greatest true)) ∷ loop (letter "a") 1 1 0 greatest true ∷ letter "b" ∷ back 1 false ∷ [])

a_lookahead_is_not_tried_again : answer 2 1 looking_ahead "baaabac" 1 ≡ nothing
unfolding computation
a_lookahead_is_not_tried_again = refl

a_lookahead_keeps_its_groups : answer 2 1 looking_ahead "baaabac" 3 ≡ found 6 (Some (3, 4) ∷ [])
unfolding computation
a_lookahead_keeps_its_groups = refl

-- (?!(a))b on b
a_negated_lookahead_keeps_none : answer 0 1 (cat_of (submatch (lookaround true false) 0 1 (capture 0 None (letter "a")) ∷ letter "b" ∷ [])) "b" 0 ≡ found 1 (None ∷ [])
unfolding computation
a_negated_lookahead_keeps_none = refl

-- (?=a)*b on b
a_lookahead_may_be_left : answer 1 0 (cat_of (loop (submatch (lookaround false false) 0 0 (letter "a")) 0 0 0 greatest true ∷ letter "b" ∷ [])) "b" 0 ≡ found 1 []
unfolding computation
a_lookahead_may_be_left = refl

-- (?>a*)ab on aab, and (?>a*)b
abbrev all_of_them : Tree
all_of_them = submatch atomic 0 0 (loop (letter "a") 0 0 0 greatest true)

an_atomic_group_gives_nothing_back : (answer 1 0 (cat_of (all_of_them ∷ letter "a" ∷ letter "b" ∷ [])) "aab" 0 ≡ nothing) × (answer 1 0 (cat_of (all_of_them ∷ letter "b" ∷ [])) "aab" 0 ≡ found 3 [])
unfolding computation
an_atomic_group_gives_nothing_back = (refl, refl)

-- (?>(a)|(ab))(c) on abc and acc
abbrev first_alone : Tree
first_alone = cat_of (submatch atomic 0 2 (alt (capture 0 None (letter "a")) (capture 1 None (cat_of (letter "a" ∷ letter "b" ∷ [])))) ∷ capture 2 None (letter "c") ∷ [])

an_atomic_group_is_not_tried_again : (answer 0 3 first_alone "abc" 0 ≡ nothing) × (answer 0 3 first_alone "acc" 0 ≡ found 2 (Some (0, 1) ∷ None ∷ Some (1, 2) ∷ []))
unfolding computation
an_atomic_group_is_not_tried_again = (refl, refl)

-- (?:(?>(a+))b)*a on abaac
abbrev atoms : Tree
atoms = loop (cat_of (submatch atomic 0 1 (capture 0 None (loop (letter "a") 1 1 1 greatest true)) ∷ letter "b" ∷ [])) 0 1 0 greatest true

an_iteration_with_an_atomic_group_is_left : answer 2 1 (cat_of (atoms ∷ letter "a" ∷ [])) "abaac" 0 ≡ found 3 (Some (0, 1) ∷ [])
unfolding computation
an_iteration_with_an_atomic_group_is_left = refl

-- (?<=a(?>b*))c on abbc
abbrev atomic_behind : Tree
atomic_behind = cat_of (submatch (lookaround false true) 0 0 (cat_of (submatch atomic 0 0 (loop (letter "b") 0 0 0 greatest true) ∷ letter "a" ∷ [])) ∷ letter "c" ∷ [])

an_atomic_group_is_read_backward : answer 1 0 atomic_behind "abbc" 3 ≡ found 4 []
unfolding computation
an_atomic_group_is_read_backward = refl

-- (?<=(?<a>x)(?<b>y))z on xyz
abbrev named_behind : Tree
named_behind = cat_of (submatch (lookaround false true) 0 2 (cat_of (capture 1 (Some (codes "b")) (letter "y") ∷ capture 0 (Some (codes "a")) (letter "x") ∷ [])) ∷ letter "z" ∷ [])

groups_of_a_lookbehind_lie_in_order : answer 0 2 named_behind "xyz" 2 ≡ found 3 (Some (0, 1) ∷ Some (1, 2) ∷ [])
unfolding computation
groups_of_a_lookbehind_lie_in_order = refl

-- (?<=x)y on xyxy, from 1, 3 and 4
abbrev after_x : Tree
after_x = cat_of (submatch (lookaround false true) 0 0 (letter "x") ∷ letter "y" ∷ [])

a_lookbehind_sees_what_was_passed : (answer 0 0 after_x "xyxy" 1 ≡ found 2 []) × (answer 0 0 after_x "xyxy" 3 ≡ found 4 []) × (answer 0 0 after_x "xyxy" 4 ≡ nothing)
unfolding computation
a_lookbehind_sees_what_was_passed = (refl, refl, refl)

-- a lone surrogate any number of times, and a, on a
a_lone_surrogate_may_be_absent : answer 1 0 (cat_of (loop (char 0xD800) 0 0 0 greatest true ∷ letter "a" ∷ [])) "a" 0 ≡ found 1 []
unfolding computation
a_lone_surrogate_may_be_absent = refl

-- (a)\1 with case ignored on aA
case_is_ignored_again : answer 0 1 (cat_of (capture 0 None (char_set (codes "Aa")) ∷ back 1 true ∷ [])) "aA" 0 ≡ found 2 (Some (0, 1) ∷ [])
unfolding computation
case_is_ignored_again = refl

-- \1(a) on a
a_group_is_unset_before_it : answer 0 1 (cat_of (back 1 false ∷ capture 0 None (letter "a") ∷ [])) "a" 0 ≡ found 1 (Some (0, 1) ∷ [])
unfolding computation
a_group_is_unset_before_it = refl

-- (?<n>a)|(?<n>b) on b
one_of_two_groups_is_set : answer 0 2 (alt (capture 0 (Some (codes "n")) (letter "a")) (capture 1 (Some (codes "n")) (letter "b"))) "b" 0 ≡ found 1 (None ∷ Some (0, 1) ∷ [])
unfolding computation
one_of_two_groups_is_set = refl

-- (?i:a)b on ABAb, from 0 and from 2
case_is_ignored_in_part : (answer 0 0 (cat_of (char_set (codes "Aa") ∷ letter "b" ∷ [])) "ABAb" 0 ≡ nothing) × (answer 0 0 (cat_of (char_set (codes "Aa") ∷ letter "b" ∷ [])) "ABAb" 2 ≡ found 4 [])
unfolding computation
case_is_ignored_in_part = (refl, refl)

-- a as often as can be said, and up to so often, on aaa
counts_may_be_large : (answer 1 0 (loop (letter "a") 0 0 greatest greatest true) "aaa" 0 ≡ nothing) × (answer 1 0 (loop (letter "a") 0 0 0 greatest true) "aaa" 0 ≡ found 3 [])
unfolding computation
counts_may_be_large = (refl, refl)

-- digits, word characters, and what [\w-z] and [[a-z]&&[aeiou]] hold
abbrev digits : List (ℕ × ℕ)
digits = (0x30, 0x39) ∷ []

abbrev words : List (ℕ × ℕ)
words = (0x30, 0x39) ∷ (0x41, 0x5A) ∷ (0x5F, 0x5F) ∷ (0x61, 0x7A) ∷ []

abbrev vowels : List (ℕ × ℕ)
vowels = (0x61, 0x61) ∷ (0x65, 0x65) ∷ (0x69, 0x69) ∷ (0x6F, 0x6F) ∷ (0x75, 0x75) ∷ []

-- the brackets of the programs below
abbrev classes : Brackets
classes = (false, digits) ∷ (false, words) ∷ (false, vowels) ∷ (false, (0x2D, 0x2D) ∷ words) ∷ (true, vowels) ∷ []

abbrev answer_in : Bool → ℕ → ℕ → Tree → String → ℕ → Option (Option (ℕ × List (Option (ℕ × ℕ))))
answer_in units loops groups t text o = answer_of (made_with classes units loops groups t) text o

-- (\d{4})-(\d{2})-(\d{2}) on 2023-12-25
abbrev date : Tree
date =
    let digit : Tree = bracket false digits in
    cat_of (capture 0 None (loop digit 1 1 4 4 true) ∷ letter "-" ∷ capture 1 None (loop digit 2 2 2 2 true) ∷ letter "-" ∷ capture 2 None (loop digit 3 3 2 2 true) ∷ [])

a_date_is_taken_apart : (units : Bool) → answer_in units 3 3 date "2023-12-25" 0 ≡ found 10 (Some (0, 4) ∷ Some (5, 7) ∷ Some (8, 10) ∷ [])
unfolding computation
a_date_is_taken_apart true = refl
a_date_is_taken_apart false = refl

-- \b(\w)(\w+) on hello world, from 0, 1 and 6
abbrev words_apart : Tree
words_apart = cat_of (boundary false false ∷ capture 0 None (bracket false words) ∷ capture 1 None (loop (bracket false words) 2 2 1 greatest true) ∷ [])

words_are_taken_apart : (answer_in false 1 2 words_apart "hello world" 0 ≡ found 5 (Some (0, 1) ∷ Some (1, 5) ∷ []))
    × (answer_in false 1 2 words_apart "hello world" 1 ≡ nothing)
    × (answer_in false 1 2 words_apart "hello world" 6 ≡ found 11 (Some (6, 7) ∷ Some (7, 11) ∷ []))
unfolding computation
words_are_taken_apart = (refl, refl, refl)

-- [\w-z] on -
a_hyphen_is_a_member : answer_in false 0 0 (bracket false ((0x2D, 0x2D) ∷ words)) "-" 0 ≡ found 1 []
unfolding computation
a_hyphen_is_a_member = refl

-- [[a-z]&&[aeiou]] on xe, from 0 and from 1
vowels_are_found : (answer_in false 0 0 (bracket false vowels) "xe" 0 ≡ nothing) × (answer_in false 0 0 (bracket false vowels) "xe" 1 ≡ found 2 [])
unfolding computation
vowels_are_found = (refl, refl)

-- [^aeiou] on xe, from 0 and from 1
an_inverted_class_takes_the_rest : (answer_in true 0 0 (bracket true vowels) "xe" 0 ≡ found 1 []) × (answer_in true 0 0 (bracket true vowels) "xe" 1 ≡ nothing)
unfolding computation
an_inverted_class_takes_the_rest = (refl, refl)

-- where a run ends, in any input
abbrev ends : Bool → Tree → Input → ℕ → Option (Option ℕ)
ends units t input o =
    let program : Program = made_of units 0 0 t in
    option_map (λ (x : ℕ × Option Whole). option_map (λ (w : Whole). w.offset) x.1) (run program input 2000 Forward (first_state program o ∷ []))

-- . on one character past 16 bits, in bytes, in pairs of units and in single ones
a_character_is_taken_whole : (ends false any_in_line (utf8_input (table_of small_parts) false (0xF0 ∷ 0x9F ∷ 0x98 ∷ 0x80 ∷ [])) 0 ≡ Some (Some 4))
    × (ends true any_in_line (utf16_input (table_of small_parts) true (0xD83D ∷ 0xDE00 ∷ [])) 0 ≡ Some (Some 2))
unfolding computation
a_character_is_taken_whole = (refl, refl)

a_unit_is_taken_alone : (ends true any_in_line (ucs2_input (table_of small_parts) false (0xD83D ∷ 0xDE00 ∷ [])) 0 ≡ Some (Some 1))
    × (ends true any_in_line (ucs2_input (table_of small_parts) false (0xD83D ∷ 0xDE00 ∷ [])) 1 ≡ Some (Some 2))
unfolding computation
a_unit_is_taken_alone = (refl, refl)

-- half of a pair in the same units
half_a_pair_is_found_alone : (ends true (char 0xD83D) (ucs2_input (table_of small_parts) false (0xD83D ∷ 0xDE00 ∷ [])) 0 ≡ Some (Some 1))
    × (ends true (char 0xD83D) (utf16_input (table_of small_parts) true (0xD83D ∷ 0xDE00 ∷ [])) 0 ≡ Some None)
unfolding computation
half_a_pair_is_found_alone = (refl, refl)

-- nothing, at both ends of one character of two bytes
nothing_is_found_at_each_place : (ends false empty (utf8_input (table_of small_parts) false (0xC3 ∷ 0xA9 ∷ [])) 0 ≡ Some (Some 0))
    × (ends false empty (utf8_input (table_of small_parts) false (0xC3 ∷ 0xA9 ∷ [])) 2 ≡ Some (Some 2))
unfolding computation
nothing_is_found_at_each_place = (refl, refl)

-- literals and sets of strings, in programs of bytes and of units
abbrev literally : Bool → Tree → List ℕ → ℕ → Option (Option ℕ)
literally units t text o = ends units t (ascii_input (table_of small_parts) false text) o

-- (?:ab|a)b on ab
abbrev arms : Tree
arms = cat_of (string_set (codes "ab" ∷ codes "a" ∷ []) false ∷ bytes (codes "b") ∷ [])

an_arm_is_left : (units : Bool) → literally units arms (codes "ab") 0 ≡ Some (Some 2)
unfolding computation
an_arm_is_left true = refl
an_arm_is_left false = refl

-- behind ab, a lone surrogate and d; in bytes no text holds it
abbrev torn : Tree
torn = cat_of (submatch (lookaround false true) 0 0 (string_set ((0x61 ∷ 0x62 ∷ 0xD800 ∷ 0x64 ∷ []) ∷ []) false) ∷ bytes (codes "e") ∷ [])

pieces_are_turned : literally true torn (0x61 ∷ 0x62 ∷ 0xD800 ∷ 0x64 ∷ 0x65 ∷ []) 4 ≡ Some (Some 5)
unfolding computation
pieces_are_turned = refl

-- a literal of 17 characters in a lookbehind
abbrev long_behind : Tree
long_behind = submatch (lookaround false true) 0 0 (bytes (codes "abcdefghijklmnopq"))

chunks_are_turned : (units : Bool) → literally units long_behind (codes "abcdefghijklmnopqr") 17 ≡ Some (Some 17)
unfolding computation
chunks_are_turned true = refl
chunks_are_turned false = refl

-- a{2,} as a loop of a literal
a_literal_again : (units : Bool) → literally units (single_loop (bytes (codes "a")) 2 greatest true) (codes "aaab") 0 ≡ Some (Some 3)
unfolding computation
a_literal_again true = refl
a_literal_again false = refl

-- how many instructions they have
abbrev counted_of : Bool → Tree → ℕ
counted_of units t = count units (table_of small_parts) false t

counted_chunks : (counted_of false long_behind ≡ 4) × (counted_of true long_behind ≡ 19)
unfolding computation
counted_chunks = (refl, refl)

counted_arms : (counted_of false arms ≡ 5) × (counted_of true arms ≡ 6) × (counted_of false (string_set [] false) ≡ 1)
unfolding computation
counted_arms = (refl, refl, refl)

counted_pieces : counted_of false torn ≡ 6
unfolding computation
counted_pieces = refl

-- ---- trees that lie in their programs

abbrev program_point : ℕ → ProgramPoint
program_point k = record { address = k; loops = 0 }

-- (a|a\1)$ lies in its program
a_layout : IsLayout (record { program = program_of 0 1 inside_itself; table = table_of small_parts; unicode = false }) 1 (cat inside_itself (cat goal no_part))
unfolding computation
a_layout = record {
  lies = (
    program_point 8,
    (program_point 7, (program_point 6, refl, (program_point 3, refl, (refl, refl), refl, (program_point 5, (refl, refl), (program_point 6, (refl, refl), refl))), (refl, refl)), (program_point 8, (refl, refl), refl)),
    (program_point 9, (refl, refl), refl),
  );
  groups = refl;
}

-- an example of it: (?:ab|a)bcc{0,3}, in programs of units and of bytes
abbrev example : Tree
example =
    cat (string_set (codes "ab" ∷ codes "a" ∷ []) false) (cat (bytes (codes "bc")) (cat (single_loop (bytes (codes "c")) 0 3 true) (cat goal no_part)))

abbrev example_target : Bool → Target
example_target units = record {
  program = record { instructions = emitted (blank units) false example 0 0; brackets = []; loops = 0; groups = 0; units = units };
  table = table_of small_parts;
  unicode = false;
}

example_lies : (units : Bool) → IsLayout (example_target units) 0 example
unfolding computation
example_lies true = record {
  lies = (
    program_point 5,
    (program_point 3, ((refl, (refl, tt)), refl), refl, refl, ((refl, tt), refl)),
    (program_point 7, ((refl, (refl, tt)), refl), (program_point 9, (refl, ((refl, tt), refl)), (program_point 10, (refl, refl), refl))),
  );
  groups = refl;
}
example_lies false = record {
  lies = (
    program_point 4,
    (program_point 2, ((refl, tt), refl), refl, refl, ((refl, tt), refl)),
    (program_point 5, ((refl, tt), refl), (program_point 7, (refl, ((refl, tt), refl)), (program_point 8, (refl, refl), refl))),
  );
  groups = refl;
}

all_points : (cs : List ℕ) → list_all (λ c. nat_le c last_code_point) cs ≡ true → All is_code_point cs
all_points [] e = All-nil is_code_point
all_points (c ∷ cs) e =
    let parts = and_parts (nat_le c last_code_point) (list_all (λ d. nat_le d last_code_point) cs) e in
    All-cons is_code_point c cs (leb-true c last_code_point parts.0) (all_points cs parts.1)

example_formed : IsWellFormed 0 example
unfolding computation
example_formed = record {
  one_goal = refl;
  ended = refl;
  numbered = record { order = omega arith; once = λ k. by_test (nat_le 0 k) k };
  lawful = (
    All-cons (All is_code_point) (codes "ab") (codes "a" ∷ []) (all_points (codes "ab") refl)
        (All-cons (All is_code_point) (codes "a") [] (all_points (codes "a") refl) (All-nil (All is_code_point))),
    ((omega arith, (codes "bc", (refl, refl))), ((refl, omega arith, (omega arith, (codes "c", (refl, refl)))), (tt, tt))),
  );
}
  where
    by_test : (b : Bool) (k : ℕ) → let none : ℕ = 0 in none ≡ (if b && nat_lt k 0 then 1 else 0)
    by_test true k = grind (arith, nat_tests)
    by_test false k = refl
