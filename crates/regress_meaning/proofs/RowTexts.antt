-- The texts of the trees in Rows.antt whose matches are told there: the reading function reads each as that very tree.
use Rattle.std.proofs.Common.{◌≡◌, [], ◌∷◌, Some, refl}
use Rattle.regress_meaning.proofs.Rows.{two_choices, groups_in_a_repetition, any_number, single_letter, nested_repetition, counted_repetitions, lazy_repetition, as_often_as_counts_go, at_most_as_often_as_counts_go, empty_group, reference_in_its_group, reference_ahead_of_its_group, number_without_a_group, one_name_in_two_alternatives, digits_behind, letters_ahead, names_behind, letter_behind, not_ahead, repeated_lookahead, digit_ahead, first_letter_of_a_word, shorter_first, longer_first, all_letters, captured_letters, repeated_atomic_group, atomic_group_behind, repeated_half, dot, high_half, theta, letter_twice, case_ignored_inside, case_kept_inside, dash_beside_a_set, backslash_and_c, keycaps, a_without_b, vowels}
use Rattle.regress_meaning.proofs.ReadingRows.{reading, read, Reads, PlainReads}

reads_two_choices : PlainReads "(a|ab)(c|bcd)(d*)" two_choices
unfolding reading
reads_two_choices = refl

reads_groups_in_a_repetition : PlainReads "(z)((a+)?(b+)?(c))*" groups_in_a_repetition
unfolding reading
reads_groups_in_a_repetition = refl

reads_any_number : PlainReads "a*" any_number
unfolding reading
reads_any_number = refl

reads_single_letter : PlainReads "a" single_letter
unfolding reading
reads_single_letter = refl

reads_nested_repetition : PlainReads "(a*)*" nested_repetition
unfolding reading
reads_nested_repetition = refl

reads_counted_repetitions : PlainReads "^(?:(?:a|ab){2}){1,2}$" counted_repetitions
unfolding reading
reads_counted_repetitions = refl

reads_lazy_repetition : PlainReads "a+?" lazy_repetition
unfolding reading
reads_lazy_repetition = refl

reads_as_often_as_counts_go : PlainReads "a{99999999999999999999}" as_often_as_counts_go
unfolding reading
reads_as_often_as_counts_go = refl

reads_at_most_as_often_as_counts_go : PlainReads "a{0,99999999999999999999}" at_most_as_often_as_counts_go
unfolding reading
reads_at_most_as_often_as_counts_go = refl

reads_empty_group : PlainReads "(?:)" empty_group
unfolding reading
reads_empty_group = refl

reads_reference_in_its_group : PlainReads "(a|a\\1)$" reference_in_its_group
unfolding reading
reads_reference_in_its_group = refl

reads_reference_ahead_of_its_group : PlainReads "\\1(a)" reference_ahead_of_its_group
unfolding reading
reads_reference_ahead_of_its_group = refl

reads_number_without_a_group : PlainReads "(a)\\2" number_without_a_group
unfolding reading
reads_number_without_a_group = refl

reads_one_name_in_two_alternatives : PlainReads "(?<n>a)|(?<n>b)" one_name_in_two_alternatives
unfolding reading
reads_one_name_in_two_alternatives = refl

reads_digits_behind : PlainReads "(?<=(\\d+)(\\d+))$" digits_behind
unfolding reading
reads_digits_behind = refl

reads_letters_ahead : PlainReads "(?=(a+))a*b\\1" letters_ahead
unfolding reading
reads_letters_ahead = refl

reads_names_behind : PlainReads "(?<=(?<a>x)(?<b>y))z" names_behind
unfolding reading
reads_names_behind = refl

reads_letter_behind : PlainReads "(?<=x)y" letter_behind
unfolding reading
reads_letter_behind = refl

reads_not_ahead : PlainReads "(?!(a))b" not_ahead
unfolding reading
reads_not_ahead = refl

reads_repeated_lookahead : PlainReads "(?=a)*b" repeated_lookahead
unfolding reading
reads_repeated_lookahead = refl

reads_digit_ahead : PlainReads "(?=\\d)" digit_ahead
unfolding reading
reads_digit_ahead = refl

reads_first_letter_of_a_word : PlainReads "\\b(\\w)(\\w+)" first_letter_of_a_word
unfolding reading
reads_first_letter_of_a_word = refl

reads_shorter_first : PlainReads "(?>a|ab)c" shorter_first
unfolding reading
reads_shorter_first = refl

reads_longer_first : PlainReads "(?>ab|a)c" longer_first
unfolding reading
reads_longer_first = refl

reads_all_letters : PlainReads "(?>a*)a" all_letters
unfolding reading
reads_all_letters = refl

reads_captured_letters : PlainReads "((?>a+))b" captured_letters
unfolding reading
reads_captured_letters = refl

reads_repeated_atomic_group : PlainReads "(?>(a)|b)*" repeated_atomic_group
unfolding reading
reads_repeated_atomic_group = refl

reads_atomic_group_behind : PlainReads "(?<=^(?>b|ab))c" atomic_group_behind
unfolding reading
reads_atomic_group_behind = refl

reads_repeated_half : PlainReads "\\uD800*a" repeated_half
unfolding reading
reads_repeated_half = refl

reads_dot : PlainReads "." dot
unfolding reading
reads_dot = refl

reads_high_half : PlainReads "\\uD83D" high_half
unfolding reading
reads_high_half = refl

-- U+03B8
reads_theta : read "iu" (0x3B8 ∷ []) ≡ Some theta
unfolding reading
reads_theta = refl

reads_letter_twice : Reads "i" "(a)\\1" letter_twice
unfolding reading
reads_letter_twice = refl

reads_case_ignored_inside : PlainReads "(?i:a)b" case_ignored_inside
unfolding reading
reads_case_ignored_inside = refl

reads_case_kept_inside : Reads "i" "(?-i:a)b" case_kept_inside
unfolding reading
reads_case_kept_inside = refl

reads_dash_beside_a_set : PlainReads "[\\w-z]" dash_beside_a_set
unfolding reading
reads_dash_beside_a_set = refl

reads_backslash_and_c : PlainReads "\\c" backslash_and_c
unfolding reading
reads_backslash_and_c = refl

reads_keycaps : Reads "v" "\\p{Emoji_Keycap_Sequence}" keycaps
unfolding reading
reads_keycaps = refl

reads_a_without_b : Reads "v" "[a--b]" a_without_b
unfolding reading
reads_a_without_b = refl

reads_vowels : Reads "v" "[[a-z]&&[aeiou]]" vowels
unfolding reading
reads_vowels = refl
