-- The words of a pattern: numbers, quantifiers, names and escapes. Each is read at the front of a text, and gives
-- its value and what follows it; `None` where no such word stands there.
use Rattle.std.specs.Prelude.{ℕ, zero, suc, ◌+◌, ◌-◌, ◌*◌, ◌%◌, ◌^◌, Bool, not, ◌&&◌, ◌||◌, ◌==◌, nat_eq, nat_lt, nat_le, List, [], ◌∷◌, ◌++◌, length, drop, Option, Some, None, is_some, min, fold, if◌then◌else◌, option_and_then, option_map}
use Rattle.std.specs.List.{starts_with}
use Rattle.std.specs.Option.{option_or}
use lib.Chars.{codes}
use Rattle.regress_meaning.specs.Text.{between, ◌∈◌, same_text, is_at, span, span_up_to}
use Rattle.regress_meaning.specs.Table.{Table, last_code_point}
use Rattle.regress_meaning.specs.Class.{Class, digits, spaces, words, property, sequences, complement, is_digit, is_letter, is_ascii_word}

-- What holds for the whole pattern: how its escapes and classes are read ("Patterns", its grammar
-- parameters, and "Static Semantics: Early Errors" for what rests on the whole).
pub record Mode : Type 0 where
  pub table : Table
  -- Unicode mode: `u` or `v`
  pub unicode : Bool
  -- `v`
  pub sets : Bool
  -- Unicode mode, or some group has a name
  pub named : Bool
  -- the name of each capturing group, empty where it has none
  pub names : List (List ℕ)

-- what reads at the front of a text
abbrev pub Reads : Type 0 → Type 0
Reads A = List ℕ → Option (A × List ℕ)

-- where the test passes
abbrev pub guard : {A : Type 0} → Bool → Option A → Option A
guard b o = if b then o else None

-- an octal digit
abbrev pub is_octal : ℕ → Bool
is_octal c = between 0x30 0x37 c

-- a hex digit
abbrev pub is_hex : ℕ → Bool
is_hex c = is_digit c || between 0x41 0x46 c || between 0x61 0x66 c

-- the value of a digit
abbrev pub digit_value : ℕ → ℕ
digit_value c = if is_digit c then c - 0x30 else if nat_lt c 0x60 then c - 0x37 else c - 0x57

-- the number that digits write
abbrev pub number_of : ℕ → List ℕ → ℕ
number_of radix cs = fold (λ n c. n * radix + digit_value c) 0 cs

-- decimal digits, at least one ("DecimalDigits")
unfoldable pub decimal_at : Reads ℕ
decimal_at t = let (ds, rest) = span is_digit t in guard (nat_lt 0 (length ds)) (Some (number_of 10 ds, rest))

-- counts stop at the greatest `usize`
abbrev pub greatest : ℕ
greatest = 2 ^ 64 - 1

-- how often a quantifier repeats: at least, at most
pub record Bounds : Type 0 where
  pub least : ℕ
  pub most : ℕ

-- the bounds that two counts write
abbrev pub bounds : ℕ → ℕ → Bounds
bounds n m = record { least = min n greatest; most = min m greatest }

-- behind the first count of a braced quantifier: `}`, `,}` or a comma, a second count and `}`
abbrev pub braced_end : ℕ → Reads Bounds
braced_end n [] = None
braced_end n (c ∷ t) =
    if c == 0x7D then Some (bounds n n, t)
    else if not (c == 0x2C) then None
    else if is_at (λ d. d == 0x7D) t then Some (bounds n greatest, drop 1 t)
    else option_and_then (λ (m, r). guard (is_at (λ d. d == 0x7D) r) (Some (bounds n m, drop 1 r))) (decimal_at t)

-- a quantifier without the mark that makes it lazy ("QuantifierPrefix")
unfoldable pub bounds_at : Reads Bounds
bounds_at [] = None
bounds_at (c ∷ t) =
    if c == 0x2A then Some (bounds 0 greatest, t)
    else if c == 0x2B then Some (bounds 1 greatest, t)
    else if c == 0x3F then Some (bounds 0 1, t)
    else if c == 0x7B then option_and_then (λ (n, r). braced_end n r) (decimal_at t)
    else None

-- exactly n hex digits ("HexEscapeSequence", "Hex4Digits")
unfoldable pub hex_at : ℕ → Reads ℕ
hex_at n t = let (ds, rest) = span_up_to n is_hex t in guard (length ds == n) (Some (number_of 16 ds, rest))

-- the first half of a surrogate pair
abbrev pub is_high : ℕ → Bool
is_high = between 0xD800 0xDBFF

-- the second half
abbrev pub is_low : ℕ → Bool
is_low = between 0xDC00 0xDFFF

-- the code point of a pair ("UTF16SurrogatePairToCodePoint")
abbrev pub joined : ℕ → ℕ → ℕ
joined high low = 0x1_0000 + (high - 0xD800) * 0x400 + (low - 0xDC00)

-- behind a high half's digits: `\uHHHH` with a low half, joined with it
unfoldable pub low_half : ℕ → Reads ℕ
low_half high t =
    guard (starts_with nat_eq t (codes "\\u"))
    (option_and_then (λ (low, r). guard (is_low low) (Some (joined high low, r))) (hex_at 4 (drop 2 t)))

-- behind `\u`: four digits, and where they and those of a second `\u` are a pair, both
unfoldable pub pair_at : Reads ℕ
pair_at t = option_and_then (λ (c, r). option_or (guard (is_high c) (low_half c r)) (Some (c, r))) (hex_at 4 t)

-- behind `\u`: `{`, at least one digit, `}`
unfoldable pub braces_at : Reads ℕ
braces_at [] = None
braces_at (c ∷ t) =
    let (ds, rest) = span is_hex t in
    guard (c == 0x7B && nat_lt 0 (length ds) && is_at (λ d. d == 0x7D) rest && nat_le (number_of 16 ds) last_code_point) (Some (number_of 16 ds, drop 1 rest))

-- behind `\u`, in Unicode mode and in a group's name ("RegExpUnicodeEscapeSequence")
unfoldable pub unicode_escape : Reads ℕ
unicode_escape t = option_or (braces_at t) (pair_at t)

-- As many octal digits as stand there, up to three where the first is 0 to 3, and else up to two ("LegacyOctalEscapeSequence").
unfoldable pub octal_at : Reads ℕ
octal_at t = let (ds, rest) = span_up_to (if is_at (between 0x30 0x33) t then 3 else 2) is_octal t in guard (nat_lt 0 (length ds)) (Some (number_of 8 ds, rest))

-- one code point of a group's name, as it stands or as `\u..`
unfoldable pub name_point : Reads ℕ
name_point [] = None
name_point (c ∷ t) = if c == 0x5C then guard (is_at (λ d. d == 0x75) t) (unicode_escape (drop 1 t)) else Some (c, t)

-- a group's name may begin with it ("RegExpIdentifierStart")
abbrev pub begins_name : Table → ℕ → Bool
begins_name table c = c ∈ "$_" || table.is_id_start c

-- a group's name may go on with it ("RegExpIdentifierPart")
abbrev pub continues_name : Table → ℕ → Bool
continues_name table c = begins_name table c || table.is_id_continue c || c == 0x200C || c == 0x200D

-- the rest of a group's name, up to `>`; the number bounds how many code points it has
unfoldable pub name_rest : Table → ℕ → Reads (List ℕ)
name_rest table zero t = None
name_rest table (suc n) t =
    if is_at (λ d. d == 0x3E) t then Some ([], drop 1 t)
    else option_and_then (λ (c, r). guard (continues_name table c) (option_map (λ (cs, s). (c ∷ cs, s)) (name_rest table n r))) (name_point t)

-- behind `<`: a group's name and `>` ("GroupName")
unfoldable pub name_at : Table → Reads (List ℕ)
name_at table t = option_and_then (λ (c, r). guard (begins_name table c) (option_map (λ (cs, s). (c ∷ cs, s)) (name_rest table (length r) r))) (name_point t)

-- behind `\p`: `{`, a name, perhaps `=` and a value, `}`; the key is what stands between the braces
-- ("UnicodePropertyValueExpression")
unfoldable pub key_at : Reads (List ℕ)
key_at [] = None
key_at (c ∷ t) =
    let (name, r) = span is_ascii_word t in
    let (value, s) = span is_ascii_word (drop 1 r) in
    guard (c == 0x7B && nat_lt 0 (length name))
    (if is_at (λ d. d == 0x7D) r then Some (name, drop 1 r)
    else guard (is_at (λ d. d == 0x3D) r && nat_lt 0 (length value) && is_at (λ d. d == 0x7D) s) (Some (name ++ (0x3D ∷ value), drop 1 s)))

-- the numbers of the groups of a name, where the first has the number k ("GroupSpecifiersThatMatch")
abbrev pub numbers_from : ℕ → List ℕ → List (List ℕ) → List ℕ
numbers_from k name [] = []
numbers_from k name (other ∷ names) = if same_text name other then k ∷ numbers_from (k + 1) name names else numbers_from (k + 1) name names

-- What an escape stands for.
pub data Escape : Type 0 where
  -- a code point
  point : ℕ → Escape
  -- a class
  set : Class → Escape
  -- groups, by their numbers
  groups : List ℕ → Escape

-- what `\f`, `\n`, `\r`, `\t` and `\v` stand for ("ControlEscape")
abbrev pub control : ℕ → Option ℕ
control c = if c == 0x66 then Some 0xC else if c == 0x6E then Some 0xA else if c == 0x72 then Some 0xD else if c == 0x74 then Some 9 else if c == 0x76 then Some 0xB else None

-- what `\d` and its like stand for ("CharacterClassEscape")
abbrev pub class_letter : ℕ → Option Class
class_letter c = if c == 0x64 then Some digits else if c == 0x44 then Some (complement digits) else if c == 0x73 then Some spaces else if c == 0x53 then Some (complement spaces) else if c == 0x77 then Some words else if c == 0x57 then Some (complement words) else None

-- what was read is a code point
abbrev pub as_point : Option (ℕ × List ℕ) → Option (Escape × List ℕ)
as_point o = option_map (λ (c, r). (point c, r)) o

-- the letter behind `c`, modulo 32
abbrev pub control_letter : (ℕ → Bool) → Reads Escape
control_letter test [] = None
control_letter test (c ∷ t) = guard (test c) (Some (point (c % 32), t))

module _ (m : Mode) where
  -- what a key names: a property of code points, and with `v` after that one of strings
  abbrev pub property_of : List ℕ → Option Class
  property_of key =
      if is_some (m.table.property key) then Some (property key)
      else guard (m.sets && is_some (m.table.sequences key)) (Some (sequences key))

  -- behind `p` or `P`, in Unicode mode
  unfoldable pub property_at : ℕ → Reads Class
  property_at c t = option_and_then (λ (key, r).
      if c == 0x70 then option_map (λ s. (s, r)) (property_of key)
      else guard (is_some (m.table.property key)) (Some (complement (property key), r))) (key_at t)

  -- behind `\k`: a name that some group has
  unfoldable pub named_reference : Reads Escape
  named_reference t = option_and_then (λ (name, r).
      let ks = numbers_from 0 name m.names in guard (nat_lt 0 (length ks)) (Some (groups ks, r)))
      (guard (is_at (λ d. d == 0x3C) t) (name_at m.table (drop 1 t)))

  -- a decimal escape that is no group: in Unicode mode an error
  unfoldable pub octal_or_digit : ℕ → List ℕ → Option (Escape × List ℕ)
  octal_or_digit c t =
      guard (not m.unicode) (if is_octal c then as_point (octal_at (c ∷ t)) else Some (point c, t))

  -- A number: the group, where there are so many ("DecimalEscape").
  unfoldable pub decimal_escape : ℕ → List ℕ → Option (Escape × List ℕ)
  decimal_escape c t = option_and_then (λ (k, r).
      if nat_le k (length m.names) then Some (groups ((k - 1) ∷ []), r) else octal_or_digit c t) (decimal_at (c ∷ t))

  -- an escape of no other kind is the character itself, in Unicode mode only a syntax character ("IdentityEscape")
  abbrev pub identity : ℕ → List ℕ → Option (Escape × List ℕ)
  identity c t = guard (not m.unicode || c ∈ "^$\\.*+?()[]{}|/") (Some (point c, t))

  -- Behind the backslash, outside a class, but for `\b` and `\B` ("AtomEscape").
  unfoldable pub escape_at : Reads Escape
  escape_at [] = None
  escape_at (c ∷ t) =
      if is_some (class_letter c) then option_map (λ s. (set s, t)) (class_letter c)
      else if is_some (control c) then option_map (λ d. (point d, t)) (control c)
      else if c == 0x63 then option_or (control_letter is_letter t) (guard (not m.unicode) (Some (point 0x5C, c ∷ t)))
      else if c == 0x30 then (if is_at is_digit t then octal_or_digit c t else Some (point 0, t))
      else if is_digit c then decimal_escape c t
      else if c == 0x78 then option_or (as_point (hex_at 2 t)) (identity c t)
      else if c == 0x75 then option_or (as_point (if m.unicode then unicode_escape t else hex_at 4 t)) (identity c t)
      else if c == 0x6B then (if m.named then named_reference t else Some (point c, t))
      else if (c == 0x70 || c == 0x50) && m.unicode then option_map (λ (s, r). (set s, r)) (property_at c t)
      else identity c t

  -- Behind the backslash, in a class without `v` ("ClassEscape").
  unfoldable pub class_escape_at : Reads Escape
  class_escape_at [] = None
  class_escape_at (c ∷ t) =
      if c == 0x62 then Some (point 8, t)
      else if c == 0x2D then Some (point 0x2D, t)
      else if c == 0x63 && not m.unicode && is_at is_ascii_word t then control_letter is_ascii_word t
      else if is_digit c && not (c == 0x30) then octal_or_digit c t
      else if c == 0x6B then guard (not m.named) (Some (point c, t))
      else escape_at (c ∷ t)
