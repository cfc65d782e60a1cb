-- What holds of the code points and of the classes in a spelled tree.
use Rattle.std.specs.Prelude.{◌≤◌, All, IfSome}
use Rattle.regress_meaning.specs.TableParts.{is_code_point}
use Rattle.regress_meaning.specs.Class.{Class, range, property, sequences, strings, union, intersection, difference, complement, nested}
use Rattle.regress_meaning.specs.Pattern.{Pattern, character, class, class_escape, sequence, choice, capture, grouped, atomic, modified, repeated, look}

-- Each range has its first no later than its last, and ranges, strings and keys are of code points.
abbrev pub ClassIsOfPoints : Class → Type 0
ClassIsOfPoints (range first last) = (first ≤ last) × is_code_point last
ClassIsOfPoints (property key) = All is_code_point key
ClassIsOfPoints (sequences key) = All is_code_point key
ClassIsOfPoints (strings ss) = All (All is_code_point) ss
ClassIsOfPoints (union a b) = ClassIsOfPoints a × ClassIsOfPoints b
ClassIsOfPoints (intersection a b) = ClassIsOfPoints a × ClassIsOfPoints b
ClassIsOfPoints (difference a b) = ClassIsOfPoints a × ClassIsOfPoints b
ClassIsOfPoints (complement a) = ClassIsOfPoints a
ClassIsOfPoints (nested negated a) = ClassIsOfPoints a
ClassIsOfPoints _ = Unit {0}

-- Each character is a code point, each name is of code points, and so is each class, with its ranges in order.
abbrev pub IsOfPoints : Pattern → Type 0
IsOfPoints (character c) = is_code_point c
IsOfPoints (class negated s) = ClassIsOfPoints s
IsOfPoints (class_escape s) = ClassIsOfPoints s
IsOfPoints (sequence a b) = IsOfPoints a × IsOfPoints b
IsOfPoints (choice a b) = IsOfPoints a × IsOfPoints b
IsOfPoints (capture k name a) = IfSome name (All is_code_point) × IsOfPoints a
IsOfPoints (grouped a) = IsOfPoints a
IsOfPoints (atomic a) = IsOfPoints a
IsOfPoints (modified on off a) = IsOfPoints a
IsOfPoints (repeated a first last least most greedy) = IsOfPoints a
IsOfPoints (look negated backward a) = IsOfPoints a
IsOfPoints _ = Unit {0}

-- The class has neither `\q{..}` nor a property of strings in it.
abbrev pub ClassHoldsNoStrings : Class → Type 0
ClassHoldsNoStrings (sequences key) = ⊥
ClassHoldsNoStrings (strings ss) = ⊥
ClassHoldsNoStrings (union a b) = ClassHoldsNoStrings a × ClassHoldsNoStrings b
ClassHoldsNoStrings (intersection a b) = ClassHoldsNoStrings a × ClassHoldsNoStrings b
ClassHoldsNoStrings (difference a b) = ClassHoldsNoStrings a × ClassHoldsNoStrings b
ClassHoldsNoStrings (complement a) = ClassHoldsNoStrings a
ClassHoldsNoStrings (nested negated a) = ClassHoldsNoStrings a
ClassHoldsNoStrings _ = Unit {0}

-- No class has.
abbrev pub HoldsNoStrings : Pattern → Type 0
HoldsNoStrings (class negated s) = ClassHoldsNoStrings s
HoldsNoStrings (class_escape s) = ClassHoldsNoStrings s
HoldsNoStrings (sequence a b) = HoldsNoStrings a × HoldsNoStrings b
HoldsNoStrings (choice a b) = HoldsNoStrings a × HoldsNoStrings b
HoldsNoStrings (capture k name a) = HoldsNoStrings a
HoldsNoStrings (grouped a) = HoldsNoStrings a
HoldsNoStrings (atomic a) = HoldsNoStrings a
HoldsNoStrings (modified on off a) = HoldsNoStrings a
HoldsNoStrings (repeated a first last least most greedy) = HoldsNoStrings a
HoldsNoStrings (look negated backward a) = HoldsNoStrings a
HoldsNoStrings _ = Unit {0}
