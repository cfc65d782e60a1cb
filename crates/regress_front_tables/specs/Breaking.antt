-- Which law of a table's parts is told as broken, and for which code point.
use Rattle.std.specs.Prelude.{◌≡◌, ℕ, ◌+◌, ◌<◌, nat_lt, List, [], ◌∷◌, ◌++◌, Option, Some, None, is_some, map, filter, min, if◌then◌else◌}
use Rattle.std.specs.List.{Contains, flat_map, reduce}
use Rattle.std.specs.Option.{option_or}
use Rattle.regress_meaning.specs.Table.{last_code_point}
use Rattle.regress_meaning.specs.TableParts.{TableParts, BothMaps, HasAsciiCase, IsIdempotentAt, HasSmallClass, AvoidsSurrogates, KeepsIdentifierAt, KeepsRange, KeepsOrder, KeepsCanonical}
use Rattle.regress_front_tables.specs.declared.tables.law.TableError.{TableError}
use Rattle.regress_front_tables.specs.declared.tables.law.TableError.TheVariants.{Broken, OutOfMemory}
use Rattle.regress_front_tables.specs.declared.tables.law.TableLaw.{TableLaw}
use Rattle.regress_front_tables.specs.declared.tables.law.TableLaw.TheVariants.{Range, Order, AsciiCase, Idempotent, ClassSize, Surrogate, Canonical, Identifier}

-- c is the least number that is so
pub record IsLeast (fact : ℕ → Type 0) (c : ℕ) : Type 0 where
  pub holds : fact c
  pub least : (d : ℕ) → d < c → fact d → ⊥

-- the numbers of the pairs
abbrev pub numbers_of : List (ℕ × ℕ) → List ℕ
numbers_of pairs = map (λ p. p.0) pairs ++ map (λ p. p.1) pairs

-- the numbers of the strings
abbrev pub numbers_in : List (List ℕ × List (List ℕ)) → List ℕ
numbers_in sequences = flat_map (λ e. flat_map (λ s. s) e.1) sequences

-- the numbers of pairs and strings
abbrev pub numbers : TableParts → List ℕ
numbers parts = numbers_of parts.fold ++ numbers_of parts.upper ++ numbers_in parts.sequences

-- the least of the numbers past the last code point
abbrev pub least_past : List ℕ → Option ℕ
least_past cs = reduce min (filter (nat_lt last_code_point) cs)

-- the first key that doesn't rise above the key before it
abbrev pub first_out_of_order : List (ℕ × ℕ) → Option ℕ
first_out_of_order [] = None
first_out_of_order (p ∷ []) = None
first_out_of_order (p ∷ q ∷ pairs) = if nat_lt p.0 q.0 then first_out_of_order (q ∷ pairs) else Some q.0

-- the start of the first interval that doesn't lie above the one before it, with a code point between
abbrev pub first_out_of_place : List (ℕ × ℕ) → Option ℕ
first_out_of_place [] = None
first_out_of_place (i ∷ []) = None
first_out_of_place (i ∷ j ∷ intervals) = if nat_lt (i.1 + 1) j.0 then first_out_of_place (j ∷ intervals) else Some j.0

-- the first that is there
abbrev pub first_some : List (Option ℕ) → Option ℕ
first_some [] = None
first_some (o ∷ os) = option_or o (first_some os)

-- the first pair of a map that is out of order
abbrev pub out_of_order : TableParts → Option ℕ
out_of_order parts = first_some (map first_out_of_order (parts.fold ∷ parts.upper ∷ []))

-- the first interval of a list that is out of place
abbrev pub out_of_place : TableParts → Option ℕ
out_of_place parts = first_some (map first_out_of_place (parts.id_start ∷ parts.id_continue ∷ map (λ e. e.1) parts.properties))

-- the key of the first property with an interval that is out of place
abbrev pub key_out_of_place : List (List ℕ × List (ℕ × ℕ)) → Option (List ℕ)
key_out_of_place [] = None
key_out_of_place (e ∷ properties) = if is_some (first_out_of_place e.1) then Some e.0 else key_out_of_place properties

-- the parts keep the law
abbrev pub Keeps : TableLaw → TableParts → Type 0
Keeps Range parts = KeepsRange parts
Keeps Order parts = KeepsOrder parts
Keeps AsciiCase parts = (c : ℕ) → c < 0x80 → HasAsciiCase parts c
Keeps Idempotent parts = BothMaps parts (λ pairs. (c : ℕ) → IsIdempotentAt c pairs)
Keeps ClassSize parts = BothMaps parts (λ pairs. (d : ℕ) → HasSmallClass d pairs)
Keeps Surrogate parts = BothMaps parts (λ pairs. (c : ℕ) → AvoidsSurrogates c pairs)
Keeps Canonical parts = KeepsCanonical parts
Keeps Identifier parts = (c : ℕ) → KeepsIdentifierAt parts c

-- c breaks one of the laws that are about single code points
abbrev pub Breaks : TableLaw → TableParts → ℕ → Type 0
Breaks Range parts c = (last_code_point < c) × Contains (numbers parts) c
Breaks AsciiCase parts c = (c < 0x80) × (HasAsciiCase parts c → ⊥)
Breaks Idempotent parts c = BothMaps parts (IsIdempotentAt c) → ⊥
Breaks ClassSize parts d = BothMaps parts (HasSmallClass d) → ⊥
Breaks Surrogate parts c = BothMaps parts (AvoidsSurrogates c) → ⊥
Breaks Identifier parts c = KeepsIdentifierAt parts c → ⊥
Breaks _ parts c = ⊥

-- The code point that is told for a law: of entries out of order the first, and else the least that breaks it.
abbrev pub Tells : TableLaw → TableParts → ℕ → Type 0
Tells Order parts c = out_of_order parts ≡ Some c
Tells Canonical parts c = out_of_place parts ≡ Some c
Tells law parts c = IsLeast (Breaks law parts) c

-- the laws in the order in which they are tested
abbrev pub rank : TableLaw → ℕ
rank Range = 0
rank Order = 1
rank AsciiCase = 2
rank Idempotent = 3
rank ClassSize = 4
rank Surrogate = 5
rank Canonical = 6
rank Identifier = 7

-- the parts keep the first n laws
abbrev pub KeepsFirst : ℕ → TableParts → Type 0
KeepsFirst n parts = (law : TableLaw) → rank law < n → Keeps law parts

-- The law is the first that is broken, and c the code point that is told for it.
pub record IsFirstBroken (law : TableLaw) (parts : TableParts) (c : ℕ) : Type 0 where
  pub told : Tells law parts c
  pub first : (earlier : TableLaw) → rank earlier < rank law → (d : ℕ) → Tells earlier parts d → ⊥

-- An error tells the first law that is broken. Where memory is refused nothing is told.
abbrev pub TellsBroken : TableError → TableParts → Type 0
TellsBroken (Broken law c) parts = IsFirstBroken law parts c
TellsBroken OutOfMemory parts = Unit {0}
