-- The parts of a replacement template.
use Rattle.std.specs.Prelude.{◌≡◌, ℕ, ◌==◌, Bool, List, ◌++◌, take, drop, flat_map, slice_range, codes, Option, Some, None, if◌then◌else◌}
use Rattle.regress_meaning.specs.Matches.{Item}
use Rattle.regress_replacing.specs.Replacing.{part_at}
use Rattle.regress_match.specs.NamedRanges.{named_taken}
use Rattle.regress_replacing.specs.Substitution.{is_some_named, substitution}
use Rattle.regress_replacing.specs.Digits.{digits_give}
use Rattle.regress_replacing.specs.declared.template.Part.{Part}
use Rattle.regress_replacing.specs.declared.template.Part.TheVariants.{Text, Before, Matched, Behind, Numbered, Named}

-- what a `$` gives before this character, where the two have a meaning by themselves
abbrev pub mark_gives : List ℕ → Item → ℕ → Option (List ℕ)
mark_gives text i c =
    if c == 0x24 then Some (codes "$")
    else if c == 0x60 then Some (take i.start text)
    else if c == 0x26 then Some (slice_range text i.start i.end)
    else if c == 0x27 then Some (drop i.end text)
    else None

-- what a part gives at an item of a text, where the groups have these names
abbrev pub part_gives : List (List ℕ) → List ℕ → Item → Part → List ℕ
part_gives names text i (Text given) = given.now
part_gives names text i Before = take i.start text
part_gives names text i Matched = slice_range text i.start i.end
part_gives names text i Behind = drop i.end text
part_gives names text i (Numbered digits) = digits_give names text i digits.text.now
part_gives names text i (Named name) = part_at text (named_taken names i.groups name.now)

-- A template gives what a part gives and then what is left of it, where some group has a name, or where none has.
abbrev pub BeginsWith : Bool → List ℕ → Part → List ℕ → Type 0
BeginsWith is_named template part left =
    (names : List (List ℕ)) (text : List ℕ) (i : Item) → is_some_named names ≡ is_named →
    substitution names template text i ≡ part_gives names text i part ++ substitution names left text i

-- The parts give what the template gives, where some group has a name, or where none has.
abbrev pub AreOfTemplate : Bool → List ℕ → List Part → Type 0
AreOfTemplate is_named template parts =
    (names : List (List ℕ)) (text : List ℕ) (i : Item) → is_some_named names ≡ is_named →
    flat_map (part_gives names text i) parts ≡ substitution names template text i
