-- The code points that the 16-bit units of a pattern stand for.
use Rattle.std.specs.Prelude.{ℕ, Bool, true, false, ◌&&◌, ◌||◌, ◌==◌, nat_eq, List, [], ◌∷◌, if◌then◌else◌}
use Rattle.std.specs.List.{starts_with}
use lib.Chars.{codes}
use Rattle.regress_meaning.specs.Text.{is_at}
use Rattle.regress_meaning.specs.Tokens.{is_high, is_low, joined}
use Rattle.regress_meaning.specs.Grammar.{opens_name, holds_a_name}
use Rattle.regress_meaning.specs.Offsets.{characters}
use Rattle.regress_pattern_units.specs.declared.units.Place.{Place}
use Rattle.regress_pattern_units.specs.declared.units.Place.TheVariants.{Outside, Escaped, InClass, EscapedInClass, InName}

-- a name begins: `(?<` that opens no lookbehind, and `\k<` where names are in force
abbrev pub begins_name : (named : Bool) → List ℕ → Bool
begins_name named t = opens_name t || (named && starts_with nat_eq t (codes "\\k<"))

-- Where a scan stands behind the first unit: `[` begins a class and `]` ends it, `>` ends a name, and outside of names a
-- backslash takes what the unit behind it means.
abbrev pub place_behind : (named : Bool) → Place → List ℕ → Place
place_behind named Outside t =
    if begins_name named t then InName else if is_at (λ u. u == 0x5B) t then InClass else if is_at (λ u. u == 0x5C) t then Escaped else Outside
place_behind named Escaped t = Outside
place_behind named InClass t = if is_at (λ u. u == 0x5D) t then Outside else if is_at (λ u. u == 0x5C) t then EscapedInClass else InClass
place_behind named EscapedInClass t = InClass
place_behind named InName t = if is_at (λ u. u == 0x3E) t then Outside else InName

-- it stands in a name
abbrev pub is_in_name : Place → Bool
is_in_name InName = true
is_in_name _ = false

-- the code point that a unit begins, and the units behind it: a pair is one, where pairs are joined
abbrev pub point_at : (pairs : Bool) → ℕ → List ℕ → ℕ × List ℕ
point_at pairs u [] = (u, [])
point_at pairs u (v ∷ us) = if pairs && is_high u && is_low v then (joined u v, us) else (u, v ∷ us)

-- The code points of units from a place of the scan on: in a name a pair is one, any other unit is one alone.
unfoldable pub scanned_points : (named : Bool) → Place → List ℕ → List ℕ
scanned_points named place [] = []
scanned_points named place (u ∷ []) = u ∷ []
scanned_points named place (u ∷ v ∷ us) =
    let next = place_behind named place (u ∷ v ∷ us) in
    if is_in_name next && is_high u && is_low v then joined u v ∷ scanned_points named next us
    else u ∷ scanned_points named next (v ∷ us)

-- The code points that the units of a pattern stand for: its characters in Unicode mode, and else what a scan tells, with names
-- in force where one is opened.
unfoldable pub pattern_points : (unicode : Bool) → List ℕ → List ℕ
pattern_points true units = characters units
pattern_points false units = scanned_points (holds_a_name false false units) Outside units
