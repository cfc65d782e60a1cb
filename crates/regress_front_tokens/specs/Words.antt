-- The words of a pattern, as the parser's values hold them.
use Rattle.std.specs.Prelude.{ℕ, Bool, false, not, ◌&&◌, ◌||◌, ◌==◌, List, [], ◌∷◌, ◌++◌, Option, Some, None, is_some, min, unwrap_or, option_map, option_and_then, filter, chars, if◌then◌else◌}
use Rattle.std.specs.String.{string_bytes}
use Rattle.std.specs.declared.alloc.Global.{Global}
use Rattle.std.specs.declared.string.String.{String}
use denote.Ref.{Bor}
use lib.Utf8.{scalar}
use Rattle.regress_meaning.specs.Text.{◌∈◌}
use Rattle.regress_meaning.specs.Tokens.{Reads, Bounds, decimal_at, braced_end, bounds_at, greatest}
use Rattle.regress_meaning.specs.Grammar.{greedy_at, after_mark}
use Rattle.regress_front_core.specs.declared.quantifier.Quantifier.{Quantifier}
use Rattle.regress_front_core.specs.Quantifiers.{most}

-- a decimal number, which stops at the greatest `usize`
abbrev pub count_at : Reads ℕ
count_at t = option_map (λ (n, r). (min n greatest, r)) (decimal_at t)

-- behind `{`: the bounds of a quantifier, up to `}`
abbrev pub braced_at : Reads Bounds
braced_at t = option_and_then (λ (n, r). braced_end n r) (decimal_at t)

-- a least and a greatest number, which may have no limit
abbrev pub bounds_view : ℕ × Option ℕ → Bounds
bounds_view (least, most) = record { least = least; most = unwrap_or most greatest }

-- a quantifier: its bounds, and whether it is greedy
abbrev pub quantifier_at : Reads (Bounds × Bool)
quantifier_at t = option_map (λ (b, r). ((b, greedy_at r), after_mark r)) (bounds_at t)

-- the bounds of a quantifier, and whether it is greedy
abbrev pub quantifier_view : Quantifier → Bounds × Bool
quantifier_view q = (record { least = q.min; most = most q }, q.greedy)

-- a key of a name and perhaps a value
abbrev pub key_of : Bor (List ℕ) × Option (Bor (List ℕ)) → List ℕ
key_of (name, None) = name.now
key_of (name, Some value) = name.now ++ (0x3D ∷ value.now)

-- a code point stands here that is a character by itself
abbrev pub stands_for_itself : (unicode : Bool) → List ℕ → Bool
stands_for_itself unicode [] = false
stands_for_itself unicode (c ∷ t) =
    if unicode then not (c ∈ "^$\\.*+?()[]{}|") else (not (c ∈ "^$\\.*+?()[|{") || (c == 0x7B && not (is_some (bounds_at (c ∷ t)))))

-- the code points of a text
abbrev pub code_points_of : String Global → List ℕ
code_points_of text = chars (string_bytes text)

-- the characters among code points
abbrev pub characters_of : List ℕ → List ℕ
characters_of = filter scalar
