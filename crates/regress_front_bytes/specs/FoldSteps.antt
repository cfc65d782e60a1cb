-- The code points that a fold range moves, and where they may land.
use Rattle.std.specs.Prelude.{◌≡◌, ℕ, ℤ, ◌+◌, ◌-◌, ◌%◌, ◌<◌, ◌≤◌, ◌+ℤ◌, ◌≤ℤ◌, pos}

-- c is one of `length` code points from `start` on, and a multiple of `modulo` behind the first
abbrev pub IsStep : (start length modulo c : ℕ) → Type 0
IsStep start length modulo c = (start ≤ c) × (c < start + length) × ((c - start) % modulo ≡ 0)

-- c moved by `delta` is a code point
abbrev pub LandsWithin : ℕ → ℤ → Type 0
LandsWithin c delta = (pos 0 ≤ℤ (pos c +ℤ delta)) × ((pos c +ℤ delta) ≤ℤ pos 0x10_FFFF)
