-- How far a test on one character passes, again and again.
use Rattle.std.specs.Prelude.{◌≡◌, ℕ, zero, suc, ◌<◌, ◌≤◌, Bool, true, false, List, length, slice_index, Option, Some, None, option_and_then}
use Rattle.regress_meaning.specs.Meaning.{Direction, Forward}
use Rattle.regress_meaning.specs.Inputs.{Input}
use Rattle.regress_meaning.specs.Steps.{passed}
use Rattle.regress_meaning.specs.Text.{holds}
use Rattle.regress_front_sets.specs.Intervals.{ends_of}
use Rattle.regress_front_nodes.specs.TreeMeaning.{bracket_has}
use Rattle.regress_front_nodes.specs.declared.node.BracketContents.{BracketContents}
use Rattle.regress_engine_input.specs.Views.{View, input_of}

module _ (input : Input) (passes : ℕ → Bool) (dir : Direction) where
  -- the offset behind as many as there are, at most so many
  unfoldable pub scan_while : ℕ → ℕ → ℕ
  scan_while zero o = o
  scan_while (suc n) o = elim (passed passes (input.next dir o)) [ None ↦ o | Some q ↦ scan_while n q ]

  -- the offset behind so many, where there are so many
  unfoldable pub after : ℕ → ℕ → Option ℕ
  after zero o = Some o
  after (suc n) o = option_and_then (after n) (passed passes (input.next dir o))

-- So many characters are taken from an offset on, and then one more: at most so many, and no more of them where they are fewer.
pub record IsTaken (after : ℕ → ℕ → Option ℕ) (next : ℕ → Option ℕ) (more o before last past : ℕ) : Type 0 where
  pub behind : after before o ≡ Some last
  pub one : next last ≡ Some past
  pub within : before ≤ more
  pub stops : before < more → None ≡ next past

-- So many characters are taken from an offset on, and then one more: at most so many.
pub record IsBegun (after : ℕ → ℕ → Option ℕ) (next : ℕ → Option ℕ) (more o before last past : ℕ) : Type 0 where
  pub behind : after before o ≡ Some last
  pub one : Some past ≡ next last
  pub within : before ≤ more

-- From an offset up to another none of some bytes stands; there one of them does, or the bytes end.
pub record StopsAt (stops bytes : List ℕ) (o end : ℕ) : Type 0 where
  pub low : o ≤ end
  pub room : end ≤ length bytes
  pub none : (k : ℕ) → o ≤ k → k < end → holds stops (slice_index bytes k) ≡ false
  pub stop : end < length bytes → holds stops (slice_index bytes end) ≡ true

-- A character of ASCII stands ahead of an offset: its byte.
pub record IsAsciiAhead (v : View) (o : ℕ) : Type 0 where
  pub low : slice_index v.units o < 0x80
  pub next : (input_of v).next Forward o ≡ Some (slice_index v.units o, suc o)

-- From an offset on, up to another and before an end, all that stands is ASCII and passes a test.
pub record IsLowRun (passes : ℕ → Bool) (units : List ℕ) (o end far : ℕ) : Type 0 where
  pub low : o ≤ far
  pub high : far ≤ end
  pub small : (k : ℕ) → o ≤ k → k < far → slice_index units k < 0x80
  pub each : (k : ℕ) → o ≤ k → k < far → passes (slice_index units k) ≡ true

-- a class matches a character
abbrev pub class_has : BracketContents → ℕ → Bool
class_has class = bracket_has class.invert (ends_of class.cps.intervals.items)
