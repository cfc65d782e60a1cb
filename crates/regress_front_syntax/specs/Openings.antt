-- What an opening parenthesis begins.
use Rattle.std.specs.Prelude.{◌≡◌, ℕ, suc, Bool, true, false, not, ◌==◌, List, [], drop, if◌then◌else◌, Option, None, Some, option_map, Result, Ok, Err}
use Rattle.regress_meaning.specs.Pattern.{Pattern, capture, grouped, atomic, modified, look}
use Rattle.regress_meaning.specs.Flags.{settings_of}
use Rattle.regress_meaning.specs.Text.{is_at, span}
use Rattle.regress_meaning.specs.Grammar.{is_flag}
use Rattle.regress_meaning.specs.Reading.{Front, quantified}
use Rattle.regress_meaning.specs.Reading as meaning
use Rattle.regress_front_core.specs.declared.error.Error.{Error}
use Rattle.regress_front_core.specs.declared.error.Error.TheVariants.{Syntax, OutOfMemory}
use Rattle.regress_front_syntax.specs.declared.group.Opening.{Opening}
use Rattle.regress_front_syntax.specs.declared.group.Opening.TheVariants.{Capture, Group, Atomic, Modified, Lookahead, Lookbehind}
use Rattle.regress_front_tokens.specs.Words.{code_points_of}

-- what an opening stands for, with the text of its contents
abbrev pub opening_view : Opening → List ℕ → meaning.Opening
opening_view (Capture None) t = meaning.group t
opening_view (Capture (Some name)) t = meaning.named_group (code_points_of name) t
opening_view Group t = meaning.uncaptured t
opening_view Atomic t = meaning.atomic_group t
opening_view (Modified on off) t = meaning.modifiers on.now off.now t
opening_view (Lookahead negated) t = meaning.lookahead negated t
opening_view (Lookbehind negated) t = meaning.lookbehind negated t

-- the tree of contents behind an opening; k groups were opened before it
abbrev pub enclosed : Opening → ℕ → Pattern → Pattern
enclosed (Capture name) k p = capture k (option_map code_points_of name) p
enclosed Group k p = grouped p
enclosed Atomic k p = atomic p
enclosed (Modified on off) k p = modified (settings_of on.now) (settings_of off.now) p
enclosed (Lookahead negated) k p = look negated false p
enclosed (Lookbehind negated) k p = look negated true p

-- it opens a capturing group
abbrev pub is_capture : Opening → Bool
is_capture (Capture name) = true
is_capture Group = false
is_capture Atomic = false
is_capture (Modified on off) = false
is_capture (Lookahead negated) = false
is_capture (Lookbehind negated) = false

-- it opens a lookbehind
abbrev pub is_lookbehind : Opening → Bool
is_lookbehind (Lookbehind negated) = true
is_lookbehind (Capture name) = false
is_lookbehind Group = false
is_lookbehind Atomic = false
is_lookbehind (Modified on off) = false
is_lookbehind (Lookahead negated) = false

-- a quantifier may follow: behind a lookahead only without Unicode mode
abbrev pub may_repeat : Bool → Opening → Bool
may_repeat unicode (Lookahead negated) = not unicode
may_repeat unicode (Capture name) = true
may_repeat unicode Group = true
may_repeat unicode Atomic = true
may_repeat unicode (Modified on off) = true
may_repeat unicode (Lookbehind negated) = true

-- what is done with the tree: behind a lookbehind no quantifier is read
abbrev pub finish : Bool → Bool → ℕ → Front → Option Front
finish true allowed k f = Some f
finish false allowed k f = quantified allowed k f

-- how many groups are opened with it, where k were opened before
abbrev pub opened_by : Opening → ℕ → ℕ
opened_by (Capture name) k = suc k
opened_by Group k = k
opened_by Atomic k = k
opened_by (Modified on off) k = k
opened_by (Lookahead negated) k = k
opened_by (Lookbehind negated) k = k

-- The opening was read; or none that could be stands there.
abbrev pub IsOpening : meaning.Opening → Result Opening Error → List ℕ → Type 0
IsOpening read (Ok o) rest = read ≡ opening_view o rest
IsOpening read (Err (Syntax message)) rest = read ≡ meaning.no_term
IsOpening read (Err OutOfMemory) rest = Unit {0}
IsOpening read (Err _) rest = ⊥

-- a dash and the letters behind it, where a dash stands, and what follows
abbrev pub switched_off : List ℕ → List ℕ × List ℕ
switched_off t = if is_at (λ c. c == 0x2D) t then span is_flag (drop 1 t) else ([], t)
