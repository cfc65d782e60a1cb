-- What the parser's values of modes and escapes stand for.
use Rattle.std.specs.Prelude.{◌≤◌, ℕ, not, ◌&&◌, ◌==◌, List, [], ◌∷◌, Option, None, length, map, drop, option_map, option_to_list}
use Rattle.std.specs.Global.{Vec}
use Rattle.std.specs.Rc.{rc_slice_items}
use Rattle.std.specs.declared.alloc.Global.{Global}
use Rattle.std.specs.declared.string.String.{String}
use Rattle.regress_meaning.specs.Text.{is_at}
use Rattle.regress_meaning.specs.Class.{is_ascii_word}
use Rattle.regress_meaning.specs.Tokens as meaning
use Rattle.regress_front_tables.specs.TableViews.{table}
use Rattle.regress_front_tokens.specs.declared.mode.Mode.{Mode}
use Rattle.regress_front_tokens.specs.declared.escape.Escape.{Escape}
use Rattle.regress_front_tokens.specs.declared.escape.Escape.TheVariants.{Point, Set, Groups}
use Rattle.regress_front_tokens.specs.Trees.{class_view}
use Rattle.regress_front_tokens.specs.Words.{code_points_of}

-- the code points of names
abbrev pub texts : Vec (String Global) → List (List ℕ)
texts names = map code_points_of names.items

-- the name of a group that was opened, if one was
abbrev pub opened : Option (String Global) → List (List ℕ)
opened name = option_to_list (option_map code_points_of name)

-- what a mode stands for
abbrev pub mode_view : Mode → meaning.Mode
mode_view m = record {
  table = table m.tables.now;
  unicode = m.unicode;
  sets = m.sets;
  named = m.named;
  names = texts m.names;
}

-- the groups can be numbered by 16 bits
abbrev pub HasFewGroups : Mode → Type 0
HasFewGroups m = length m.names.items ≤ 65535

-- what an escape stands for
abbrev pub escape_view : Escape → meaning.Escape
escape_view (Point c) = meaning.point c
escape_view (Set s) = meaning.set (class_view s)
escape_view (Groups ks) = meaning.groups (rc_slice_items ks)

-- what is read from the first code point on, which decides
abbrev pub from_first : {A : Type 0} → (ℕ → meaning.Reads A) → meaning.Reads A
from_first read [] = None
from_first read (c ∷ t) = read c t

-- in a class, without Unicode mode: `c` and a letter, a digit or `_`
abbrev pub class_control : meaning.Mode → meaning.Reads meaning.Escape
class_control m t = meaning.guard (not m.unicode && is_at (λ c. c == 0x63) t) (meaning.control_letter is_ascii_word (drop 1 t))
