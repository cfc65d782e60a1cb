-- What an emitted program stands for.
use Rattle.std.specs.Prelude.{◌≡◌, ℕ, Bool, not, List, length, map, chars, count_by}
use Rattle.std.specs.Arc.{arc_slice_items}
use Rattle.std.specs.String.{string_bytes}
use Rattle.regress_meaning.specs.Flags.{is_unicode}
use Rattle.regress_front_core.specs.FlagWords.{options}
use Rattle.regress_front_tables.specs.TableViews.{known_by, table}
use Rattle.regress_front_nodes.specs.Trees.{tree}
use Rattle.regress_front_nodes.specs.Names.{names_in}
use Rattle.regress_front_nodes.specs.Sizes.{loops}
use Rattle.regress_front_nodes.specs.declared.ir.Regex.{Regex}
use Rattle.regress_engine_code.specs.declared.compiled.CompiledRegex.{CompiledRegex}
use Rattle.regress_engine_insn.specs.Instructions.{Program, begins_loop}
use Rattle.regress_engine_analysis.specs.MayBegin.{may_begin_with}
use Rattle.regress_engine_analysis.specs.Shared.{facts_of}
use Rattle.regress_engine_analysis.specs.Planned.{firsts, known_of}
use Rattle.regress_engine_insn.specs.Counts.{count}
use Rattle.regress_engine_insn.specs.Layout.{Target, IsLayout}
use Rattle.regress_engine_insn.specs.ProgramViews.{program_from, target_from}
use Rattle.regress_engine_prefix.specs.Starts.{IsSameStart, Serves}

-- what a program is to definitions
abbrev pub program_of : CompiledRegex → Program
program_of compiled = program_from compiled.insns.items compiled.brackets.items compiled.loops compiled.groups compiled.units

-- the program with what it is made for
abbrev pub target_of : CompiledRegex → Target
target_of compiled = target_from (program_of compiled) compiled.tables compiled.flags

-- the names of its groups by their numbers, as bytes of UTF-8
abbrev pub names_of : CompiledRegex → List (List ℕ)
names_of compiled = map string_bytes (arc_slice_items compiled.group_names)

-- by what a program tells of an address, no match from there begins with this byte
abbrev pub cannot_begin_with : CompiledRegex → (at b : ℕ) → Bool
cannot_begin_with compiled at b = not (may_begin_with (firsts (facts_of compiled.plan)) at b)

-- how many instructions a program of a tree has, in units or in bytes
abbrev pub length_for : (units : Bool) → Regex → ℕ
length_for units regex = count units (table regex.tables.now) (is_unicode (options regex.flags)) (tree regex.node)

-- The program stands for a tree: its flags and its table are the tree's, the names of its groups are those of the tree's nodes,
-- by their numbers, it is the tree's layout, with a group for each name, as many repetitions begin in it as it has loops, and
-- its start predicate serves the tree.
pub record StandsFor (regex : Regex) (compiled : CompiledRegex) : Type 0 where
  pub flags : compiled.flags ≡ regex.flags
  pub table : table compiled.tables ≡ table regex.tables.now
  pub names : map chars (names_of compiled) ≡ names_in (tree regex.node)
  pub layout : IsLayout (target_of compiled) (length (names_in (tree regex.node))) (tree regex.node)
  pub counted : length compiled.insns.items ≡ length_for compiled.units regex
  pub loops : compiled.loops ≡ loops (tree regex.node)
  pub begun : count_by begins_loop (program_of compiled).instructions ≡ compiled.loops
  pub start : Serves compiled.units (tree regex.node) compiled.start_pred

-- A program is a copy of another: the same program, with the same names of groups, flags, tables and start, and the same is
-- told of each address.
pub record IsCopyOf (compiled copy : CompiledRegex) : Type 0 where
  pub program : program_of copy ≡ program_of compiled
  pub names : names_of copy ≡ names_of compiled
  pub start : IsSameStart compiled.start_pred copy.start_pred
  pub flags : copy.flags ≡ compiled.flags
  pub tables : known_by copy.tables ≡ known_by compiled.tables
  pub cannot_begin_with : (at b : ℕ) → cannot_begin_with copy at b ≡ cannot_begin_with compiled at b
  pub known : (at : ℕ) → known_of (facts_of copy.plan) at ≡ known_of (facts_of compiled.plan) at
