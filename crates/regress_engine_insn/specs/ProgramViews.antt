-- What a program is to definitions, with what it is made for.
use Rattle.std.specs.Prelude.{ℕ, Bool, List, map}
use Rattle.regress_meaning.specs.Flags.{is_unicode}
use Rattle.regress_front_core.specs.FlagWords.{options}
use Rattle.regress_front_core.specs.declared.flags.Flags.{Flags}
use Rattle.regress_front_sets.specs.Intervals.{ends_of}
use Rattle.regress_front_tables.specs.TableViews.{table}
use Rattle.regress_front_tables.specs.declared.tables.Tables.{Tables}
use Rattle.regress_front_nodes.specs.declared.node.BracketContents.{BracketContents}
use Rattle.regress_engine_insn.specs.declared.insn.Insn.{Insn}
use Rattle.regress_engine_insn.specs.Instructions.{Program}
use Rattle.regress_engine_insn.specs.InsnViews.{instruction}
use Rattle.regress_engine_insn.specs.Layout.{Target}

-- a bracket as intervals that may be inverted
abbrev pub bracket_ends : BracketContents → Bool × List (ℕ × ℕ)
bracket_ends contents = (contents.invert, ends_of contents.cps.intervals.items)

-- what instructions and brackets are to definitions, with so many loops and groups
abbrev pub program_from : List Insn → List BracketContents → (loops groups : ℕ) → (units : Bool) → Program
program_from insns brackets loops groups units = record {
  instructions = map instruction insns;
  brackets = map bracket_ends brackets;
  loops = loops;
  groups = groups;
  units = units;
}

-- a program with what it is made for
abbrev pub target_from : Program → Tables → Flags → Target
target_from program tables flags = record { program = program; table = table tables; unicode = is_unicode (options flags) }
