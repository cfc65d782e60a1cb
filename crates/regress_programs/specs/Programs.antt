-- The programs that a compiled pattern holds.
use Rattle.std.specs.Prelude.{◌≡◌, ℕ, ◌*◌, ◌≤◌, List, length, map, chars}
use Rattle.regress_meaning.specs.Table.{Table}
use Rattle.regress_meaning.specs.Pattern.{Pattern, names_of}
use Rattle.regress_meaning.specs.Flags.{Options, is_unicode, first_settings}
use Rattle.regress_meaning.specs.Grammar.{Spells}
use Rattle.regress_meaning.specs.Limits.{WithinLimits}
use Rattle.regress_meaning.specs.Matches.{Item}
use Rattle.regress_meaning.specs.Meaning.{Forward, outcomes}
use Rattle.regress_front.specs.Costs.{whole_cost}
use Rattle.regress_front.specs.TableViews.{table}
use Rattle.regress_front.specs.FlagWords.{options}
use Rattle.regress_front.specs.Trees.{Tree, tree}
use Rattle.regress_front_nodes.specs.declared.ir.Regex as ir
use Rattle.regress_front.specs.WellFormed.{IsWellFormed}
use Rattle.regress_front.specs.NodeMatches.{node_match_list}
use Rattle.regress_front.specs.TreeMeaning.{node_outcomes}
use Rattle.regress_front.specs.Alike.{IsAlike}
use Rattle.regress_front.specs.Parsed.{IsTreeMade}
use Rattle.regress_front.specs.RewritingLaws.{IsRewritten}
use Rattle.regress_engine_code.specs.declared.compiled.CompiledRegex.{CompiledRegex}
use Rattle.regress_engine_insn.specs.Layout.{Target, IsLayout}
use Rattle.regress_engine_code.specs.Standing as code
use Rattle.regress_engine_code.specs.Standing.{target_of}

-- A tree of what is made of a pattern that a text spells within the limits: the one that it is read as, rewritten or not.
pub record IsTreeFor (made : Pattern → Pattern) (table : Table) (o : Options) (text : List ℕ) (p : Pattern) (t : Tree) : Type 0 where
  pub parsed : Tree
  pub of_text : IsTreeMade made table o text p parsed
  pub rewritten : IsRewritten (length (names_of (made p))) parsed t

-- The tree of a regex of nodes was read from a text under a table and options: it is one of what is made of a pattern that the text
-- spells.
abbrev pub IsReadFrom : (Pattern → Pattern) → Table → Options → List ℕ → Pattern → ir.Regex → Type 0
IsReadFrom made t o text p regex = IsTreeMade made t o text p (tree regex.node) × (table regex.tables.now ≡ t) × (options regex.flags ≡ o)

-- What is made for this target is laid out from a tree: it is the layout of this well-formed tree of so many groups.
abbrev pub IsLaidOutFrom : Target → ℕ → Tree → Type 0
IsLaidOutFrom target n t = IsWellFormed n t × IsLayout target n t

-- The match list of a tree in a text, from a place on, with a target's table and mode.
abbrev pub items_of_tree : Target → ℕ → Tree → List ℕ → ℕ → List Item
items_of_tree target n t text place = node_match_list (record { text = text; table = target.table; unicode = target.unicode }) n t place

-- The program is one of a pattern, under this table and these options: it is the layout of a well-formed tree that is alike
-- the pattern, and its groups have the pattern's names.
pub record IsProgramOf (compiled : CompiledRegex) (t : Table) (o : Options) (p : Pattern) : Type 0 where
  pub table : table compiled.tables ≡ t
  pub flags : options compiled.flags ≡ o
  pub names : map chars (code.names_of compiled) ≡ names_of p
  pub node : Tree
  pub well_formed : IsWellFormed (length (names_of p)) node
  pub layout : IsLayout (target_of compiled) (length (names_of p)) node
  pub alike : IsAlike t (is_unicode o) (λ context. node_outcomes context node Forward) (λ context. outcomes context p Forward (first_settings o))

-- The two programs are those of what is made of a pattern that a text spells within the limits.
abbrev pub AreProgramsOf : (Pattern → Pattern) → Table → Options → List ℕ → (byte_program unit_program : CompiledRegex) → Type 0
AreProgramsOf made t o text byte_program unit_program =
    (p : Pattern) × Spells t o text p × WithinLimits p × IsProgramOf byte_program t o (made p) × IsProgramOf unit_program t o (made p)

-- They are those of what is made of a pattern that costs no more than a limit.
abbrev pub AreProgramsWithin : ℕ → (Pattern → Pattern) → Table → Options → List ℕ → (byte_program unit_program : CompiledRegex) → Type 0
AreProgramsWithin limit made t o text byte_program unit_program =
    (p : Pattern) × Spells t o text p × WithinLimits p × (whole_cost t (made p) ≤ limit) × IsProgramOf byte_program t o (made p) × IsProgramOf unit_program t o (made p)

-- each program has at most two instructions for each of so many nodes
abbrev pub HaveFewInstructions : ℕ → (byte_program unit_program : CompiledRegex) → Type 0
HaveFewInstructions nodes byte_program unit_program = (length byte_program.insns.items ≤ 2 * nodes) × (length unit_program.insns.items ≤ 2 * nodes)
