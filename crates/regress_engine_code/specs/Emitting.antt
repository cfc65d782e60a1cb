-- What an emitter writes of a tree, and when it refuses.
use Rattle.std.specs.Prelude.{◌≡◌, ℕ, ◌+◌, ◌<◌, Bool, List, ◌∷◌, ◌++◌, length, All}
use Rattle.regress_front_core.specs.declared.error.Error.{Error}
use Rattle.regress_front_tables.specs.TableViews.{table}
use Rattle.regress_front_nodes.specs.Trees.{Tree}
use Rattle.regress_front_nodes.specs.Sizes.{loops}
use Rattle.regress_front_nodes.specs.declared.node.AnchorType.{AnchorType}
use Rattle.regress_front_nodes.specs.declared.node.AnchorType.TheVariants.{StartOfLine, EndOfLine}
use Rattle.regress_engine_insn.specs.Instructions.{Instruction, Program, line_start, line_end}
use Rattle.regress_engine_code.specs.declared.emitter.Emitter.{Emitter}
use Rattle.regress_engine_insn.specs.Counts.{strings_count, count}
use Rattle.regress_engine_insn.specs.Layout.{Target, AreArms}
use Rattle.regress_engine_code.specs.Written.{Written, closed, Adds, AddsTree, MayRefuse}

-- the instruction of an anchor
abbrev pub anchor_code : AnchorType → Bool → Instruction
anchor_code StartOfLine multiline = line_start multiline
anchor_code EndOfLine multiline = line_end multiline

-- the tree is added
abbrev pub Emits : Emitter → (backward : Bool) → Tree → Written → Written → Type 0
Emits emitter = AddsTree emitter.units (table emitter.tables.now) emitter.unicode

-- Memory is refused, or the instructions or loops with those of the tree are too many.
abbrev pub Refuses : Emitter → Tree → Written → Error → Type 0
Refuses emitter t w =
    MayRefuse (length w.instructions + count emitter.units (table emitter.tables.now) emitter.unicode t) (w.loops + loops t)

-- a program, made for the table and the mode
abbrev pub target : Emitter → Program → Target
target emitter program = record { program = program; table = table emitter.tables.now; unicode = emitter.unicode }

-- the strings of a set, to each of which another may follow
abbrev pub AddsArms : Emitter → (backward icase : Bool) → List (List ℕ) → Written → Written → Type 0
AddsArms emitter backward icase strings =
    Adds emitter.units (λ program p q. AreArms (target emitter program) backward icase strings p q)

-- Strings are written, with places left for the jumps behind them: whatever strings are written behind, once the jumps lead
-- past these, all of them lie there.
pub record OpensArms (emitter : Emitter) (backward icase : Bool) (strings : List (List ℕ)) (jumps : List ℕ) (old new : Written) : Type 0 where
  pub lie : (cs : List ℕ) (rest : List (List ℕ)) (w : Written) → AddsArms emitter backward icase (cs ∷ rest) new w
      → AddsArms emitter backward icase (strings ++ cs ∷ rest) old (closed w jumps (length w.instructions))
  pub places : All (λ j. j < length new.instructions) jumps
  pub counted : (cs : List ℕ) (rest : List (List ℕ))
      → length new.instructions + strings_count emitter.units (table emitter.tables.now) emitter.unicode icase (cs ∷ rest)
      ≡ length old.instructions + strings_count emitter.units (table emitter.tables.now) emitter.unicode icase (strings ++ cs ∷ rest)

-- Memory is refused, or the instructions with those of the strings, and of whatever strings behind them, are too many.
abbrev pub RefusesArms : Emitter → (icase : Bool) → List (List ℕ) → Written → Error → Type 0
RefusesArms emitter icase strings w e = (cs : List ℕ) (rest : List (List ℕ))
    → MayRefuse (length w.instructions + strings_count emitter.units (table emitter.tables.now) emitter.unicode icase (strings ++ cs ∷ rest)) 0 e
