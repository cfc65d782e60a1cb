-- The instructions of a tree, as a list, for the examples: what an emitter writes. A bracket is one of the program's.
use Rattle.std.specs.Prelude.{ℕ, suc, ◌+◌, ◌-◌, Bool, true, false, not, ◌&&◌, if◌then◌else◌, List, [], ◌∷◌, ◌++◌, length, nat_eq}
use Rattle.regress_front_nodes.specs.Trees.{Tree}
use Rattle.regress_front_nodes.specs.Trees as tree
use Rattle.regress_front_nodes.specs.Sizes.{loops}
use Rattle.regress_front_nodes.specs.TreeMeaning.{reads_backward}
use Rattle.regress_engine_insn.specs.Instructions.{Instruction}
use Rattle.regress_engine_insn.specs.Instructions as code
use Rattle.regress_engine_insn.specs.Layout.{char_set_code, byte_set_code, Target, resets, literal_code, string_code}

-- whether two lists of intervals are the same
unfoldable pub are_same : List (ℕ × ℕ) → List (ℕ × ℕ) → Bool
are_same [] [] = true
are_same [] (y ∷ ys) = false
are_same (x ∷ xs) [] = false
are_same (x ∷ xs) (y ∷ ys) = nat_eq x.0 y.0 && nat_eq x.1 y.1 && are_same xs ys

-- whether two brackets are the same
abbrev pub is_same : Bool × List (ℕ × ℕ) → Bool × List (ℕ × ℕ) → Bool
is_same a b = (if a.0 then b.0 else not b.0) && are_same a.1 b.1

-- where a bracket first stands among brackets
unfoldable pub index_of : Bool × List (ℕ × ℕ) → List (Bool × List (ℕ × ℕ)) → ℕ
index_of b [] = 0
index_of b (c ∷ rest) = if is_same b c then 0 else suc (index_of b rest)

module _ (target : Target) where
  -- the arms of a set of strings, from an address on
  abbrev arms_code : Bool → Bool → List (List ℕ) → ℕ → List Instruction
  arms_code b icase [] at = code.fail ∷ []
  arms_code b icase (cs ∷ []) at = string_code target b icase cs
  arms_code b icase (cs ∷ ds ∷ strings) at =
      let x = string_code target b icase cs in
      let m = suc at + length x in
      let y = arms_code b icase (ds ∷ strings) (suc m) in
      code.alt (suc m) ∷ (x ++ (code.jump (suc m + length y) ∷ y))

  -- from an address on, with loops numbered from the given number
  unfoldable pub emitted : Bool → Tree → ℕ → ℕ → List Instruction
  emitted b tree.empty at l = []
  emitted b tree.no_part at l = []
  emitted b tree.goal at l = code.goal ∷ []
  emitted b (tree.char c) at l = code.char c ∷ []
  emitted b (tree.bytes bs) at l = literal_code target.program b bs
  emitted b (tree.byte_set bs) at l = byte_set_code target.program.units bs ∷ []
  emitted b (tree.char_set cs) at l = char_set_code cs ∷ []
  emitted b (tree.cat s t) at l = let x = emitted b s at l in x ++ emitted b t (at + length x) (l + loops s)
  emitted b (tree.alt s t) at l =
      let x = emitted b s (suc at) l in
      let m = suc at + length x in
      let y = emitted b t (suc m) (l + loops s) in
      code.alt (suc m) ∷ (x ++ (code.jump (suc m + length y) ∷ y))
  emitted b tree.any at l = code.any ∷ []
  emitted b tree.any_in_line at l = code.any_in_line ∷ []
  emitted b (tree.line_start multiline) at l = code.line_start multiline ∷ []
  emitted b (tree.line_end multiline) at l = code.line_end multiline ∷ []
  emitted b (tree.boundary inverted folded) at l = code.boundary inverted folded ∷ []
  emitted b (tree.capture k name a) at l = code.begin_group k ∷ (emitted b a (suc at) l ++ (code.end_group k ∷ []))
  emitted b (tree.back k icase) at l = code.back (k - 1) icase ∷ []
  emitted b (tree.bracket inverted intervals) at l = code.bracket (index_of (inverted, intervals) target.program.brackets) ∷ []
  emitted b (tree.string_set strings icase) at l = arms_code b icase strings at
  emitted b (tree.submatch kind first last a) at l =
      let x = emitted (reads_backward kind b) a (suc at) l in code.submatch kind first last (suc (suc at + length x)) ∷ (x ++ (code.goal ∷ []))
  emitted b (tree.loop a first last least most greedy) at l =
      let x = resets first (last - first) ++ emitted b a (suc at + (last - first)) (suc l) in
      code.enter_loop (record { loop_id = l; least = least; most = most; greedy = greedy; exit = suc (suc at + length x) }) ∷ (x ++ (code.loop_again at ∷ []))
  emitted b (tree.single_loop a least most greedy) at l = code.single_loop least most greedy ∷ emitted b a (suc at) l
