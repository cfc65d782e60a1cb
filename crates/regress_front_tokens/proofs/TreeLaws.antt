-- The equations of `tree`, one for each variant.
use Rattle.std.proofs.Common.{◌≡◌, ℕ, Bool, List, [], ◌∷◌, ◌++◌, map, Option, option_map, Vec, Box, Global, refl, sym, ap, ◌∙◌}
use Rattle.std.specs.List.{flat_map}
use Rattle.std.specs.Rc.{rc_slice_items}
use Rattle.std.specs.declared.ops.Range.{Range}
use Rattle.std.specs.declared.string.String.{String}
use Rattle.std.specs.declared.rc.RcSlice.{RcSlice}
use Rattle.regress_meaning.specs.Pattern.{Pattern, character, any, class, class_escape, capture, grouped, atomic, modified, repeated, look, reference, line_start, line_end, word_boundary}
use Rattle.regress_front_tokens.specs.Trees.{tree, class_view, settings, node_tree, sequence_of, choice_of, term_trees, trees_of}
use Rattle.regress_front_tokens.specs.Words.{code_points_of}
use Rattle.regress_front_core.specs.Quantifiers.{most}
use Rattle.regress_front_tokens.specs.declared.syntax.Class.{Class as ClassValue}
use Rattle.regress_front_core.specs.declared.quantifier.Quantifier.{Quantifier}
use Rattle.regress_front_tokens.specs.declared.syntax.Modifiers.{Modifiers}
use Rattle.regress_front_tokens.specs.declared.syntax.Term.{Term}
use Rattle.regress_front_tokens.specs.declared.syntax.Term.TheVariants.{Text, One}
use Rattle.regress_front_tokens.specs.declared.syntax.Syntax.{Syntax, Syntax-F, fold-roll-Syntax}
use Rattle.regress_front_tokens.specs.declared.syntax.Syntax.TheShapes.{former-Syntax-Alternative-0-at-2}
use Rattle.regress_front_tokens.specs.declared.syntax.Syntax.TheVariants.{Character, Any, Class, ClassEscape, Alternative, Disjunction, Capture, Group, Atomic, Modified, Loop, Look, Reference, LineStart, LineEnd, WordBoundary, rolls-Character, rolls-Any, rolls-Class, rolls-ClassEscape, rolls-Alternative, rolls-Disjunction, rolls-Capture, rolls-Group, rolls-Atomic, rolls-Modified, rolls-Loop, rolls-Look, rolls-Reference, rolls-LineStart, rolls-LineEnd, rolls-WordBoundary}

pub tree-Character : (c : ℕ) → tree (Character c) ≡ character c
tree-Character c = ap tree (sym (rolls-Character c)) ∙ fold-roll-Syntax Pattern node_tree (Syntax-F.Character c)

pub tree-Any : tree Any ≡ any
tree-Any = ap tree (sym rolls-Any) ∙ fold-roll-Syntax Pattern node_tree Syntax-F.Any

pub tree-Class : (negated : Bool) (c : ClassValue) → tree (Class negated c) ≡ class negated (class_view c)
tree-Class negated c = ap tree (sym (rolls-Class negated c)) ∙ fold-roll-Syntax Pattern node_tree (Syntax-F.Class negated c)

-- what stands in an alternative, with the tree of a term in its place
each-term : (t : Term Syntax) → term_trees (λ p. p) (former-Syntax-Alternative-0-at-2.map Syntax Pattern tree t) ≡ term_trees tree t
each-term (Text points) = refl
each-term (One s) = refl

all-terms : (ts : List (Term Syntax)) → flat_map (term_trees (λ p. p)) (map (former-Syntax-Alternative-0-at-2.map Syntax Pattern tree) ts) ≡ trees_of ts
all-terms [] = refl
all-terms (t ∷ ts) = λ i. each-term t i ++ all-terms ts i

pub tree-Alternative : (terms : Vec (Term Syntax) Global) → tree (Alternative terms) ≡ sequence_of (trees_of terms.items)
tree-Alternative terms =
    ap tree (sym (rolls-Alternative terms)) ∙ fold-roll-Syntax Pattern node_tree (Syntax-F.Alternative terms) ∙ ap sequence_of (all-terms terms.items)

pub tree-Disjunction : (arms : Vec Syntax Global) → tree (Disjunction arms) ≡ choice_of (map tree arms.items)
tree-Disjunction arms = ap tree (sym (rolls-Disjunction arms)) ∙ fold-roll-Syntax Pattern node_tree (Syntax-F.Disjunction arms)

pub tree-ClassEscape : (c : ClassValue) → tree (ClassEscape c) ≡ class_escape (class_view c)
tree-ClassEscape c = ap tree (sym (rolls-ClassEscape c)) ∙ fold-roll-Syntax Pattern node_tree (Syntax-F.ClassEscape c)

pub tree-Capture : (id : ℕ) (name : Option (String Global)) (contents : Box Syntax Global)
    → tree (Capture id name contents) ≡ capture id (option_map code_points_of name) (tree contents.value)
tree-Capture id name contents = ap tree (sym (rolls-Capture id name contents)) ∙ fold-roll-Syntax Pattern node_tree (Syntax-F.Capture id name contents)

pub tree-Group : (contents : Box Syntax Global) → tree (Group contents) ≡ grouped (tree contents.value)
tree-Group contents = ap tree (sym (rolls-Group contents)) ∙ fold-roll-Syntax Pattern node_tree (Syntax-F.Group contents)

pub tree-Atomic : (contents : Box Syntax Global) (groups : Range ℕ) → tree (Atomic contents groups) ≡ atomic (tree contents.value)
tree-Atomic contents groups = ap tree (sym (rolls-Atomic contents groups)) ∙ fold-roll-Syntax Pattern node_tree (Syntax-F.Atomic contents groups)

pub tree-Modified : (on off : Modifiers) (contents : Box Syntax Global) → tree (Modified on off contents) ≡ modified (settings on) (settings off) (tree contents.value)
tree-Modified on off contents = ap tree (sym (rolls-Modified on off contents)) ∙ fold-roll-Syntax Pattern node_tree (Syntax-F.Modified on off contents)

pub tree-Loop : (loopee : Box Syntax Global) (quant : Quantifier) (groups : Range ℕ)
    → tree (Loop loopee quant groups) ≡ repeated (tree loopee.value) groups.start groups.end quant.min (most quant) quant.greedy
tree-Loop loopee quant groups = ap tree (sym (rolls-Loop loopee quant groups)) ∙ fold-roll-Syntax Pattern node_tree (Syntax-F.Loop loopee quant groups)

pub tree-Look : (negated backward : Bool) (contents : Box Syntax Global) (groups : Range ℕ) → tree (Look negated backward contents groups) ≡ look negated backward (tree contents.value)
tree-Look negated backward contents groups =
    ap tree (sym (rolls-Look negated backward contents groups)) ∙ fold-roll-Syntax Pattern node_tree (Syntax-F.Look negated backward contents groups)

pub tree-Reference : (groups : RcSlice ℕ Global) → tree (Reference groups) ≡ reference (rc_slice_items groups)
tree-Reference groups = ap tree (sym (rolls-Reference groups)) ∙ fold-roll-Syntax Pattern node_tree (Syntax-F.Reference groups)

pub tree-LineStart : tree LineStart ≡ line_start
tree-LineStart = ap tree (sym rolls-LineStart) ∙ fold-roll-Syntax Pattern node_tree Syntax-F.LineStart

pub tree-LineEnd : tree LineEnd ≡ line_end
tree-LineEnd = ap tree (sym rolls-LineEnd) ∙ fold-roll-Syntax Pattern node_tree Syntax-F.LineEnd

pub tree-WordBoundary : (negated : Bool) → tree (WordBoundary negated) ≡ word_boundary negated
tree-WordBoundary negated = ap tree (sym (rolls-WordBoundary negated)) ∙ fold-roll-Syntax Pattern node_tree (Syntax-F.WordBoundary negated)
