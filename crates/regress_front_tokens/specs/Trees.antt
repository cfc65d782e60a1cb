-- The trees that the values of the parser stand for.
use Rattle.std.specs.Prelude.{List, [], ◌∷◌, map, fold, option_map}
use Rattle.std.specs.List.{flat_map}
use Rattle.std.specs.Rc.{rc_slice_items}
use Rattle.regress_front_core.specs.Quantifiers.{most}
use Rattle.regress_meaning.specs.Class as meaning
use Rattle.regress_meaning.specs.Pattern.{Pattern, Settings, nothing, character, any, class, class_escape, sequence, choice, capture, grouped, atomic, modified, repeated, look, reference, line_start, line_end, word_boundary}
use Rattle.regress_front_tokens.specs.Words.{code_points_of}
use Rattle.regress_front_tokens.specs.declared.syntax.Modifiers.{Modifiers}
use Rattle.regress_front_tokens.specs.declared.syntax.Class.{Class}
use Rattle.regress_front_tokens.specs.declared.syntax.Class.TheOpen.{Class-F}
use Rattle.regress_front_tokens.specs.declared.syntax.Class.TheFolds.{fold-Class}
use Rattle.regress_front_tokens.specs.declared.syntax.Term.{Term}
use Rattle.regress_front_tokens.specs.declared.syntax.Syntax.{Syntax}
use Rattle.regress_front_tokens.specs.declared.syntax.Syntax.TheOpen.{Syntax-F}
use Rattle.regress_front_tokens.specs.declared.syntax.Syntax.TheFolds.{fold-Syntax}

-- members side by side
abbrev pub union_of : List meaning.Class → meaning.Class
union_of [] = meaning.no_string
union_of (c ∷ cs) = meaning.union c (union_of cs)

-- one class, with the class of each part in its place
abbrev pub node_class : Class-F meaning.Class → meaning.Class
node_class (Class-F.Range first last) = meaning.range first last
node_class Class-F.Digits = meaning.digits
node_class Class-F.Spaces = meaning.spaces
node_class Class-F.Words = meaning.words
node_class (Class-F.Property key) = meaning.property (code_points_of key)
node_class (Class-F.Sequences key) = meaning.sequences (code_points_of key)
node_class (Class-F.Strings strings) = meaning.strings (map (λ s. s.items) strings.items)
node_class (Class-F.Union members) = union_of members.items
node_class (Class-F.Intersection a others) = fold meaning.intersection a.value others.items
node_class (Class-F.Difference a others) = fold meaning.difference a.value others.items
node_class (Class-F.Complement a) = meaning.complement a.value
node_class (Class-F.Nested negated a) = meaning.nested negated a.value

-- The class that a value stands for.
abbrev pub class_view : Class → meaning.Class
class_view = fold-Class meaning.Class node_class

-- what modifiers switch
abbrev pub settings : Modifiers → Settings
settings m = record { icase = m.icase; multiline = m.multiline; dot_all = m.dot_all }

-- terms one after another
abbrev pub sequence_of : List Pattern → Pattern
sequence_of [] = nothing
sequence_of (p ∷ ps) = sequence p (sequence_of ps)

-- alternatives
abbrev pub choice_of : List Pattern → Pattern
choice_of [] = nothing
choice_of (p ∷ []) = p
choice_of (p ∷ q ∷ ps) = choice p (choice_of (q ∷ ps))

-- the trees of the terms that stand for what stands in an alternative, where one term is seen so
abbrev pub term_trees : {A : Type 0} → (A → Pattern) → Term A → List Pattern
term_trees seen (Term.Text points) = map character points.items
term_trees seen (Term.One a) = seen a ∷ []

-- one value, with the tree of each part in its place
abbrev pub node_tree : Syntax-F Pattern → Pattern
node_tree (Syntax-F.Character c) = character c
node_tree Syntax-F.Any = any
node_tree (Syntax-F.Class negated c) = class negated (class_view c)
node_tree (Syntax-F.ClassEscape c) = class_escape (class_view c)
node_tree (Syntax-F.Alternative terms) = sequence_of (flat_map (term_trees (λ p. p)) terms.items)
node_tree (Syntax-F.Disjunction arms) = choice_of arms.items
node_tree (Syntax-F.Capture k name contents) = capture k (option_map code_points_of name) contents.value
node_tree (Syntax-F.Group contents) = grouped contents.value
node_tree (Syntax-F.Atomic contents groups) = atomic contents.value
node_tree (Syntax-F.Modified on off contents) = modified (settings on) (settings off) contents.value
node_tree (Syntax-F.Loop loopee quant groups) = repeated loopee.value groups.start groups.end quant.min (most quant) quant.greedy
node_tree (Syntax-F.Look negated backward contents groups) = look negated backward contents.value
node_tree (Syntax-F.Reference groups) = reference (rc_slice_items groups)
node_tree Syntax-F.LineStart = line_start
node_tree Syntax-F.LineEnd = line_end
node_tree (Syntax-F.WordBoundary negated) = word_boundary negated

-- The tree that a value stands for.
abbrev pub tree : Syntax → Pattern
tree = fold-Syntax Pattern node_tree

-- the trees of all terms of an alternative, one after another
abbrev pub trees_of : List (Term Syntax) → List Pattern
trees_of = flat_map (term_trees tree)
