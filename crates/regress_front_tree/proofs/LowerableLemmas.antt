-- The parts of a tree that can be lowered.
use Rattle.std.proofs.Common.{◌≡◌, ℕ, zero, suc, ◌<◌, List, [], ◌∷◌, length, get_or, map, Option, Some, None, Vec, Global, All, subst, arith}
use Rattle.std.proofs.lemmas.List.Elements.{All-nil, All-cons, All-head, All-tail}
use Rattle.regress_meaning.specs.Pattern.{Pattern, character, capture}
use Rattle.regress_meaning.specs.TableParts.{is_code_point}
use Rattle.regress_front_tokens.specs.Trees.{tree, term_trees, trees_of, sequence_of, choice_of}
use Rattle.regress_front_tokens.specs.declared.syntax.Term.{Term}
use Rattle.regress_front_tokens.specs.declared.syntax.Term.TheVariants.{Text, One}
use Rattle.regress_front_tokens.specs.declared.syntax.Syntax.{Syntax}
use Rattle.regress_front_sets.proofs.ListLemmas.{All-parts}
use Rattle.regress_front_tree.specs.Scopes.{IsLowerable}

-- of terms each
pub IsLowerable-terms : (ps : List Pattern) → IsLowerable (sequence_of ps) → All IsLowerable ps
IsLowerable-terms [] h = All-nil IsLowerable
IsLowerable-terms (p ∷ ps) h = All-cons IsLowerable p ps (record { points = h.points.0; names = h.names.0 }) (IsLowerable-terms ps (record { points = h.points.1; names = h.names.1 }))

-- of alternatives each
pub IsLowerable-arms : (ps : List Pattern) → IsLowerable (choice_of ps) → All IsLowerable ps
IsLowerable-arms [] h = All-nil IsLowerable
IsLowerable-arms (p ∷ []) h = All-cons IsLowerable p [] h (All-nil IsLowerable)
IsLowerable-arms (p ∷ q ∷ ps) h = All-cons IsLowerable p (q ∷ ps) (record { points = h.points.0; names = h.names.0 }) (IsLowerable-arms (q ∷ ps) (record { points = h.points.1; names = h.names.1 }))

-- the contents of a capturing group
pub contents-IsLowerable : (k : ℕ) (name : Option (List ℕ)) (p : Pattern) → IsLowerable (capture k name p) → IsLowerable p
contents-IsLowerable k None p h = record { points = h.points.1; names = h.names.1 }
contents-IsLowerable k (Some name) p h = record { points = h.points.1; names = h.names.1 }

-- what holds of each tree holds of the one at an index
pub each_is : (P : Pattern → Type 0) (xs : List Syntax) (i : ℕ) (x : Syntax) → i < length xs → x ≡ get_or xs i x → All P (map tree xs) → P (tree x)
each_is P [] i x lt is h = absurd (omega arith)
each_is P (y ∷ xs) zero x lt is h = rw is (All-head P (tree y) (map tree xs) h)
each_is P (y ∷ xs) (suc i) x lt is h = each_is P xs i x (omega arith) is (All-tail P (tree y) (map tree xs) h)

-- what holds of the tree of each term holds of those of what stands at an index
each_term : (P : Pattern → Type 0) (xs : List (Term Syntax)) (i : ℕ) (x : Term Syntax) → i < length xs → x ≡ get_or xs i x → All P (trees_of xs) → All P (term_trees tree x)
each_term P [] i x lt is h = absurd (omega arith)
each_term P (y ∷ xs) zero x lt is h = rw is (All-parts P (term_trees tree y) (trees_of xs) h).0
each_term P (y ∷ xs) (suc i) x lt is h = each_term P xs i x (omega arith) is (All-parts P (term_trees tree y) (trees_of xs) h).1

-- of the term there
pub term-IsLowerable : (xs : List (Term Syntax)) (i : ℕ) (x : Term Syntax) (term : Syntax) → i < length xs → x ≡ get_or xs i x → x ≡ One term
    → All IsLowerable (trees_of xs) → IsLowerable (tree term)
term-IsLowerable xs i x term lt is one h =
    All-head IsLowerable (tree term) [] (subst (λ y. All IsLowerable (term_trees tree y)) one (each_term IsLowerable xs i x lt is h))

characters-points : (cs : List ℕ) → All IsLowerable (map character cs) → All is_code_point cs
characters-points [] h = All-nil is_code_point
characters-points (c ∷ cs) h =
    All-cons is_code_point c cs (All-head IsLowerable (character c) (map character cs) h).points (characters-points cs (All-tail IsLowerable (character c) (map character cs) h))

-- the code points of the text there
pub text-points : (xs : List (Term Syntax)) (i : ℕ) (x : Term Syntax) (points : Vec ℕ Global) → i < length xs → x ≡ get_or xs i x → x ≡ Text points
    → All IsLowerable (trees_of xs) → All is_code_point points.items
text-points xs i x points lt is text h =
    characters-points points.items (subst (λ y. All IsLowerable (term_trees tree y)) text (each_term IsLowerable xs i x lt is h))
