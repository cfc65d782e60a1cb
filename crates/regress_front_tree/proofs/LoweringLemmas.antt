-- How patterns are lowered one after another, and what takes one character.
use Rattle.std.proofs.Common.{◌≡◌, ℕ, ◌+◌, ◌<◌, Bool, true, false, not, ◌||◌, List, [], ◌∷◌, ◌++◌, length, get_or, map, take, Option, Some, Vec, Global, refl, sym, ap, subst, ◌∙◌, length-append, arith}
use Rattle.std.proofs.lemmas.List.{take_more, map_push, append_assoc, append-nil}
use Rattle.std.proofs.lemmas.Grind.{flat_map-append}
use Rattle.regress_meaning.specs.Table.{Table}
use Rattle.regress_meaning.specs.Pattern as meaning
use Rattle.regress_meaning.specs.Pattern.{Pattern, Settings, nothing, character, modified, look}
use Rattle.regress_meaning.specs.Meaning.{is_line_end, with}
use Rattle.regress_front_tables.specs.TableViews.{table}
use Rattle.regress_front_tokens.specs.Trees as parsed
use Rattle.regress_front_tokens.specs.Ranges.{opens_none, in_turn, with_range, term_parts, opens, parts_of}
use Rattle.regress_front_tokens.proofs.RangeLemmas.{in_turn-split, in_turn-one, in_turn-none, out_range}
use Rattle.regress_front_tokens.specs.declared.syntax.Term.{Term}
use Rattle.regress_front_tokens.specs.declared.syntax.Term.TheVariants.{Text, One}
use Rattle.regress_front_tokens.specs.declared.syntax.Syntax.{Syntax}
use Rattle.regress_front_nodes.specs.declared.node.Node.{Node}
use Rattle.regress_front_tree.specs.declared.lowering.Lowering.{Lowering}
use Rattle.regress_front_tree.specs.declared.lowering.Scope.{Scope}
use Rattle.regress_front_nodes.specs.Trees.{Tree, tree, empty, any, any_in_line, submatch, lookaround, atomic}
use Rattle.regress_front_nodes.specs.Characters.{Takes}
use Rattle.regress_front_tree.specs.Lowering.{ArePieces, Lowers, LowersAll, LowersTerms, no_pattern, and_next, no_term, next_term, next_text, of_terms, of_modified, of_look, of_atomic}
use Rattle.regress_front_tree.specs.Scopes.{settings_of, LowersInScope, LowersAllInScope, LowersTermsInScope, LowersAlone, AddsTextInScope}

-- one more pattern at the end
pub LowersAll-more : (table : Table) (unicode b : Bool) (e : Settings) (k l n : ℕ) (ps : List Pattern) (ts : List Tree) (p : Pattern) (t : Tree)
    → LowersAll table unicode b e k ps ts l → Lowers table unicode b e l p t n → LowersAll table unicode b e k (ps ++ p ∷ []) (ts ++ t ∷ []) n
LowersAll-more table unicode b e k l n [] [] p t no_pattern h = and_next h no_pattern
LowersAll-more table unicode b e k l n [] (u ∷ ts) p t before h = elim before [ ]
LowersAll-more table unicode b e k l n (q ∷ ps) [] p t before h = elim before [ ]
LowersAll-more table unicode b e k l n (q ∷ ps) (u ∷ ts) p t (and_next {l = m} g r) h =
    and_next g (LowersAll-more table unicode b e m l n ps ts p t r h)

-- terms behind other terms
LowersTerms-append : (table : Table) (unicode b : Bool) (e : Settings) {k l n : ℕ} {ps qs : List Pattern} {ts us : List Tree}
    → LowersTerms table unicode b e k ps ts l → LowersTerms table unicode b e l qs us n → LowersTerms table unicode b e k (ps ++ qs) (ts ++ us) n
LowersTerms-append table unicode b e no_term h = h
LowersTerms-append table unicode b e (next_term g r) h = next_term g (LowersTerms-append table unicode b e r h)
LowersTerms-append table unicode b e {qs = qs} {us = us} (next_text {cs = cs} {ps = ps} {us = vs} {ts = ts} pieces r) h =
    rw (append_assoc (map character cs) ps qs, append_assoc vs ts us) (next_text pieces (LowersTerms-append table unicode b e r h))

-- what stands in an alternative up to one place
terms-to : (terms : List (Term Syntax)) (i : ℕ) (item : Term Syntax) → i < length terms → item ≡ get_or terms i item
    → parsed.trees_of (take (i + 1) terms) ≡ parsed.trees_of (take i terms) ++ parsed.term_trees parsed.tree item
terms-to terms i item lt is =
    let alone : parsed.trees_of (item ∷ []) ≡ parsed.term_trees parsed.tree item = append-nil (parsed.term_trees parsed.tree item) in
    rw (take_more terms i item lt, ← is) (flat_map-append (parsed.term_trees parsed.tree) (take i terms) (item ∷ []) ∙ ap (λ ps. parsed.trees_of (take i terms) ++ ps) alone)

parts-to : (terms : List (Term Syntax)) (i : ℕ) (item : Term Syntax) → i < length terms → item ≡ get_or terms i item
    → parts_of (take (i + 1) terms) ≡ parts_of (take i terms) ++ term_parts opens item
parts-to terms i item lt is =
    let alone : parts_of (item ∷ []) ≡ term_parts opens item = append-nil (term_parts opens item) in
    rw (take_more terms i item lt, ← is) (flat_map-append (term_parts opens) (take i terms) (item ∷ []) ∙ ap (λ fs. parts_of (take i terms) ++ fs) alone)

-- no term
pub terms-none : (l : Lowering) (s : Scope) → LowersTermsInScope l s (in_turn []) [] []
terms-none l s j k e =
    let same : j ≡ k = cc in subst (λ n. LowersTerms (table l.tables.now) l.unicode s.backward (settings_of s) j [] [] n) same no_term

-- one more term
pub terms_more : (l : Lowering) (s : Scope) (terms : List (Term Syntax)) (nodes : List Node) (i : ℕ) (item : Term Syntax) (term : Syntax) (node : Node)
    → i < length terms → item ≡ get_or terms i item → item ≡ One term
    → LowersTermsInScope l s (in_turn (parts_of (take i terms))) (parsed.trees_of (take i terms)) (map tree nodes)
    → LowersInScope l s (opens term) (parsed.tree term) (tree node)
    → LowersTermsInScope l s (in_turn (parts_of (take (i + 1) terms))) (parsed.trees_of (take (i + 1) terms)) (map tree (nodes ++ node ∷ []))
terms_more l s terms nodes i item term node lt is one before h =
    rw (terms-to terms i item lt is, parts-to terms i item lt is, one, map_push) (λ j k e.
    let (m, first, last) = in_turn-split (parts_of (take i terms)) (opens term ∷ []) j k e in
    LowersTerms-append _ _ _ _ (before j m first) (next_term (h m k (sym (in_turn-one (opens term) m) ∙ last)) no_term))

-- a text by itself
text-alone : (l : Lowering) (s : Scope) (cs : List ℕ) (us : List Tree) (k : ℕ) → ArePieces (table l.tables.now) l.unicode s.icase cs us
    → LowersTerms (table l.tables.now) l.unicode s.backward (settings_of s) k (map character cs) us k
text-alone l s cs us k pieces = rw (← append-nil (map character cs), ← append-nil us) (next_text pieces no_term)

-- one more text
pub text_more : (l : Lowering) (s : Scope) (terms : List (Term Syntax)) (before new : List Tree) (i : ℕ) (item : Term Syntax) (points : Vec ℕ Global)
    → i < length terms → item ≡ get_or terms i item → item ≡ Text points
    → LowersTermsInScope l s (in_turn (parts_of (take i terms))) (parsed.trees_of (take i terms)) before → AddsTextInScope l s points.items before new
    → LowersTermsInScope l s (in_turn (parts_of (take (i + 1) terms))) (parsed.trees_of (take (i + 1) terms)) new
text_more l s terms before new i item points lt is text lowered (us, pieces, added) =
    rw (terms-to terms i item lt is, parts-to terms i item lt is, text, added) (λ j k e.
    let (m, first, last) = in_turn-split (parts_of (take i terms)) (map (λ (c : ℕ). opens_none) points.items) j k e in
    let found : Some m ≡ Some k = sym (in_turn-none points.items m) ∙ last in
    let same : m ≡ k = cc in
    let own = subst (λ n. LowersTerms (table l.tables.now) l.unicode s.backward (settings_of s) m (map character points.items) us n) same (text-alone l s points.items us m pieces) in
    LowersTerms-append _ _ _ _ (lowered j m first) own)

-- no part
pub each-none : (l : Lowering) (s : Scope) → LowersAllInScope l s (in_turn []) [] []
each-none l s j k e =
    let same : j ≡ k = cc in subst (λ n. LowersAll (table l.tables.now) l.unicode s.backward (settings_of s) j [] [] n) same no_pattern

-- one more part
pub each_more : (l : Lowering) (s : Scope) (parts : List Syntax) (nodes : List Node) (i : ℕ) (part : Syntax) (node : Node)
    → i < length parts → part ≡ get_or parts i part
    → LowersAllInScope l s (in_turn (map opens (take i parts))) (map parsed.tree (take i parts)) (map tree nodes)
    → LowersInScope l s (opens part) (parsed.tree part) (tree node)
    → LowersAllInScope l s (in_turn (map opens (take (i + 1) parts))) (map parsed.tree (take (i + 1) parts)) (map tree (nodes ++ node ∷ []))
each_more l s parts nodes i part node lt is before h =
    rw (take_more parts i part lt, ← is, map_push, map_push, map_push) (λ j k e.
    let (m, first, last) = in_turn-split (map opens (take i parts)) (opens part ∷ []) j k e in
    LowersAll-more _ _ _ _ _ _ _ _ _ _ _ (before j m first) (h m k (sym (in_turn-one (opens part) m) ∙ last)))

pub each_count : (parts : List Syntax) (nodes : List Node) (i : ℕ) (part : Syntax) (node : Node) → i < length parts
    → length nodes ≡ length (take i parts) → length (nodes ++ node ∷ []) ≡ length (take (i + 1) parts)
each_count parts nodes i part node lt h =
    let more = ap length (take_more parts i part lt) in
    omega (arith, h, more, length-append nodes (node ∷ []), length-append (take i parts) (get_or parts i part ∷ []))

-- `.`, where it is any character
pub Takes-any : (dot_all : Bool) → dot_all ≡ true → Takes any (λ c. dot_all || not (is_line_end c))
Takes-any dot_all h = record { alone = refl; members = λ c _. rw h refl; lawful = tt }

-- and where it is none that ends a line
pub Takes-any_in_line : (dot_all : Bool) → dot_all ≡ false → Takes any_in_line (λ c. dot_all || not (is_line_end c))
Takes-any_in_line dot_all h = record { alone = refl; members = λ c _. rw h refl; lawful = tt }

-- nothing is the empty text, either way
pub Lowers-nothing : (table : Table) (unicode b : Bool) (e : Settings) (k : ℕ) → Lowers table unicode b e k nothing empty k
Lowers-nothing table unicode true e k = of_terms {ps = []} {ts = []} no_term
Lowers-nothing table unicode false e k = of_terms {ps = []} {ts = []} no_term

-- nothing in a scope
pub nothing-in_scope : (l : Lowering) (s : Scope) → LowersInScope l s (in_turn []) nothing empty
nothing-in_scope l s j k e =
    let same : j ≡ k = cc in
    subst (λ n. Lowers (table l.tables.now) l.unicode s.backward (settings_of s) j nothing empty n) same (Lowers-nothing _ _ s.backward _ j)

-- a part that opens no group, by itself
pub alone-in_scope : (l : Lowering) (s : Scope) (opened : ℕ → Option ℕ) (p : Pattern) (t : Tree) → opened ≡ opens_none → LowersAlone l s p t
    → LowersInScope l s opened p t
alone-in_scope l s opened p t none h j k e =
    let found : Some j ≡ Some k = ap (λ f. f j) (sym none) ∙ e in
    let same : j ≡ k = cc in
    subst (λ n. Lowers (table l.tables.now) l.unicode s.backward (settings_of s) j p t n) same (h j)

-- inside modifiers
pub modified-in_scope : (l : Lowering) (s inside : Scope) (on off : Settings) (opened : ℕ → Option ℕ) (p : Pattern) (t : Tree)
    → settings_of inside ≡ with on off (settings_of s) → inside.backward ≡ s.backward
    → LowersInScope l inside opened p t → LowersInScope l s opened (modified on off p) t
modified-in_scope l s inside on off opened p t e b h = λ j k same. of_modified (rw (e, b) at h j k same)

-- with a range of groups
pub look-in_scope : (l : Lowering) (s inside : Scope) (negated backward : Bool) (first last : ℕ) (opened : ℕ → Option ℕ) (p : Pattern) (t : Tree)
    → settings_of inside ≡ settings_of s → inside.backward ≡ backward → LowersInScope l inside opened p t
    → LowersInScope l s (with_range first last opened) (look negated backward p) (submatch (lookaround negated backward) first last t)
look-in_scope l s inside negated backward first last opened p t e b h j k same =
    let (start, end, found) = out_range first last opened j k same in
    rw (start, end) (of_look (rw (e, b) at h j k found))

pub atomic-in_scope : (l : Lowering) (s : Scope) (first last : ℕ) (opened : ℕ → Option ℕ) (p : Pattern) (t : Tree) → LowersInScope l s opened p t
    → LowersInScope l s (with_range first last opened) (meaning.atomic p) (submatch atomic first last t)
atomic-in_scope l s first last opened p t h j k same =
    let (start, end, found) = out_range first last opened j k same in rw (start, end) (of_atomic (h j k found))
