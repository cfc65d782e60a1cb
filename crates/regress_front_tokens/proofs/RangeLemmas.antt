-- What each variant opens, and ranges of groups.
use Rattle.std.proofs.Common.{◌≡◌, ℕ, suc, ◌&&◌, ◌==◌, Bool, true, false, List, [], ◌∷◌, ◌++◌, Option, Some, None, if◌then◌else◌, map, Vec, Box, Global, refl, sym, ap, ap₂, ◌∙◌, arith}
use Rattle.std.specs.Prelude.{option_and_then}
use Rattle.std.specs.List.{flat_map}
use Rattle.std.specs.declared.ops.Range.{Range}
use Rattle.std.specs.declared.string.String.{String}
use Rattle.std.specs.declared.rc.RcSlice.{RcSlice}
use Rattle.std.proofs.lemmas.Bool.{eqb-true}
use Rattle.std.proofs.lemmas.Bool.Decides.{nat_tests}
use Rattle.regress_front_core.specs.declared.quantifier.Quantifier.{Quantifier}
use Rattle.regress_front_tokens.specs.Ranges.{opens_none, in_turn, with_range, term_parts, node_opens, opens, parts_of}
use Rattle.regress_front_tokens.specs.declared.syntax.Class.{Class as ClassValue}
use Rattle.regress_front_tokens.specs.declared.syntax.Modifiers.{Modifiers}
use Rattle.regress_front_tokens.specs.declared.syntax.Term.{Term}
use Rattle.regress_front_tokens.specs.declared.syntax.Term.TheVariants.{Text, One}
use Rattle.regress_front_tokens.specs.declared.syntax.Syntax.{Syntax, Syntax-F, fold-roll-Syntax}
use Rattle.regress_front_tokens.specs.declared.syntax.Syntax.TheShapes.{former-Syntax-Alternative-0-at-2}
use Rattle.regress_front_tokens.specs.declared.syntax.Syntax.TheVariants.{Character, Any, Class, ClassEscape, Alternative, Disjunction, Capture, Group, Atomic, Modified, Loop, Look, Reference, LineStart, LineEnd, WordBoundary, rolls-Character, rolls-Any, rolls-Class, rolls-ClassEscape, rolls-Alternative, rolls-Disjunction, rolls-Capture, rolls-Group, rolls-Atomic, rolls-Modified, rolls-Loop, rolls-Look, rolls-Reference, rolls-LineStart, rolls-LineEnd, rolls-WordBoundary}

-- what a part opens
abbrev Opens : Type 0
Opens = ℕ → Option ℕ

pub opens-Character : (c : ℕ) → opens (Character c) ≡ opens_none
opens-Character c = ap opens (sym (rolls-Character c)) ∙ fold-roll-Syntax Opens node_opens (Syntax-F.Character c)

pub opens-Any : opens Any ≡ opens_none
opens-Any = ap opens (sym rolls-Any) ∙ fold-roll-Syntax Opens node_opens Syntax-F.Any

pub opens-Class : (negated : Bool) (c : ClassValue) → opens (Class negated c) ≡ opens_none
opens-Class negated c = ap opens (sym (rolls-Class negated c)) ∙ fold-roll-Syntax Opens node_opens (Syntax-F.Class negated c)

pub opens-ClassEscape : (c : ClassValue) → opens (ClassEscape c) ≡ opens_none
opens-ClassEscape c = ap opens (sym (rolls-ClassEscape c)) ∙ fold-roll-Syntax Opens node_opens (Syntax-F.ClassEscape c)

pub opens-Disjunction : (arms : Vec Syntax Global) → opens (Disjunction arms) ≡ in_turn (map opens arms.items)
opens-Disjunction arms = ap opens (sym (rolls-Disjunction arms)) ∙ fold-roll-Syntax Opens node_opens (Syntax-F.Disjunction arms)

pub opens-Capture : (id : ℕ) (name : Option (String Global)) (contents : Box Syntax Global) → opens (Capture id name contents) ≡ (λ k. opens contents.value (suc k))
opens-Capture id name contents = ap opens (sym (rolls-Capture id name contents)) ∙ fold-roll-Syntax Opens node_opens (Syntax-F.Capture id name contents)

pub opens-Group : (contents : Box Syntax Global) → opens (Group contents) ≡ opens contents.value
opens-Group contents = ap opens (sym (rolls-Group contents)) ∙ fold-roll-Syntax Opens node_opens (Syntax-F.Group contents)

pub opens-Atomic : (contents : Box Syntax Global) (groups : Range ℕ) → opens (Atomic contents groups) ≡ with_range groups.start groups.end (opens contents.value)
opens-Atomic contents groups = ap opens (sym (rolls-Atomic contents groups)) ∙ fold-roll-Syntax Opens node_opens (Syntax-F.Atomic contents groups)

pub opens-Modified : (on off : Modifiers) (contents : Box Syntax Global) → opens (Modified on off contents) ≡ opens contents.value
opens-Modified on off contents = ap opens (sym (rolls-Modified on off contents)) ∙ fold-roll-Syntax Opens node_opens (Syntax-F.Modified on off contents)

pub opens-Loop : (loopee : Box Syntax Global) (quant : Quantifier) (groups : Range ℕ) → opens (Loop loopee quant groups) ≡ opens loopee.value
opens-Loop loopee quant groups = ap opens (sym (rolls-Loop loopee quant groups)) ∙ fold-roll-Syntax Opens node_opens (Syntax-F.Loop loopee quant groups)

pub opens-Look : (negated backward : Bool) (contents : Box Syntax Global) (groups : Range ℕ) → opens (Look negated backward contents groups) ≡ with_range groups.start groups.end (opens contents.value)
opens-Look negated backward contents groups = ap opens (sym (rolls-Look negated backward contents groups)) ∙ fold-roll-Syntax Opens node_opens (Syntax-F.Look negated backward contents groups)

pub opens-Reference : (groups : RcSlice ℕ Global) → opens (Reference groups) ≡ opens_none
opens-Reference groups = ap opens (sym (rolls-Reference groups)) ∙ fold-roll-Syntax Opens node_opens (Syntax-F.Reference groups)

pub opens-LineStart : opens LineStart ≡ opens_none
opens-LineStart = ap opens (sym rolls-LineStart) ∙ fold-roll-Syntax Opens node_opens Syntax-F.LineStart

pub opens-LineEnd : opens LineEnd ≡ opens_none
opens-LineEnd = ap opens (sym rolls-LineEnd) ∙ fold-roll-Syntax Opens node_opens Syntax-F.LineEnd

pub opens-WordBoundary : (negated : Bool) → opens (WordBoundary negated) ≡ opens_none
opens-WordBoundary negated = ap opens (sym (rolls-WordBoundary negated)) ∙ fold-roll-Syntax Opens node_opens (Syntax-F.WordBoundary negated)

-- what stands in an alternative, with what a term opens in its place
each-term : (t : Term Syntax) → term_parts (λ f. f) (former-Syntax-Alternative-0-at-2.map Syntax Opens opens t) ≡ term_parts opens t
each-term (Text points) = refl
each-term (One s) = refl

all-terms : (ts : List (Term Syntax)) → flat_map (term_parts (λ f. f)) (map (former-Syntax-Alternative-0-at-2.map Syntax Opens opens) ts) ≡ parts_of ts
all-terms [] = refl
all-terms (t ∷ ts) = λ i. each-term t i ++ all-terms ts i

pub opens-Alternative : (terms : Vec (Term Syntax) Global) → opens (Alternative terms) ≡ in_turn (parts_of terms.items)
opens-Alternative terms =
    ap opens (sym (rolls-Alternative terms)) ∙ fold-roll-Syntax Opens node_opens (Syntax-F.Alternative terms) ∙ ap in_turn (all-terms terms.items)

-- one more part
pub in_turn-push : (fs : List Opens) (f : Opens) (j k l : ℕ) → in_turn fs j ≡ Some k → f k ≡ Some l → in_turn (fs ++ f ∷ []) j ≡ Some l
in_turn-push [] f j k l e h = let same : j ≡ k = cc in ap (option_and_then (in_turn [])) (ap f same ∙ h)
in_turn-push (g ∷ fs) f j k l e h = by_first (g j) (λ m rest. in_turn-push fs f m k l rest h) e
  where
    by_first : (o : Option ℕ) → ((m : ℕ) → in_turn fs m ≡ Some k → in_turn (fs ++ f ∷ []) m ≡ Some l) → option_and_then (in_turn fs) o ≡ Some k
        → option_and_then (in_turn (fs ++ f ∷ [])) o ≡ Some l
    by_first None again e = absurd (cc)
    by_first (Some m) again e = again m e

-- some parts, and then others
pub in_turn-split : (fs gs : List Opens) (j l : ℕ) → in_turn (fs ++ gs) j ≡ Some l → (k : ℕ) × (in_turn fs j ≡ Some k) × (in_turn gs k ≡ Some l)
in_turn-split [] gs j l e = (j, refl, e)
in_turn-split (f ∷ fs) gs j l e = by_first (f j) (λ m rest. in_turn-split fs gs m l rest) e
  where
    by_first : (o : Option ℕ) → ((m : ℕ) → in_turn (fs ++ gs) m ≡ Some l → (k : ℕ) × (in_turn fs m ≡ Some k) × (in_turn gs k ≡ Some l))
        → option_and_then (in_turn (fs ++ gs)) o ≡ Some l → (k : ℕ) × (option_and_then (in_turn fs) o ≡ Some k) × (in_turn gs k ≡ Some l)
    by_first None again e = absurd (cc)
    by_first (Some m) again e = again m e

-- one part alone
pub in_turn-one : (f : Opens) (k : ℕ) → in_turn (f ∷ []) k ≡ f k
in_turn-one f k = by_case (f k)
  where
    by_case : (o : Option ℕ) → option_and_then (in_turn []) o ≡ o
    by_case None = refl
    by_case (Some m) = refl

-- a text opens no group
pub in_turn-none : (cs : List ℕ) (k : ℕ) → in_turn (map (λ (c : ℕ). opens_none) cs) k ≡ Some k
in_turn-none [] k = refl
in_turn-none (c ∷ cs) k = in_turn-none cs k

-- a range that is that of the groups inside
pub in_range : (f : Opens) (j k : ℕ) → f j ≡ Some k → with_range j k f j ≡ Some k
in_range f j k e =
    let first : (j == j) ≡ true = grind (arith, nat_tests) in
    let last : (k == k) ≡ true = grind (arith, nat_tests) in
    ap (option_and_then (λ (l : ℕ). if j == j && k == l then Some l else None)) e ∙ ap₂ (λ (a b : Bool). if a && b then Some k else None) first last

-- and what such a range says
pub out_range : (first last : ℕ) (f : Opens) (j k : ℕ) → with_range first last f j ≡ Some k → (first ≡ j) × (last ≡ k) × (f j ≡ Some k)
out_range first last f j k e = by_found (f j) refl e
  where
    by_tests : (l : ℕ) (a b : Bool) → f j ≡ Some l → (first == j) ≡ a → (last == l) ≡ b → (if a && b then Some l else None) ≡ Some k
        → (first ≡ j) × (last ≡ k) × (f j ≡ Some k)
    by_tests l true true found a b e = let same : l ≡ k = cc in (eqb-true first j a, eqb-true last l b ∙ same, found ∙ ap Some same)
    by_tests l true false found a b e = absurd (cc)
    by_tests l false b found a c e = absurd (cc)

    by_found : (o : Option ℕ) → f j ≡ o → option_and_then (λ (l : ℕ). if first == j && last == l then Some l else None) o ≡ Some k
        → (first ≡ j) × (last ≡ k) × (f j ≡ Some k)
    by_found None found e = absurd (cc)
    by_found (Some l) found e = by_tests l (first == j) (last == l) found refl refl e
