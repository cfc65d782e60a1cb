-- How answers for the parts of a text make an answer for the whole.
use Rattle.std.proofs.Common.{◌≡◌, ◌==◌, ℕ, ◌+◌, ◌≤◌, Bool, true, false, ◌&&◌, nat_le, List, [], ◌∷◌, drop, Option, Some, None, option_and_then, Result, Ok, Err, refl, sym, subst, ◌∙◌, arith}
use Rattle.regress_meaning.specs.Text.{is_at}
use Rattle.regress_meaning.specs.Pattern.{Pattern}
use Rattle.regress_meaning.specs.Tokens.{Bounds, bounds_at, guard}
use Rattle.regress_meaning.specs.Limits.{depth, quantifiers, opens_nesting, opens_group, opens_quantifier}
use Rattle.regress_meaning.specs.Reading.{Front, bounded, quantified, closed, closed_and_quantified}
use Rattle.regress_front_core.specs.declared.error.Error.{Error}
use Rattle.regress_front_core.specs.declared.error.Error.TheVariants.{Syntax as SyntaxError, TooDeep, TooManyGroups, TooManyLoops, TooLarge, OutOfMemory}
use Rattle.regress_front_tokens.specs.declared.syntax.Syntax.{Syntax}
use Rattle.regress_front_tokens.proofs.CountLemmas.{count-less}
use Rattle.regress_front_syntax.specs.Parsing.{Place, Leads, Grows, IsRefusal, IsAnswer, contents_of}

-- a place, by its parts
abbrev pub at : ℕ → ℕ → ℕ → List ℕ → Place
at n k r t = record { nesting = n; opened = k; repeated = r; text = t }

-- What is read here was read on the way there, and is no smaller.
pub record Within (here there : Place) (read inner : Option Front) : Type 0 where
  pub fronts : (f : Front) → read ≡ Some f → (g : Front) × (inner ≡ Some g) × (there.nesting + depth g.tree ≤ here.nesting + depth f.tree) × (g.opened ≤ f.opened) × (there.repeated + quantifiers g.tree ≤ here.repeated + quantifiers f.tree)
  pub leads : Leads here there

-- what is refused there is refused here
pub refused_within : {here there : Place} {read inner : Option Front} (e : Error) → Within here there read inner → IsRefusal there inner e → IsRefusal here read e
refused_within {here} {there} {read} {inner} (SyntaxError text) w none = nothing read refl
  where
    nothing : (o : Option Front) → read ≡ o → o ≡ None
    nothing None e = refl
    nothing (Some f) e = let (g, found, deeper, opened, repeated) = w.fronts f e in cc
refused_within {here} {there} {read} {inner} TooDeep w (deep, counted) =
    ((λ f e. let (g, found, deeper, opened, repeated) = w.fronts f e in let bound = deep g found in omega arith), (let nested = w.leads.nested in omega arith))
refused_within {here} {there} {read} {inner} TooManyGroups w (many, counted) =
    ((λ f e. let (g, found, deeper, opened, repeated) = w.fronts f e in let bound = many g found in omega arith), (let grouped = w.leads.grouped in omega arith))
refused_within {here} {there} {read} {inner} TooManyLoops w (many, counted) =
    ((λ f e. let (g, found, deeper, opened, repeated) = w.fronts f e in let bound = many g found in omega arith), (let looped = w.leads.looped in omega arith))
refused_within TooLarge w r = r
refused_within OutOfMemory w r = r

pub Leads_refl : (here : Place) → Leads here here
Leads_refl here = record { nested = omega arith; grouped = omega arith; looped = omega arith }

pub Leads_trans : {a b c : Place} → Leads a b → Leads b c → Leads a c
Leads_trans {a} {b} {c} x y = record {
  nested = (let p = x.nested in let q = y.nested in omega arith);
  grouped = (let p = x.grouped in let q = y.grouped in omega arith);
  looped = (let p = x.looped in let q = y.looped in omega arith);
}

-- behind one more code point
pub Leads_mark : (n k r c : ℕ) (t : List ℕ) → Leads (at n k r (c ∷ t)) (at n k r t)
Leads_mark n k r c t =
    let nesting = count-less opens_nesting c t in
    let groups = count-less opens_group c t in
    let loops = count-less opens_quantifier c t in
    record { nested = omega arith; grouped = omega arith; looped = omega arith }

pub Leads_drop : (n k r : ℕ) (t : List ℕ) → Leads (at n k r t) (at n k r (drop 1 t))
Leads_drop n k r [] = Leads_refl (at n k r [])
Leads_drop n k r (c ∷ t) = Leads_mark n k r c t

-- what was read from there is read from here, where nothing was read in between
pub Grows-there : {here there next : Place} {p : Pattern} → Leads here there → there.nesting ≡ here.nesting → there.opened ≡ here.opened → there.repeated ≡ here.repeated → Grows there next p → Grows here next p
Grows-there {here} {there} {next} {p} leads level same repeated g = record {
  counted = (let counted = g.counted in omega arith);
  deep = (let deep = g.deep in omega arith);
  loops = (let loops = g.loops in omega arith);
  leads = Leads_trans leads g.leads;
}

within_itself : {here there : Place} (read : Option Front) → Leads here there → there.nesting ≡ here.nesting → there.repeated ≡ here.repeated → Within here there read read
within_itself {here} {there} read leads level repeated = record { fronts = λ f e. (f, e, omega arith, omega arith, omega arith); leads = leads }

pub answer_there : (here there next : Place) (read : Option Front) (result : Result Syntax Error) → Leads here there → there.nesting ≡ here.nesting → there.opened ≡ here.opened → there.repeated ≡ here.repeated
    → IsAnswer there next read result → IsAnswer here next read result
answer_there here there next read (Ok s) leads level same repeated (found, grows) = (found, Grows-there leads level same repeated grows)
answer_there here there next read (Err e) leads level same repeated refusal = refused_within e (within_itself read leads level repeated) refusal

-- an answer for what is read, by an equation
pub answer_same : (here next : Place) (read other : Option Front) (result : Result Syntax Error) → other ≡ read → IsAnswer here next read result → IsAnswer here next other result
answer_same here next read other result e a = subst (λ o. IsAnswer here next o result) (sym e) a

-- What is done with a front keeps how deep it is and how many groups it opened, and takes no quantifier away.
pub record Keeps (finish : Front → Option Front) : Type 0 where
  pub kept : (f g : Front) → finish f ≡ Some g → (g.opened ≡ f.opened) × (depth g.tree ≡ depth f.tree) × (quantifiers f.tree ≤ quantifiers g.tree)

bounded-keeps : (allowed : Bool) (k : ℕ) (f g : Front) (o : Option (Bounds × List ℕ)) → bounded allowed k f o ≡ Some g → (g.opened ≡ f.opened) × (depth g.tree ≡ depth f.tree) × (quantifiers f.tree ≤ quantifiers g.tree)
unfolding bounded
bounded-keeps allowed k f g None e = let same : f ≡ g = cc in rw (← same) (refl, refl, omega arith)
bounded-keeps allowed k f g (Some (b, r)) e = given (allowed && nat_le b.least b.most) _ refl refl (omega arith) e
  where
    given : (t : Bool) (h : Front) → h.opened ≡ f.opened → depth h.tree ≡ depth f.tree → quantifiers f.tree ≤ quantifiers h.tree → guard t (Some h) ≡ Some g
        → (g.opened ≡ f.opened) × (depth g.tree ≡ depth f.tree) × (quantifiers f.tree ≤ quantifiers g.tree)
    given false h opened deep loops e = absurd (cc)
    given true h opened deep loops e = let same : h ≡ g = cc in rw (← same) (opened, deep, loops)

pub quantified-keeps : (allowed : Bool) (k : ℕ) → Keeps (quantified allowed k)
unfolding quantified
quantified-keeps allowed k = record { kept = λ f g e. bounded-keeps allowed k f g (bounds_at f.rest) e }

pub Some-keeps : Keeps (λ f. Some f)
Some-keeps = record { kept = λ f g e. let same : f ≡ g = cc in rw (← same) (refl, refl, omega arith) }

-- with no quantifier behind it a front stays as it is
pub quantified-none : (allowed : Bool) (k : ℕ) (f : Front) → bounds_at f.rest ≡ None → quantified allowed k f ≡ Some f
unfolding quantified bounded
quantified-none allowed k f h = rw h refl

-- a front with a tree around its own
abbrev pub wrapped : (Pattern → Pattern) → Front → Front
wrapped wrap f = record { tree = wrap f.tree; opened = f.opened; rest = f.rest }

-- a tree in parentheses, by its contents
pub closed-contents : (finish : Front → Option Front) (wrap : Pattern → Pattern) (o : Option Front) →
    option_and_then finish (option_and_then (closed wrap) o) ≡ option_and_then (λ (f : Front). finish (wrapped wrap f)) (contents_of o)
unfolding closed
closed-contents finish wrap None = refl
closed-contents finish wrap (Some f) = go (is_at (λ c. c == 0x29) f.rest)
  where
    go : (b : Bool) → option_and_then finish (guard b (Some (record { tree = wrap f.tree; opened = f.opened; rest = drop 1 f.rest })))
        ≡ option_and_then (λ (g : Front). finish (wrapped wrap g)) (guard b (Some (record { tree = f.tree; opened = f.opened; rest = drop 1 f.rest })))
    go true = refl
    go false = refl

-- with its quantifier
pub quantified-contents : (allowed : Bool) (k : ℕ) (wrap : Pattern → Pattern) (o : Option Front) →
    closed_and_quantified allowed k wrap o ≡ option_and_then (λ (f : Front). quantified allowed k (wrapped wrap f)) (contents_of o)
unfolding closed_and_quantified
quantified-contents allowed k wrap None = refl
quantified-contents allowed k wrap (Some f) = closed-contents (quantified allowed k) wrap (Some f)

-- without
pub closed-alone : (wrap : Pattern → Pattern) (o : Option Front) → option_and_then (closed wrap) o ≡ option_and_then (λ (f : Front). Some (wrapped wrap f)) (contents_of o)
closed-alone wrap o = itself (option_and_then (closed wrap) o) ∙ closed-contents (λ f. Some f) wrap o
  where
    itself : (x : Option Front) → x ≡ option_and_then (λ f. Some f) x
    itself None = refl
    itself (Some f) = refl
