-- The code points of a pattern's units, one after another, and that they are code points.
use Rattle.std.specs.Prelude.{if◌then◌else◌}
use Rattle.std.proofs.Common.{◌≡◌, ℕ, ◌-◌, ◌<◌, ◌≤◌, Bool, true, false, ◌&&◌, List, [], ◌∷◌, ◌++◌, length, get_or, take, drop, All, refl, sym, ap, ap₂, ◌∙◌, subst, arith, append_assoc, append-nil}
use Rattle.std.proofs.lemmas.List.{take_rest}
use Rattle.std.proofs.lemmas.Bool.Decides.{nat_tests}
use Rattle.std.proofs.lemmas.List.Elements.{All-nil, All-cons, All-head, All-tail}
use Rattle.regress_meaning.specs.TableParts.{is_code_point}
use Rattle.regress_meaning.specs.Tokens.{is_high, is_low, joined}
use Rattle.regress_meaning.specs.Grammar.{holds_a_name}
use Rattle.regress_meaning.specs.Offsets.{characters}
use Rattle.regress_engine_input.proofs.Utf16Texts.{IsShort, are_pair, all_points}
use Rattle.regress_pattern_units.specs.declared.units.Place.{Place}
use Rattle.regress_pattern_units.specs.declared.units.Place.TheVariants.{Outside}
use Rattle.regress_pattern_units.specs.PatternUnits.{place_behind, is_in_name, point_at, scanned_points, pattern_points}

-- one of two points, before what follows it
chosen : (S : List ℕ → List ℕ) (b : Bool) (p u : ℕ) (us vs : List ℕ)
    → (if b then p ∷ S us else u ∷ S vs) ≡ (let q : ℕ × List ℕ = if b then (p, us) else (u, vs) in q.0 ∷ S q.1)
chosen S true p u us vs = refl
chosen S false p u us vs = refl

-- the first character of units
pub characters_step : (u : ℕ) (t : List ℕ) → characters (u ∷ t) ≡ (point_at true u t).0 ∷ characters (point_at true u t).1
unfolding characters
characters_step u [] = refl
characters_step u (v ∷ us) = chosen characters (is_high u && is_low v) (joined u v) u us (v ∷ us)

-- the first code point that a scan tells
pub scanned_step : (named : Bool) (place : Place) (u : ℕ) (t : List ℕ) → scanned_points named place (u ∷ t)
    ≡ (let next = place_behind named place (u ∷ t) in (point_at (is_in_name next) u t).0 ∷ scanned_points named next (point_at (is_in_name next) u t).1)
unfolding scanned_points
scanned_step named place u [] = refl
scanned_step named place u (v ∷ us) =
    let next = place_behind named place (u ∷ v ∷ us) in
    chosen (scanned_points named next) (is_in_name next && is_high u && is_low v) (joined u v) u us (v ∷ us)

-- of no units there are none
pub characters_none : characters [] ≡ []
unfolding characters
characters_none = refl

pub scanned_none : (named : Bool) (place : Place) → scanned_points named place [] ≡ []
unfolding scanned_points
scanned_none named place = refl

-- a list behind its first member
abbrev pub tail : List ℕ → List ℕ
tail xs = take (length xs - 1) (drop 1 xs)

front-tail : (xs : List ℕ) → 1 ≤ length xs → xs ≡ get_or xs 0 0 ∷ tail xs
front-tail [] some = absurd (omega arith)
front-tail (x ∷ xs) some = ap (λ ys. x ∷ ys) (sym (take_rest (x ∷ xs) 1))

-- what is pushed is the first of what followed
pushed : (done more : List ℕ) (p : ℕ) (left rest all : List ℕ) → more ≡ done ++ p ∷ [] → rest ≡ p ∷ left → done ++ rest ≡ all → more ++ left ≡ all
pushed done more p left rest all push first whole = ap (λ xs. xs ++ left) push ∙ append_assoc done (p ∷ []) left ∙ ap (λ xs. done ++ xs) (sym first) ∙ whole

-- the first character is pushed
pub characters-pushed : (rest done more : List ℕ) (p : ℕ) (after all : List ℕ) → 1 ≤ length rest
    → p ≡ (point_at true (get_or rest 0 0) (tail rest)).0 → after ≡ (point_at true (get_or rest 0 0) (tail rest)).1
    → more ≡ done ++ p ∷ [] → done ++ characters rest ≡ all → more ++ characters after ≡ all
characters-pushed rest done more p after all some point behind push whole =
    let first : characters rest ≡ p ∷ characters after =
    ap characters (front-tail rest some) ∙ characters_step (get_or rest 0 0) (tail rest)
    ∙ ap₂ (λ (q : ℕ) (left : List ℕ). q ∷ characters left) (sym point) (sym behind) in
    pushed done more p (characters after) (characters rest) all push first whole

-- and so is the first code point that a scan tells
pub scanned-pushed : (named pairs : Bool) (place next : Place) (rest done more : List ℕ) (p : ℕ) (after all : List ℕ) → 1 ≤ length rest
    → next ≡ place_behind named place rest → pairs ≡ is_in_name next
    → p ≡ (point_at pairs (get_or rest 0 0) (tail rest)).0 → after ≡ (point_at pairs (get_or rest 0 0) (tail rest)).1
    → more ≡ done ++ p ∷ [] → done ++ scanned_points named place rest ≡ all → more ++ scanned_points named next after ≡ all
scanned-pushed named pairs place next rest done more p after all some goes joins point behind push whole =
    let u = get_or rest 0 0 in
    let t = tail rest in
    let goes_on : next ≡ place_behind named place (u ∷ t) = goes ∙ ap (place_behind named place) (front-tail rest some) in
    let step : scanned_points named place (u ∷ t) ≡ (point_at (is_in_name next) u t).0 ∷ scanned_points named next (point_at (is_in_name next) u t).1 =
    subst (λ (n : Place). scanned_points named place (u ∷ t) ≡ (point_at (is_in_name n) u t).0 ∷ scanned_points named n (point_at (is_in_name n) u t).1)
    (sym goes_on) (scanned_step named place u t) in
    let here : p ≡ (point_at (is_in_name next) u t).0 = point ∙ ap (λ (b : Bool). (point_at b u t).0) joins in
    let there : after ≡ (point_at (is_in_name next) u t).1 = behind ∙ ap (λ (b : Bool). (point_at b u t).1) joins in
    let first : scanned_points named place rest ≡ p ∷ scanned_points named next after =
    ap (scanned_points named place) (front-tail rest some) ∙ step
    ∙ ap₂ (λ (q : ℕ) (left : List ℕ). q ∷ scanned_points named next left) (sym here) (sym there) in
    pushed done more p (scanned_points named next after) (scanned_points named place rest) all push first whole

-- at the end all were pushed
pub all-pushed : (told : List ℕ → List ℕ) (rest done all : List ℕ) → length rest < 1 → told [] ≡ [] → done ++ told rest ≡ all → done ≡ all
all-pushed told [] done all short none whole = sym (append-nil done) ∙ ap (λ xs. done ++ xs) (sym none) ∙ whole
all-pushed told (x ∷ rest) done all short none whole = absurd (omega arith)

-- by mode
pub unicode-points : (unicode : Bool) (units : List ℕ) → unicode ≡ true → pattern_points unicode units ≡ characters units
unfolding pattern_points
unicode-points true units e = refl
unicode-points false units e = absurd (cc)

pub plain-points : (unicode : Bool) (units : List ℕ) → unicode ≡ false → pattern_points unicode units ≡ scanned_points (holds_a_name false false units) Outside units
unfolding pattern_points
plain-points true units e = absurd (cc)
plain-points false units e = refl

-- a pair is a code point
pair-within : (u v : ℕ) → are_pair u v ≡ true → is_code_point (joined u v)
pair-within u v h = grind (arith, nat_tests)

joined-within : (b : Bool) (u v : ℕ) → (b && is_high u && is_low v) ≡ true → is_code_point (joined u v)
joined-within true u v h = pair-within u v h
joined-within false u v h = absurd (cc)

all-chosen : (b : Bool) (p u : ℕ) (ps us : List ℕ) → (b ≡ true → is_code_point p) → IsShort u → All is_code_point ps → All is_code_point us
    → All is_code_point (if b then p ∷ ps else u ∷ us)
all-chosen true p u ps us pair short here there = All-cons is_code_point p ps (pair refl) here
all-chosen false p u ps us pair short here there = All-cons is_code_point u us (omega (arith, short)) there

-- what a scan tells are code points
scanned-within : (named : Bool) (place : Place) (units : List ℕ) → All IsShort units → All is_code_point (scanned_points named place units)
unfolding scanned_points
scanned-within named place [] short = All-nil is_code_point
scanned-within named place (u ∷ []) short = let h = All-head IsShort u [] short in All-cons is_code_point u [] (omega (arith, h)) (All-nil is_code_point)
scanned-within named place (u ∷ v ∷ us) short =
    let next = place_behind named place (u ∷ v ∷ us) in
    let tail = All-tail IsShort u (v ∷ us) short in
    all-chosen (is_in_name next && is_high u && is_low v) (joined u v) u (scanned_points named next us) (scanned_points named next (v ∷ us))
    (joined-within (is_in_name next) u v) (All-head IsShort u (v ∷ us) short)
    (scanned-within named next us (All-tail IsShort v us tail)) (scanned-within named next (v ∷ us) tail)

-- what units of a pattern stand for are code points
pub pattern-within : (unicode : Bool) (units : List ℕ) → All IsShort units → All is_code_point (pattern_points unicode units)
unfolding pattern_points
pattern-within true units short = all_points units short
pattern-within false units short = scanned-within (holds_a_name false false units) Outside units short
