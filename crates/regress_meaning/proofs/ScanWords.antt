-- What the words of a pattern take of a text, as a scan for groups sees it.
use Rattle.std.proofs.Common.{◌≡◌, ℕ, zero, suc, Bool, true, false, not, ◌&&◌, ◌==◌, List, [], ◌∷◌, length, drop, Option, refl, sym, ap₂, eqb, ap, ◌∙◌, subst, eqb-true, is_some, codes}
use Rattle.std.specs.Prelude.{if◌then◌else◌, nat_eq, nat_lt, nat_le}
use Rattle.std.proofs.lemmas.Bool.{and_parts, not-false, ne_eqb, cond_both, true≢false, false≢true}
use Rattle.std.proofs.Math.Bool.{and-false}
use Rattle.std.specs.List.{starts_with}
use Rattle.regress_meaning.specs.Text.{◌∈◌, is_at, span, span_up_to, between}
use Rattle.regress_meaning.specs.Table.{Table, last_code_point}
use Rattle.regress_meaning.specs.Class.{is_digit, is_ascii_word}
use Rattle.regress_meaning.specs.Tokens.{Mode, guard, is_octal, is_hex, is_low, is_high, number_of, decimal_at, braced_end, bounds_at, hex_at, low_half, pair_at, braces_at, unicode_escape, octal_at, name_point, name_rest, name_at, key_at, property_of, property_at, continues_name, begins_name}
use Rattle.regress_meaning.proofs.Inversion.{is_at-eq, Gives, gives-none, gives-some, gives-weaker, gives-if, gives-guard, gives-or, gives-map, gives-then, gives-any}

-- what passes a test at c and not at d tells them apart, either way round
pub differs : (test : ℕ → Bool) (c d : ℕ) → test c ≡ not (test d) → ((c == d) ≡ false) × ((d == c) ≡ false)
differs test c d e = (ne_eqb c d clash, ne_eqb d c (λ p. clash (sym p)))
  where
    other : (b : Bool) → b ≡ not b → ⊥
    other true p = true≢false p
    other false p = false≢true p

    clash : c ≡ d → ⊥
    clash p = other (test d) (sym (ap test p) ∙ e)

-- neither a bracket, an opening parenthesis nor a backslash
abbrev pub is_neutral : ℕ → Bool
is_neutral c = not (c ∈ "([\\]")

-- what passes a test that these four fail is none of them
pub neutral_by : (test : ℕ → Bool) → test 0x28 ≡ false → test 0x5B ≡ false → test 0x5C ≡ false → test 0x5D ≡ false →
    (c : ℕ) → test c ≡ true → is_neutral c ≡ true
neutral_by test p q r s c h = simp (apart 0x28 p, apart 0x5B q, apart 0x5C r, apart 0x5D s)
  where
    apart : (d : ℕ) → test d ≡ false → (d == c) ≡ false
    apart d e = (differs test c d (h ∙ ap not (sym e))).1

-- From t one comes to r by neutral code points, and by pairs of a backslash and a code point that is no `k`.
pub data Passed : List ℕ → List ℕ → Type 0 where
  here : {t : List ℕ} → Passed t t
  plain : {c : ℕ} {t r : List ℕ} → is_neutral c ≡ true → Passed t r → Passed (c ∷ t) r
  pair : {c : ℕ} {t r : List ℕ} → (c == 0x6B) ≡ false → Passed t r → Passed (0x5C ∷ c ∷ t) r

pub passed_trans : {t u r : List ℕ} → Passed t u → Passed u r → Passed t r
passed_trans here h = h
passed_trans (plain e p) h = plain e (passed_trans p h)
passed_trans (pair e p) h = pair e (passed_trans p h)

-- r is the end of t
pub data Behind : List ℕ → List ℕ → Type 0 where
  here : {t : List ℕ} → Behind t t
  past : {c : ℕ} {t r : List ℕ} → Behind t r → Behind (c ∷ t) r

pub behind_trans : {t u r : List ℕ} → Behind t u → Behind u r → Behind t r
behind_trans here h = h
behind_trans (past p) h = past (behind_trans p h)

pub passed-behind : {t r : List ℕ} → Passed t r → Behind t r
passed-behind here = here
passed-behind (plain e p) = past (passed-behind p)
passed-behind (pair e p) = past (past (passed-behind p))

-- a test that no bracket, opening parenthesis or backslash passes
abbrev pub OnlyNeutral : (ℕ → Bool) → Type 0
OnlyNeutral test = (c : ℕ) → test c ≡ true → is_neutral c ≡ true

pub span-passed : (test : ℕ → Bool) → OnlyNeutral test → (t : List ℕ) → Passed t (span test t).1
unfolding span
span-passed test n [] = here
span-passed test n (c ∷ t) =
    let rest = span-passed test n t in
    cond_both (test c) _ _ (λ (cut : List ℕ × List ℕ). Passed (c ∷ t) cut.1) (λ e. plain (n c e) rest) (λ e. here)

pub span_up_to-passed : (k : ℕ) (test : ℕ → Bool) → OnlyNeutral test → (t : List ℕ) → Passed t (span_up_to k test t).1
unfolding span_up_to
span_up_to-passed zero test n t = here
span_up_to-passed (suc k) test n [] = here
span_up_to-passed (suc k) test n (c ∷ t) =
    let rest = span_up_to-passed k test n t in
    cond_both (test c) _ _ (λ (cut : List ℕ × List ℕ). Passed (c ∷ t) cut.1) (λ e. plain (n c e) rest) (λ e. here)

-- one code point that stands at the front
drop_one-passed : (d : ℕ) (t : List ℕ) → is_neutral d ≡ true → is_at (λ c. c == d) t ≡ true → Passed t (drop 1 t)
drop_one-passed d t n e = let found = is_at-eq d t e in subst (λ u. Passed u (drop 1 u)) (sym found.1) (plain n here)

-- a code point that is known, and what is passed behind it
known-passed : (c d : ℕ) {t r : List ℕ} → is_neutral d ≡ true → (c == d) ≡ true → Passed t r → Passed (c ∷ t) r
known-passed c d n e p = plain (ap is_neutral (eqb-true c d e) ∙ n) p

-- what is read leads from t to what follows it, past nothing that a scan would stop at
abbrev pub Leads : {A : Type 0} → List ℕ → Option (A × List ℕ) → Type 0
Leads t o = Gives (λ x. Passed t x.1) o

-- more is read behind what is passed
leads-behind : {A : Type 0} {t u : List ℕ} {o : Option (A × List ℕ)} → Passed t u → Leads u o → Leads t o
leads-behind p h = gives-weaker (λ x q. passed_trans p q) h

pub digits-neutral : OnlyNeutral is_digit
digits-neutral = neutral_by is_digit refl refl refl refl

hex-neutral : OnlyNeutral is_hex
hex-neutral = neutral_by is_hex refl refl refl refl

pub words-neutral : OnlyNeutral is_ascii_word
words-neutral = neutral_by is_ascii_word refl refl refl refl

pub decimal-leads : (t : List ℕ) → Leads t (decimal_at t)
unfolding decimal_at
decimal-leads t = gives-guard (nat_lt 0 (length (span is_digit t).0)) (λ e. gives-some (span-passed is_digit digits-neutral t))

pub hex-leads : (k : ℕ) (t : List ℕ) → Leads t (hex_at k t)
unfolding hex_at
hex-leads k t =
    gives-guard (length (span_up_to k is_hex t).0 == k) (λ e. gives-some (span_up_to-passed k is_hex hex-neutral t))

starts_with-two : (a b : ℕ) (t : List ℕ) → starts_with nat_eq t (a ∷ b ∷ []) ≡ true → (u : List ℕ) × (t ≡ a ∷ b ∷ u)
starts_with-two a b [] e = cc
starts_with-two a b (c ∷ []) e = cc (and-false (eqb a c))
starts_with-two a b (c ∷ d ∷ u) e =
    let parts = and_parts (eqb a c) _ e in
    let more = and_parts (eqb b d) _ parts.1 in
    (u, sym (ap₂ (λ x y. x ∷ y ∷ u) (eqb-true a c parts.0) (eqb-true b d more.0)))

-- behind `\u` and four digits, another `\u` and four digits
low_half-leads : (high : ℕ) (t : List ℕ) → Leads t (low_half high t)
unfolding low_half
low_half-leads high t = gives-guard (starts_with nat_eq t (codes "\\u")) (λ e.
    let start = starts_with-two 0x5C 0x75 t e in
    let digits : Leads t (hex_at 4 (drop 2 t)) = rw start.1 (gives-weaker (λ x p. pair refl p) (hex-leads 4 start.0)) in
    gives-then _ (hex_at 4 (drop 2 t)) digits (λ x p. gives-guard (is_low x.0) (λ low. gives-some p)))

pair-leads : (t : List ℕ) → Leads t (pair_at t)
unfolding pair_at
pair-leads t = gives-then _ (hex_at 4 t) (hex-leads 4 t) (λ x p.
    gives-or (guard (is_high x.0) (low_half x.0 x.1))
    (gives-guard (is_high x.0) (λ e. leads-behind p (low_half-leads x.0 x.1)))
    (gives-some p))

braces-leads : (t : List ℕ) → Leads t (braces_at t)
unfolding braces_at
braces-leads [] = gives-none
braces-leads (c ∷ t) =
    let ds = (span is_hex t).0 in let rest = (span is_hex t).1 in
    let end = λ (d : ℕ). d == 0x7D in
    gives-guard (c == 0x7B && nat_lt 0 (length ds) && is_at end rest && nat_le (number_of 16 ds) last_code_point) (λ e.
    let front = (and_parts _ (nat_le (number_of 16 ds) last_code_point) e).0 in
    let ends = and_parts (c == 0x7B && nat_lt 0 (length ds)) _ front in
    let brace = (and_parts (c == 0x7B) _ ends.0).0 in
    let digits = span-passed is_hex hex-neutral t in
    gives-some (known-passed c 0x7B refl brace (passed_trans digits (drop_one-passed 0x7D rest refl ends.1))))

pub unicode_escape-leads : (t : List ℕ) → Leads t (unicode_escape t)
unfolding unicode_escape
unicode_escape-leads t = gives-or (braces_at t) (braces-leads t) (pair-leads t)

pub octal-leads : (t : List ℕ) → Leads t (octal_at t)
unfolding octal_at
octal-leads t =
    let k = if is_at (between 0x30 0x33) t then 3 else 2 in
    let digits = span_up_to-passed k is_octal (neutral_by is_octal refl refl refl refl) t in
    gives-guard (nat_lt 0 (length (span_up_to k is_octal t).0)) (λ e. gives-some digits)

key-leads : (t : List ℕ) → Leads t (key_at t)
unfolding key_at
key-leads [] = gives-none
key-leads (c ∷ t) =
    let name = (span is_ascii_word t).0 in let r = (span is_ascii_word t).1 in
    let value = (span is_ascii_word (drop 1 r)).0 in let s = (span is_ascii_word (drop 1 r)).1 in
    let end = λ (d : ℕ). d == 0x7D in
    let equals = λ (d : ℕ). d == 0x3D in
    gives-guard (c == 0x7B && nat_lt 0 (length name)) (λ e.
    let brace = (and_parts (c == 0x7B) _ e).0 in
    let front = known-passed c 0x7B refl brace (span-passed is_ascii_word words-neutral t) in
    gives-if (is_at end r) (λ last. gives-some (passed_trans front (drop_one-passed 0x7D r refl last))) (λ no.
    gives-guard (is_at equals r && nat_lt 0 (length value) && is_at end s) (λ f.
    let ends = and_parts (is_at equals r && nat_lt 0 (length value)) _ f in
    let sign = drop_one-passed 0x3D r refl (and_parts (is_at equals r) _ ends.0).0 in
    let word = span-passed is_ascii_word words-neutral (drop 1 r) in
    gives-some (passed_trans front (passed_trans sign (passed_trans word (drop_one-passed 0x7D s refl ends.1)))))))

pub property-leads : (m : Mode) (c : ℕ) (t : List ℕ) → Leads t (property_at m c t)
unfolding property_at
property-leads m c t = gives-then _ (key_at t) (key-leads t) (λ x p. gives-if (c == 0x70)
    (λ e. gives-map _ (property_of m x.0) (gives-any _) (λ s known. p))
    (λ e. gives-guard (is_some (m.table.property x.0)) (λ known. gives-some p)))

braced_end-leads : (n : ℕ) (t : List ℕ) → Leads t (braced_end n t)
braced_end-leads n [] = gives-none
braced_end-leads n (c ∷ t) =
    let end = λ (d : ℕ). d == 0x7D in
    gives-if (c == 0x7D) (λ e. gives-some (known-passed c 0x7D refl e here)) (λ no.
    gives-if (not (c == 0x2C)) (λ e. gives-none) (λ comma.
    let front : Passed (c ∷ t) t = known-passed c 0x2C refl (not-false _ comma) here in
    gives-if (is_at end t) (λ e. gives-some (passed_trans front (drop_one-passed 0x7D t refl e))) (λ more.
    gives-then _ (decimal_at t) (leads-behind front (decimal-leads t)) (λ x p.
    gives-guard (is_at end x.1) (λ e. gives-some (passed_trans p (drop_one-passed 0x7D x.1 refl e)))))))

pub bounds-leads : (t : List ℕ) → Leads t (bounds_at t)
unfolding bounds_at
bounds-leads [] = gives-none
bounds-leads (c ∷ t) =
    gives-if (c == 0x2A) (λ e. gives-some (known-passed c 0x2A refl e here)) (λ no.
    gives-if (c == 0x2B) (λ e. gives-some (known-passed c 0x2B refl e here)) (λ no.
    gives-if (c == 0x3F) (λ e. gives-some (known-passed c 0x3F refl e here)) (λ no.
    gives-if (c == 0x7B) (λ e. gives-then _ (decimal_at t) (decimal-leads t) (λ x p.
    leads-behind (known-passed c 0x7B refl e p) (braced_end-leads x.0 x.1)))
    (λ no. gives-none))))

-- what is read leads from t to an end of t
abbrev pub Ends : {A : Type 0} → List ℕ → Option (A × List ℕ) → Type 0
Ends t o = Gives (λ x. Behind t x.1) o

drop_one-behind : (t : List ℕ) → Behind t (drop 1 t)
drop_one-behind [] = here
drop_one-behind (c ∷ t) = past here

name_point-ends : (t : List ℕ) → Ends t (name_point t)
unfolding name_point
name_point-ends [] = gives-none
name_point-ends (c ∷ t) = gives-if (c == 0x5C)
    (λ e. gives-guard (is_at (λ d. d == 0x75) t) (λ u.
    gives-weaker (λ x p. past (behind_trans (drop_one-behind t) (passed-behind p))) (unicode_escape-leads (drop 1 t))))
    (λ no. gives-some (past here))

name_rest-ends : (table : Table) (n : ℕ) (t : List ℕ) → Ends t (name_rest table n t)
unfolding name_rest
name_rest-ends table zero t = gives-none
name_rest-ends table (suc n) t =
    gives-if (is_at (λ d. d == 0x3E) t) (λ e. gives-some (drop_one-behind t)) (λ no.
    gives-then _ (name_point t) (name_point-ends t) (λ x p. gives-guard (continues_name table x.0) (λ e.
    gives-map _ (name_rest table n x.1) (name_rest-ends table n x.1) (λ y q. behind_trans p q))))

pub name-ends : (table : Table) (t : List ℕ) → Ends t (name_at table t)
unfolding name_at
name-ends table t = gives-then _ (name_point t) (name_point-ends t) (λ x p. gives-guard (begins_name table x.0) (λ e.
    gives-map _ (name_rest table (length x.1) x.1) (name_rest-ends table (length x.1) x.1) (λ y q. behind_trans p q)))
