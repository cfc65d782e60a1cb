-- What an escape is, by the code points that it begins with.
use Rattle.std.proofs.Common.{◌≡◌, ℕ, zero, suc, ◌-◌, ◌<◌, ◌≤◌, ◌==◌, ◌&&◌, not, Bool, true, false, nat_lt, nat_le, min, List, [], ◌∷◌, length, drop, Option, Some, None, Result, Ok, Err, is_some, refl, sym, ap, subst, ◌∙◌, ◌⊎◌, inl, inr, arith, eqb-true}
use Rattle.std.specs.Prelude.{if◌then◌else◌, option_map, option_and_then}
use Rattle.std.specs.Option.{option_or}
use Rattle.std.proofs.lemmas.Bool.{cases_Bool, lt-ltb}
use Rattle.std.proofs.Math.Bool.{and-false}
use Rattle.std.proofs.lemmas.List.{length-map}
use Rattle.std.proofs.lemmas.Option.{some_pair_parts}
use Rattle.std.proofs.lemmas.Bool.Decides.{nat_tests}
use Rattle.regress_meaning.specs.Text.{◌∈◌, is_at, span, span_up_to, between}
use Rattle.regress_meaning.specs.Class.{Class, property, sequences, complement, is_digit, is_letter, is_ascii_word}
use Rattle.regress_meaning.specs.Tokens.{Mode, Reads, Escape, point, set, groups, guard, as_point, is_octal, greatest, class_letter, control, control_letter, hex_at, unicode_escape, octal_at, decimal_at, key_at, name_at, numbers_from, property_of, property_at, named_reference, octal_or_digit, decimal_escape, identity, escape_at, class_escape_at}
use Rattle.regress_meaning.proofs.Inversion.{is_at-eq, option-cases}
use Rattle.regress_meaning.proofs.ScanWords.{differs}
use Rattle.regress_front_core.specs.declared.error.Error.{Error}
use Rattle.regress_front_core.specs.declared.error.Error.TheVariants.{Syntax, TooDeep, TooManyGroups, TooManyLoops, TooLarge, OutOfMemory}
use Rattle.regress_front_tokens.specs.Readings.{IsNext, IsReading, IsRead}
use Rattle.regress_front_tokens.specs.Escapes.{from_first, class_control, mode_view}
use Rattle.regress_front_tokens.specs.declared.mode.Mode as declared
use Rattle.regress_front_tokens.specs.Words.{count_at}
use Rattle.regress_front_tokens.proofs.TokenLemmas.{some_length}

-- the same is read by a definition at one text and by another at another text
pub IsRead-along : {A B : Type 0} (view : A → B) (reads : Reads B) (t : List ℕ) (others : Reads B) (u : List ℕ) (r : Result A Error) (rest : List ℕ) → reads t ≡ others u → IsRead view others u r rest → IsRead view reads t r rest
IsRead-along view reads t others u (Ok x) rest e h = e ∙ h
IsRead-along view reads t others u (Err (Syntax message)) rest e h = e ∙ h
IsRead-along view reads t others u (Err OutOfMemory) rest e h = tt
IsRead-along view reads t others u (Err TooDeep) rest e h = h
IsRead-along view reads t others u (Err TooManyGroups) rest e h = h
IsRead-along view reads t others u (Err TooManyLoops) rest e h = h
IsRead-along view reads t others u (Err TooLarge) rest e h = h

-- the same is read by a definition that is the same there
pub IsRead-same : {A B : Type 0} (view : A → B) (reads others : Reads B) (t : List ℕ) (r : Result A Error) (rest : List ℕ) → reads t ≡ others t → IsRead view others t r rest → IsRead view reads t r rest
IsRead-same view reads others t r rest e h = IsRead-along view reads t others t r rest e h

pub reading-some : {A B : Type 0} (view : A → B) (reads : Reads B) (t : List ℕ) {o : Option A} (x : A) (rest : List ℕ) → o ≡ Some x → IsReading view reads t o rest → reads t ≡ Some (view x, rest)
reading-some view reads t x rest e h = subst (λ o. IsReading view reads t o rest) e h

pub reading-none : {A B : Type 0} (view : A → B) (reads : Reads B) (t : List ℕ) {o : Option A} (rest : List ℕ) → o ≡ None → IsReading view reads t o rest → (reads t ≡ None) × (rest ≡ t)
reading-none view reads t rest e h = subst (λ o. IsReading view reads t o rest) e h

-- what fails where something else fails, with the same error
pub IsRead-fails : {A B C D : Type 0} (view : A → B) (reads : Reads B) (t : List ℕ) (e : Error) (rest : List ℕ) (view' : C → D) (others : Reads D) (u : List ℕ) (rest' : List ℕ) →
    IsRead view reads t (Err e) rest → (reads t ≡ None → others u ≡ None) → IsRead view' others u (Err e) rest'
IsRead-fails view reads t (Syntax message) rest view' others u rest' h f = f h
IsRead-fails view reads t OutOfMemory rest view' others u rest' h f = tt
IsRead-fails view reads t TooDeep rest view' others u rest' h f = absurd h
IsRead-fails view reads t TooManyGroups rest view' others u rest' h f = absurd h
IsRead-fails view reads t TooManyLoops rest view' others u rest' h f = absurd h
IsRead-fails view reads t TooLarge rest view' others u rest' h f = absurd h

-- behind the next code point
pub next-drop : (t : List ℕ) (o : Option ℕ) (rest : List ℕ) → IsNext t o rest → rest ≡ drop 1 t
next-drop t None rest h = rw (h.0, h.1) refl
next-drop t (Some c) rest h = rw h refl

-- a digit and a code point that is none
not_letter : (c d : ℕ) → is_digit c ≡ true → is_digit d ≡ false → (c == d) ≡ false
not_letter c d h e = (differs is_digit c d (h ∙ ap not (sym e))).0

-- an octal number begins with an octal digit
front-none : (n : ℕ) (test : ℕ → Bool) (c : ℕ) (t : List ℕ) → test c ≡ false → span_up_to n test (c ∷ t) ≡ ([], c ∷ t)
unfolding span_up_to
front-none zero test c t h = refl
front-none (suc n) test c t h = rw h refl

front-some : (n : ℕ) (test : ℕ → Bool) (c : ℕ) (t : List ℕ) → test c ≡ true → nat_lt 0 (length (span_up_to (suc n) test (c ∷ t)).0) ≡ true
unfolding span_up_to
front-some n test c t h = rw h (lt-ltb 0 _ (omega arith))

octal_at-nothing : octal_at [] ≡ None
unfolding octal_at span_up_to
octal_at-nothing = refl

octal_at-other : (c : ℕ) (t : List ℕ) → is_octal c ≡ false → octal_at (c ∷ t) ≡ None
unfolding octal_at
octal_at-other c t h = rw (front-none _ is_octal c t h) refl

octal_length-some : (b : Bool) (c : ℕ) (t : List ℕ) → is_octal c ≡ true → nat_lt 0 (length (span_up_to (if b then 3 else 2) is_octal (c ∷ t)).0) ≡ true
octal_length-some true c t h = front-some 2 is_octal c t h
octal_length-some false c t h = front-some 1 is_octal c t h

octal_at-digit : (c : ℕ) (t : List ℕ) → is_octal c ≡ true → octal_at (c ∷ t) ≡ None → ⊥
unfolding octal_at
octal_at-digit c t h e = let clash = rw (octal_length-some (between 0x30 0x33 c) c t h) at e in cc

-- a number that is counted, as it stands there
counted : (o : Option (ℕ × List ℕ)) {k : ℕ} {r : List ℕ} → option_map {U = ℕ × List ℕ} (λ (n, s). (min n greatest, s)) o ≡ Some (k, r) → (n : ℕ) × (o ≡ Some (n, r)) × (k ≡ min n greatest)
counted None e = cc
counted (Some (n, s)) e = let parts = some_pair_parts _ _ _ _ e in (n, ap (λ x. Some (n, x)) parts.1, sym parts.0)

count-some : (t : List ℕ) {k : ℕ} {r : List ℕ} → count_at t ≡ Some (k, r) → (n : ℕ) × (decimal_at t ≡ Some (n, r)) × (k ≡ min n greatest)
count-some t e = counted (decimal_at t) e

count-small : (t : List ℕ) {k : ℕ} {r : List ℕ} → count_at t ≡ Some (k, r) → k ≤ 65535 → decimal_at t ≡ Some (k, r)
count-small t {k} {r} e h =
    let is = count-some t e in
    let same : is.0 ≡ k = omega (arith, is.2) in
    subst (λ n. decimal_at t ≡ Some (n, r)) same is.1

count-none : (t : List ℕ) → count_at t ≡ None → decimal_at t ≡ None
count-none t e = elim (option-cases (decimal_at t)) [ inl none ↦ none | inr some ↦ let clash = rw some.1 at e in cc ]

count-clash : (t : List ℕ) {x : ℕ × List ℕ} → count_at t ≡ Some x → decimal_at t ≡ None → ⊥
count-clash t e none = let clash = rw none at e in cc

decimal_at-nothing : decimal_at [] ≡ None
unfolding decimal_at span
decimal_at-nothing = refl

-- what passes, or something else
or-passed : {A : Type 0} (b : Bool) (x : A) (o : Option A) → (if b then guard b (Some x) else o) ≡ option_or (guard b (Some x)) o
or-passed true x o = refl
or-passed false x o = refl

-- a control letter in a class, or something else
or-control : (a u : Bool) (t : List ℕ) (o : Option (Escape × List ℕ)) →
    (if a && not u && is_at is_ascii_word t then control_letter is_ascii_word t else o) ≡ option_or (guard (not u && a) (control_letter is_ascii_word t)) o
or-control false true t o = refl
or-control false false t o = refl
or-control true true t o = refl
or-control true false [] o = refl
or-control true false (c ∷ t) o = or-passed (is_ascii_word c) _ o

-- a code point that is known, or something else
known_k : (c : ℕ) (named : Bool) (t : List ℕ) (o : Option (Escape × List ℕ)) →
    (if c == 0x6B then guard (not named) (Some (point c, t)) else o) ≡ (if c == 0x6B then guard (not named) (Some (point 0x6B, t)) else o)
known_k c named t o = elim (cases_Bool (c == 0x6B)) [
  | inl e ↦ let k = eqb-true c 0x6B e in ap (λ d. if c == 0x6B then guard (not named) (Some (point d, t)) else o) k
  | inr e ↦ rw e refl
]

-- whether something is found does not depend on how it is seen
is_some-map : {A B : Type 0} (f : A → B) (o : Option A) → is_some (option_map f o) ≡ is_some o
is_some-map f None = refl
is_some-map f (Some x) = refl

-- what was looked up is there or not
pub looked_up : {A B : Type 0} (found : List ℕ → Option B) (f : A → B) (o : Option A) {text key : List ℕ} → option_map f o ≡ found text → text ≡ key → is_some o ≡ is_some (found key)
looked_up found f o e same = sym (is_some-map f o) ∙ ap is_some e ∙ ap (λ k. is_some (found k)) same

-- each group has a name, which may be empty
pub length-names : (mode : declared.Mode) → length (mode_view mode).names ≡ length mode.names.items
length-names mode = length-map _ _

module _ (m : Mode) where
  pub escape_at-control : (t : List ℕ) → is_at (λ c. c == 0x63) t ≡ true → escape_at m t ≡ option_or (control_letter is_letter (drop 1 t)) (guard (not m.unicode) (Some (point 0x5C, t)))
  unfolding escape_at
  escape_at-control t h = let found = is_at-eq 0x63 t h in rw found.1 refl

  pub escape_at-zero : (t : List ℕ) → true ≡ is_at (λ c. c == 0x30) t → escape_at m t ≡ (if is_at is_digit (drop 1 t) then from_first (octal_or_digit m) t else Some (point 0, drop 1 t))
  unfolding escape_at
  escape_at-zero t h = let found = is_at-eq 0x30 t (sym h) in rw found.1 refl

  pub escape_at-digit : (t : List ℕ) → is_at is_digit t ≡ true → false ≡ is_at (λ c. c == 0x30) t → escape_at m t ≡ from_first (decimal_escape m) t
  unfolding escape_at
  escape_at-digit [] h k = cc
  escape_at-digit (c ∷ t) h k =
      rw (
        not_letter c 0x64 h refl,
        not_letter c 0x44 h refl,
        not_letter c 0x73 h refl,
        not_letter c 0x53 h refl,
        not_letter c 0x77 h refl,
        not_letter c 0x57 h refl,
        not_letter c 0x66 h refl,
        not_letter c 0x6E h refl,
        not_letter c 0x72 h refl,
        not_letter c 0x74 h refl,
        not_letter c 0x76 h refl,
        not_letter c 0x63 h refl,
        ← k,
        h,
      ) refl

  pub escape_at-x : (t : List ℕ) → true ≡ is_at (λ c. c == 0x78) t → escape_at m t ≡ option_or (as_point (hex_at 2 (drop 1 t))) (from_first (identity m) t)
  unfolding escape_at
  escape_at-x t h = let found = is_at-eq 0x78 t (sym h) in rw found.1 refl

  pub escape_at-u : (t : List ℕ) → is_at (λ c. c ∈ "xu") t ≡ true → false ≡ is_at (λ c. c == 0x78) t →
      escape_at m t ≡ option_or (as_point (if m.unicode then unicode_escape (drop 1 t) else hex_at 4 (drop 1 t))) (from_first (identity m) t)
  unfolding escape_at
  escape_at-u [] h k = cc
  escape_at-u (c ∷ t) h k =
      let letter : 0x75 ≡ c = grind (arith, nat_tests) in
      rw (← letter) refl

  -- `\k` where names are read, and where they are not
  module _ (t : List ℕ) (k : true ≡ is_at (λ c. c == 0x6B) t) where
    pub escape_at-named : m.named ≡ true → escape_at m t ≡ named_reference m (drop 1 t)
    unfolding escape_at
    escape_at-named named = let found = is_at-eq 0x6B t (sym k) in rw (found.1, named) refl

    pub escape_at-k : m.named ≡ false → escape_at m t ≡ Some (point 0x6B, drop 1 t)
    unfolding escape_at
    escape_at-k plain = let found = is_at-eq 0x6B t (sym k) in rw (found.1, plain) refl

  escape_at-p : (t : List ℕ) → is_at (λ c. c ∈ "kpP") t ≡ true → false ≡ is_at (λ c. c == 0x6B) t →
      escape_at m t ≡ (if m.unicode then option_map (λ (s, r). (set s, r)) (from_first (property_at m) t) else from_first (identity m) t)
  unfolding escape_at
  escape_at-p [] h k = cc
  escape_at-p (c ∷ t) h k =
      let letter : (0x70 ≡ c) ⊎ (0x50 ≡ c) = grind (arith, nat_tests) in
      elim letter [ inl e ↦ rw (← e) refl | inr e ↦ rw (← e) refl ]

  -- `\p` and `\P` in Unicode mode and outside it
  module _ (t : List ℕ) (letter : is_at (λ c. c ∈ "kpP") t ≡ true) (p : false ≡ is_at (λ c. c == 0x6B) t) where
    pub escape_at-property : m.unicode ≡ true → escape_at m t ≡ option_map (λ (s, r). (set s, r)) (from_first (property_at m) t)
    escape_at-property unicode = rw (escape_at-p t letter p, unicode) refl

    pub escape_at-letter : m.unicode ≡ false → escape_at m t ≡ from_first (identity m) t
    escape_at-letter plain = rw (escape_at-p t letter p, plain) refl

  pub property_at-is : (t : List ℕ) → from_first (property_at m) t ≡ option_and_then (λ (key, r).
      if is_at (λ c. c == 0x70) t then option_map (λ s. (s, r)) (property_of m key)
      else guard (is_some (m.table.property key)) (Some (complement (property key), r))) (key_at (drop 1 t))
  unfolding property_at key_at
  property_at-is [] = refl
  property_at-is (c ∷ t) = refl

  -- no key, no property
  pub property-no_key : (t : List ℕ) → key_at (drop 1 t) ≡ None → from_first (property_at m) t ≡ None
  property-no_key t none = rw (property_at-is, none) refl

  module _ (t key r : List ℕ) (read : key_at (drop 1 t) ≡ Some (key, r)) where
    pub property-positive : true ≡ is_at (λ c. c == 0x70) t → is_some (m.table.property key) ≡ true → from_first (property_at m) t ≡ Some (property key, r)
    property-positive p known = rw (property_at-is, read, ← p, known) refl

    pub property-negative : false ≡ is_at (λ c. c == 0x70) t → is_some (m.table.property key) ≡ true → from_first (property_at m) t ≡ Some (complement (property key), r)
    property-negative p known = rw (property_at-is, read, ← p, known) refl

    pub property-sequences : true ≡ is_at (λ c. c == 0x70) t → is_some (m.table.property key) ≡ false → m.sets ≡ true → is_some (m.table.sequences key) ≡ true → from_first (property_at m) t ≡ Some (sequences key, r)
    property-sequences p unknown sets known = rw (property_at-is, read, ← p, unknown, sets, known) refl

    pub property-unknown : is_some (m.table.property key) ≡ false → (is_at (λ c. c == 0x70) t && m.sets && is_some (m.table.sequences key)) ≡ false → from_first (property_at m) t ≡ None
    property-unknown unknown none = elim (cases_Bool (is_at (λ c. c == 0x70) t)) [
      | inl p ↦ rw (property_at-is, read, p, unknown, rw p at none) refl
      | inr p ↦ rw (property_at-is, read, p, unknown) refl
    ]

  -- behind `\k`: no name, a name that no group has, a name
  pub named-no_angle : (t : List ℕ) → false ≡ is_at (λ d. d == 0x3C) t → named_reference m t ≡ None
  unfolding named_reference
  named-no_angle t e = rw (← e) refl

  pub named-no_name : (t : List ℕ) → true ≡ is_at (λ d. d == 0x3C) t → name_at m.table (drop 1 t) ≡ None → named_reference m t ≡ None
  unfolding named_reference
  named-no_name t e none = rw (← e, none) refl

  pub named-no_group : (t name r ks : List ℕ) → true ≡ is_at (λ d. d == 0x3C) t → name_at m.table (drop 1 t) ≡ Some (name, r) → ks ≡ numbers_from 0 name m.names → (length ks == 0) ≡ true → named_reference m t ≡ None
  unfolding named_reference
  named-no_group t name r ks e read is none = rw (← e, read, ← is, some_length, none) refl

  pub named-groups : (t name r ks : List ℕ) → true ≡ is_at (λ d. d == 0x3C) t → name_at m.table (drop 1 t) ≡ Some (name, r) → ks ≡ numbers_from 0 name m.names → (length ks == 0) ≡ false → named_reference m t ≡ Some (groups ks, r)
  unfolding named_reference
  named-groups t name r ks e read is some = rw (← e, read, ← is, some_length, some) refl

  pub octal_or_digit-unicode : (t : List ℕ) → m.unicode ≡ true → from_first (octal_or_digit m) t ≡ None
  unfolding octal_or_digit
  octal_or_digit-unicode [] h = refl
  octal_or_digit-unicode (c ∷ t) h = rw h refl

  pub octal_or_digit-octal : (t : List ℕ) {p : ℕ} {r : List ℕ} → m.unicode ≡ false → octal_at t ≡ Some (p, r) → from_first (octal_or_digit m) t ≡ Some (point p, r)
  unfolding octal_or_digit
  octal_or_digit-octal [] h e = let none = octal_at-nothing in cc
  octal_or_digit-octal (c ∷ t) h e = elim (cases_Bool (is_octal c)) [
    | inl octal ↦ rw (h, octal, e) refl
    | inr other ↦ let none = octal_at-other c t other in cc
  ]

  pub octal_or_digit-digit : (t : List ℕ) (c : ℕ) (r : List ℕ) → m.unicode ≡ false → octal_at t ≡ None → t ≡ c ∷ r → from_first (octal_or_digit m) t ≡ Some (point c, r)
  unfolding octal_or_digit
  octal_or_digit-digit t c r h none e = elim (cases_Bool (is_octal c)) [
    | inl octal ↦ absurd (octal_at-digit c r octal (rw e at none))
    | inr other ↦ rw (e, h, other) refl
  ]

  -- what is no number, is none that is counted
  pub decimal_escape-none : (t : List ℕ) → count_at t ≡ None → from_first (decimal_escape m) t ≡ None
  unfolding decimal_escape
  decimal_escape-none [] e = refl
  decimal_escape-none (c ∷ t) e = rw (count-none (c ∷ t) e) refl

  -- the number of a group
  pub decimal_escape-group : (t : List ℕ) {k : ℕ} {r : List ℕ} → count_at t ≡ Some (k, r) → k ≤ length m.names → length m.names ≤ 65535 → from_first (decimal_escape m) t ≡ Some (groups ((k - 1) ∷ []), r)
  unfolding decimal_escape
  decimal_escape-group [] e h few = let none = decimal_at-nothing in absurd (count-clash [] e none)
  decimal_escape-group (c ∷ t) {k = k} e h few =
      let is = count-small (c ∷ t) e (omega arith) in
      let there : nat_le k (length m.names) ≡ true = grind (arith, nat_tests) in
      rw (is, there) refl

  -- a number greater than that of any group
  pub decimal_escape-other : (t : List ℕ) {k : ℕ} {r : List ℕ} → count_at t ≡ Some (k, r) → length m.names < k → from_first (decimal_escape m) t ≡ from_first (octal_or_digit m) t
  unfolding decimal_escape
  decimal_escape-other [] e h = refl
  decimal_escape-other (c ∷ t) e h =
      let is = count-some (c ∷ t) e in
      let n = is.0 in
      let past : nat_le n (length m.names) ≡ false = grind (arith, nat_tests) in
      rw (is.1, past) refl

  pub escape_at-none : (t : List ℕ) → t ≡ [] → escape_at m t ≡ None
  unfolding escape_at
  escape_at-none t e = rw e refl

  pub escape_at-set : (t : List ℕ) (c : ℕ) (r : List ℕ) (s : Class) → t ≡ c ∷ r → class_letter c ≡ Some s → escape_at m t ≡ Some (set s, r)
  unfolding escape_at
  escape_at-set t c r s e class = rw (e, class) refl

  pub escape_at-point : (t : List ℕ) (c : ℕ) (r : List ℕ) (d : ℕ) → t ≡ c ∷ r → class_letter c ≡ None → control c ≡ Some d → escape_at m t ≡ Some (point d, r)
  unfolding escape_at
  escape_at-point t c r d e class letter = rw (e, class, letter) refl

  identity-cons : (c : ℕ) (r : List ℕ) → class_letter c ≡ None → control c ≡ None → false ≡ (c == 0x63) → false ≡ is_digit c → false ≡ (c ∈ "xu") → false ≡ (c ∈ "kpP") → escape_at m (c ∷ r) ≡ identity m c r
  unfolding escape_at
  identity-cons c r class letter not_c not_digit not_xu not_kp =
      let other = λ (d : ℕ). differs (λ k. k ∈ "xu") c d in
      let no_name = λ (d : ℕ). differs (λ k. k ∈ "kpP") c d in
      rw (
        class,
        letter,
        ← not_c,
        (differs is_digit c 0x30 (sym not_digit)).0,
        ← not_digit,
        (other 0x78 (sym not_xu)).0,
        (other 0x75 (sym not_xu)).0,
        (no_name 0x6B (sym not_kp)).0,
        (no_name 0x70 (sym not_kp)).0,
        (no_name 0x50 (sym not_kp)).0,
      ) refl

  -- an escape of no other kind
  pub escape_at-identity : (t : List ℕ) (c : ℕ) (r : List ℕ) → t ≡ c ∷ r → class_letter c ≡ None → control c ≡ None → false ≡ is_at (λ d. d == 0x63) t → false ≡ is_at is_digit t →
      false ≡ is_at (λ d. d ∈ "xu") t → false ≡ is_at (λ d. d ∈ "kpP") t → escape_at m t ≡ from_first (identity m) t
  escape_at-identity t c r e class letter not_c not_digit not_xu not_kp =
      rw e (identity-cons c r class letter (rw e at not_c) (rw e at not_digit) (rw e at not_xu) (rw e at not_kp))

  -- an escape in a class, by the next code point
  pub class_escape_at-is : (t : List ℕ) → class_escape_at m t ≡ (
      if is_at (λ c. c == 0x62) t then Some (point 8, drop 1 t)
      else if is_at (λ c. c == 0x2D) t then Some (point 0x2D, drop 1 t)
      else option_or (class_control m t) (
      if is_at is_digit t && not (is_at (λ c. c == 0x30) t) then from_first (octal_or_digit m) t
      else if is_at (λ c. c == 0x6B) t then guard (not m.named) (Some (point 0x6B, drop 1 t))
      else escape_at m t))
  unfolding class_escape_at
  class_escape_at-is [] = rw (and-false, escape_at-none [] refl) refl
  class_escape_at-is (c ∷ t) = rw (or-control, known_k) refl
