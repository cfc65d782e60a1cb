-- How a class without `v` is read: member by member, behind those that were read before.
use Rattle.std.proofs.Common.{◌≡◌, ℕ, zero, suc, ◌+◌, ◌<◌, ◌≤◌, ◌==◌, Bool, true, false, not, nat_le, List, [], ◌∷◌, ◌++◌, length, map, drop, Option, Some, None, option_map, option_and_then, Result, Ok, Err, refl, sym, ap, ap₂, ◌∙◌, arith, length-drop, Vec, Global}
use Rattle.std.specs.Option.{option_zip}
use Rattle.std.proofs.lemmas.List.{map-append}
use Rattle.std.proofs.lemmas.Bool.{le-leb}
use Rattle.regress_meaning.specs.Text.{is_at}
use Rattle.regress_meaning.specs.Class.{Class, no_string, range, union}
use Rattle.regress_meaning.specs.Tokens.{Mode, Reads, Escape, point, set, groups, guard, class_escape_at}
use Rattle.regress_meaning.specs.Grammar.{class_of, member_class, dash_before_member}
use Rattle.regress_meaning.specs.ReadingClass.{closes_class, read_member, dashed, read_members}
use Rattle.regress_meaning.specs.Laws.{LeavesLess}
use Rattle.regress_front_core.specs.declared.error.Error.{Error}
use Rattle.regress_front_core.specs.declared.error.Error.TheVariants.{Syntax, TooDeep, TooManyGroups, TooManyLoops, TooLarge, OutOfMemory}
use Rattle.regress_front_tokens.specs.declared.syntax.Class.{Class as ClassValue}
use Rattle.regress_front_tokens.specs.declared.syntax.Class.TheVariants.{Union}
use Rattle.regress_front_tokens.specs.Readings.{IsRead}
use Rattle.regress_front_tokens.specs.Trees.{class_view, union_of}
use Rattle.regress_front_tokens.proofs.ClassViews.{class_view-Union}
use Rattle.regress_front_classes.specs.Classes.{point_of, union_before, members_at, AddsDashed}

-- an escape leaves no more of the text than stands behind its backslash, and another member leaves what follows it
member_leaves : (escaped closes : Bool) (o : Option (Escape × List ℕ)) (c : ℕ) (t : List ℕ) (e : Escape) (r : List ℕ) → (o ≡ Some (e, r) → length r < length t + 1)
    → ◌≡◌ {A = Option (Escape × List ℕ)} (elim escaped [ true ↦ o | false ↦ elim closes [ true ↦ None | false ↦ Some (point c, t) ] ]) (Some (e, r)) → length r < length t + 1
member_leaves true closes o c t e r less h = less h
member_leaves false true o c t e r less h = cc
member_leaves false false o c t e r less h =
    let same : ◌≡◌ {A = Escape × List ℕ} (point c, t) (e, r) = cc in
    let left : length t ≡ length r = ap (λ (p : Escape × List ℕ). length p.1) same in omega (arith, left)

-- each member takes at least one code point
pub read_member-shorter : (m : Mode) → ((u : List ℕ) → LeavesLess m u) → (t : List ℕ) (e : Escape) (r : List ℕ) → read_member m t ≡ Some (e, r) → length r < length t
unfolding read_member
read_member-shorter m less [] e r h = cc
read_member-shorter m less (c ∷ t) e r h = omega (arith, member_leaves (c == 0x5C) (c == 0x5D) (class_escape_at m t) c t e r ((less t).class_escape e r) h)

-- the class of a member before what was read behind it
abbrev pub with_member : Class → Class × List ℕ → Class × List ℕ
with_member a x = (union a x.0, x.1)

-- members go on behind a dash
abbrev dashed_on : Mode → Escape → Option (Escape × List ℕ) → Reads Class → Option (Class × List ℕ)
dashed_on m d o next = option_and_then (λ (e, v). option_and_then (λ (s, r). option_map (λ k. (k, r)) (dashed m d e s)) (next v)) o

-- members go on behind the first
abbrev members_on : Mode → Option (Escape × List ℕ) → Reads Class → Option (Class × List ℕ)
members_on m o next = option_and_then (λ (d, u). elim (dash_before_member u) [
  | true ↦ dashed_on m d (read_member m (drop 1 u)) next
  | false ↦ option_map (with_member (member_class d)) (next u)
]) o

dashed_on-same : (m : Mode) (d : Escape) (o : Option (Escape × List ℕ)) (f g : Reads Class) → ((e : Escape) (v : List ℕ) → o ≡ Some (e, v) → f v ≡ g v) → dashed_on m d o f ≡ dashed_on m d o g
dashed_on-same m d None f g h = refl
dashed_on-same m d (Some (e, v)) f g h = rw (h e v refl) refl

-- two ways to go on that are the same from what was read on
members_on-same : (m : Mode) (o : Option (Escape × List ℕ)) (f g : Reads Class) → ((d : Escape) (u : List ℕ) → o ≡ Some (d, u) → f u ≡ g u)
    → ((d e : Escape) (u v : List ℕ) → o ≡ Some (d, u) → read_member m (drop 1 u) ≡ Some (e, v) → f v ≡ g v) → members_on m o f ≡ members_on m o g
members_on-same m None f g h k = refl
members_on-same m (Some (d, u)) f g h k =
    ap₂ (λ (a b : Option (Class × List ℕ)). elim (dash_before_member u) [ true ↦ a | false ↦ b ])
    (dashed_on-same m d (read_member m (drop 1 u)) f g (λ e v. k d e u v refl))
    (ap (option_map (with_member (member_class d))) (h d u refl))

-- more fuel changes nothing
members-steady : (m : Mode) → ((u : List ℕ) → LeavesLess m u) → (n k : ℕ) (t : List ℕ) → length t < n → length t < k → read_members m n t ≡ read_members m k t
unfolding read_members
members-steady m less zero k t a b = absurd (omega arith)
members-steady m less (suc n) zero t a b = absurd (omega arith)
members-steady m less (suc n) (suc k) t a b =
    let first : (d : Escape) (u : List ℕ) → read_member m t ≡ Some (d, u) → length u < length t = read_member-shorter m less t in
    ap (λ (o : Option (Class × List ℕ)). elim (closes_class t) [ true ↦ Some (no_string, drop 1 t) | false ↦ o ])
    (members_on-same m (read_member m t) (read_members m n) (read_members m k)
    (λ d u read. members-steady m less n k u (omega (arith, first d u read)) (omega (arith, first d u read)))
    (λ d e u v read next.
    let second = read_member-shorter m less (drop 1 u) e v next in
    members-steady m less n k v (omega (arith, first d u read, second, length-drop 1 u)) (omega (arith, first d u read, second, length-drop 1 u))))

-- a member, by what it begins with

pub read_member-escape : (m : Mode) (t : List ℕ) → is_at (λ c. c == 0x5C) t ≡ true → read_member m t ≡ class_escape_at m (drop 1 t)
unfolding read_member
read_member-escape m [] h = cc
read_member-escape m (c ∷ t) h = rw (read_member, h) refl

pub read_member-bracket : (m : Mode) (t : List ℕ) → is_at (λ c. c == 0x5C) t ≡ false → is_at (λ c. c == 0x5D) t ≡ true → read_member m t ≡ None
unfolding read_member
read_member-bracket m [] h k = cc
read_member-bracket m (c ∷ t) h k = rw (read_member, h, k) refl

pub read_member-end : (m : Mode) (t : List ℕ) → t ≡ [] → read_member m t ≡ None
unfolding read_member
read_member-end m t e = rw e refl

pub read_member-itself : (m : Mode) (t : List ℕ) (c : ℕ) (r : List ℕ) → is_at (λ c. c == 0x5C) t ≡ false → is_at (λ c. c == 0x5D) t ≡ false → t ≡ c ∷ r → read_member m t ≡ Some (point c, r)
unfolding read_member
read_member-itself m t c r h k e =
    let no_backslash = ap (is_at (λ d. d == 0x5C)) (sym e) ∙ h in
    let no_bracket = ap (is_at (λ d. d == 0x5D)) (sym e) ∙ k in
    ap (read_member m) e ∙ rw (read_member, no_backslash, no_bracket) refl

-- the class of two members with a dash between them before what was read behind them
abbrev pub with_dashed : Mode → Escape → Escape → Class × List ℕ → Option (Class × List ℕ)
with_dashed m d e x = option_map (λ (k : Class). (k, x.1)) (dashed m d e x.0)

-- members, by what stands at their front

pub members_at-closed : (m : Mode) (t : List ℕ) → closes_class t ≡ true → members_at m t ≡ Some (no_string, drop 1 t)
unfolding read_members
members_at-closed m t h = rw (read_members, h) refl

pub members_at-none : (m : Mode) (t : List ℕ) → closes_class t ≡ false → read_member m t ≡ None → members_at m t ≡ None
unfolding read_members
members_at-none m t goes_on none = rw (read_members, goes_on, none) refl

pub members_at-alone : (m : Mode) → ((u : List ℕ) → LeavesLess m u) → (t u : List ℕ) (d : Escape) → closes_class t ≡ false → read_member m t ≡ Some (d, u) → dash_before_member u ≡ false
    → members_at m t ≡ option_map (with_member (member_class d)) (members_at m u)
unfolding read_members
members_at-alone m less t u d goes_on read alone =
    let below = read_member-shorter m less t d u read in
    rw (read_members, goes_on, read) (rw (option_and_then, alone) (ap (option_map (with_member (member_class d))) (members-steady m less (length t) (suc (length u)) u below (omega arith))))

pub members_at-no_second : (m : Mode) (t u : List ℕ) (d : Escape) → closes_class t ≡ false → read_member m t ≡ Some (d, u) → dash_before_member u ≡ true
    → read_member m (drop 1 u) ≡ None → members_at m t ≡ None
unfolding read_members
members_at-no_second m t u d goes_on read dash none = rw (read_members, goes_on, read) (rw (option_and_then, dash, none) refl)

pub members_at-dashed : (m : Mode) → ((u : List ℕ) → LeavesLess m u) → (t u v : List ℕ) (d e : Escape) → closes_class t ≡ false → read_member m t ≡ Some (d, u) → dash_before_member u ≡ true
    → read_member m (drop 1 u) ≡ Some (e, v) → members_at m t ≡ option_and_then (with_dashed m d e) (members_at m v)
unfolding read_members
members_at-dashed m less t u v d e goes_on read dash next =
    let first = read_member-shorter m less t d u read in
    let second = read_member-shorter m less (drop 1 u) e v next in
    rw (read_members, goes_on, read) (rw (option_and_then, dash, next)
    (ap (option_and_then (with_dashed m d e)) (members-steady m less (length t) (suc (length v)) v (omega (arith, first, second, length-drop 1 u)) (omega arith))))

-- the classes that were read so far before what was read behind them
abbrev pub before : List Class → Class × List ℕ → Class × List ℕ
before ks x = (union_before ks x.0, x.1)

pub union_before-push : (ks : List Class) (a s : Class) → union_before (ks ++ a ∷ []) s ≡ union_before ks (union a s)
union_before-push [] a s = refl
union_before-push (k ∷ ks) a s = ap (union k) (union_before-push ks a s)

pub union_of-before : (ks : List Class) → union_of ks ≡ union_before ks no_string
union_of-before [] = refl
union_of-before (k ∷ ks) = ap (union k) (union_of-before ks)

-- nothing was read before
pub before-none : (o : Option (Class × List ℕ)) → o ≡ option_map (before []) o
before-none None = refl
before-none (Some x) = refl

-- one more member was read
pub before-alone : (ks : List Class) (a : Class) (o : Option (Class × List ℕ)) → option_map (before ks) (option_map (with_member a) o) ≡ option_map (before (ks ++ a ∷ [])) o
before-alone ks a None = refl
before-alone ks a (Some x) = ap (λ (s : Class). Some (s, x.1)) (sym (union_before-push ks a x.0))

carried : (f : Class → Class) (r : List ℕ) (p : Option Class) (y : Class) → option_map f p ≡ Some y → option_map {U = Class × List ℕ} (λ (x : Class × List ℕ). (f x.0, x.1)) (option_map {U = Class × List ℕ} (λ (k : Class). (k, r)) p) ≡ Some (y, r)
carried f r None y e = cc
carried f r (Some k) y e = let same : f k ≡ y = cc in ap (λ (s : Class). Some (s, r)) same

-- two more members were read, with a dash between them
pub before-dashed : (m : Mode) (d e : Escape) (ks ls : List Class) (o : Option (Class × List ℕ)) → ((s : Class) → option_map (union_before ks) (dashed m d e s) ≡ Some (union_before ls s))
    → option_map (before ks) (option_and_then (with_dashed m d e) o) ≡ option_map (before ls) o
before-dashed m d e ks ls None h = refl
before-dashed m d e ks ls (Some x) h = carried (union_before ks) x.1 (dashed m d e x.0) (union_before ls x.0) (h x.0)

-- two members that may not stand so
pub dashed-refused : (m : Mode) (d e : Escape) (o : Option (Class × List ℕ)) → ((s : Class) → dashed m d e s ≡ None) → option_and_then (with_dashed m d e) o ≡ None
dashed-refused m d e None h = refl
dashed-refused m d e (Some x) h = ap (option_map (λ (k : Class). (k, x.1))) (h x.0)

-- the members up to the bracket
pub before-closed : (members : Vec ClassValue Global) (o : Option (Class × List ℕ)) (r : List ℕ) → o ≡ Some (no_string, r) → option_map (before (map class_view members.items)) o ≡ Some (class_view (Union members), r)
before-closed members o r e =
    ap (option_map (before (map class_view members.items))) e
    ∙ ap (λ (s : Class). Some (s, r)) (sym (class_view-Union members ∙ union_of-before (map class_view members.items)))

-- What is read there is read here.
pub IsRead-there : {A B : Type 0} (view : A → B) (here there : Reads B) (t u : List ℕ) (result : Result A Error) (r : List ℕ) → here t ≡ there u → IsRead view there u result r → IsRead view here t result r
IsRead-there view here there t u (Ok x) r e h = e ∙ h
IsRead-there view here there t u (Err (Syntax message)) r e h = e ∙ h
IsRead-there view here there t u (Err OutOfMemory) r e h = h
IsRead-there view here there t u (Err TooDeep) r e h = h
IsRead-there view here there t u (Err TooManyGroups) r e h = h
IsRead-there view here there t u (Err TooManyLoops) r e h = h
IsRead-there view here there t u (Err TooLarge) r e h = h

-- What stops a part stops the whole.
pub IsRead-stopped : {A B C D : Type 0} (part : A → B) (whole : C → D) (there : Reads B) (here : Reads D) (t u r s : List ℕ) (e : Error) → (there u ≡ None → here t ≡ None) → IsRead part there u (Err e) r → IsRead whole here t (Err e) s
IsRead-stopped part whole there here t u r s (Syntax message) f h = f h
IsRead-stopped part whole there here t u r s OutOfMemory f h = h
IsRead-stopped part whole there here t u r s TooDeep f h = h
IsRead-stopped part whole there here t u r s TooManyGroups f h = h
IsRead-stopped part whole there here t u r s TooManyLoops f h = h
IsRead-stopped part whole there here t u r s TooLarge f h = h

-- The same where two members may not stand with a dash between them.
pub AddsDashed-stopped : (A : Type 0) {B C : Type 0} (m : Mode) (d f : Escape) (old new : List ClassValue) (view : B → C) (here : Reads C) (t s : List ℕ) (e : Error)
    → (((k : Class) → dashed m d f k ≡ None) → here t ≡ None) → AddsDashed {A = A} m d f old new (Err e) → IsRead view here t (Err e) s
AddsDashed-stopped A m d f old new view here t s (Syntax message) g h = g h
AddsDashed-stopped A m d f old new view here t s OutOfMemory g h = h
AddsDashed-stopped A m d f old new view here t s TooDeep g h = h
AddsDashed-stopped A m d f old new view here t s TooManyGroups g h = h
AddsDashed-stopped A m d f old new view here t s TooManyLoops g h = h
AddsDashed-stopped A m d f old new view here t s TooLarge g h = h

-- two code points with a dash between them are a range
dashed-ends : (m : Mode) (d e : Escape) (a b : ℕ) → option_zip (point_of d) (point_of e) ≡ Some (a, b) → (s : Class) → dashed m d e s ≡ guard (nat_le a b) (Some (union (range a b) s))
dashed-ends m (point x) (point y) a b h s =
    let same : ◌≡◌ {A = ℕ × ℕ} (x, y) (a, b) = cc in
    let first : x ≡ a = ap (λ (p : ℕ × ℕ). p.0) same in
    let last : y ≡ b = ap (λ (p : ℕ × ℕ). p.1) same in
    rw (first, last) refl
dashed-ends m (point x) (set y) a b h s = cc
dashed-ends m (point x) (groups y) a b h s = cc
dashed-ends m (set x) e a b h s = cc
dashed-ends m (groups x) e a b h s = cc

-- others are members beside the dash
dashed-apart : (m : Mode) (d e : Escape) → option_zip (point_of d) (point_of e) ≡ None → (s : Class) → dashed m d e s ≡ guard (not m.unicode) (Some (union (member_class d) (union (class_of 0x2D) (union (member_class e) s))))
dashed-apart m (point x) (point y) h s = cc
dashed-apart m (point x) (set y) h s = refl
dashed-apart m (point x) (groups y) h s = refl
dashed-apart m (set x) e h s = refl
dashed-apart m (groups x) e h s = refl

-- one class was added to those before
added : (old : List ClassValue) (k : ClassValue) (a s : Class) → class_view k ≡ a → union_before (map class_view (old ++ k ∷ [])) s ≡ union_before (map class_view old) (union a s)
added old k a s view = rw (map-append, union_before-push) (ap (λ (a : Class). union_before (map class_view old) (union a s)) view)

pub AddsDashed-range : (m : Mode) (d e : Escape) (a b : ℕ) (old new : List ClassValue) (k : ClassValue) → option_zip (point_of d) (point_of e) ≡ Some (a, b) → a ≤ b → class_view k ≡ range a b → new ≡ old ++ k ∷ []
    → (s : Class) → option_map (union_before (map class_view old)) (dashed m d e s) ≡ Some (union_before (map class_view new) s)
AddsDashed-range m d e a b old new k ends ordered view new_is s =
    rw (dashed-ends m d e a b ends s, le-leb a b ordered, new_is) (ap Some (sym (added old k (range a b) s view)))

pub AddsDashed-loose : (m : Mode) (d e : Escape) (old one two new : List ClassValue) (j k l : ClassValue) → option_zip (point_of d) (point_of e) ≡ None → m.unicode ≡ false
    → class_view j ≡ member_class d → class_view k ≡ class_of 0x2D → class_view l ≡ member_class e → one ≡ old ++ j ∷ [] → two ≡ one ++ k ∷ [] → new ≡ two ++ l ∷ []
    → (s : Class) → option_map (union_before (map class_view old)) (dashed m d e s) ≡ Some (union_before (map class_view new) s)
AddsDashed-loose m d e old one two new j k l apart legacy first dash last one_is two_is new_is s =
    rw (dashed-apart m d e apart s, legacy, new_is, two_is, one_is) (ap Some (sym (
    added ((old ++ j ∷ []) ++ k ∷ []) l (member_class e) s last
    ∙ added (old ++ j ∷ []) k (class_of 0x2D) (union (member_class e) s) dash
    ∙ added old j (member_class d) (union (class_of 0x2D) (union (member_class e) s)) first)))
