-- What is foretold of trees.
use lib.Pointwise.{bytes_decides}
use Rattle.std.proofs.Common.{◌≡◌, ℕ, zero, suc, ◌+◌, ◌-◌, ◌<◌, ◌≤◌, Bool, true, false, ◌&&◌, ◌||◌, List, [], ◌∷◌, ◌++◌, length, take, drop, get_or, map, slice_get, slice_range, nat_le, Option, Some, None, IfSome, All, Vec, Global, encode_utf8_all, if◌then◌else◌, refl, sym, ap, subst, ◌∙◌, arith}
use Rattle.std.specs.Prelude.{encode_utf8, ◌==◌, nat_eq}
use Rattle.std.specs.List.{list_all}
use Rattle.std.proofs.lemmas.Bool.{leb-true, eqb-true, eq-eqb}
use Rattle.std.proofs.lemmas.List.Folds.{list_any_at}
use Rattle.regress_meaning.specs.Table.{Table}
use Rattle.std.proofs.Math.Bool.{or-false}
use Rattle.std.proofs.lemmas.List.{take-append-drop, take_at, length-take-le, length-drop}
use Rattle.std.proofs.lemmas.List.Elements.{All-nil, All-cons, All-append, All-map, All-head, All-tail, All-take, All-drop}
use Rattle.std.proofs.lemmas.Str.{encodes-append, encodes-chars}
use Rattle.std.specs.Str.{chars, IsUtf8}
use Rattle.regress_meaning.specs.TableParts.{is_code_point}
use Rattle.regress_meaning.specs.Text.{same_text, holds}
use Rattle.regress_meaning.specs.Meaning.{State, Forward, Outcomes, Context, beside, stepped, step, cleared, iterations, looked, captured, keep_if, is_some_and, same_all}
use Rattle.regress_meaning.proofs.StepLaws.{All-flat_map}
use Rattle.regress_front_bytes.specs.declared.bitmaps.ByteBitmap.{ByteBitmap}
use Rattle.regress_front_bytes.specs.Bitmaps.{byte_bitmap_contains}
use Rattle.regress_front_nodes.specs.Trees.{Tree, tree, anchor_of, empty, goal, char, bytes, byte_set, char_set, cat, cat_of, no_part, alt, line_start, line_end, boundary, capture, bracket, string_set, submatch, lookaround, atomic, loop, single_loop}
use Rattle.regress_front_nodes.specs.TreeMeaning.{bracket_has, one, node_outcomes, direction}
use Rattle.regress_front_nodes.specs.WellFormed.{AreLawful}
use Rattle.regress_front_nodes.specs.declared.node.AnchorType.{AnchorType}
use Rattle.regress_front_nodes.specs.declared.node.AnchorType.TheVariants.{StartOfLine, EndOfLine}
use Rattle.regress_front_nodes.specs.declared.node.Node.{Node}
use Rattle.regress_front_bytes.proofs.TextLemmas.{chars-code_points}
use Rattle.regress_engine_prefix.specs.FirstBytes.{AreFirstOf, MayLead, begins_one, AreFirstOfStrings}
use Rattle.regress_engine_prefix.specs.Prefixes.{IsLawful, first_literal, HasBytes, Holds, HoldsFrom, IsWeaker, LeadsCharacters, Foretells}
use Rattle.regress_engine_prefix.specs.declared.prefix.Prefix.{Prefix}
use Rattle.regress_engine_prefix.specs.declared.prefix.Prefix.TheVariants.{Still, Unknown, Start, Bytes, First, Pair}
use Rattle.regress_engine_prefix.proofs.LeadLemmas.{MayLead-of, MayLead-first, AreFirstOf-same, first-in, has-lead}
use Rattle.regress_front_sets.proofs.FirstByteLemmas.{lead}

-- but for `Still` it does not matter where the match ends
elsewhere : (p : Prefix) → (p ≡ Still → ⊥) → (place : ℕ) (bs : List ℕ) (e f : ℕ) → Holds p place bs e → Holds p place bs f
elsewhere Still other place bs e f h = absurd (other refl)
elsewhere Unknown other place bs e f h = h
elsewhere Start other place bs e f h = h
elsewhere (Bytes v) other place bs e f h = h
elsewhere (First m) other place bs e f h = h
elsewhere (Pair m n) other place bs e f h = h

-- what holds of a state's only outcome
one-state : (Q : State → Type 0) (s : State) → Q s → All Q (s ∷ [])
one-state Q s h = All-cons Q s [] h (All-nil Q)

keeps : (Q : State → Type 0) (b : Bool) (s : State) → (b ≡ true → Q s) → All Q (keep_if b s)
keeps Q true s h = one-state Q s (h refl)
keeps Q false s h = All-nil Q

-- ---- what takes nothing

Still-from : (t : Tree) → IfSome (first_literal t) (HasBytes Still) → ((context : Context) (s : State) → All (λ u. u.place ≡ s.place) (node_outcomes context t Forward s)) → Foretells Still t
Still-from t spelled h = record { each = λ context valid s. h context s; leads = tt; spelled = spelled }

pub Foretells-empty : Foretells Still empty
unfolding node_outcomes
Foretells-empty = Still-from empty tt (λ context s. one-state (λ u. u.place ≡ s.place) s refl)

pub Foretells-goal : Foretells Still goal
unfolding node_outcomes
Foretells-goal = Still-from goal tt (λ context s. one-state (λ u. u.place ≡ s.place) s refl)

pub Foretells-no_part : Foretells Still no_part
unfolding node_outcomes
Foretells-no_part = Still-from no_part tt (λ context s. one-state (λ u. u.place ≡ s.place) s refl)

pub Foretells-boundary : (inverted folded : Bool) → Foretells Still (boundary inverted folded)
unfolding node_outcomes
Foretells-boundary inverted folded = Still-from (boundary inverted folded) tt (λ context s. keeps (λ u. u.place ≡ s.place) _ s (λ e. refl))

pub Foretells-line_end : (multiline : Bool) → Foretells Still (line_end multiline)
unfolding node_outcomes
Foretells-line_end multiline = Still-from (line_end multiline) tt (λ context s. keeps (λ u. u.place ≡ s.place) _ s (λ e. refl))

pub Foretells-line_start : (multiline : Bool) → Foretells Still (line_start multiline)
unfolding node_outcomes
Foretells-line_start multiline = Still-from (line_start multiline) tt (λ context s. keeps (λ u. u.place ≡ s.place) _ s (λ e. refl))

looked-still : (negated : Bool) (s : State) (ts : List State) → All (λ u. u.place ≡ s.place) (looked negated s ts)
looked-still true s [] = one-state (λ u. u.place ≡ s.place) s refl
looked-still true s (t ∷ ts) = All-nil (λ u. u.place ≡ s.place)
looked-still false s [] = All-nil (λ u. u.place ≡ s.place)
looked-still false s (t ∷ ts) = one-state (λ u. u.place ≡ s.place) (record s { groups = t.groups }) refl

pub Foretells-look : (negated backward : Bool) (first last : ℕ) (a : Tree) → Foretells Still (submatch (lookaround negated backward) first last a)
unfolding node_outcomes
Foretells-look negated backward first last a =
    Still-from (submatch (lookaround negated backward) first last a) tt (λ context s. looked-still negated s (node_outcomes context a (direction backward) s))

-- ---- a start that is not of a line

at-start : (b : Bool) (n : ℕ) → (b ≡ true → n ≡ 0) → (b || false) ≡ true → n ≡ 0
at-start true n h e = h refl
at-start false n h e = absurd (cc)

pub Foretells-start : Foretells Start (line_start false)
unfolding node_outcomes
Foretells-start = record {
  each = λ context valid s. keeps (λ u. s.place ≡ 0) (s.place == 0 || false) s (λ e. at-start (s.place == 0) s.place (eqb-true s.place 0) e);
  leads = tt;
  spelled = tt;
}

-- ---- nothing is known

pub Foretells-unknown : (t : Tree) → IfSome (first_literal t) (HasBytes Unknown) → Foretells Unknown t
Foretells-unknown t spelled = record { each = λ context valid s k d h. tt; leads = tt; spelled = spelled }

-- ---- steps over characters

module _ (w : Context) (valid : All is_code_point w.text) (s : State) where
  -- what holds where the text goes on with characters that pass
  pub step-told : (Q : Type 0) (k : ℕ) (test : List ℕ → Bool)
      → ((cs rest : List ℕ) → All is_code_point cs → test cs ≡ true → drop s.place w.text ≡ cs ++ rest → length cs ≡ k → Q)
      → All (λ (u : State). Q) (step w Forward k test s)
  unfolding step beside
  step-told Q k test told = by_room (nat_le (s.place + k) (length w.text)) refl
    where
      taken : ℕ
      taken = s.place + k - s.place

      behind : List ℕ
      behind = drop s.place w.text

      by_test : (b : Bool) (t : State) → (b ≡ true → Q) → All (λ (u : State). Q) (if b then t ∷ [] else [])
      by_test true t h = one-state (λ u. Q) t (h refl)
      by_test false t h = All-nil (λ (u : State). Q)

      by_room : (b : Bool) → nat_le (s.place + k) (length w.text) ≡ b
          → (let found : Option (List ℕ × ℕ) = Some (slice_range w.text s.place (s.place + k), s.place + k) in All (λ (u : State). Q) (stepped test s (if b then found else None)))
      by_room false e = All-nil (λ (u : State). Q)
      by_room true e =
          let room = leb-true (s.place + k) (length w.text) e in
          by_test (test (take (s.place + k - s.place) (drop s.place w.text))) (record s { place = s.place + k })
          (λ passes. told (take (s.place + k - s.place) (drop s.place w.text)) (drop (s.place + k - s.place) (drop s.place w.text))
          (All-take is_code_point (s.place + k - s.place) (drop s.place w.text) (All-drop is_code_point s.place w.text valid)) passes
          (sym (take-append-drop (s.place + k - s.place) (drop s.place w.text)))
          (length-take-le (s.place + k - s.place) (drop s.place w.text) (omega (arith, length-drop s.place w.text)) ∙ omega arith))

pub slice_get-front : (xs ys : List ℕ) (b : ℕ) → slice_get xs 0 ≡ Some b → slice_get (xs ++ ys) 0 ≡ Some b
slice_get-front [] ys b e = absurd (cc)
slice_get-front (x ∷ xs) ys b e = e

some-passes : (o : Option ℕ) (b : ℕ) (test : ℕ → Bool) → o ≡ Some b → test b ≡ true → is_some_and o test ≡ true
some-passes o b test e h = rw e h

-- the first byte of the text from a place on, where a character that passes stands
first-told : (test set : ℕ → Bool) → AreFirstOf test set → (text cs rest : List ℕ) → All is_code_point cs → list_all test cs ≡ true
    → text ≡ cs ++ rest → length cs ≡ 1 → is_some_and (slice_get (encode_utf8_all text) 0) set ≡ true
first-told test set first text [] rest points passes is size = absurd (omega arith)
first-told test set first text (c ∷ d ∷ cs) rest points passes is size = absurd (omega arith)
first-told test set first text (c ∷ []) rest points passes is size =
    rw is (some-passes _ (lead c) set (slice_get-front (encode_utf8 c) (encode_utf8_all rest) (lead c) (has-lead c))
    (first-in test set first c (All-head is_code_point c [] points) (only (test c) passes) (lead c) (has-lead c)))
  where
    only : (b : Bool) → (b && true) ≡ true → b ≡ true
    only true e = refl
    only false e = e

-- what takes one character begins with a first byte
pub Foretells-one : (t : Tree) (test : ℕ → Bool) (set : ByteBitmap) → IfSome (first_literal t) (HasBytes (First set)) → ((context : Context) (s : State) → node_outcomes context t Forward s ≡ one context Forward test s)
    → AreFirstOf test (byte_bitmap_contains set) → Foretells (First set) t
Foretells-one t test set spelled steps first = record {
  each = λ context valid s. subst (HoldsFrom (First set) context s) (sym (steps context s))
      (step-told context valid s (is_some_and (slice_get (encode_utf8_all (drop s.place context.text)) 0) (byte_bitmap_contains set) ≡ true) 1 (list_all test)
      (λ cs rest points passes is size. first-told test (byte_bitmap_contains set) first (drop s.place context.text) cs rest points passes is size));
  leads = MayLead-of test (byte_bitmap_contains set) first;
  spelled = spelled;
}

pub Foretells-char : (c : ℕ) (set : ByteBitmap) → AreFirstOf (holds (c ∷ [])) (byte_bitmap_contains set) → Foretells (First set) (char c)
unfolding node_outcomes
Foretells-char c set first =
    Foretells-one (char c) (nat_eq c) set tt (λ context s. refl) (AreFirstOf-same (holds (c ∷ [])) (nat_eq c) (byte_bitmap_contains set) (λ d below. or-false (nat_eq c d)) first)

pub Foretells-byte_set : (bs : List ℕ) (set : ByteBitmap) → AreFirstOf (holds bs) (byte_bitmap_contains set) → Foretells (First set) (byte_set bs)
unfolding node_outcomes
Foretells-byte_set bs set first = Foretells-one (byte_set bs) (holds bs) set tt (λ context s. refl) first

pub Foretells-char_set : (cs : List ℕ) (set : ByteBitmap) → AreFirstOf (holds cs) (byte_bitmap_contains set) → Foretells (First set) (char_set cs)
unfolding node_outcomes
Foretells-char_set cs set first = Foretells-one (char_set cs) (holds cs) set tt (λ context s. refl) first

pub Foretells-bracket : (inverted : Bool) (intervals : List (ℕ × ℕ)) (set : ByteBitmap) → AreFirstOf (bracket_has inverted intervals) (byte_bitmap_contains set)
    → Foretells (First set) (bracket inverted intervals)
unfolding node_outcomes
Foretells-bracket inverted intervals set first = Foretells-one (bracket inverted intervals) (bracket_has inverted intervals) set tt (λ context s. refl) first

-- ---- literals

literal-told : (bs text cs rest : List ℕ) → IsUtf8 bs → same_text (chars bs) cs ≡ true → text ≡ cs ++ rest → take (length bs) (encode_utf8_all text) ≡ bs
literal-told bs text cs rest utf8 passes is =
    let spelled : encode_utf8_all text ≡ bs ++ encode_utf8_all rest =
    ap encode_utf8_all (is ∙ ap (λ xs. xs ++ rest) (sym ((bytes_decides (chars bs) cs).0 passes))) ∙ encodes-append (chars bs) rest ∙ ap (λ xs. xs ++ encode_utf8_all rest) (encodes-chars bs utf8) in
    rw spelled (take_at bs (encode_utf8_all rest) (length bs) refl)

first-leads : (bs cs : List ℕ) → All is_code_point cs → encode_utf8_all cs ≡ bs → (b : ℕ) → slice_get bs 0 ≡ Some b → MayLead b
first-leads bs [] points e b h = absurd (let gone : slice_get {X = ℕ} [] 0 ≡ Some b = ap (λ xs. slice_get xs 0) e ∙ h in cc)
first-leads bs (c ∷ cs) points e b h =
    let begins = slice_get-front (encode_utf8 c) (encode_utf8_all cs) (lead c) (has-lead c) in
    let both : Some (lead c) ≡ Some b = sym begins ∙ ap (λ xs. slice_get xs 0) e ∙ h in
    MayLead-first c b (All-head is_code_point c cs points) (has-lead c ∙ both)

pub Foretells-bytes : (front : Vec ℕ Global) (bs : List ℕ) → front.items ≡ bs → IsUtf8 bs → Foretells (Bytes front) (bytes bs)
unfolding node_outcomes
Foretells-bytes front bs same utf8 = record {
  each = λ context valid s. step-told context valid s (take (length front.items) (encode_utf8_all (drop s.place context.text)) ≡ front.items) (length (chars bs)) (same_text (chars bs))
      (λ cs rest points passes is size. rw same (literal-told bs (drop s.place context.text) cs rest utf8 passes is));
  leads = rw same (first-leads bs (chars bs) (chars-code_points bs utf8) (encodes-chars bs utf8));
  spelled = same;
}

-- ---- sets of strings

-- the first byte of the text from a place on, where a string stands that begins with a character that passes
string-told : (test set : ℕ → Bool) → AreFirstOf test set → (table : Table) (unicode : Bool) (cs text ds rest : List ℕ) → 0 < length cs
    → ((c : ℕ) → slice_get cs 0 ≡ Some c → test c ≡ true) → All is_code_point ds → same_all table unicode false cs ds ≡ true
    → text ≡ ds ++ rest → is_some_and (slice_get (encode_utf8_all text) 0) set ≡ true
string-told test set first table unicode [] text ds rest some begins points passes is = absurd (omega arith)
string-told test set first table unicode (c ∷ cs) text [] rest some begins points passes is = absurd (cc)
string-told test set first table unicode (c ∷ cs) text (d ∷ ds) rest some begins points passes is =
    rw is (some-passes _ (lead d) set (slice_get-front (encode_utf8 d) (encode_utf8_all (ds ++ rest)) (lead d) (has-lead d))
    (first-in test set first d (All-head is_code_point d ds points) (begins d (ap Some (same_head (c == d) refl passes))) (lead d) (has-lead d)))
  where
    same_head : (b : Bool) → (c == d) ≡ b → (b && same_all table unicode false cs ds) ≡ true → c ≡ d
    same_head true h k = eqb-true c d h
    same_head false h k = absurd (cc)

pub Foretells-string_set : (strings : List (List ℕ)) (set : ByteBitmap) → AreFirstOfStrings strings (byte_bitmap_contains set) → Foretells (First set) (string_set strings false)
unfolding node_outcomes
Foretells-string_set strings set known = record {
  each = λ context valid s.
      let Q : Type 0 = is_some_and (slice_get (encode_utf8_all (drop s.place context.text)) 0) (byte_bitmap_contains set) ≡ true in
      let P : List ℕ → Type 0 = λ cs. (0 < length cs) × ((c : ℕ) → slice_get cs 0 ≡ Some c → begins_one strings c ≡ true) in
      All-flat_map P (λ (u : State). Q) (λ cs. step context Forward (length cs) (same_all context.table context.unicode false cs) s)
      (λ cs h. step-told context valid s Q (length cs) (same_all context.table context.unicode false cs)
      (λ ds rest points passes is size. string-told (begins_one strings) (byte_bitmap_contains set) known.first context.table context.unicode cs (drop s.place context.text) ds rest h.0 h.1 points passes is))
      strings
      (λ k d l. (known.some k d l, λ c e. list_any_at (λ cs. is_some_and (slice_get cs 0) (λ x. x == c)) strings k d l (rw e (eq-eqb c c refl))));
  leads = MayLead-of (begins_one strings) (byte_bitmap_contains set) known.first;
  spelled = tt;
}

-- ---- parts one after another

never-still : (o : Option (List ℕ)) (p : Prefix) → IfSome o (HasBytes Still) → IfSome o (HasBytes p)
never-still None p h = tt
never-still (Some bs) p h = absurd h

pub Foretells-still_cat : (p : Prefix) (a b : Tree) → Foretells Still a → Foretells p b → Foretells p (cat a b)
unfolding node_outcomes
Foretells-still_cat p a b first second = record {
  each = λ context valid s. All-flat_map (λ u. u.place ≡ s.place) (λ u. Holds p s.place (encode_utf8_all (drop s.place context.text)) u.place) (node_outcomes context b Forward)
      (λ u same. subst (λ (n : ℕ). All (λ (v : State). Holds p n (encode_utf8_all (drop n context.text)) v.place) (node_outcomes context b Forward u)) same (second.each context valid u))
      (node_outcomes context a Forward s) (first.each context valid s);
  leads = second.leads;
  spelled = never-still (first_literal a) p first.spelled;
}

pub Foretells-decided : (p : Prefix) → (p ≡ Still → ⊥) → (a b : Tree) → Foretells p a → Foretells p (cat a b)
unfolding node_outcomes
Foretells-decided p other a b first = record {
  each = λ context valid s. let Q : State → Type 0 = λ u. Holds p s.place (encode_utf8_all (drop s.place context.text)) u.place in
      All-flat_map Q Q (node_outcomes context b Forward) (λ u held k d h. elsewhere p other s.place _ u.place _ held)
      (node_outcomes context a Forward s) (first.each context valid s);
  leads = first.leads;
  spelled = first.spelled;
}

-- all of these parts take nothing
pub Foretells-still_parts : (ns : List Node) → All (λ n. Foretells Still (tree n)) ns → Foretells Still (cat_of (map tree ns))
Foretells-still_parts [] still = Foretells-no_part
Foretells-still_parts (n ∷ ns) still =
    Foretells-still_cat Still (tree n) (cat_of (map tree ns)) (All-head (λ m. Foretells Still (tree m)) n ns still)
    (Foretells-still_parts ns (All-tail (λ m. Foretells Still (tree m)) n ns still))

-- the first part that may take something decides
pub Foretells-parts : (p : Prefix) → (p ≡ Still → ⊥) → (ns : List Node) (k : ℕ) (part : Node) → k < length ns → part ≡ get_or ns k part
    → All (λ n. Foretells Still (tree n)) (take k ns) → Foretells p (tree part) → Foretells p (cat_of (map tree ns))
Foretells-parts p other [] k part within is still here = absurd (omega arith)
Foretells-parts p other (n ∷ ns) zero part within is still here =
    Foretells-decided p other (tree n) (cat_of (map tree ns)) (subst (λ m. Foretells p (tree m)) is here)
Foretells-parts p other (n ∷ ns) (suc k) part within is still here =
    Foretells-still_cat p (tree n) (cat_of (map tree ns)) (All-head (λ m. Foretells Still (tree m)) n (take k ns) still)
    (Foretells-parts p other ns k part (omega arith) is (All-tail (λ m. Foretells Still (tree m)) n (take k ns) still) here)

-- ---- choices, groups and repetitions

HoldsFrom-weaker : (weak strong : Prefix) → IsWeaker weak strong → (context : Context) (s : State) (us : List State) → HoldsFrom strong context s us → HoldsFrom weak context s us
HoldsFrom-weaker weak strong weaker context s us h = λ k d l. weaker _ _ _ (h k d l)

pub Foretells-alt : (p a b : Prefix) (t u : Tree) → IsWeaker p a → IsWeaker p b → LeadsCharacters p → Foretells a t → Foretells b u → Foretells p (alt t u)
unfolding node_outcomes
Foretells-alt p a b t u first second leads one other = record {
  each = λ context valid s.
      All-append (λ v. Holds p s.place (encode_utf8_all (drop s.place context.text)) v.place) (node_outcomes context t Forward s) (node_outcomes context u Forward s)
      (HoldsFrom-weaker p a first context s _ (one.each context valid s)) (HoldsFrom-weaker p b second context s _ (other.each context valid s));
  leads = leads;
  spelled = tt;
}

pub Foretells-capture : (p : Prefix) (k : ℕ) (name : Option (List ℕ)) (a : Tree) → Foretells p a → Foretells p (capture k name a)
unfolding node_outcomes
Foretells-capture p k name a h = record {
  each = λ context valid s. All-map (λ v. Holds p s.place (encode_utf8_all (drop s.place context.text)) v.place) (captured k s.place) (node_outcomes context a Forward s)
      (h.each context valid s);
  leads = h.leads;
  spelled = h.spelled;
}

pub Foretells-atomic : (p : Prefix) (first last : ℕ) (a : Tree) → Foretells p a → Foretells p (submatch atomic first last a)
unfolding node_outcomes
Foretells-atomic p first last a h = record {
  each = λ context valid s. All-take (λ v. Holds p s.place (encode_utf8_all (drop s.place context.text)) v.place) 1 (node_outcomes context a Forward s)
      (h.each context valid s);
  leads = h.leads;
  spelled = h.spelled;
}

-- of an iteration that has to come
iterated : (Q : Type 0) (body : Outcomes) (greedy : Bool) (most least : ℕ) (s : State) → 0 < least → least ≤ most
    → All (λ (u : State). Q) (body s) → All (λ (u : State). Q) (iterations body greedy most least s)
unfolding iterations
iterated Q body greedy zero least s some order h = absurd (omega arith)
iterated Q body greedy (suc most) zero s some order h = absurd (omega arith)
iterated Q body greedy (suc most) (suc least) s some order h =
    All-flat_map (λ (u : State). Q) (λ (u : State). Q) (iterations body greedy most least) (λ u held k d l. held) (body s) h

decided : (p : Prefix) → (p ≡ Still → ⊥) → (context : Context) (s : State) (us : List State)
    → HoldsFrom p context s us → All (λ (u : State). Holds p s.place (encode_utf8_all (drop s.place context.text)) 0) us
decided p other context s us h = λ k d l. elsewhere p other s.place _ _ 0 (h k d l)

undecided : (p : Prefix) → (p ≡ Still → ⊥) → (context : Context) (s : State) (us : List State)
    → All (λ (u : State). Holds p s.place (encode_utf8_all (drop s.place context.text)) 0) us → HoldsFrom p context s us
undecided p other context s us h = λ k d l. elsewhere p other s.place _ 0 _ (h k d l)

pub Foretells-loop : (p : Prefix) → (p ≡ Still → ⊥) → (a : Tree) (first last least most : ℕ) (greedy : Bool) → 0 < least → least ≤ most
    → Foretells p a → Foretells p (loop a first last least most greedy)
unfolding node_outcomes
Foretells-loop p other a first last least most greedy some order h = record {
  each = λ context valid s. undecided p other context s _
      (iterated _ (λ t. node_outcomes context a Forward (cleared first last t)) greedy most least s some order
      (decided p other context s _ (h.each context valid (cleared first last s))));
  leads = h.leads;
  spelled = tt;
}

pub Foretells-single_loop : (p : Prefix) → (p ≡ Still → ⊥) → (a : Tree) (least most : ℕ) (greedy : Bool) → 0 < least → least ≤ most
    → Foretells p a → Foretells p (single_loop a least most greedy)
unfolding node_outcomes
Foretells-single_loop p other a least most greedy some order h = record {
  each = λ context valid s. undecided p other context s _
      (iterated _ (node_outcomes context a Forward) greedy most least s some order (decided p other context s _ (h.each context valid s)));
  leads = h.leads;
  spelled = tt;
}

-- an anchor takes nothing
pub Foretells-any_anchor : (anchor_type : AnchorType) (multiline : Bool) → Foretells Still (anchor_of anchor_type multiline)
Foretells-any_anchor StartOfLine multiline = Foretells-line_start multiline
Foretells-any_anchor EndOfLine multiline = Foretells-line_end multiline

-- each part of a lawful `Cat` is lawful
pub lawful-parts : (n : ℕ) (ns : List Node) → AreLawful n (cat_of (map tree ns)) → All (λ m. IsLawful (tree m)) ns
lawful-parts n [] lawful = All-nil (λ m. IsLawful (tree m))
lawful-parts n (m ∷ ns) lawful = All-cons (λ x. IsLawful (tree x)) m ns (n, lawful.0) (lawful-parts n ns lawful.1)
