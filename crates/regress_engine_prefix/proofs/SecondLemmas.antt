-- The second bytes of characters, and of what begins with a character.
use Rattle.std.proofs.Common.{◌≡◌, ℕ, zero, suc, ◌+◌, ◌/◌, ◌%◌, ◌<◌, ◌≤◌, ◌⊎◌, inl, inr, Bool, true, false, ◌&&◌, List, [], ◌∷◌, ◌++◌, length, take, drop, get_or, map, slice_get, nat_lt, Option, Some, None, IfSome, All, cond, encode_utf8_all, refl, sym, ap, subst, ◌∙◌, arith}
use Rattle.std.specs.Prelude.{encode_utf8}
use Rattle.std.specs.List.{list_all}
use Rattle.std.proofs.Math.Utf8.{encode}
use Rattle.std.proofs.lemmas.Bool.{cases_lt}
use Rattle.std.proofs.lemmas.Bool.Decides.{nat_tests}
use Rattle.std.proofs.lemmas.List.Elements.{All-head, All-tail, All-drop}
use Rattle.std.proofs.lemmas.Str.{encode_ascii}
use Rattle.regress_meaning.specs.Text.{holds}
use Rattle.regress_meaning.specs.TableParts.{is_code_point}
use Rattle.regress_meaning.specs.Meaning.{State, Forward, is_some_and}
use Rattle.regress_meaning.proofs.StepLaws.{All-flat_map}
use Rattle.regress_front_bytes.specs.declared.bitmaps.ByteBitmap.{ByteBitmap}
use Rattle.regress_front_bytes.specs.Bitmaps.{byte_bitmap_contains}
use Rattle.regress_front_sets.proofs.FirstByteLemmas.{lead}
use Rattle.regress_front_nodes.specs.Trees.{Tree, tree, char_set, cat, cat_of}
use Rattle.regress_front_nodes.specs.Forms.{nesting}
use Rattle.regress_front_nodes.specs.TreeMeaning.{node_outcomes}
use Rattle.regress_front_nodes.specs.declared.node.Node.{Node}
use Rattle.regress_engine_prefix.specs.FirstBytes.{HasSecond}
use Rattle.regress_engine_prefix.specs.Prefixes.{first_literal, HasBytes, Holds, IsWeaker, Foretells}
use Rattle.regress_engine_prefix.specs.Reaches.{TakesOne}
use Rattle.regress_engine_prefix.specs.declared.prefix.Prefix.{Prefix}
use Rattle.regress_engine_prefix.specs.declared.prefix.Prefix.TheVariants.{Still, First, Pair}
use Rattle.regress_engine_scanning.proofs.AsciiLemmas.{All-holds}
use Rattle.regress_engine_prefix.proofs.LeadLemmas.{has-lead}
use Rattle.regress_engine_prefix.proofs.PrefixLemmas.{step-told, Foretells-still_cat}
use Rattle.regress_engine_prefix.proofs.ReachLemmas.{lead-passes, small-lead}

-- ---- second bytes of characters

high-lead : (c : ℕ) → c ≤ 0x10_FFFF → 128 ≤ c → 128 ≤ lead c
unfolding lead
high-lead c point high = grind (arith, nat_tests)

is-high : (b : Bool) (c : ℕ) → nat_lt c 128 ≡ b → 128 ≤ c → b ≡ false
is-high b c e high = grind (arith, nat_tests)

-- behind the first byte of a character beyond ASCII stands one that goes on with it
char-second : (c : ℕ) (ys : List ℕ) → 128 ≤ c → (b : ℕ) × (0x80 ≤ b) × (b < 0xC0) × (slice_get (encode c ++ ys) 1 ≡ Some b)
unfolding encode
char-second c ys high = go (nat_lt c 128) (nat_lt c 2048) (nat_lt c 65536) (is-high (nat_lt c 128) c refl high)
  where
    go : (one two three : Bool) → one ≡ false → (b : ℕ) × (0x80 ≤ b) × (b < 0xC0) × (slice_get (cond one (c ∷ []) (cond two ((192 + c / 64) ∷ (128 + c % 64) ∷ [])
        (cond three ((224 + c / 4096) ∷ (128 + (c / 64) % 64) ∷ (128 + c % 64) ∷ []) ((240 + c / 262144) ∷ (128 + (c / 4096) % 64) ∷ (128 + (c / 64) % 64) ∷ (128 + c % 64) ∷ []))) ++ ys) 1 ≡ Some b)
    go true two three e = absurd (cc)
    go false true three e = (128 + c % 64, omega arith, omega arith, refl)
    go false false true e = (128 + (c / 64) % 64, omega arith, omega arith, refl)
    go false false false e = (128 + (c / 4096) % 64, omega arith, omega arith, refl)

-- the second byte, by the number of the character
pub second-of : (c bits : ℕ) → 128 ≤ c → (c < 2048 → bits ≡ c) → (2048 ≤ c → c < 65536 → bits ≡ c / 64) → (65536 ≤ c → bits ≡ c / 4096) → slice_get (encode_utf8 c) 1 ≡ Some (128 + bits % 64)
unfolding encode
second-of c bits high two three four = go (nat_lt c 128) (nat_lt c 2048) (nat_lt c 65536) (is-high (nat_lt c 128) c refl high) (λ e. grind (arith, nat_tests)) (λ e f. grind (arith, nat_tests)) (λ e. grind (arith, nat_tests))
  where
    go : (one low mid : Bool) → one ≡ false → (low ≡ true → bits ≡ c) → (low ≡ false → mid ≡ true → bits ≡ c / 64) → (mid ≡ false → bits ≡ c / 4096)
        → slice_get (cond one (c ∷ []) (cond low ((192 + c / 64) ∷ (128 + c % 64) ∷ [])
        (cond mid ((224 + c / 4096) ∷ (128 + (c / 64) % 64) ∷ (128 + c % 64) ∷ []) ((240 + c / 262144) ∷ (128 + (c / 4096) % 64) ∷ (128 + (c / 64) % 64) ∷ (128 + c % 64) ∷ [])))) 1 ≡ Some (128 + bits % 64)
    go true low mid e f g h = absurd (cc)
    go false true mid e f g h = ap (λ n. Some (128 + n % 64)) (sym (f refl))
    go false false true e f g h = ap (λ n. Some (128 + n % 64)) (sym (g refl refl))
    go false false false e f g h = ap (λ n. Some (128 + n % 64)) (sym (h refl))

some-second : (o : Option ℕ) (b : ℕ) (set : ℕ → Bool) → o ≡ Some b → set b ≡ true → is_some_and o set ≡ true
some-second o b set e h = rw e h

-- a code point has a second byte in a set that has it
pub HasSecond-of : (c b : ℕ) (set : ℕ → Bool) → slice_get (encode_utf8 c) 1 ≡ Some b → set b ≡ true → HasSecond set c
HasSecond-of c b set e h point = some-second (slice_get (encode_utf8 c) 1) b set e h

passes-wider : (o : Option ℕ) (p q : ℕ → Bool) → ((b : ℕ) → p b ≡ true → q b ≡ true) → is_some_and o p ≡ true → is_some_and o q ≡ true
passes-wider None p q h e = absurd (cc)
passes-wider (Some b) p q h e = h b e

pub HasSecond-wider : (p q : ℕ → Bool) → ((b : ℕ) → p b ≡ true → q b ≡ true) → (c : ℕ) → HasSecond p c → HasSecond q c
HasSecond-wider p q wider c h point = passes-wider (slice_get (encode_utf8 c) 1) p q wider (h point)

second-front : (xs ys : List ℕ) (set : ℕ → Bool) → is_some_and (slice_get xs 1) set ≡ true → is_some_and (slice_get (xs ++ ys) 1) set ≡ true
second-front [] ys set h = absurd (cc)
second-front (x ∷ []) ys set h = absurd (cc)
second-front (x ∷ y ∷ xs) ys set h = h

only : (b : Bool) → (b && true) ≡ true → b ≡ true
only true e = refl
only false e = e

-- the second byte of the text from a place on, where one of the characters stands
second-told : (chars : List ℕ) (set : ℕ → Bool) → All (HasSecond set) chars → (text cs rest : List ℕ) → All is_code_point cs → list_all (holds chars) cs ≡ true
    → text ≡ cs ++ rest → length cs ≡ 1 → is_some_and (slice_get (encode_utf8_all text) 1) set ≡ true
second-told chars set all text [] rest points passes is size = absurd (omega arith)
second-told chars set all text (c ∷ d ∷ cs) rest points passes is size = absurd (omega arith)
second-told chars set all text (c ∷ []) rest points passes is size =
    rw is (second-front (encode_utf8 c) (encode_utf8_all rest) set (All-holds (HasSecond set) chars c all (only (holds chars c) passes) (All-head is_code_point c [] points)))

-- one of some characters begins with a first and a second byte
pub Foretells-second : (chars : List ℕ) (first second : ByteBitmap) → Foretells (First first) (char_set chars) → All (HasSecond (byte_bitmap_contains second)) chars
    → Foretells (Pair first second) (char_set chars)
unfolding node_outcomes
Foretells-second chars first second told all = record {
  each = λ context valid s k d l. (
    told.each context valid s k d l,
    step-told context valid s (is_some_and (slice_get (encode_utf8_all (drop s.place context.text)) 1) (byte_bitmap_contains second) ≡ true) 1 (list_all (holds chars))
        (λ cs rest points passes is size. second-told chars (byte_bitmap_contains second) all (drop s.place context.text) cs rest points passes is size) k d l,
  );
  leads = told.leads;
  spelled = tt;
}

-- ---- one character, and what follows

not-spelled : (o : Option (List ℕ)) (a b c : ByteBitmap) → IfSome o (HasBytes (First a)) → IfSome o (HasBytes (Pair b c))
not-spelled None a b c h = tt
not-spelled (Some bs) a b c h = h

module _ (first second behind : ByteBitmap) (wider : (b : ℕ) → byte_bitmap_contains second b ≡ true → byte_bitmap_contains behind b ≡ true)
    (others : (b : ℕ) → b < 256 → byte_bitmap_contains first b ≡ true → 0x80 ≤ b → (x : ℕ) → 0x80 ≤ x → x < 0xC0 → byte_bitmap_contains behind x ≡ true) where
  head-passes : (c : ℕ) (rest : List ℕ) → is_some_and (slice_get (encode_utf8 c ++ rest) 0) (byte_bitmap_contains first) ≡ true → byte_bitmap_contains first (lead c) ≡ true
  head-passes c rest h = lead-passes c (byte_bitmap_contains first) (front (encode_utf8 c) rest (λ e. empty c e) h)
    where
      front : (xs ys : List ℕ) → (xs ≡ [] → ⊥) → is_some_and (slice_get (xs ++ ys) 0) (byte_bitmap_contains first) ≡ true → is_some_and (slice_get xs 0) (byte_bitmap_contains first) ≡ true
      front [] ys some h = absurd (some refl)
      front (x ∷ xs) ys some h = h

      empty : (c : ℕ) → encode_utf8 c ≡ [] → ⊥
      empty c e = let gone : slice_get {X = ℕ} [] 0 ≡ Some (lead c) = ap (λ xs. slice_get xs 0) (sym e) ∙ has-lead c in cc

  follows : (c : ℕ) (rest : List ℕ) → is_code_point c → is_some_and (slice_get (encode_utf8_all (c ∷ rest)) 0) (byte_bitmap_contains first) ≡ true
      → is_some_and (slice_get (encode_utf8_all rest) 0) (byte_bitmap_contains second) ≡ true → is_some_and (slice_get (encode_utf8_all (c ∷ rest)) 1) (byte_bitmap_contains behind) ≡ true
  follows c rest point begins next = by_size (cases_lt c 128)
    where
      by_size : (c < 128) ⊎ (128 ≤ c) → is_some_and (slice_get (encode_utf8_all (c ∷ rest)) 1) (byte_bitmap_contains behind) ≡ true
      by_size (inl low) =
          ap (λ xs. is_some_and (slice_get (xs ++ encode_utf8_all rest) 1) (byte_bitmap_contains behind)) (encode_ascii c low)
          ∙ passes-wider (slice_get (encode_utf8_all rest) 0) (byte_bitmap_contains second) (byte_bitmap_contains behind) wider next
      by_size (inr high) =
          let found = char-second c (encode_utf8_all rest) high in
          some-second _ found.0 (byte_bitmap_contains behind) found.3
          (others (lead c) (small-lead c point) (head-passes c (encode_utf8_all rest) begins) (high-lead c point high) found.0 found.1 found.2)

  pub Foretells-follow : (next : Prefix) (t u : Tree) → IsWeaker (First second) next → Foretells (First first) t → TakesOne t → Foretells next u → Foretells (Pair first behind) (cat t u)
  unfolding node_outcomes
  Foretells-follow next t u weaker told one then = record {
    each = λ context valid s.
        let Mid : State → Type 0 = λ m. ((c : ℕ) × (drop s.place context.text ≡ c ∷ drop m.place context.text))
        × (is_some_and (slice_get (encode_utf8_all (drop s.place context.text)) 0) (byte_bitmap_contains first) ≡ true) in
        All-flat_map Mid (λ (v : State). Holds (Pair first behind) s.place (encode_utf8_all (drop s.place context.text)) v.place) (node_outcomes context u Forward)
        (λ m h k d l. (h.1, whole context.text s.place m.place valid h.0.0 h.0.1 h.1 (weaker m.place (encode_utf8_all (drop m.place context.text)) _ (then.each context valid m k d l))))
        (node_outcomes context t Forward s) (λ k d l. (one.each context s k d l, told.each context valid s k d l));
    leads = told.leads;
    spelled = not-spelled (first_literal t) first first behind told.spelled;
  }
    where
      point : (xs ys : List ℕ) (c : ℕ) → All is_code_point xs → xs ≡ c ∷ ys → is_code_point c
      point xs ys c all e = All-head is_code_point c ys (subst (All is_code_point) e all)

      whole : (text : List ℕ) (place mid : ℕ) → All is_code_point text → (c : ℕ) → drop place text ≡ c ∷ drop mid text
          → is_some_and (slice_get (encode_utf8_all (drop place text)) 0) (byte_bitmap_contains first) ≡ true
          → is_some_and (slice_get (encode_utf8_all (drop mid text)) 0) (byte_bitmap_contains second) ≡ true
          → is_some_and (slice_get (encode_utf8_all (drop place text)) 1) (byte_bitmap_contains behind) ≡ true
      whole text place mid valid c e begins next =
          subst (λ xs. is_some_and (slice_get (encode_utf8_all xs) 1) (byte_bitmap_contains behind) ≡ true) (sym e)
          (follows c (drop mid text) (point (drop place text) (drop mid text) c (All-drop is_code_point place text valid) e)
          (subst (λ xs. is_some_and (slice_get (encode_utf8_all xs) 0) (byte_bitmap_contains first) ≡ true) e begins) next)

-- what holds of a part and all behind it, where the parts before take nothing
pub Foretells-from : (p : Prefix) (ns : List Node) (k : ℕ) (part : Node) → k < length ns → part ≡ get_or ns k part
    → All (λ n. Foretells Still (tree n)) (take k ns) → Foretells p (cat (tree part) (cat_of (map tree (drop (k + 1) ns)))) → Foretells p (cat_of (map tree ns))
Foretells-from p [] k part within is still here = absurd (omega arith)
Foretells-from p (n ∷ ns) zero part within is still here = subst (λ m. Foretells p (cat (tree m) (cat_of (map tree ns)))) is here
Foretells-from p (n ∷ ns) (suc k) part within is still here =
    let e : suc k + 1 ≡ suc (k + 1) = omega arith in
    Foretells-still_cat p (tree n) (cat_of (map tree ns)) (All-head (λ m. Foretells Still (tree m)) n (take k ns) still)
    (Foretells-from p ns k part (omega arith) is (All-tail (λ m. Foretells Still (tree m)) n (take k ns) still)
    (subst (λ j. Foretells p (cat (tree part) (cat_of (map tree (drop j (n ∷ ns)))))) e here))

-- the parts behind nest no deeper
pub nesting-behind : (ns : List Node) (k : ℕ) → nesting (cat_of (map tree (drop k ns))) ≤ nesting (cat_of (map tree ns))
nesting-behind [] zero = omega arith
nesting-behind [] (suc k) = omega arith
nesting-behind (n ∷ ns) zero = omega arith
nesting-behind (n ∷ ns) (suc k) = let e = nesting-behind ns k in omega (arith, e)
