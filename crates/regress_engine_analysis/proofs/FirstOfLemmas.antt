-- Sets of first bytes, as tests.
use Rattle.std.specs.Prelude.{get_or, slice_get, nat_eq, encode_utf8}
use Rattle.std.proofs.Common.{◌≡◌, ◌⊎◌, inl, inr, ℕ, ◌≤◌, ◌<◌, ◌||◌, ◌&&◌, ◌==◌, not, Bool, true, false, [], ◌∷◌, length, Some, sym, ap, ◌∙◌, subst, arith}
use Rattle.std.proofs.lemmas.Bool.{eqb-true, eq-eqb, and_parts, and_from, cases_lt, true≢false}
use Rattle.std.proofs.lemmas.Bool.Decides.{nat_tests}
use Rattle.std.proofs.lemmas.List.{nil_from_length}
use Rattle.std.proofs.lemmas.Option.{get_or_from_slice_get}
use Rattle.std.proofs.lemmas.Str.{encode_ascii}
use Rattle.std.proofs.Math.Bool.{or-false}
use Rattle.regress_meaning.specs.Text.{holds}
use Rattle.regress_meaning.specs.Table.{code_points}
use Rattle.regress_meaning.specs.TableParts.{is_code_point, in_intervals}
use Rattle.regress_meaning.specs.Meaning.{is_line_end}
use Rattle.regress_meaning.specs.Inputs.{is_continuation}
use Rattle.regress_meaning.proofs.TableLemmas.{same_bool, some_below-from, some_below-true}
use Rattle.regress_front_sets.proofs.FirstByteLemmas.{lead}
use Rattle.regress_front_bytes.specs.ByteSets.{members}
use Rattle.regress_engine_insn.proofs.BitmapLemmas.{holds-members, member_byte}
use Rattle.regress_engine_prefix.specs.FirstBytes.{AreFirstOf, BeginsOneOf}
use Rattle.regress_engine_prefix.proofs.LeadLemmas.{has-lead, AreFirstOf-same}
use Rattle.regress_engine_analysis.specs.MayBegin.{leads, may_lead}

-- a character begins with a byte
begins-with : (c b : ℕ) → slice_get (encode_utf8 c) 0 ≡ Some b → (get_or (encode_utf8 c) 0 0 == b) ≡ true
begins-with c b e = eq-eqb (get_or (encode_utf8 c) 0 0) b (get_or_from_slice_get (encode_utf8 c) 0 b 0 e)

with-begins : (c b : ℕ) → (get_or (encode_utf8 c) 0 0 == b) ≡ true → slice_get (encode_utf8 c) 0 ≡ Some b
with-begins c b e =
    has-lead c ∙ ap Some (sym (get_or_from_slice_get (encode_utf8 c) 0 (lead c) 0 (has-lead c)) ∙ eqb-true (get_or (encode_utf8 c) 0 0) b e)

-- a set of first bytes as the test that it is
pub first-leads : (test set : ℕ → Bool) → AreFirstOf test set → (b : ℕ) → set b ≡ leads test b
first-leads test set first b = same_bool (set b) (leads test b)
    (λ e. let (c, below, passes, begins) = (first.each b).0 e in
    some_below-from code_points c (λ d. test d && (get_or (encode_utf8 d) 0 0 == b)) (omega (arith, below)) (and_from _ _ passes (begins-with c b begins)))
    (λ e. let (c, below, both) = some_below-true code_points (λ d. test d && (get_or (encode_utf8 d) 0 0 == b)) e in
    let (passes, begins) = and_parts _ _ both in
    (first.each b).1 (c, omega (arith, below), passes, with-begins c b begins))

-- with the bytes inside of characters
pub may_lead-told : (test first bytes : ℕ → Bool) → ((b : ℕ) → bytes b ≡ (first b || is_continuation b)) → AreFirstOf test first → (b : ℕ) → bytes b ≡ may_lead test b
may_lead-told test first bytes told are b = told b ∙ ap (λ t. t || is_continuation b) (first-leads test first are b)

-- characters of ASCII are their own first bytes
pub low-first : (test set : ℕ → Bool) → ((c : ℕ) → test c ≡ true → c < 0x80) → ((b : ℕ) → set b ≡ test b) → AreFirstOf test set
low-first test set low same = record { each = λ b. (here b, there b) }
  where
    here : (b : ℕ) → set b ≡ true → BeginsOneOf test b
    here b e =
        let passes : test b ≡ true = sym (same b) ∙ e in
        let below = low b passes in
        (b, omega (arith, below), passes, ap (λ xs. slice_get xs 0) (encode_ascii b below))

    there : (b : ℕ) → BeginsOneOf test b → set b ≡ true
    there b (c, point, passes, begins) =
        let first : Some c ≡ Some b = sym (ap (λ xs. slice_get xs 0) (encode_ascii c (low c passes))) ∙ begins in
        let is : c ≡ b = cc in
        same b ∙ subst (λ d. test d ≡ true) is passes

-- so are those of a set of ASCII
pub ascii-first : (held set : ℕ → Bool) → ((c : ℕ) → 0x80 ≤ c → held c ≡ false) → ((b : ℕ) → set b ≡ held b) → AreFirstOf (holds (members held)) set
ascii-first held set high same = low-first (holds (members held)) set (λ c passes. low c (sym (told c) ∙ passes)) (λ b. same b ∙ sym (told b))
  where
    low : (c : ℕ) → held c ≡ true → c < 0x80
    low c is = by_order (cases_lt c 0x80)
      where
        by_order : (c < 0x80) ⊎ (0x80 ≤ c) → c < 0x80
        by_order (inl less) = less
        by_order (inr more) = absurd (true≢false (sym is ∙ high c more))

    told : (c : ℕ) → holds (members held) c ≡ held c
    told c = holds-members held (λ d is. let below = low d is in omega (arith, below)) c

-- a list of one character
pub one-first : (c : ℕ) (set : ℕ → Bool) → AreFirstOf (holds (c ∷ [])) set → AreFirstOf (nat_eq c) set
one-first c set first = AreFirstOf-same (holds (c ∷ [])) (nat_eq c) set (λ d point. or-false (c == d)) first

-- all code points
in-all : (c : ℕ) → is_code_point c → in_intervals ((0, 0x10_FFFF) ∷ []) c ≡ true
unfolding in_intervals
in-all c below = grind (arith, nat_tests)

pub any-first : (set : ℕ → Bool) → AreFirstOf (in_intervals ((0, 0x10_FFFF) ∷ [])) set → AreFirstOf (λ c. true) set
any-first set first = AreFirstOf-same (in_intervals ((0, 0x10_FFFF) ∷ [])) (λ c. true) set in-all first

-- all but line terminators
in-lines : (c : ℕ) → is_code_point c → in_intervals ((0, 0x9) ∷ (0xB, 0xC) ∷ (0xE, 0x2027) ∷ (0x202A, 0x10_FFFF) ∷ []) c ≡ not (is_line_end c)
unfolding in_intervals
in-lines c below = grind (arith, nat_tests)

pub in_line-first : (set : ℕ → Bool) → AreFirstOf (in_intervals ((0, 0x9) ∷ (0xB, 0xC) ∷ (0xE, 0x2027) ∷ (0x202A, 0x10_FFFF) ∷ [])) set
    → AreFirstOf (λ c. not (is_line_end c)) set
in_line-first set first =
    AreFirstOf-same (in_intervals ((0, 0x9) ∷ (0xB, 0xC) ∷ (0xE, 0x2027) ∷ (0x202A, 0x10_FFFF) ∷ [])) (λ c. not (is_line_end c)) set in-lines first

-- line terminators
line-ends : (c : ℕ) → is_code_point c → holds (0xA ∷ 0xD ∷ 0x2028 ∷ 0x2029 ∷ []) c ≡ is_line_end c
line-ends c below = grind (arith, nat_tests)

pub line_end-first : (set : ℕ → Bool) → AreFirstOf (holds (0xA ∷ 0xD ∷ 0x2028 ∷ 0x2029 ∷ [])) set → AreFirstOf is_line_end set
line_end-first set first = AreFirstOf-same (holds (0xA ∷ 0xD ∷ 0x2028 ∷ 0x2029 ∷ [])) is_line_end set line-ends first

-- of a set of no member
pub none-counted : (set : ℕ → Bool) → length (members set) ≡ 0 → (b : ℕ) → b < 256 → set b ≡ false
none-counted set none b small = sym (member_byte set b small) ∙ ap (λ xs. holds xs b) (nil_from_length (members set) none)
