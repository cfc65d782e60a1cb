-- A class of ASCII ahead of an offset in bytes is told by the byte there.
use Rattle.std.specs.Prelude.{slice_get, get_or, encode_utf8, if◌then◌else◌}
use Rattle.std.proofs.Common.{◌≡◌, ◌⊎◌, inl, inr, ℕ, suc, ◌+◌, ◌<◌, ◌≤◌, Bool, true, false, List, length, Option, Some, None, sym, ap, ◌∙◌, arith}
use Rattle.std.proofs.lemmas.Bool.{cases_lt}
use Rattle.std.proofs.lemmas.Option.{slice_get_past, slice_get-get_or}
use Rattle.std.proofs.lemmas.Str.{encode_ascii}
use Rattle.regress_meaning.specs.Text.{holds}
use Rattle.regress_meaning.specs.Meaning.{Forward}
use Rattle.regress_meaning.specs.Steps.{passed}
use Rattle.regress_front_bytes.specs.ByteSets.{members}
use Rattle.regress_engine_insn.proofs.BitmapLemmas.{holds-members}
use Rattle.regress_engine_input.specs.Views.{View, AreOfKind, are_bytes, in_bytes, input_of, CanRead}
use Rattle.regress_engine_singles.proofs.ByteLemmas.{unit-next}
use Rattle.regress_engine_singles.proofs.LeadLemmas.{next-begins, none-ahead, unit-leads}
use Rattle.regress_engine_singles.proofs.StopLemmas.{bytes-shown}

-- what begins with a byte beyond ASCII is beyond ASCII
begins-beyond : (c b : ℕ) → slice_get (encode_utf8 c) 0 ≡ Some b → 0x80 ≤ b → 0x80 ≤ c
begins-beyond c b first high = by_order (cases_lt c 0x80)
  where
    by_order : (c < 0x80) ⊎ (0x80 ≤ c) → 0x80 ≤ c
    by_order (inl low) =
        let one : Some c ≡ Some b = sym (ap (λ (bs : List ℕ). slice_get bs 0) (encode_ascii c low)) ∙ first in
        let same : c ≡ b = cc in
        omega (arith, same, high)
    by_order (inr m) = m

module _ (v : View) (all : AreOfKind v.kind v.units) (text : List ℕ) (shown : Some text ≡ in_bytes v.kind (Some v.units)) (held : ℕ → Bool) (low : (c : ℕ) → 0x80 ≤ c → held c ≡ false) (o : ℕ) where
  -- the text is one of bytes
  are : are_bytes v.kind ≡ true
  are = (bytes-shown v text (sym shown)).0

  -- the offset behind the character ahead, where that is a member
  abbrev behind : Option ℕ
  behind = passed (holds (members held)) ((input_of v).next Forward o)

  -- a member is one that is held
  is-member : (c : ℕ) → holds (members held) c ≡ held c
  is-member c = holds-members held small c
    where
      small : (d : ℕ) → held d ≡ true → d < 256
      small d holds-it = by_order (cases_lt d 256)
        where
          by_order : (d < 256) ⊎ (256 ≤ d) → d < 256
          by_order (inl less) = less
          by_order (inr m) = let lacks-it = low d (omega (arith, m)) in absurd (cc (holds-it, lacks-it))

  -- the character that is read there tells it
  by-read : (c q : ℕ) → (input_of v).next Forward o ≡ Some (c, q) → behind ≡ (if held c then Some q else None)
  by-read c q next = ap (passed (holds (members held))) next ∙ ap (λ (t : Bool). if t then Some q else None) (is-member c)

  -- where no character is there is none behind it
  no-member : slice_get v.units o ≡ None → None ≡ behind
  no-member none = sym (ap (passed (holds (members held))) (none-ahead v are o none))

  -- by the byte that stands there
  module _ (b : ℕ) (stands : slice_get v.units o ≡ Some b) where
    -- where it is held the character is a member
    a-member : held b ≡ true → Some (suc o) ≡ behind
    a-member holds-it = by_order (cases_lt b 0x80)
      where
        by_order : (b < 0x80) ⊎ (0x80 ≤ b) → Some (suc o) ≡ behind
        by_order (inl less) =
            sym (by-read b (suc o) (unit-next v.kind v.table v.unicode v.units b o less stands) ∙ ap (λ (t : Bool). if t then Some (suc o) else None) holds-it)
        by_order (inr m) = let lacks-it = low b m in absurd (cc (holds-it, lacks-it))

    -- and where it is not, it is none
    not-member : CanRead v o → held b ≡ false → None ≡ behind
    not-member can lacks-it = by_order (cases_lt b 0x80)
      where
        by_order : (b < 0x80) ⊎ (0x80 ≤ b) → None ≡ behind
        by_order (inl less) =
            sym (by-read b (suc o) (unit-next v.kind v.table v.unicode v.units b o less stands) ∙ ap (λ (t : Bool). if t then Some (suc o) else None) lacks-it)
        by_order (inr m) =
            let (c, q, next, point, first) = next-begins v are all o b stands (unit-leads v are all o b can stands).0 in
            sym (by-read c q next ∙ ap (λ (t : Bool). if t then Some q else None) (low c (begins-beyond c b first m)))

  -- the byte that is shown there stands there
  here : o < length text → slice_get v.units o ≡ Some (get_or text o 0)
  here inside = ap (λ (us : List ℕ). slice_get us o) (sym (bytes-shown v text (sym shown)).1) ∙ slice_get-get_or text o 0 inside

  -- where the byte there is a member, so is the character
  pub byte-member : o < length text → (told : Bool) → told ≡ held (get_or text o 0) → told ≡ true → Some (o + 1) ≡ behind
  byte-member inside told is holds-it = let next : o + 1 ≡ suc o = omega arith in ap (λ q. Some q) next ∙ a-member (get_or text o 0) (here inside) (sym is ∙ holds-it)

  -- where it is not, neither is the character
  pub byte-other : CanRead v o → o < length text → (told : Bool) → told ≡ held (get_or text o 0) → told ≡ false → None ≡ behind
  byte-other can inside told is lacks-it = not-member (get_or text o 0) (here inside) can (sym is ∙ lacks-it)

  -- and where the text ends there is none
  pub byte-past : length text ≤ o → None ≡ behind
  byte-past past = no-member (ap (λ (us : List ℕ). slice_get us o) (sym (bytes-shown v text (sym shown)).1) ∙ slice_get_past text o past)
