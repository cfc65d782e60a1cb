-- The byte with which the character ahead begins, over bytes and over units.
use Rattle.std.specs.Prelude.{slice_get, get_or, is_some, option_map, encode_utf8}
use Rattle.std.proofs.Common.{◌≡◌, inl, inr, ℕ, suc, ◌<◌, ◌≤◌, ◌&&◌, Bool, true, false, List, length, Option, Some, None, if◌then◌else◌, All, refl, sym, ap, ◌∙◌, subst, arith}
use Rattle.std.proofs.lemmas.Bool.Decides.{nat_tests}
use Rattle.std.proofs.lemmas.List.Elements.{All-get_or}
use Rattle.std.proofs.lemmas.Str.{encode_ascii}
use Rattle.std.proofs.lemmas.Option.{slice_get_past, slice_get_within, get_or_from_slice_get}
use Rattle.regress_meaning.specs.Meaning.{Forward}
use Rattle.regress_meaning.specs.Tokens.{is_high, is_low, joined}
use Rattle.regress_meaning.specs.Table.{Table}
use Rattle.regress_meaning.specs.TableParts.{is_code_point}
use Rattle.regress_meaning.specs.Inputs.{is_continuation, pair_right}
use Rattle.regress_front_sets.proofs.FirstByteLemmas.{lead}
use Rattle.regress_engine_input.specs.Views.{View, Kind, utf8, ascii, utf16, ucs2, AreOfKind, are_bytes, in_bytes, in_units, input_of, input_of_kind, IsReadable, CanRead}
use Rattle.regress_engine_prefix.specs.FirstBytes.{MayLead}
use Rattle.regress_engine_prefix.proofs.LeadLemmas.{has-lead, MayLead-first}
use Rattle.regress_engine_singles.specs.Leads.{lead_ahead}
use Rattle.regress_engine_singles.proofs.ByteLemmas.{lone-next, unit-next}
use Rattle.regress_engine_singles.proofs.LeadLemmas.{next-begins, none-ahead, some-ahead, unit-leads}

-- ---- characters of units are code points

pair-point : (o u : ℕ) (v : Option ℕ) → u < 0x1_0000 → is_code_point (pair_right o u v).0
pair-point o u None low = omega (arith, low)
pair-point o u (Some v) low = by_pair (is_high u && is_low v) refl
  where
    pair : Bool → ℕ × ℕ
    pair t = if t then (joined u v, suc (suc o)) else (u, suc o)

    by_pair : (t : Bool) → (is_high u && is_low v) ≡ t → is_code_point (pair t).0
    by_pair true e = grind (arith, nat_tests)
    by_pair false e = omega (arith, low)

short-at : (units : List ℕ) → All (λ u. u < 0x1_0000) units → (o u : ℕ) → slice_get units o ≡ Some u → u < 0x1_0000
short-at units all o u here =
    subst (λ x. x < 0x1_0000) (get_or_from_slice_get units o u 0 here) (All-get_or (λ x. x < 0x1_0000) units o 0 (slice_get_within units o u here) all)

pub unit-point : (kind : Kind) (table : Table) (unicode : Bool) (units : List ℕ) → AreOfKind kind units → are_bytes kind ≡ false → (o : ℕ) (x : ℕ × ℕ)
    → (input_of_kind kind table unicode units).next Forward o ≡ Some x → is_code_point x.0
unit-point utf8 table unicode units all are o x e = absurd (cc are)
unit-point ascii table unicode units all are o x e = absurd (cc are)
unit-point utf16 table unicode units all are o x e = by_unit (slice_get units o) refl
  where
    by_unit : (y : Option ℕ) → slice_get units o ≡ y → is_code_point x.0
    by_unit None none =
        let never : None ≡ Some x = sym (ap (option_map (λ u. pair_right o u (slice_get units (suc o)))) none) ∙ e in absurd (cc never)
    by_unit (Some u) here =
        let same : Some (pair_right o u (slice_get units (suc o))) ≡ Some x = sym (ap (option_map (λ w. pair_right o w (slice_get units (suc o)))) here) ∙ e in
        let pair : pair_right o u (slice_get units (suc o)) ≡ x = cc in
        subst (λ (y : ℕ × ℕ). is_code_point y.0) pair (pair-point o u (slice_get units (suc o)) (short-at units all o u here))
unit-point ucs2 table unicode units all are o x e = by_unit (slice_get units o) refl
  where
    by_unit : (y : Option ℕ) → slice_get units o ≡ y → is_code_point x.0
    by_unit None none = let never : None ≡ Some x = sym (ap (option_map (λ u. (u, suc o))) none) ∙ e in absurd (cc never)
    by_unit (Some u) here =
        let same : Some (u, suc o) ≡ Some x = sym (ap (option_map (λ w. (w, suc o))) here) ∙ e in
        let pair : (u, suc o) ≡ x = cc in
        let low = short-at units all o u here in
        subst (λ (y : ℕ × ℕ). is_code_point y.0) pair (omega (arith, low))

-- ---- of any text

-- what may be a first byte is not inside of a character
lead-outside : (b : ℕ) → MayLead b → (is_continuation b ≡ false) × (b < 256)
lead-outside b (inl low) = (grind (arith, nat_tests), omega (arith, low))
lead-outside b (inr (far, small)) = (grind (arith, nat_tests), small)

-- the first byte of a character, as it is told
lead-is : (c : ℕ) → get_or (encode_utf8 c) 0 0 ≡ lead c
lead-is c = get_or_from_slice_get (encode_utf8 c) 0 (lead c) 0 (has-lead c)

-- the byte with which a character begins, if there is one
abbrev told : Option (ℕ × ℕ) → Option ℕ
told = option_map (λ x. get_or (encode_utf8 x.0) 0 0)

module _ (v : View) where
  -- over bytes it is the one that stands there
  pub lead-byte : are_bytes v.kind ≡ true → (o : ℕ) → lead_ahead v o ≡ slice_get v.units o
  lead-byte are o = ap (λ (t : Bool). if t then slice_get v.units o else told ((input_of v).next Forward o)) are

  lead-unit : are_bytes v.kind ≡ false → (o : ℕ) → lead_ahead v o ≡ told ((input_of v).next Forward o)
  lead-unit are o = ap (λ (t : Bool). if t then slice_get v.units o else told ((input_of v).next Forward o)) are

  pub lead_bytes : (o : ℕ) → None ≡ in_units v.kind (Some v.units) → in_bytes v.kind (slice_get v.units o) ≡ lead_ahead v o
  lead_bytes o none = by_kind (are_bytes v.kind) refl
    where
      by_kind : (t : Bool) → are_bytes v.kind ≡ t → in_bytes v.kind (slice_get v.units o) ≡ lead_ahead v o
      by_kind true are = ap (λ (b : Bool). let x : Option ℕ = if b then slice_get v.units o else None in x) are ∙ sym (lead-byte are o)
      by_kind false are =
          let never : None ≡ Some v.units = none ∙ ap (λ (b : Bool). let x : Option (List ℕ) = if b then None else Some v.units in x) are in absurd (cc never)

  -- over units it is that of the character that is read
  module _ (are : are_bytes v.kind ≡ false) (o : ℕ) where
    pub lead_none : None ≡ (input_of v).next Forward o → None ≡ lead_ahead v o
    lead_none e = sym (lead-unit are o ∙ ap told (sym e))

    pub lead_read : (c q b : ℕ) → (input_of v).next Forward o ≡ Some (c, q) → slice_get (encode_utf8 c) 0 ≡ Some b → Some b ≡ lead_ahead v o
    lead_read c q b e first = ap Some (sym (get_or_from_slice_get (encode_utf8 c) 0 b 0 first)) ∙ sym (lead-unit are o ∙ ap told e)

    -- where that is one of ASCII, its unit
    pub lead_low : (b : ℕ) → slice_get v.units o ≡ Some b → b < 0x80 → Some b ≡ lead_ahead v o
    lead_low b here low =
        lead_read b (suc o) b (unit-next v.kind v.table v.unicode v.units b o low here) (ap (λ bs. slice_get bs 0) (encode_ascii b low))

    -- where that is of one unit, that of the unit
    pub lead_lone : (c b : ℕ) → slice_get v.units o ≡ Some c → is_high c ≡ false → slice_get (encode_utf8 c) 0 ≡ Some b → Some b ≡ lead_ahead v o
    lead_lone c b here lone first = lead_read c (suc o) b (lone-next v.kind v.table v.unicode v.units c o are lone here) first

    -- and none where the text ends
    pub lead_past : length v.units ≤ o → None ≡ lead_ahead v o
    lead_past past = lead_none (by_kind v.kind are)
      where
        none : slice_get v.units o ≡ None
        none = slice_get_past v.units o past

        by_kind : (kind : Kind) → are_bytes kind ≡ false → None ≡ (input_of_kind kind v.table v.unicode v.units).next Forward o
        by_kind utf8 units = absurd (cc units)
        by_kind ascii units = absurd (cc units)
        by_kind utf16 units = rw none refl
        by_kind ucs2 units = rw none refl

    -- characters may be read from each offset
    pub lead_can : o ≤ length v.units → CanRead v o
    lead_can room = by_kind v.kind are
      where
        by_kind : (kind : Kind) → are_bytes kind ≡ false → IsReadable kind v.units o
        by_kind utf8 units = absurd (cc units)
        by_kind ascii units = absurd (cc units)
        by_kind utf16 units = room
        by_kind ucs2 units = room

  module _ (all : AreOfKind v.kind v.units) where
    -- the character ahead of an offset begins with a byte
    abbrev pub Begins : (o b : ℕ) → Type 0
    Begins o b = (c : ℕ) × (q : ℕ) × ((input_of v).next Forward o ≡ Some (c, q)) × is_code_point c × (slice_get (encode_utf8 c) 0 ≡ Some b)

    unit-begins : are_bytes v.kind ≡ false → (o b : ℕ) → Some b ≡ lead_ahead v o → Begins o b
    unit-begins are o b is = by_next ((input_of v).next Forward o) refl
      where
        by_next : (x : Option (ℕ × ℕ)) → (input_of v).next Forward o ≡ x → Begins o b
        by_next None none = let never : Some b ≡ None = is ∙ lead-unit are o ∙ ap told none in absurd (cc never)
        by_next (Some x) here =
            let so : Some b ≡ Some (get_or (encode_utf8 x.0) 0 0) = is ∙ lead-unit are o ∙ ap told here in
            let same : b ≡ get_or (encode_utf8 x.0) 0 0 = cc in
            let first : lead x.0 ≡ b = sym (lead-is x.0) ∙ sym same in
            (x.0, x.1, here, unit-point v.kind v.table v.unicode v.units all are o x here, has-lead x.0 ∙ ap Some first)

    -- The character ahead of an offset begins with the byte that is told of it, where that is not inside of one.
    pub lead-begins : (o b : ℕ) → Some b ≡ lead_ahead v o → is_continuation b ≡ false → Begins o b
    lead-begins o b is outside = by_kind (are_bytes v.kind) refl
      where
        by_kind : (t : Bool) → are_bytes v.kind ≡ t → Begins o b
        by_kind true are = next-begins v are all o b (sym (is ∙ lead-byte are o)) outside
        by_kind false are = unit-begins are o b is

    -- Where a byte is told there is a character ahead.
    pub lead-some : (o b : ℕ) → Some b ≡ lead_ahead v o → is_some ((input_of v).next Forward o) ≡ true
    lead-some o b is = by_kind (are_bytes v.kind) refl
      where
        by_kind : (t : Bool) → are_bytes v.kind ≡ t → is_some ((input_of v).next Forward o) ≡ true
        by_kind true are = some-ahead v are o b (sym (is ∙ lead-byte are o))
        by_kind false are = let (c, q, next, point, first) = unit-begins are o b is in ap is_some next

    -- And where a character may be read and is, a byte is told, which is not inside of one.
    pub lead-of : (o : ℕ) (x : ℕ × ℕ) → CanRead v o → (input_of v).next Forward o ≡ Some x
        → (b : ℕ) × (Some b ≡ lead_ahead v o) × (is_continuation b ≡ false) × (b < 256)
    lead-of o x can e = by_kind (are_bytes v.kind) refl
      where
        by_unit : are_bytes v.kind ≡ true → (y : Option ℕ) → slice_get v.units o ≡ y → (b : ℕ) × (Some b ≡ lead_ahead v o) × (is_continuation b ≡ false) × (b < 256)
        by_unit are None none = let never : None ≡ Some x = sym (none-ahead v are o none) ∙ e in absurd (cc never)
        by_unit are (Some b) here =
            let (outside, small) = unit-leads v are all o b can here in (b, sym (lead-byte are o ∙ here), outside, small)

        by_kind : (t : Bool) → are_bytes v.kind ≡ t → (b : ℕ) × (Some b ≡ lead_ahead v o) × (is_continuation b ≡ false) × (b < 256)
        by_kind true are = by_unit are (slice_get v.units o) refl
        by_kind false are =
            let point = unit-point v.kind v.table v.unicode v.units all are o x e in
            let (outside, small) = lead-outside (lead x.0) (MayLead-first x.0 (lead x.0) point (has-lead x.0)) in
            (lead x.0, ap Some (sym (lead-is x.0)) ∙ sym (lead-unit are o ∙ ap told e), outside, small)
