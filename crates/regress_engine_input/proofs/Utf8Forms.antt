-- The bytes of a character: they tell it, and how many they are, from either end.
use Rattle.std.specs.Prelude.{nat_lt}
use Rattle.std.specs.Char.{len_utf8}
use Rattle.std.proofs.Common.{◌≡◌, ◌⊎◌, inl, inr, ℕ, suc, ◌+◌, ◌-◌, ◌/◌, ◌%◌, ◌<◌, ◌≤◌, true, false, not, List, [], ◌∷◌, ◌++◌, if◌then◌else◌, get_or, refl, sym, ap, ap₂, ◌∙◌, subst, arith}
use Rattle.std.proofs.Math.Utf8.{encode}
use Rattle.std.proofs.lemmas.Bool.{cases_lt}
use Rattle.std.proofs.lemmas.Bool.Decides.{nat_tests}
use Rattle.regress_front_bytes.proofs.Utf8Lemmas.{code_point_of_two, code_point_of_three, code_point_of_four}
use Rattle.regress_meaning.specs.Inputs.{of_two, of_three, of_four, is_continuation, bytes_right, bytes_left}

-- the byte is the first of a character of two bytes, of three, of four; or it is not the first
abbrev pub IsFollower : ℕ → Type 0
IsFollower b = (0x80 ≤ b) × (b < 0xC0)

-- The first of these bytes are the k bytes of c.
abbrev pub Form : ℕ → ℕ → ℕ → ℕ → ℕ → ℕ → Type 0
Form c k w x y z =
    ((c < 0x80) × (k ≡ 1) × (w ≡ c))
    ⊎ (((k ≡ 2) × ((0xC0 ≤ w) × (w < 0xE0)) × IsFollower x × (of_two w x ≡ c))
    ⊎ (((k ≡ 3) × ((0xE0 ≤ w) × (w < 0xF0)) × IsFollower x × IsFollower y × (of_three w x y ≡ c))
    ⊎ ((k ≡ 4) × (0xF0 ≤ w) × IsFollower x × IsFollower y × IsFollower z × (of_four w x y z ≡ c))))

encode-one : (c : ℕ) → c < 128 → encode c ≡ c ∷ []
unfolding encode
encode-one c a = grind (arith, nat_tests)

encode-two : (c : ℕ) → 128 ≤ c → c < 2048 → encode c ≡ (192 + c / 64) ∷ (128 + c % 64) ∷ []
unfolding encode
encode-two c a b = grind (arith, nat_tests)

encode-three : (c : ℕ) → 2048 ≤ c → c < 65536 → encode c ≡ (224 + c / 4096) ∷ (128 + c / 64 % 64) ∷ (128 + c % 64) ∷ []
unfolding encode
encode-three c a b = grind (arith, nat_tests)

encode-four : (c : ℕ) → 65536 ≤ c → encode c ≡ (240 + c / 262144) ∷ (128 + c / 4096 % 64) ∷ (128 + c / 64 % 64) ∷ (128 + c % 64) ∷ []
unfolding encode
encode-four c a = grind (arith, nat_tests)

len-one : (c : ℕ) → c < 128 → len_utf8 c ≡ 1
len-one c a = grind (arith, nat_tests)

len-two : (c : ℕ) → 128 ≤ c → c < 2048 → len_utf8 c ≡ 2
len-two c a b = grind (arith, nat_tests)

len-three : (c : ℕ) → 2048 ≤ c → c < 65536 → len_utf8 c ≡ 3
len-three c a b = grind (arith, nat_tests)

len-four : (c : ℕ) → 65536 ≤ c → len_utf8 c ≡ 4
len-four c a = grind (arith, nat_tests)

-- the bytes at the front of a text
abbrev pub FormAt : ℕ → List ℕ → Type 0
FormAt c xs = Form c (len_utf8 c) (get_or xs 0 0) (get_or xs 1 0) (get_or xs 2 0) (get_or xs 3 0)

pub form : (c : ℕ) → c ≤ 0x10_FFFF → (rest : List ℕ) → FormAt c (encode c ++ rest)
form c within rest = by_size (cases_lt c 128) (cases_lt c 2048) (cases_lt c 65536)
  where
    put : (bs : List ℕ) → encode c ≡ bs → FormAt c (bs ++ rest) → FormAt c (encode c ++ rest)
    put bs e h = subst (λ xs. FormAt c (xs ++ rest)) (sym e) h

    by_size : (c < 128) ⊎ (128 ≤ c) → (c < 2048) ⊎ (2048 ≤ c) → (c < 65536) ⊎ (65536 ≤ c) → FormAt c (encode c ++ rest)
    by_size (inl a) x y = put (c ∷ []) (encode-one c a) (inl (a, len-one c a, refl))
    by_size (inr a) (inl b) y =
        put ((192 + c / 64) ∷ (128 + c % 64) ∷ []) (encode-two c a b)
        (inr (inl (len-two c a b, (omega arith, omega arith), (omega arith, omega arith), code_point_of_two c (192 + c / 64) (128 + c % 64) within (encode-two c a b))))
    by_size (inr a) (inr b) (inl d) =
        put ((224 + c / 4096) ∷ (128 + c / 64 % 64) ∷ (128 + c % 64) ∷ []) (encode-three c b d)
        (inr (inr (inl (
          len-three c b d,
          (omega arith, omega arith),
          (omega arith, omega arith),
          (omega arith, omega arith),
          code_point_of_three c (224 + c / 4096) (128 + c / 64 % 64) (128 + c % 64) within (encode-three c b d),
        ))))
    by_size (inr a) (inr b) (inr d) =
        put ((240 + c / 262144) ∷ (128 + c / 4096 % 64) ∷ (128 + c / 64 % 64) ∷ (128 + c % 64) ∷ []) (encode-four c d)
        (inr (inr (inr (
          len-four c d,
          omega arith,
          (omega arith, omega arith),
          (omega arith, omega arith),
          (omega arith, omega arith),
          code_point_of_four c (240 + c / 262144) (128 + c / 4096 % 64) (128 + c / 64 % 64) (128 + c % 64) within (encode-four c d),
        ))))

-- the tests by which a byte is told
module _ (b : ℕ) where
  pub not_low : 0x80 ≤ b → nat_lt b 0x80 ≡ false
  not_low h = grind (arith, nat_tests)

  pub below : (n : ℕ) → b < n → nat_lt b n ≡ true
  below n h = grind (arith, nat_tests)

  pub not_below : (n : ℕ) → n ≤ b → nat_lt b n ≡ false
  not_below n h = grind (arith, nat_tests)

  pub follower : IsFollower b → not (is_continuation b) ≡ false
  follower h = let e = h.0 in let f = h.1 in grind (arith, nat_tests)

  pub leader : 0xC0 ≤ b → not (is_continuation b) ≡ true
  leader h = grind (arith, nat_tests)

-- they tell it from the front
pub form-right : (c k w x y z : ℕ) → Form c k w x y z → bytes_right w x y z ≡ (c, k)
form-right c k w x y z (inl (a, e, f)) =
    ap (λ t. if t then (w, 1) else if nat_lt w 0xE0 then (of_two w x, 2) else if nat_lt w 0xF0 then (of_three w x y, 3) else (of_four w x y z, 4)) (below w 0x80 (omega (arith, a, f)))
    ∙ ap₂ (λ (c k : ℕ). (c, k)) f (sym e)
form-right c k w x y z (inr (inl (e, r, s, f))) =
    ap₂ (λ t u. if t then (w, 1) else if u then (of_two w x, 2) else if nat_lt w 0xF0 then (of_three w x y, 3) else (of_four w x y z, 4))
    (not_below w 0x80 (omega (arith, r.0))) (below w 0xE0 r.1)
    ∙ ap₂ (λ (c k : ℕ). (c, k)) f (sym e)
form-right c k w x y z (inr (inr (inl (e, r, s, t, f)))) =
    ap₂ (λ t u. if t then (w, 1) else if u then (of_two w x, 2) else if nat_lt w 0xF0 then (of_three w x y, 3) else (of_four w x y z, 4))
    (not_below w 0x80 (omega (arith, r.0))) (not_below w 0xE0 r.0)
    ∙ ap (λ t. if t then (of_three w x y, 3) else (of_four w x y z, 4)) (below w 0xF0 r.1)
    ∙ ap₂ (λ (c k : ℕ). (c, k)) f (sym e)
form-right c k w x y z (inr (inr (inr (e, r, s, t, u, f)))) =
    ap₂ (λ t u. if t then (w, 1) else if u then (of_two w x, 2) else if nat_lt w 0xF0 then (of_three w x y, 3) else (of_four w x y z, 4))
    (not_below w 0x80 (omega (arith, r))) (not_below w 0xE0 (omega (arith, r)))
    ∙ ap (λ t. if t then (of_three w x y, 3) else (of_four w x y z, 4)) (not_below w 0xF0 r)
    ∙ ap₂ (λ (c k : ℕ). (c, k)) f (sym e)

-- and from the end
module _ (w x y z : ℕ) where
  left-one : z < 0x80 → bytes_left w x y z ≡ (z, 1)
  left-one h =
      ap (λ t. if t then (z, 1) else if not (is_continuation y) then (of_two y z, 2) else if not (is_continuation x) then (of_three x y z, 3) else (of_four w x y z, 4))
      (below z 0x80 h)

  left-two : IsFollower z → 0xC0 ≤ y → bytes_left w x y z ≡ (of_two y z, 2)
  left-two h g =
      ap₂ (λ t u. if t then (z, 1) else if u then (of_two y z, 2) else if not (is_continuation x) then (of_three x y z, 3) else (of_four w x y z, 4))
      (not_below z 0x80 h.0) (leader y g)

  left-three : IsFollower z → IsFollower y → 0xC0 ≤ x → bytes_left w x y z ≡ (of_three x y z, 3)
  left-three h g f =
      ap₂ (λ t u. if t then (z, 1) else if u then (of_two y z, 2) else if not (is_continuation x) then (of_three x y z, 3) else (of_four w x y z, 4))
      (not_below z 0x80 h.0) (follower y g)
      ∙ ap (λ t. if t then (of_three x y z, 3) else (of_four w x y z, 4)) (leader x f)

  left-four : IsFollower z → IsFollower y → IsFollower x → bytes_left w x y z ≡ (of_four w x y z, 4)
  left-four h g f =
      ap₂ (λ t u. if t then (z, 1) else if u then (of_two y z, 2) else if not (is_continuation x) then (of_three x y z, 3) else (of_four w x y z, 4))
      (not_below z 0x80 h.0) (follower y g)
      ∙ ap (λ t. if t then (of_three x y z, 3) else (of_four w x y z, 4)) (follower x f)

-- the same, by what is tested
module _ (w x y z : ℕ) (h : 0x80 ≤ z) (g : is_continuation y ≡ true) where
  followed : bytes_left w x y z ≡ (if not (is_continuation x) then (of_three x y z, 3) else (of_four w x y z, 4))
  followed =
      ap₂ (λ t u. if t then (z, 1) else if not u then (of_two y z, 2) else if not (is_continuation x) then (of_three x y z, 3) else (of_four w x y z, 4))
      (not_low z h) g

  pub left-three-told : is_continuation x ≡ false → bytes_left w x y z ≡ (of_three x y z, 3)
  left-three-told f = followed ∙ ap (λ t. if not t then (of_three x y z, 3) else (of_four w x y z, 4)) f

  pub left-four-told : is_continuation x ≡ true → bytes_left w x y z ≡ (of_four w x y z, 4)
  left-four-told f = followed ∙ ap (λ t. if not t then (of_three x y z, 3) else (of_four w x y z, 4)) f

-- the bytes of c stand from o on, and m is the last of them
pub form-left : (b : ℕ → ℕ) (c k o m : ℕ) → suc m ≡ o + k → Form c k (b o) (b (o + 1)) (b (o + 2)) (b (o + 3))
    → bytes_left (b (m - 3)) (b (m - 2)) (b (m - 1)) (b m) ≡ (c, k)
form-left b c k o m e (inl (a, one, f)) =
    let last : b m ≡ c = ap b (omega (arith, e, one)) ∙ f in
    left-one (b (m - 3)) (b (m - 2)) (b (m - 1)) (b m) (omega (arith, last, a)) ∙ ap₂ (λ (c k : ℕ). (c, k)) last (sym one)
form-left b c k o m e (inr (inl (two, r, s, f))) =
    let last : b m ≡ b (o + 1) = ap b (omega (arith, e, two)) in
    let first : b (m - 1) ≡ b o = ap b (omega (arith, e, two)) in
    left-two (b (m - 3)) (b (m - 2)) (b (m - 1)) (b m) (subst IsFollower (sym last) s) (omega (arith, first, r.0))
    ∙ ap₂ (λ y z. (of_two y z, 2)) first last ∙ ap₂ (λ (c k : ℕ). (c, k)) f (sym two)
form-left b c k o m e (inr (inr (inl (three, r, s, t, f)))) =
    let last : b m ≡ b (o + 2) = ap b (omega (arith, e, three)) in
    let middle : b (m - 1) ≡ b (o + 1) = ap b (omega (arith, e, three)) in
    let first : b (m - 2) ≡ b o = ap b (omega (arith, e, three)) in
    left-three (b (m - 3)) (b (m - 2)) (b (m - 1)) (b m) (subst IsFollower (sym last) t) (subst IsFollower (sym middle) s) (omega (arith, first, r.0))
    ∙ ap (λ x. (of_three x (b (m - 1)) (b m), 3)) first ∙ ap₂ (λ y z. (of_three (b o) y z, 3)) middle last ∙ ap₂ (λ (c k : ℕ). (c, k)) f (sym three)
form-left b c k o m e (inr (inr (inr (four, r, s, t, u, f)))) =
    let last : b m ≡ b (o + 3) = ap b (omega (arith, e, four)) in
    let third : b (m - 1) ≡ b (o + 2) = ap b (omega (arith, e, four)) in
    let second : b (m - 2) ≡ b (o + 1) = ap b (omega (arith, e, four)) in
    let first : b (m - 3) ≡ b o = ap b (omega (arith, e, four)) in
    left-four (b (m - 3)) (b (m - 2)) (b (m - 1)) (b m) (subst IsFollower (sym last) u) (subst IsFollower (sym third) t) (subst IsFollower (sym second) s)
    ∙ ap₂ (λ w x. (of_four w x (b (m - 1)) (b m), 4)) first second ∙ ap₂ (λ y z. (of_four (b o) (b (o + 1)) y z, 4)) third last ∙ ap₂ (λ (c k : ℕ). (c, k)) f (sym four)

pub Form-same : (c k : ℕ) (w x y z w' x' y' z' : ℕ) → w ≡ w' → x ≡ x' → y ≡ y' → z ≡ z' → Form c k w x y z → Form c k w' x' y' z'
Form-same c k w x y z w' x' y' z' e f g h p =
    subst (λ v. Form c k w' x' y' v) h (subst (λ v. Form c k w' x' v z) g (subst (λ v. Form c k w' v y z) f (subst (λ v. Form c k v x y z) e p)))
