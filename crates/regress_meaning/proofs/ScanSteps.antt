-- A scan for groups, step by step: what it passes over, and what it finds.
use Rattle.std.proofs.Common.{◌≡◌, ℕ, suc, ◌-◌, ◌≤◌, Bool, true, false, not, ◌==◌, List, [], ◌∷◌, ◌++◌, length, Some, refl, sym, ap, ◌∙◌, arith, codes}
use Rattle.std.specs.Prelude.{nat_eq}
use Rattle.std.specs.List.{starts_with}
use Rattle.std.proofs.Math.Bool.{and-false}
use Rattle.regress_meaning.specs.Text.{◌∈◌, is_at}
use Rattle.regress_meaning.specs.Tokens.{Mode, name_at}
use Rattle.regress_meaning.specs.Grammar.{opens_name}
use Rattle.regress_meaning.specs.Scan.{group_names, opened_groups}
use Rattle.regress_meaning.proofs.ScanWords.{differs, is_neutral, Passed, here, plain, pair, Behind, past}

behind-length : {t r : List ℕ} → Behind t r → length r ≤ length t
behind-length here = omega arith
behind-length (past p) = let h = behind-length p in omega arith

-- a neutral code point and one that is not differ
neutral-differs : (c d : ℕ) → is_neutral c ≡ true → is_neutral d ≡ false → (c == d) ≡ false
neutral-differs c d e f = (differs is_neutral c d (e ∙ ap not (sym f))).0

module _ (m : Mode) where
  -- the names that a scan finds from t on, in a class or outside
  abbrev pub found_from : (in_class : Bool) → List ℕ → List (List ℕ)
  found_from b t = group_names m.table m.named b 0 t

  -- the same names are found from t as from r
  abbrev pub AgreeIn : (in_class : Bool) → List ℕ → List ℕ → Type 0
  AgreeIn b t r = found_from b t ≡ found_from b r

  -- so they are both in a class and outside
  pub record Agree (t r : List ℕ) : Type 0 where
    pub within : (b : Bool) → AgreeIn b t r

  -- so many code points are passed over as stand before the end r
  behind-skipped : (b : Bool) {t r : List ℕ} → Behind t r →
      group_names m.table m.named b (length t - length r) t ≡ found_from b r
  unfolding group_names
  behind-skipped b (here {t}) = ap (λ n. group_names m.table m.named b n t) (omega arith)
  behind-skipped b (past {c} {t} {r} p) =
      let h = behind-length p in
      let e : length (c ∷ t) - length r ≡ suc (length t - length r) = omega arith in
      rw e (behind-skipped b p)

  -- outside a class, what c opens is found, and what it begins is passed over
  outside-step : (c : ℕ) (t : List ℕ) (word : List (List ℕ) × List ℕ) → opened_groups m.table m.named c t ≡ word → Behind t word.1 →
      found_from false (c ∷ t) ≡ word.0 ++ found_from (c == 0x5B) word.1
  unfolding group_names
  outside-step c t word e p = rw e (ap (λ names. word.0 ++ names) (behind-skipped (c == 0x5B) p))

  -- in a class anything but the closing bracket and a backslash is passed over
  pub class-step : (c : ℕ) (t : List ℕ) → (c == 0x5C) ≡ false → (c == 0x5D) ≡ false → AgreeIn true (c ∷ t) t
  unfolding group_names
  class-step c t e f = rw (f, e) refl

  -- outside one anything but a backslash and the opening brackets
  pub plain-step : (c : ℕ) (t : List ℕ) → (c == 0x5C) ≡ false → (c == 0x28) ≡ false → (c == 0x5B) ≡ false →
      AgreeIn false (c ∷ t) t
  plain-step c t e f g =
      let nothing : opened_groups m.table m.named c t ≡ ([], t) = rw (e, f) refl in
      rw g at (outside-step c t ([], t) nothing here)

  pub neutral-agrees : (c : ℕ) (t : List ℕ) → is_neutral c ≡ true → Agree (c ∷ t) t
  neutral-agrees c t e = record { within = in_both }
    where
      apart : (d : ℕ) → is_neutral d ≡ false → (c == d) ≡ false
      apart d f = neutral-differs c d e f

      in_both : (b : Bool) → AgreeIn b (c ∷ t) t
      in_both true = class-step c t (apart 0x5C refl) (apart 0x5D refl)
      in_both false = plain-step c t (apart 0x5C refl) (apart 0x28 refl) (apart 0x5B refl)

  -- a backslash and what follows it, where that is no `k`
  pub pair-agrees : (c : ℕ) (t : List ℕ) → (c == 0x6B) ≡ false → Agree (0x5C ∷ c ∷ t) t
  unfolding group_names
  pair-agrees c t e = record { within = in_both }
    where
      no_name : starts_with nat_eq (c ∷ t) (codes "k<") ≡ false
      no_name = rw (differs (λ d. d == 0x6B) c 0x6B e).1 refl

      in_both : (b : Bool) → AgreeIn b (0x5C ∷ c ∷ t) t
      in_both true = refl
      in_both false = outside-step 0x5C (c ∷ t) ([], t) (rw (no_name, and-false m.named) refl) (past here)

  pub agree_trans : {t u r : List ℕ} → Agree t u → Agree u r → Agree t r
  agree_trans h g = record { within = λ b. h.within b ∙ g.within b }

  pub passed-agrees : {t r : List ℕ} → Passed t r → Agree t r
  passed-agrees here = record { within = λ b. refl }
  passed-agrees (plain {c} {t} e p) = agree_trans (neutral-agrees c t e) (passed-agrees p)
  passed-agrees (pair {c} {t} e p) = agree_trans (pair-agrees c t e) (passed-agrees p)

  -- a class is entered
  pub enter : (t : List ℕ) → found_from false (0x5B ∷ t) ≡ found_from true t
  enter t = outside-step 0x5B t ([], t) refl here

  -- a bracket inside a class with `v` may stand anywhere
  pub enter_any : (b : Bool) (t : List ℕ) → found_from b (0x5B ∷ t) ≡ found_from true t
  unfolding group_names
  enter_any true t = refl
  enter_any false t = enter t

  -- a class is left
  pub leave : (b : Bool) (t : List ℕ) → found_from b (0x5D ∷ t) ≡ found_from false t
  unfolding group_names
  leave true t = refl
  leave false t = outside-step 0x5D t ([], t) refl here

  -- a group without a name
  pub group-step : (t : List ℕ) → is_at (λ d. d == 0x3F) t ≡ false →
      found_from false (0x28 ∷ t) ≡ [] ∷ found_from false t
  group-step t e = outside-step 0x28 t ([] ∷ [], t) (rw e refl) here

  -- a group with one
  pub named_group-step : (t name r : List ℕ) → is_at (λ c. c ∈ "=!") t ≡ false → name_at m.table t ≡ Some (name, r) → Behind t r →
      found_from false (0x28 ∷ 0x3F ∷ 0x3C ∷ t) ≡ name ∷ found_from false r
  named_group-step t name r e read p =
      outside-step 0x28 (0x3F ∷ 0x3C ∷ t) (name ∷ [], r) (rw (e, read) refl) (past (past p))

  -- a parenthesis that opens no group with a number
  pub uncounted-step : (t : List ℕ) → opens_name (0x28 ∷ 0x3F ∷ t) ≡ false → AgreeIn false (0x28 ∷ 0x3F ∷ t) t
  uncounted-step t e =
      outside-step 0x28 (0x3F ∷ t) ([], 0x3F ∷ t) (rw e refl) here ∙ (neutral-agrees 0x3F t refl).within false

  -- a reference to a name
  pub reference-step : (t name r : List ℕ) → m.named ≡ true → name_at m.table t ≡ Some (name, r) → Behind t r →
      AgreeIn false (0x5C ∷ 0x6B ∷ 0x3C ∷ t) r
  reference-step t name r e read p = outside-step 0x5C (0x6B ∷ 0x3C ∷ t) ([], r) (rw (e, read) refl) (past (past p))

  -- `\k` where no names are read
  pub unnamed_k-step : (t : List ℕ) → m.named ≡ false → AgreeIn false (0x5C ∷ 0x6B ∷ t) t
  unnamed_k-step t e = outside-step 0x5C (0x6B ∷ t) ([], t) (rw e refl) (past here)
