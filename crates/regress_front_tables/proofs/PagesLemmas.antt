-- What pages give.
use Rattle.std.proofs.Common.{◌≡◌, ◌≢◌, ℕ, ◌+◌, ◌-◌, ◌/◌, ◌%◌, ◌<◌, ◌≤◌, ◌==◌, false, cond, List, [], ◌∷◌, ◌++◌, length, get_or, All, Option, Some, None, unwrap_or, refl, sym, ap, ◌∙◌, inl, inr, arith, length-append}
use Rattle.std.specs.Option.{is_some}
use Rattle.std.proofs.lemmas.Bool.{false≢true, eq-eqb, ne_eqb, cases_eq, cases_lt}
use Rattle.std.proofs.lemmas.List.{get_or_append_left, get_or-append_right, get_or_past}
use Rattle.regress_meaning.specs.Table.{last_code_point}
use Rattle.regress_front_tables.specs.Pages.{number_in}

module _ (root : List ℕ) (pages : List (List ℕ)) (c : ℕ) where
  -- none where the root has 0
  pub number_in-none : get_or root (c / 256) 0 ≡ 0 → number_in root pages c ≡ None
  unfolding number_in
  number_in-none e = rw (eq-eqb (get_or root (c / 256) 0) 0 e) refl

  -- and else what the page that the root names has
  pub number_in-some : (k : ℕ) → get_or root (c / 256) 0 ≡ k → 0 < k
      → number_in root pages c ≡ Some (get_or (get_or pages (k - 1) []) (c % 256) 0)
  unfolding number_in
  number_in-some k e l =
      let there : (k == 0) ≡ false = ne_eqb k 0 (λ z. omega (arith, z)) in
      rw (e, there) refl

-- where a code point has no page, nothing in its page has one
pub number_in-page : (root : List ℕ) (pages : List (List ℕ)) (c d : ℕ) → d / 256 ≡ c / 256 → number_in root pages c ≡ None
    → number_in root pages d ≡ None
number_in-page root pages c d e none = elim (cases_eq (get_or root (c / 256) 0) 0) [
  | inl z ↦ number_in-none root pages d (ap (λ i. get_or root i 0) e ∙ z)
  | inr there ↦
      let told = number_in-some root pages c (get_or root (c / 256) 0) refl (omega (arith, there)) in
      absurd (none≢some (sym none ∙ told))
]
  where
    none≢some : {x : ℕ} → None ≡ Some x → ⊥
    none≢some e = false≢true (ap is_some e)

-- an option that has nothing is none
pub none_is : (o : Option ℕ) → is_some o ≡ false → o ≡ None
none_is None e = refl
none_is (Some x) e = absurd (false≢true (sym e))

-- the entry that was put last
last_entry : (root : List ℕ) (k i : ℕ) → i ≡ length root → get_or (root ++ k ∷ []) i 0 ≡ k
last_entry root k i e = let none : i - i ≡ 0 = omega arith in
    get_or-append_right root (k ∷ []) i i 0 (sym e) (omega arith) ∙ ap (λ j. get_or (k ∷ []) j 0) none

-- and the others
other_entry : (root : List ℕ) (k i : ℕ) → i ≢ length root → get_or (root ++ k ∷ []) i 0 ≡ get_or root i 0
other_entry root k i ne = elim (cases_lt i (length root)) [
  | inl l ↦ get_or_append_left root (k ∷ []) 0 i l
  | inr le ↦ get_or_past (root ++ k ∷ []) i 0 (omega (arith, length-append root (k ∷ []), le, ne)) ∙ sym (get_or_past root i 0 le)
]

module _ (root : List ℕ) (pages : List (List ℕ)) (c : ℕ) where
  -- one more entry, of no page
  pub number_in-unpaged : (n : ℕ) → n ≡ length root
      → number_in (root ++ 0 ∷ []) pages c ≡ cond (c / 256 == n) None (number_in root pages c)
  unfolding number_in
  number_in-unpaged n len = elim (cases_eq (c / 256) n) [
    | inl e ↦ rw (eq-eqb _ _ e) (number_in-none (root ++ 0 ∷ []) pages c (last_entry root 0 (c / 256) (e ∙ len)))
    | inr ne ↦ rw (ne_eqb _ _ ne) (other (λ e. ne (e ∙ sym len)))
  ]
    where
      other : c / 256 ≢ length root → number_in (root ++ 0 ∷ []) pages c ≡ number_in root pages c
      other ne = rw (other_entry root 0 (c / 256) ne) refl

  -- one more entry, of one more page
  pub number_in-paged : (page : List ℕ) (n m : ℕ) → n ≡ length root → m ≡ length pages → All (λ k. k ≤ m) root
      → number_in (root ++ (m + 1) ∷ []) (pages ++ page ∷ []) c
      ≡ cond (c / 256 == n) (Some (get_or page (c % 256) 0)) (number_in root pages c)
  number_in-paged page n m len size named = elim (cases_eq (c / 256) n) [
    | inl e ↦
        let none : m + 1 - 1 - m ≡ 0 = omega arith in
        let here : get_or (pages ++ page ∷ []) (m + 1 - 1) [] ≡ page =
        get_or-append_right pages (page ∷ []) m (m + 1 - 1) [] (sym size) (omega arith) ∙ ap (λ j. get_or (page ∷ []) j []) none in
        rw (eq-eqb _ _ e, number_in-some (root ++ (m + 1) ∷ []) (pages ++ page ∷ []) c (m + 1) (last_entry root (m + 1) (c / 256) (e ∙ len)) (omega arith), here) refl
    | inr ne ↦ rw (ne_eqb _ _ ne) (other (λ e. ne (e ∙ sym len)))
  ]
    where
      other : c / 256 ≢ length root
          → number_in (root ++ (m + 1) ∷ []) (pages ++ page ∷ []) c ≡ number_in root pages c
      other ne = let same = other_entry root (m + 1) (c / 256) ne in elim (cases_eq (get_or root (c / 256) 0) 0) [
        | inl z ↦ number_in-none _ (pages ++ page ∷ []) c (same ∙ z) ∙ sym (number_in-none root pages c z)
        | inr some ↦
            let below : get_or root (c / 256) 0 ≤ m = elim (cases_lt (c / 256) (length root)) [
              | inl l ↦ named (c / 256) 0 l
              | inr le ↦ omega (arith, get_or_past root (c / 256) 0 le)
            ] in
            number_in-some _ (pages ++ page ∷ []) c (get_or root (c / 256) 0) same (omega (arith, some))
            ∙ ap (λ p. Some (get_or p (c % 256) 0)) (get_or_append_left pages (page ∷ []) [] (get_or root (c / 256) 0 - 1) (omega (arith, below, some, size)))
            ∙ sym (number_in-some root pages c (get_or root (c / 256) 0) refl (omega (arith, some)))
      ]

-- ---- pages that are put one behind the other

-- In the first n pages each code point has its value. A code point without a page has the other value.
pub record IsFilled (other value : ℕ → ℕ) (n : ℕ) (numbers : ℕ → Option ℕ) : Type 0 where
  pub done : (c : ℕ) → c / 256 < n → unwrap_or (numbers c) (other c) ≡ value c
  pub ahead : (c : ℕ) → n ≤ c / 256 → numbers c ≡ None

module _ (other value : ℕ → ℕ) (numbers : ℕ → Option ℕ) where
  -- when all code points have had their page, each has its value
  pub IsFilled-all : (n : ℕ) → 4352 ≤ n → IsFilled other value n numbers → ((c : ℕ) → last_code_point < c → value c ≡ other c)
      → (c : ℕ) → unwrap_or (numbers c) (other c) ≡ value c
  IsFilled-all n full h past c = elim (cases_lt (c / 256) n) [
    | inl l ↦ h.done c l
    | inr le ↦ ap (λ o. unwrap_or o (other c)) (h.ahead c le) ∙ sym (past c (omega (arith, le, full)))
  ]
