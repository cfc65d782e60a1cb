-- The levels of a program whose addresses are placed stand in its order one behind another, the deepest first.
use Rattle.std.proofs.Common.{◌≡◌, ℕ, ◌+◌, ◌-◌, ◌<◌, ◌≤◌, inl, inr, length, sym, ap, ◌∙◌, subst, arith}
use Rattle.std.proofs.lemmas.Bool.{cases_eq, cases_lt}
use Rattle.regress_engine_linear.specs.Levels.{IsCut, IsLevel, IsRun}
use Rattle.regress_engine_linear.specs.RankTables.{Heights, ArePlaced, IsBefore, address_at, forward_at, index_at, level_at, rank_at}
use Rattle.regress_engine_linear.specs.declared.levels.Level.{Level}

-- none is worked out before itself
never-before : (h : Heights) (a b : ℕ) → a ≡ b → IsBefore h a b → ⊥
never-before h a b e (inl deeper) = let same = ap (level_at h) e in omega (arith, deeper, same)
never-before h a b e (inr (level, lower)) = let same = ap (rank_at h) e in omega (arith, lower, same)

-- nor two before each other
not-both : (h : Heights) (a b : ℕ) → IsBefore h a b → IsBefore h b a → ⊥
not-both h a b (inl deeper) (inl other) = omega (arith, deeper, other)
not-both h a b (inl deeper) (inr (level, lower)) = omega (arith, deeper, level)
not-both h a b (inr (level, lower)) (inl deeper) = omega (arith, deeper, level)
not-both h a b (inr (level, lower)) (inr (level', lower')) = omega (arith, lower, lower')

-- what is worked out before another is before those behind that
pub before-on : (h : Heights) (a b c : ℕ) → IsBefore h a b → IsBefore h b c → IsBefore h a c
before-on h a b c (inl deeper) (inl more) = inl (omega (arith, deeper, more))
before-on h a b c (inl deeper) (inr (level, lower)) = inl (omega (arith, deeper, level))
before-on h a b c (inr (level, lower)) (inl deeper) = inl (omega (arith, deeper, level))
before-on h a b c (inr (level, lower)) (inr (level', lower')) = inr (level' ∙ level, omega (arith, lower, lower'))

-- one more address in order
pub before-more : (h : Heights) (end : ℕ) → 0 < end → ((j k : ℕ) → j < k → k < end → IsBefore h (address_at h j) (address_at h k)) → IsBefore h (address_at h (end - 1)) (address_at h end)
    → (j k : ℕ) → j < k → k < end + 1 → IsBefore h (address_at h j) (address_at h k)
before-more h end some before last j k less low = elim (cases_eq k end) [
  | inr other ↦ before j k less (omega (arith, low, other))
  | inl same ↦ subst (λ x. IsBefore h (address_at h j) (address_at h x)) (sym same) (elim (cases_eq j (end - 1)) [
    | inl here ↦ subst (λ x. IsBefore h (address_at h x) (address_at h end)) (sym here) last
    | inr further ↦ before-on h (address_at h j) (address_at h (end - 1)) (address_at h end) (before j (end - 1) (omega (arith, less, same, further)) (omega (arith, some))) last
  ])
]

module _ (h : Heights) (count : ℕ) (placed : ArePlaced h count) where
  -- it has the lower index
  pub index-lower : (a b : ℕ) → a < count → b < count → IsBefore h a b → index_at h a < index_at h b
  index-lower a b there there' before = elim (cases_lt (index_at h a) (index_at h b)) [
    | inl less ↦ less
    | inr high ↦ elim (cases_eq (index_at h a) (index_at h b)) [
      | inl same ↦ absurd (never-before h a b (sym (placed.address a there) ∙ ap (address_at h) same ∙ placed.address b there') before)
      | inr other ↦
          let behind = placed.before (index_at h b) (index_at h a) (omega (arith, high, other)) (placed.index a there) in
          absurd (not-both h a b before (subst (λ x. IsBefore h b x) (placed.address a there) (subst (λ x. IsBefore h x (address_at h (index_at h a))) (placed.address b there') behind)))
    ]
  ]

  -- the index of the address at an index is that
  pub index-of : (k : ℕ) → k < length h.order → index_at h (address_at h k) ≡ k
  index-of k within = elim (cases_eq (index_at h at) k) [
    | inl same ↦ same
    | inr other ↦ elim (cases_lt (index_at h at) k) [
      | inl less ↦ absurd (never-before h (address_at h (index_at h at)) at (placed.address at there) (placed.before (index_at h at) k less within))
      | inr high ↦ absurd (never-before h at (address_at h (index_at h at)) (sym (placed.address at there)) (placed.before k (index_at h at) (omega (arith, high, other)) (placed.index at there)))
    ]
  ]
    where
      at : ℕ
      at = address_at h k

      there : at < count
      there = placed.there k within

  -- behind another no address is of a deeper level
  not-deeper : (j k : ℕ) → j ≤ k → k < length h.order → level_at h (address_at h k) ≤ level_at h (address_at h j)
  not-deeper j k low within = elim (cases_eq j k) [
    | inl same ↦ let e = ap (λ i. level_at h (address_at h i)) same in omega (arith, e)
    | inr other ↦ by_before (placed.before j k (omega (arith, low, other)) within)
  ]
    where
      by_before : IsBefore h (address_at h j) (address_at h k) → level_at h (address_at h k) ≤ level_at h (address_at h j)
      by_before (inl deeper) = omega (arith, deeper)
      by_before (inr (level, lower)) = omega (arith, level)

module _ (h : Heights) (placed : ArePlaced h (length h.ranks)) (l : Level) (run : IsRun h l.from l.to)
    (end : l.to < length h.order → level_at h (address_at h l.to) ≡ level_at h (address_at h l.from) → ⊥) (cut : IsCut h l.from) where
  abbrev count : ℕ
  count = length h.ranks

  abbrev first : ℕ
  first = level_at h (address_at h l.from)

  begin-within : l.from < length h.order
  begin-within = let some = run.some in let within = run.within in omega (arith, some, within)

  begin-there : address_at h l.from < count
  begin-there = placed.there l.from begin-within

  begin-low : l.from ≤ index_at h (address_at h l.from)
  begin-low = let e = index-of h count placed l.from begin-within in omega (arith, e)

  -- what stands behind is less deep
  behind : (b : ℕ) → b < count → l.to ≤ index_at h b → level_at h b < first
  behind b there high =
      let within = placed.index b there in
      let inside : l.to < length h.order = omega (arith, high, within) in
      let other = end inside in
      let some = run.some in
      let low = not-deeper h count placed l.from l.to (omega (arith, some)) inside in
      let lower = not-deeper h count placed l.to (index_at h b) high within in
      let e = ap (level_at h) (placed.address b there) in
      elim (cases_eq (level_at h (address_at h l.to)) first) [
        | inl same ↦ absurd (other same)
        | inr differs ↦ omega (arith, low, lower, e, differs)
      ]

  -- what stands before is deeper
  before : (b : ℕ) → b < count → index_at h b < l.from → first < level_at h b
  before b there less = cut b (address_at h l.from) there begin-there less begin-low

  -- it is a level
  pub level-is : ((k : ℕ) → l.from ≤ k → k < l.to → forward_at h (address_at h k) ≡ l.forward) → IsLevel h l
  level-is way = record {
    some = run.some;
    within = run.within;
    way = way;
    all = λ k b low high there level.
        let same = run.same k low high in (
          elim (cases_lt (index_at h b) l.from) [
            | inl less ↦ let deeper = before b there less in absurd (omega (arith, deeper, level, same))
            | inr not ↦ not
          ],
          elim (cases_lt (index_at h b) l.to) [
            | inl less ↦ less
            | inr past ↦ let lower = behind b there past in absurd (omega (arith, lower, level, same))
          ],
        );
  }

  -- and the next begins behind it
  pub next-cut : IsCut h l.to
  next-cut a b there there' less high =
      let low = behind b there' high in
      elim (cases_lt (index_at h a) l.from) [
        | inl deep ↦ let deeper = before a there deep in omega (arith, low, deeper)
        | inr from ↦ let same = run.same (index_at h a) from less in let e = ap (level_at h) (placed.address a there) in omega (arith, low, same, e)
      ]
