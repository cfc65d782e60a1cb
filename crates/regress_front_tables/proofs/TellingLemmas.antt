-- What is told of laws that are about single numbers.
use Rattle.std.proofs.Common.{◌≡◌, ◌≢◌, ℕ, ◌<◌, ◌≤◌, Bool, true, false, cond, List, [], ◌∷◌, All, Option, Some, None, MatchOption, IfSome, IfNone, refl, subst, inl, inr, arith}
use Rattle.std.specs.List.{find}
use Rattle.std.specs.Option.{option_map}
use Rattle.std.proofs.lemmas.Bool.{cases_eq, cases_lt}
use Rattle.std.proofs.lemmas.List.Elements.{All-nil, All-cons, All-head, All-tail}
use Rattle.regress_meaning.specs.TableParts.{TableParts, BothMaps, HasAsciiCase, PairsRise}
use Rattle.regress_front_tables.specs.Breaking.{IsLeast, Tells}
use Rattle.regress_front_tables.specs.declared.tables.law.TableLaw.TheVariants.{AsciiCase}
use Rattle.regress_front_tables.specs.Telling.{TellsLeast, lesser}
use Rattle.regress_front_tables.proofs.ImageLemmas.{PairsRise-tail, PairsRise-above}

-- where nothing is told, each number keeps the law
pub kept-from_told : (P : ℕ → Type 0) (told : Option ℕ) → TellsLeast told P → IfNone told ((c : ℕ) → P c)
kept-from_told P None h = h
kept-from_told P (Some c) h = tt

-- what is told is the least that breaks the law
pub least-from_told : (P : ℕ → Type 0) (told : Option ℕ) → TellsLeast told P → IfSome told (IsLeast (λ c. P c → ⊥))
least-from_told P None h = tt
least-from_told P (Some c) h = h

-- what is told of a law is told of the same law in other words
pub TellsLeast-same : (P Q : ℕ → Type 0) → ((c : ℕ) → P c → Q c) → ((c : ℕ) → Q c → P c) → (told : Option ℕ) → TellsLeast told P → TellsLeast told Q
TellsLeast-same P Q to from None h = λ c. to c (h c)
TellsLeast-same P Q to from (Some c) h = record { holds = λ q. h.holds (from c q); least = λ d l nq. h.least d l (λ p. nq (to d p)) }

-- of two laws the lesser of what is told of each is told
pub TellsLeast-both : (P Q : ℕ → Type 0) (a b : Option ℕ) → TellsLeast a P → TellsLeast b Q → TellsLeast (lesser a b) (λ c. P c × Q c)
TellsLeast-both P Q None None h k = λ c. (h c, k c)
TellsLeast-both P Q None (Some d) h k =
    record { holds = λ both. k.holds both.1; least = λ e l broken. k.least e l (λ q. broken (h e, q)) }
TellsLeast-both P Q (Some c) None h k =
    record { holds = λ both. h.holds both.0; least = λ e l broken. h.least e l (λ p. broken (p, k e)) }
TellsLeast-both P Q (Some c) (Some d) h k =
    let neither : (e : ℕ) → e < c → e < d → (P e × Q e → ⊥) → ⊥ =
    λ e l m broken. h.least e l (λ p. k.least e m (λ q. broken (p, q))) in
    elim (cases_lt c d) [
      | inl l ↦ subst (IsLeast (λ e. P e × Q e → ⊥)) {x = c} (omega arith)
          (record { holds = λ both. h.holds both.0; least = λ e m. neither e m (omega arith) })
      | inr l ↦ subst (IsLeast (λ e. P e × Q e → ⊥)) {x = d} (omega arith)
          (record { holds = λ both. k.holds both.1; least = λ e m. neither e (omega arith) m })
    ]

-- of a law on both maps the lesser of what is told of each is told, where something is told
pub IsLeast-both_maps : (P : ℕ → List (ℕ × ℕ) → Type 0) (parts : TableParts) (a b told : Option ℕ) → told ≡ lesser a b
    → TellsLeast a (λ c. P c parts.fold) → TellsLeast b (λ c. P c parts.upper)
    → IfSome told (IsLeast (λ c. BothMaps parts (P c) → ⊥))
IsLeast-both_maps P parts a b told same h k =
    let both = TellsLeast-both (λ c. P c parts.fold) (λ c. P c parts.upper) a b h k in
    least-from_told (λ c. BothMaps parts (P c)) told (rw (← same) at both)

-- A law that holds of all that isn't listed, where a test of the pairs finds what breaks it: the first found is the least.
pub TellsLeast-find : (P : ℕ → Type 0) (test : ℕ × ℕ → Bool) (pairs : List (ℕ × ℕ)) → PairsRise pairs
    → ((c : ℕ) → All (λ p. p.0 ≢ c) pairs → P c)
    → All (λ p. (test p ≡ true → P p.0 → ⊥) × (test p ≡ false → P p.0)) pairs
    → TellsLeast (option_map (λ p. p.0) (find test pairs)) P
TellsLeast-find P test [] rise unlisted decides = λ c. unlisted c (All-nil (λ p. p.0 ≢ c))
TellsLeast-find P test (p ∷ pairs) rise unlisted decides =
    go (test p) here.0 here.1
    (λ own. TellsLeast-find P test pairs (PairsRise-tail p pairs rise) (λ c. others c own)
    (All-tail (λ q. (test q ≡ true → P q.0 → ⊥) × (test q ≡ false → P q.0)) p pairs decides))
  where
    here : (test p ≡ true → P p.0 → ⊥) × (test p ≡ false → P p.0)
    here = All-head (λ q. (test q ≡ true → P q.0 → ⊥) × (test q ≡ false → P q.0)) p pairs decides

    others : (c : ℕ) → P p.0 → All (λ q. q.0 ≢ c) pairs → P c
    others c own h =
        elim (cases_eq p.0 c) [
          | inl same ↦ subst P same own
          | inr other ↦ unlisted c (All-cons (λ q. q.0 ≢ c) p pairs other h)
        ]

    below : (c : ℕ) → c < p.0 → P c
    below c l =
        unlisted c (All-cons (λ q. q.0 ≢ c) p pairs (λ same. omega arith)
        (λ k d m same. omega (arith, PairsRise-above p pairs rise k d m)))

    go : (b : Bool) → (b ≡ true → P p.0 → ⊥) → (b ≡ false → P p.0)
        → (P p.0 → TellsLeast (option_map (λ q. q.0) (find test pairs)) P)
        → TellsLeast (option_map (λ q. q.0) (cond b (Some p) (find test pairs))) P
    go true bad good rest = record { holds = bad refl; least = λ c l broken. broken (below c l) }
    go false bad good rest = rest (good refl)

-- a law on the numbers below n: what is told is what a search from 0 up to n finds
pub TellsLeast-below : (P : ℕ → Type 0) (n : ℕ) (told : Option ℕ)
    → MatchOption told ((c : ℕ) → 0 ≤ c → c < n → P c) (λ c. (0 ≤ c) × (c < n) × (P c → ⊥) × ((d : ℕ) → 0 ≤ d → d < c → P d))
    → TellsLeast told (λ c. c < n → P c)
TellsLeast-below P n None h = λ c l. h c (omega arith) l
TellsLeast-below P n (Some c) h =
    record { holds = λ own. h.2 (own h.1); least = λ d l broken. broken (λ m. h.3 d (omega arith) l) }

-- what is told of the maps on ASCII
pub Tells-ascii_case : (parts : TableParts) (told : Option ℕ) → TellsLeast told (λ c. c < 0x80 → HasAsciiCase parts c) → IfSome told (Tells AsciiCase parts)
Tells-ascii_case parts None h = tt
Tells-ascii_case parts (Some c) h =
    elim (cases_lt c 0x80) [
      | inl l ↦ record { holds = (l, λ own. h.holds (λ m. own)); least = λ d m broken. h.least d m (λ own. broken.1 (own broken.0)) }
      | inr l ↦ absurd (h.holds (λ m. absurd (omega arith)))
    ]
