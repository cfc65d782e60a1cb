use Rattle.std.proofs.Common.{◌≡◌, ℕ, ◌∷◌, [], ◌++◌, List, String, Vec, Global, length, map, refl, sym, ap, subst, ◌∙◌, append_assoc, append-nil, arith}
use Rattle.std.proofs.lemmas.List.{map_push}
use Rattle.std.specs.List.{AllZip}
use Rattle.std.specs.Vec.Iter.{into_iter_items}
use Rattle.ucd_sets.specs.declared.set.Set.{Set}
use Rattle.regress_front_sets.specs.declared.interval.Interval.{Interval}
use Rattle.regress_front_sets.specs.Intervals.{ends_of}
use Rattle.regress_front_tables.specs.Entries.{entry_of}
use Rattle.regress_unicode.specs.Keys.{shown}
use Rattle.regress_unicode.proofs.KeyLemmas.{IsRead, zip-more, all-held}
use Rattle.regress_unicode.proofs.properties.set_properties.Goals as goal

-- an entry as its text and the ends of its intervals
abbrev entry_shown : String Global × Vec Interval Global → List ℕ × List (ℕ × ℕ)
entry_shown = entry_of (λ v. ends_of v.items)

-- one entry more
held-more : (entries new : List (String Global × Vec Interval Global)) (keys : List (String Global × Set)) (e : String Global × Vec Interval Global) (k : String Global × Set)
    → AllZip IsRead (map entry_shown entries) (map shown keys) → IsRead (entry_shown e) (shown k) → new ≡ entries ++ e ∷ []
    → AllZip IsRead (map entry_shown new) (map shown (keys ++ k ∷ []))
held-more entries new keys e k before here is =
    rw (is, map_push entry_shown entries e, map_push {X = String Global × Set} shown keys k) (zip-more IsRead _ _ _ _ before here)

nothing_left : {X : Type 0} (l : List X) → length l ≡ 0 → l ≡ []
nothing_left [] h = refl
nothing_left (x ∷ xs) h = absurd (omega arith)

pub loop-key-preserved : goal.loop-key-preserved
loop-key-preserved c =
    let at = c.loop-key in
    let key = c.in-Some.key in
    let set = c.in-Some.set in
    let steps : into_iter_items at.key-iterator ≡ (key, set) ∷ into_iter_items c.next.new.self = c.in-Some.ensures.steps.0 in
    let gone = c.in-Some.ensures.steps.1 in
    let was = at.invariant.count in
    let short = ap length steps in
    record {
      order = append_assoc at.yielded ((key, set) ∷ []) _ ∙ rw (← steps) at.invariant.order;
      held = held-more at.properties.items c.push.new.self.items at.yielded (key, c.in_ok-intervals.field-0) (key, set) at.invariant.held (refl, c.in_ok-intervals.ensures.members) c.in_ok-push.ensures.items;
      count = omega arith;
    }

pub returns-clause-held : goal.returns-clause-held
returns-clause-held c =
    let at = c.loop-key in
    let empty : into_iter_items at.key-iterator ≡ [] = nothing_left _ (sym at.invariant.count ∙ c.in-None.ensures.steps.0) in
    let yielded : at.yielded ≡ c.in_ok-items.items.items = sym (append-nil at.yielded) ∙ rw empty at at.invariant.order ∙ c.into_iter-key-iterator.ensures.into_iter_gives.0 in
    let keys = ap (map shown) yielded ∙ c.in_ok-items.ensures in
    all-held _ (subst (AllZip IsRead (map entry_shown at.properties.items)) keys at.invariant.held)
