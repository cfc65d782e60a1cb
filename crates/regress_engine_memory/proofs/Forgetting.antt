-- What fails once fails whatever groups and loops are held, as long as the key is the same.
use Rattle.std.specs.Prelude.{if◌then◌else◌, min, nat_lt}
use Rattle.std.proofs.Common.{◌≡◌, ℕ, ◌+◌, ◌<◌, ◌≤◌, ◌⊎◌, ◌&&◌, ◌==◌, inl, inr, Bool, true, false, List, [], ◌∷◌, length, get_or, refl, sym, ap₂, ◌∙◌, arith}
use Rattle.std.proofs.lemmas.Bool.{cases_lt, and_parts, ltb-true, eqb-true}
use Rattle.regress_meaning.specs.Text.{holds}
use Rattle.regress_meaning.specs.Meaning.{Direction}
use Rattle.regress_meaning.specs.Inputs.{Input}
use Rattle.regress_engine_insn.specs.Instructions.{Program}
use Rattle.regress_engine_runs.specs.States.{Marks}
use Rattle.regress_engine_runs.specs.UndoStack.{Fails, whole}
use Rattle.regress_engine_memory.specs.Flow.{Flow, IsFlow}
use Rattle.regress_engine_runs.specs.Runs.{room}
use Rattle.regress_engine_memory.specs.Under.{HasMoved, Covers}
use Rattle.regress_engine_memory.specs.Keys.{Keyed, Key, AreFree, IsSteady, FailsWhere, is_fresh}
use Rattle.regress_engine_memory.proofs.ClassLemmas.{all-held}
use Rattle.regress_engine_memory.proofs.LessRuns.{less-fails}

-- data of one class are covered by those of which the iteration may end
alike-covers : (flow : Flow) (last id : ℕ) (dir : Direction) (o : ℕ) (b : Bool) (x y : ℕ × ℕ) → (if b then x.0 else min x.0 (flow.least id)) ≡ (if b then y.0 else min y.0 (flow.least id))
    → HasMoved flow last id dir o y → (b ≡ false → y.0 + 1 + room last dir o < flow.most id) → Covers flow last id dir o x y
alike-covers flow last id dir o true x y same moved more = inr (inl (record { counts = same; moved = moved }))
alike-covers flow last id dir o false x y same moved more = by_count (cases_lt x.0 (flow.least id))
  where
    by_count : (x.0 < flow.least id) ⊎ (flow.least id ≤ x.0) → Covers flow last id dir o x y
    by_count (inl few) = inr (inl (record { counts = omega (arith, same, few); moved = moved }))
    by_count (inr enough) = inr (inr (inl (record { begun = enough; enough = omega (arith, same, enough); more = more refl; moved = moved })))

-- so are those of a loop that is fresh in both
fresh-covers : (flow : Flow) (last id : ℕ) (dir : Direction) (o : ℕ) (b : Bool) (x y : ℕ × ℕ) → (if b then x.0 else min x.0 (flow.least id)) ≡ (if b then y.0 else min y.0 (flow.least id))
    → is_fresh flow id o x ≡ true → is_fresh flow id o y ≡ true → (b ≡ false → y.0 + 1 + room last dir o < flow.most id) → Covers flow last id dir o x y
fresh-covers flow last id dir o b x y same first second more = by_kind b same more
  where
    begun : (z : ℕ × ℕ) → is_fresh flow id o z ≡ true → (flow.least id < z.0) × (z.1 ≡ o)
    begun z fresh = let both = and_parts (nat_lt (flow.least id) z.0) (z.1 == o) fresh in (ltb-true (flow.least id) z.0 both.0, eqb-true z.1 o both.1)

    by_kind : (b : Bool) → (if b then x.0 else min x.0 (flow.least id)) ≡ (if b then y.0 else min y.0 (flow.least id)) → (b ≡ false → y.0 + 1 + room last dir o < flow.most id)
        → Covers flow last id dir o x y
    by_kind true counts more = inl (ap₂ (λ (n e : ℕ). (n, e)) counts ((begun x first).1 ∙ sym (begun y second).1))
    by_kind false counts more =
        let past = (begun y second).0 in
        let room-left = more refl in
        inr (inr (inr (record { begun = (begun x first).0; here = (begun x first).1; enough = omega (arith, past); more = omega (arith, room-left); entered = (begun y second).1 })))

module _ (keyed : Keyed) (program : Program) (input : Input) (closed : IsFlow keyed.flow program) (k : Key) (calm : keyed.flow.calm k.at ≡ true) where
  -- A state has no answer, and its loops show that none with its key may do more in which some of them are fresh: then none of these has one.
  pub forgets : (last : ℕ) (fresh : List ℕ) (ms : List (ℕ × ℕ)) (hs : List Marks) → length ms ≡ program.loops → AreFree keyed last fresh k ms
      → IsSteady program input last k.dir (whole k.at k.offset ms hs ∷ []) → Fails program input k.dir (whole k.at k.offset ms hs ∷ []) → FailsWhere program input keyed fresh k
  forgets last fresh ms hs count free steady fails loops groups size same begun =
      less-fails keyed.flow last program input closed fails.1 refl steady (whole k.at k.offset loops groups ∷ []) (inl (
        record {
          calm = calm;
          at = refl;
          offset = refl;
          size = size ∙ sym count;
          loops = λ id l. covers id l (holds fresh id) refl;
        },
        tt,
      ))
    where
      covers : (id : ℕ) → keyed.flow.live k.at id ≡ true → (b : Bool) → holds fresh id ≡ b → Covers keyed.flow last id k.dir k.offset (get_or loops id (0, 0)) (get_or ms id (0, 0))
      covers id l true e =
          fresh-covers keyed.flow last id k.dir k.offset (keyed.counted id) (get_or loops id (0, 0)) (get_or ms id (0, 0)) (same id l ∙ sym (free.key id l))
          (all-held (λ j. is_fresh keyed.flow j k.offset (get_or loops j (0, 0))) fresh begun id e) (all-held (λ j. is_fresh keyed.flow j k.offset (get_or ms j (0, 0))) fresh free.begun id e) (free.room id l)
      covers id l false e =
          alike-covers keyed.flow last id k.dir k.offset (keyed.counted id) (get_or loops id (0, 0)) (get_or ms id (0, 0)) (same id l ∙ sym (free.key id l)) (free.moved id l e) (free.room id l)
