-- What a one-character loop gives back is what it took, one by one, the other way round.
use Rattle.std.specs.Prelude.{chars, slice_get, option_and_then, reverse}
use Rattle.std.proofs.Common.{◌≡◌, ℕ, zero, suc, ◌-◌, ◌≤◌, ◌⊎◌, inl, inr, Bool, true, false, not, List, [], ◌∷◌, ◌++◌, length, Option, Some, None, if◌then◌else◌, option_map, refl, sym, ap, ◌∙◌, subst, arith}
use Rattle.std.proofs.lemmas.List.{reverse-append}
use Rattle.std.proofs.lemmas.Option.{slice_get_within}
use Rattle.regress_meaning.specs.Text.{same_text}
use Rattle.regress_meaning.specs.Meaning.{Direction, Forward, Backward}
use Rattle.regress_meaning.specs.Offsets.{offset}
use Rattle.regress_meaning.specs.Inputs.{Tells, neighbour, point_told}
use Rattle.regress_meaning.specs.Steps.{passed, literal}
use Rattle.regress_front_nodes.specs.TreeMeaning.{bracket_has}
use Rattle.regress_engine_input.specs.Views.{View, AreOfKind, are_bytes, input_of, reading_of}
use Rattle.regress_engine_input.proofs.KindLemmas.{tells}
use Rattle.regress_engine_matchers.proofs.ByteLemmas.{in-bytes}
use Rattle.regress_engine_matchers.proofs.SequenceLemmas.{sees_sequence}
use Rattle.regress_engine_insn.specs.Instructions.{Instruction, Program, Stands}
use Rattle.regress_engine_insn.specs.Instructions as code
use Rattle.regress_engine_insn.proofs.LiteralLemmas.{one-character}
use Rattle.regress_engine_runs.specs.States.{Marks}
use Rattle.regress_engine_runs.specs.Runs.{advance, as_far, one_by_one, given_back}
use Rattle.regress_engine_runs.specs.Closed.{Fits, takes_character}
use Rattle.regress_engine_runs.proofs.BodyPlaces.{one-whole}
use Rattle.regress_engine_runs.proofs.GivingBack.{ahead, HasPlace, offset_ahead, ahead-none, ahead-on, HasPlace-none, HasPlace-here, HasPlace-on, given_back-none, given_back-further}
use Rattle.regress_engine_runs.proofs.RunViews.{one_stands}
use Rattle.regress_engine_search.specs.Ready.{IsBody}
use Rattle.regress_engine_search.specs.Search.{Suits}
use Rattle.regress_engine_search.proofs.PlaceLemmas.{can-read}

-- ---- one iteration goes one place further

module _ (v : View) (all : AreOfKind v.kind v.units) where
  abbrev pub told : Tells (reading_of v) (input_of v)
  told = tells v.kind v.table v.unicode v.units all

  abbrev pub HasOne : Direction → ℕ → ℕ → Type 0
  HasOne dir p k = HasPlace (input_of v) (reading_of v) told dir p k

  abbrev pub offset_on : Direction → ℕ → ℕ → ℕ
  offset_on dir p k = offset_ahead (input_of v) (reading_of v) told dir p k

  abbrev pub Further : Direction → ℕ → Option ℕ → Type 0
  Further dir p x = (x ≡ None) ⊎ ((x ≡ Some (offset_on dir p 1)) × HasOne dir p 1)

  passed-further : (dir : Direction) (test : ℕ → Bool) (p : ℕ) → p ≤ length (reading_of v).points → Further dir p (passed test ((input_of v).next dir (offset (reading_of v) p)))
  passed-further dir test p room = subst (λ x. Further dir p (passed test x)) (sym (told.next dir p room)) (by_direction dir)
    where
      by_test : (d : Direction) (b : Bool) (q : ℕ) → q ≡ ahead d p 1 → HasOne d p 1 → Further d p (if b then Some (offset (reading_of v) q) else None)
      by_test d true q e fits = inr (ap (λ x. Some (offset (reading_of v) x)) e, fits)
      by_test d false q e fits = inl refl

      forth : (o : Option ℕ) → slice_get (reading_of v).points p ≡ o → Further Forward p (passed test (option_map (point_told (reading_of v)) (option_map (λ c. (c, suc p)) o)))
      forth None e = inl refl
      forth (Some c) e = let inside = slice_get_within (reading_of v).points p c e in by_test Forward (test c) (suc p) (omega arith) (omega (arith, inside))

      back : (k : ℕ) → p ≡ suc k → (o : Option ℕ) → Further Backward p (passed test (option_map (point_told (reading_of v)) (option_map (λ c. (c, k)) o)))
      back k same None = inl refl
      back k same (Some c) = by_test Backward (test c) k (omega (arith, same)) (omega (arith, same), room)

      by_place : (k : ℕ) → p ≡ k → Further Backward p (passed test (option_map (point_told (reading_of v)) (neighbour (reading_of v).points Backward k)))
      by_place zero same = inl refl
      by_place (suc k) same = back k same (slice_get (reading_of v).points k)

      by_direction : (d : Direction) → Further d p (passed test (option_map (point_told (reading_of v)) (neighbour (reading_of v).points d p)))
      by_direction Forward = forth (slice_get (reading_of v).points p) refl
      by_direction Backward = by_place p refl

  module _ (program : Program) (suits : Suits program v) (dir : Direction) (groups : List Marks) where
    -- one iteration from a place goes one place further, or nowhere
    pub body-further : (at : ℕ) (i : Instruction) → Fits program at i → takes_character i ≡ true → (p : ℕ) → p ≤ length (reading_of v).points
        → Further dir p (advance program (input_of v) i dir groups (offset (reading_of v) p))
    body-further at (code.char c) fits takes p room = passed-further dir _ p room
    body-further at (code.char_set cs) fits takes p room = passed-further dir _ p room
    body-further at (code.byte_set bs) fits takes p room = passed-further dir _ p room
    body-further at (code.byte_seq bs) fits takes p room =
        let are : are_bytes v.kind ≡ true = suits.kind ∙ ap not fits in
        let (c, is) = one-character bs takes in
        let can = can-read v all (offset (reading_of v) p) (p, room, refl) in
        subst (Further dir p)
        (sym (sees_sequence v all are dir (offset (reading_of v) p) can bs (one-whole bs takes) (ap length is)) ∙ in-bytes v.kind (literal (input_of v) dir bs (offset (reading_of v) p)) are)
        (passed-further dir (λ d. same_text (chars bs) (d ∷ [])) p room)
    body-further at code.any fits takes p room = passed-further dir (λ c. true) p room
    body-further at code.any_in_line fits takes p room = passed-further dir _ p room
    body-further at (code.bracket k) fits takes p room = by_bracket (slice_get program.brackets k)
      where
        by_bracket : (x : Option (Bool × List (ℕ × ℕ))) → Further dir p (option_and_then (λ b. passed (bracket_has b.0 b.1) ((input_of v).next dir (offset (reading_of v) p))) x)
        by_bracket None = inl refl
        by_bracket (Some b) = passed-further dir (bracket_has b.0 b.1) p room
    body-further at (code.ascii_bracket cs) fits takes p room = passed-further dir _ p room
    body-further at _ fits takes p room = absurd (grind arith)

    -- as far as it goes from a place there is a place, and all between are given back from there
    module _ (at : ℕ) (i : Instruction) (fits : Fits program at i) (takes : takes_character i ≡ true) where
      abbrev go : ℕ → Option ℕ
      go o = advance program (input_of v) i dir groups o

      abbrev GivesBack : ℕ → ℕ → List ℕ → Type 0
      GivesBack p far os = (k : ℕ) × HasOne dir p k × (far ≡ offset_on dir p k) × (given_back (input_of v) dir (offset (reading_of v) p) (offset_on dir p k) ≡ reverse os)

      gives_one : (p : ℕ) → p ≤ length (reading_of v).points → GivesBack p (offset (reading_of v) p) (offset (reading_of v) p ∷ [])
      gives_one p room =
          (0, HasPlace-none (input_of v) (reading_of v) told dir p room, ap (offset (reading_of v)) (sym (ahead-none (input_of v) (reading_of v) told dir p)), given_back-none (input_of v) (reading_of v) told dir p)

      gives_back : (n p : ℕ) → p ≤ length (reading_of v).points
          → GivesBack p (as_far program (input_of v) n i dir groups (offset (reading_of v) p)) (one_by_one program (input_of v) n i dir groups (offset (reading_of v) p))
      unfolding as_far one_by_one
      gives_back zero p room = gives_one p room
      gives_back (suc n) p room = by_step (go o) (body-further at i fits takes p room) (gives_back n)
        where
          o : ℕ
          o = offset (reading_of v) p

          by_step : (x : Option ℕ) → Further dir p x
              → ((q : ℕ) → q ≤ length (reading_of v).points → GivesBack q (as_far program (input_of v) n i dir groups (offset (reading_of v) q)) (one_by_one program (input_of v) n i dir groups (offset (reading_of v) q)))
              → GivesBack p (elim x [ None ↦ o | Some q ↦ as_far program (input_of v) n i dir groups q ]) (o ∷ elim x [ None ↦ [] | Some q ↦ one_by_one program (input_of v) n i dir groups q ])
          by_step x (inl none) rest =
              subst (λ y. GivesBack p (elim y [ None ↦ o | Some q ↦ as_far program (input_of v) n i dir groups q ]) (o ∷ elim y [ None ↦ [] | Some q ↦ one_by_one program (input_of v) n i dir groups q ])) (sym none) (gives_one p room)
          by_step x (inr (one, has)) rest =
              let p1 : ℕ = ahead dir p 1 in
              let (k, more, far, back) = rest p1 (HasPlace-here (input_of v) (reading_of v) told dir p 1 has) in
              let on : offset (reading_of v) (ahead dir p1 k) ≡ offset_on dir p (suc k) = ap (offset (reading_of v)) (ahead-on (input_of v) (reading_of v) told dir p k) in
              let room_on : HasOne dir p (suc k) = HasPlace-on (input_of v) (reading_of v) told dir p k has more in
              let xs : List ℕ = one_by_one program (input_of v) n i dir groups (offset (reading_of v) p1) in
              subst (λ y. GivesBack p (elim y [ None ↦ o | Some q ↦ as_far program (input_of v) n i dir groups q ]) (o ∷ elim y [ None ↦ [] | Some q ↦ one_by_one program (input_of v) n i dir groups q ])) (sym one) (
                suc k,
                room_on,
                far ∙ on,
                given_back-further (input_of v) (reading_of v) told dir k p room_on
                    ∙ ap (λ x. given_back (input_of v) dir (offset (reading_of v) p1) x ++ o ∷ []) (sym on)
                    ∙ ap (λ ys. ys ++ o ∷ []) back ∙ sym (reverse-append (o ∷ []) xs),
              )

    -- So what is given back is what was taken one by one, the other way round.
    pub given-back : (at : ℕ) (j : Instruction) (n o : ℕ) → IsBody program v at o → Stands program (at - 1) j
        → given_back (input_of v) dir o (as_far program (input_of v) n j dir groups o) ≡ reverse (one_by_one program (input_of v) n j dir groups o)
    given-back at j n o (i, here, takes, (p, room, place), some) there =
        let same : i ≡ j = one_stands program (input_of v) (at - 1) i j here there in
        let takes' : takes_character j ≡ true = ap takes_character (sym same) ∙ takes in
        let (k, has, far, back) = gives_back (at - 1) j (suits.closed (at - 1) j there) takes' n p room in
        subst (λ x. given_back (input_of v) dir x (as_far program (input_of v) n j dir groups x) ≡ reverse (one_by_one program (input_of v) n j dir groups x)) (sym place)
        (ap (given_back (input_of v) dir (offset (reading_of v) p)) far ∙ back)
