-- The bytes of one character beside a position.
use Rattle.std.specs.Prelude.{slice_get, slice_range, nat_le, chars}
use Rattle.std.proofs.Common.{◌≡◌, ℕ, zero, suc, ◌+◌, ◌-◌, ◌<◌, ◌≤◌, Bool, true, false, List, [], ◌∷◌, length, take, drop, Option, Some, None, option_map, if◌then◌else◌, refl, sym, ap, ap₂, ◌∙◌, arith}
use Rattle.std.proofs.lemmas.Option.{slice_get_within, get_or_from_slice_get, gets}
use Rattle.std.proofs.lemmas.List.{drop_more}
use Rattle.std.proofs.lemmas.Grind.{common_steps}
use Rattle.std.proofs.lemmas.Bool.Decides.{nat_tests}
use Rattle.regress_meaning.specs.Text.{same_text}
use Rattle.regress_meaning.specs.Meaning.{Direction, Forward, Backward, beside}
use Rattle.regress_meaning.specs.Offsets.{Reading, offset}
use Rattle.regress_meaning.specs.Inputs.{Input, neighbour, point_told, context_of}
use Rattle.regress_meaning.specs.Steps.{passed, literal}
use Rattle.regress_front_nodes.specs.ByteInputs.{placed}
use Rattle.regress_front_nodes.specs.WellFormed.{AreCharacters}
use Rattle.regress_engine_input.specs.Views.{View, AreOfKind, CanRead, are_bytes, input_of, reading_of, in_bytes}
use Rattle.regress_engine_input.proofs.KindLemmas.{tells, tells_bytes}
use Rattle.regress_engine_matchers.specs.References.{IsPlace}
use Rattle.regress_engine_matchers.proofs.ByteLemmas.{in-bytes, byte_place}

-- a range of one
range-one : (xs : List ℕ) (p n c : ℕ) → n ≡ 1 → slice_get xs p ≡ Some c → take n (drop p xs) ≡ c ∷ []
range-one xs p n c e h =
    let room : p < length xs = slice_get_within xs p c h in
    ap₂ take e (drop_more xs p 0 room ∙ ap (λ x. x ∷ drop (p + 1) xs) (get_or_from_slice_get xs p c 0 h))

module _ (reading : Reading) (input : Input) (d : ℕ) where
  abbrev is_it : ℕ → Bool
  is_it c = same_text (d ∷ []) (c ∷ [])

  abbrev found : Option (List ℕ × ℕ) → Option ℕ
  found x = option_map (offset reading) (placed (d ∷ []) x)

  by_test : (b : Bool) (q : ℕ) → (if b then Some (offset reading q) else None) ≡ option_map (offset reading) (if b then Some q else None)
  by_test true q = refl
  by_test false q = refl

  -- a code point beside a place is the one that stands there
  one : (dir : Direction) (p : ℕ) → p ≤ length reading.points
      → passed is_it (option_map (point_told reading) (neighbour reading.points dir p)) ≡ found (beside (context_of reading input) dir 1 p)
  unfolding beside
  one Forward p room = by_point (slice_get reading.points p) refl
    where
      at_end : Bool → Option (List ℕ × ℕ)
      at_end b = if b then Some (slice_range reading.points p (p + 1), p + 1) else None

      by_point : (o : Option ℕ) → slice_get reading.points p ≡ o
          → passed is_it (option_map (point_told reading) (option_map (λ c. (c, suc p)) o)) ≡ found (at_end (nat_le (p + 1) (length reading.points)))
      by_point None e =
          let past : nat_le (p + 1) (length reading.points) ≡ false = grind (arith, common_steps, gets, nat_tests) in
          sym (ap (λ b. found (at_end b)) past)
      by_point (Some c) e =
          let inside : p < length reading.points = slice_get_within reading.points p c e in
          let yes : nat_le (p + 1) (length reading.points) ≡ true = grind (arith, nat_tests) in
          let here : slice_range reading.points p (p + 1) ≡ c ∷ [] = range-one reading.points p (p + 1 - p) c (omega arith) e in
          by_test (is_it c) (suc p) ∙ sym (ap (λ b. found (at_end b)) yes ∙ ap₂ (λ cs q. found (Some (cs, q))) here (omega arith))
  one Backward zero room = refl
  one Backward (suc p) room = by_point (slice_get reading.points p) refl
    where
      at_end : Bool → Option (List ℕ × ℕ)
      at_end b = if b then Some (slice_range reading.points (suc p - 1) (suc p), suc p - 1) else None

      by_point : (o : Option ℕ) → slice_get reading.points p ≡ o
          → passed is_it (option_map (point_told reading) (option_map (λ c. (c, p)) o)) ≡ found (at_end (nat_le 1 (suc p)))
      by_point None e = absurd (grind (arith, common_steps, gets))
      by_point (Some c) e =
          let yes : nat_le 1 (suc p) ≡ true = grind (arith, nat_tests) in
          let same : suc p - 1 ≡ p = omega arith in
          let here : slice_range reading.points (suc p - 1) (suc p) ≡ c ∷ [] =
          ap (λ q. slice_range reading.points q (suc p)) same ∙ range-one reading.points p (suc p - p) c (omega arith) e in
          by_test (is_it c) p ∙ sym (ap (λ b. found (at_end b)) yes ∙ ap₂ (λ cs q. found (Some (cs, q))) here same)

module _ (v : View) (all : AreOfKind v.kind v.units) (are : are_bytes v.kind ≡ true) (dir : Direction) (o : ℕ) (can : CanRead v o) (bs : List ℕ) (spell : AreCharacters bs) (single : length (chars bs) ≡ 1) where
  abbrev is_spelled : List ℕ → ℕ → Bool
  is_spelled cs c = same_text cs (c ∷ [])

  abbrev found_at : ℕ → List ℕ → Option ℕ
  found_at p cs = option_map (offset (reading_of v)) (placed cs (beside (context_of (reading_of v) (input_of v)) dir (length cs) p))

  -- the bytes of one character stand beside a place where that character does
  pub sees_sequence : in_bytes v.kind (literal (input_of v) dir bs o) ≡ passed (is_spelled (chars bs)) ((input_of v).next dir o)
  sees_sequence = in-bytes v.kind (literal (input_of v) dir bs o) are ∙ at_place (byte_place v all are o can)
    where
      by_chars : (cs : List ℕ) (p : ℕ) → p ≤ length (reading_of v).points → length cs ≡ 1
          → found_at p cs ≡ passed (is_spelled cs) ((input_of v).next dir (offset (reading_of v) p))
      by_chars [] p room e = absurd (cc e)
      by_chars (c ∷ []) p room e =
          sym (ap (passed (is_spelled (c ∷ []))) ((tells v.kind v.table v.unicode v.units all).next dir p room) ∙ one (reading_of v) (input_of v) c dir p room)
      by_chars (c ∷ b ∷ cs) p room e = absurd (omega (arith, e))

      at_place : IsPlace v o → literal (input_of v) dir bs o ≡ passed (is_spelled (chars bs)) ((input_of v).next dir o)
      at_place (p, room, here) =
          rw here at ((tells_bytes v.kind v.table v.unicode v.units all are).literal dir bs spell p room ∙ by_chars (chars bs) p room single)
