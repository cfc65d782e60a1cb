-- What stands beside an offset once more, code point by code point.
use lib.Pointwise.{pointwise}
use Rattle.std.specs.Prelude.{nat_le, slice_get}
use Rattle.std.proofs.Common.{◌≡◌, ◌⊎◌, inl, inr, ℕ, zero, suc, ◌+◌, ◌-◌, ◌<◌, ◌≤◌, ◌==◌, ◌&&◌, Bool, true, false, List, [], ◌∷◌, ◌++◌, length, take, drop, Option, Some, None, if◌then◌else◌, get_or, option_map, option_and_then, refl, sym, ap, ap₂, ◌∙◌, arith, length-drop, length-take}
use Rattle.std.proofs.lemmas.Option.{slice_get_within, get_or_from_slice_get, slice_get-get_or}
use Rattle.std.proofs.lemmas.List.{drop_more, take_more, get_or-drop}
use Rattle.std.proofs.lemmas.Bool.{cases_lt, le-leb, lt-leb, eq-eqb, ne_eqb}
use Rattle.regress_meaning.specs.Offsets.{Reading, offset}
use Rattle.regress_meaning.specs.Inputs.{Input, Tells, point_told}
use Rattle.regress_meaning.specs.Steps.{copied}
use Rattle.regress_meaning.specs.Meaning.{Direction, Forward, Backward, same}

-- one more at the front of a part
part-front : (xs : List ℕ) (p j c : ℕ) → slice_get xs p ≡ Some c → take (suc j) (drop p xs) ≡ c ∷ take j (drop (suc p) xs)
part-front xs p j c h =
    let room : p < length xs = slice_get_within xs p c h in
    let next : p + 1 ≡ suc p = omega arith in
    let front : drop p xs ≡ c ∷ drop (suc p) xs = drop_more xs p 0 room ∙ ap₂ (λ x q. x ∷ drop q xs) (get_or_from_slice_get xs p c 0 h) next in
    ap (take (suc j)) front

-- one more at its end
part-end : (xs : List ℕ) (p j c : ℕ) → slice_get xs (p + j) ≡ Some c → take (suc j) (drop p xs) ≡ take j (drop p xs) ++ c ∷ []
part-end xs p j c h =
    let room : p + j < length xs = slice_get_within xs (p + j) c h in
    let next : j + 1 ≡ suc j = omega arith in
    let size = length-drop p xs in
    let here : get_or (drop p xs) j 0 ≡ c = get_or-drop p xs j 0 ∙ get_or_from_slice_get xs (p + j) c 0 h in
    ap (λ k. take k (drop p xs)) (sym next) ∙ take_more (drop p xs) j 0 (omega (arith, size)) ∙ ap (λ x. take j (drop p xs) ++ x ∷ []) here

pointwise-end : (test : ℕ → ℕ → Bool) (xs ys : List ℕ) (c d : ℕ) → length xs ≡ length ys → pointwise test (xs ++ c ∷ []) (ys ++ d ∷ []) ≡ (test c d && pointwise test xs ys)
pointwise-end test [] [] c d e = refl
pointwise-end test [] (y ∷ ys) c d e = absurd (omega (arith, e))
pointwise-end test (x ∷ xs) [] c d e = absurd (omega (arith, e))
pointwise-end test (x ∷ xs) (y ∷ ys) c d e =
    ap (λ b. test x y && b) (pointwise-end test xs ys c d (omega (arith, e))) ∙ turned (test x y) (test c d) (pointwise test xs ys)
  where
    turned : (a b c : Bool) → (a && (b && c)) ≡ (b && (a && c))
    turned true b c = refl
    turned false true c = refl
    turned false false c = refl

-- there is no code point past the end
no_point : (xs : List ℕ) (p : ℕ) → slice_get xs p ≡ None → length xs ≤ p
no_point xs p e = by_place (cases_lt p (length xs))
  where
    by_place : (p < length xs) ⊎ (length xs ≤ p) → length xs ≤ p
    by_place (inl less) = let h = slice_get-get_or xs p 0 less in absurd (grind arith)
    by_place (inr past) = past

-- first this test, and then those
chosen : (t b c : Bool) (x y : Option ℕ) → x ≡ (if b && c then y else None) → (if t then x else None) ≡ (if b && (t && c) then y else None)
chosen true b c x y e = e
chosen false true c x y e = refl
chosen false false c x y e = refl

none-either : (t : Bool) → let none : Option ℕ = None in (if t then none else none) ≡ none
none-either true = refl
none-either false = refl

module _ (input : Input) (icase : Bool) where
  -- one code point of what is copied
  abbrev one_copied : ℕ → Direction → ℕ → Option (ℕ × ℕ) → Option (ℕ × ℕ) → Option ℕ
  one_copied n dir to x y = option_and_then (λ (c : ℕ × ℕ). option_and_then (λ (d : ℕ × ℕ). if same input.table input.unicode icase c.0 d.0 then copied input n dir icase c.1 to d.1 else None) y) x

  copied-end : (n : ℕ) (dir : Direction) (from to o : ℕ) → (from == to) ≡ true → copied input n dir icase from to o ≡ Some o
  unfolding copied
  copied-end zero dir from to o e = ap (λ b. if b then Some o else None) e
  copied-end (suc n) dir from to o e = ap (λ b. if b then Some o else one_copied n dir to (input.next dir from) (input.next dir o)) e

  copied-step : (n : ℕ) (dir : Direction) (from to o : ℕ) → (from == to) ≡ false
      → copied input (suc n) dir icase from to o ≡ one_copied n dir to (input.next dir from) (input.next dir o)
  unfolding copied
  copied-step n dir from to o e = ap (λ b. if b then Some o else one_copied n dir to (input.next dir from) (input.next dir o)) e

module _ (input : Input) (reading : Reading) (tells : Tells reading input) (icase : Bool) where
  abbrev pub like : ℕ → ℕ → Bool
  like c d = same input.table input.unicode icase c d

  -- so many code points from a place on
  abbrev pub part : ℕ → ℕ → List ℕ
  part p j = take j (drop p reading.points)

  abbrev pub size : ℕ
  size = length reading.points

  offsets-apart : (p q : ℕ) → p < q → q ≤ size → ((offset reading p == offset reading q) ≡ false) × ((offset reading q == offset reading p) ≡ false)
  offsets-apart p q less room =
      let h = tells.rise p q less room in
      (ne_eqb (offset reading p) (offset reading q) (λ e. absurd (omega (arith, e, h))), ne_eqb (offset reading q) (offset reading p) (λ e. absurd (omega (arith, e, h))))

  pub forward_copied : (j f a p : ℕ) → a + j ≤ size → p ≤ size → j ≤ f
      → copied input f Forward icase (offset reading a) (offset reading (a + j)) (offset reading p)
      ≡ (if nat_le (p + j) size && pointwise like (part a j) (part p j) then Some (offset reading (p + j)) else None)
  forward_copied zero f a p room here fuel =
      let e : a ≡ a + 0 = omega arith in
      let g : p ≡ p + 0 = omega arith in
      copied-end input icase f Forward (offset reading a) (offset reading (a + 0)) (offset reading p) (eq-eqb (offset reading a) (offset reading (a + 0)) (ap (offset reading) e))
      ∙ ap (λ q. Some (offset reading q)) g ∙ ap (λ b. if b then Some (offset reading (p + 0)) else None) (sym (ap (λ b. b && true) (le-leb (p + 0) size (omega (arith, here)))))
  forward_copied (suc j) zero a p room here fuel = absurd (omega arith)
  forward_copied (suc j) (suc f) a p room here fuel =
      let c : ℕ = get_or reading.points a 0 in
      let own : slice_get reading.points a ≡ Some c = slice_get-get_or reading.points a 0 (omega (arith, room)) in
      let to : ℕ = offset reading (a + suc j) in
      let from-told : input.next Forward (offset reading a) ≡ Some (c, offset reading (suc a)) =
      tells.next Forward a (omega (arith, room)) ∙ ap (λ o. option_map (point_told reading) (option_map (λ c. (c, suc a)) o)) own in
      copied-step input icase f Forward (offset reading a) to (offset reading p) (offsets-apart a (a + suc j) (omega arith) room).0
      ∙ ap (λ x. one_copied input icase f Forward to x (input.next Forward (offset reading p))) from-told
      ∙ by_point (slice_get reading.points p) refl c own (λ less. forward_copied j f (suc a) (suc p) (omega (arith, room)) (omega (arith, less)) (omega (arith, fuel)))
    where
      to : ℕ
      to = offset reading (a + suc j)

      by_point : (o : Option ℕ) → slice_get reading.points p ≡ o → (c : ℕ) → slice_get reading.points a ≡ Some c
          → (p < size → copied input f Forward icase (offset reading (suc a)) (offset reading (suc a + j)) (offset reading (suc p))
          ≡ (if nat_le (suc p + j) size && pointwise like (part (suc a) j) (part (suc p) j) then Some (offset reading (suc p + j)) else None))
          → one_copied input icase f Forward to (Some (c, offset reading (suc a))) (input.next Forward (offset reading p))
          ≡ (if nat_le (p + suc j) size && pointwise like (part a (suc j)) (part p (suc j)) then Some (offset reading (p + suc j)) else None)
      by_point None e c own rest =
          let past : size ≤ p = no_point reading.points p e in
          let told : input.next Forward (offset reading p) ≡ None =
          tells.next Forward p here ∙ ap (λ (o : Option ℕ). option_map (point_told reading) (option_map (λ c. (c, suc p)) o)) e in
          ap (one_copied input icase f Forward to (Some (c, offset reading (suc a)))) told
          ∙ ap (λ b. if b && pointwise like (part a (suc j)) (part p (suc j)) then Some (offset reading (p + suc j)) else None)
          (sym (lt-leb (p + suc j) size (omega (arith, past))))
      by_point (Some d) e c own rest =
          let less : p < size = slice_get_within reading.points p d e in
          let told : input.next Forward (offset reading p) ≡ Some (d, offset reading (suc p)) =
          tells.next Forward p here ∙ ap (λ (o : Option ℕ). option_map (point_told reading) (option_map (λ c. (c, suc p)) o)) e in
          let same_end : a + suc j ≡ suc a + j = omega arith in
          let same_place : p + suc j ≡ suc p + j = omega arith in
          let front : part a (suc j) ≡ c ∷ part (suc a) j = part-front reading.points a j c own in
          let front' : part p (suc j) ≡ d ∷ part (suc p) j = part-front reading.points p j d e in
          ap (one_copied input icase f Forward to (Some (c, offset reading (suc a)))) told
          ∙ ap (λ q. if like c d then copied input f Forward icase (offset reading (suc a)) (offset reading q) (offset reading (suc p)) else None) same_end
          ∙ chosen (like c d) (nat_le (suc p + j) size) (pointwise like (part (suc a) j) (part (suc p) j))
          (copied input f Forward icase (offset reading (suc a)) (offset reading (suc a + j)) (offset reading (suc p))) (Some (offset reading (suc p + j))) (rest less)
          ∙ ap (λ q. if nat_le q size && pointwise like (c ∷ part (suc a) j) (d ∷ part (suc p) j) then Some (offset reading q) else None) (sym same_place)
          ∙ ap₂ (λ xs ys. if nat_le (p + suc j) size && pointwise like xs ys then Some (offset reading (p + suc j)) else None) (sym front) (sym front')

  pub backward_copied : (j f b p : ℕ) → j ≤ b → b ≤ size → p ≤ size → j ≤ f
      → copied input f Backward icase (offset reading b) (offset reading (b - j)) (offset reading p)
      ≡ (if nat_le j p && pointwise like (part (b - j) j) (part (p - j) j) then Some (offset reading (p - j)) else None)
  backward_copied zero f b p low room here fuel =
      let e : b ≡ b - 0 = omega arith in
      let g : p ≡ p - 0 = omega arith in
      copied-end input icase f Backward (offset reading b) (offset reading (b - 0)) (offset reading p) (eq-eqb (offset reading b) (offset reading (b - 0)) (ap (offset reading) e))
      ∙ ap (λ q. Some (offset reading q)) g ∙ ap (λ c. if c then Some (offset reading (p - 0)) else None) (sym (ap (λ c. c && true) (le-leb 0 p (omega arith))))
  backward_copied (suc j) zero b p low room here fuel = absurd (omega arith)
  backward_copied (suc j) (suc f) zero p low room here fuel = absurd (omega arith)
  backward_copied (suc j) (suc f) (suc b) p low room here fuel =
      let c : ℕ = get_or reading.points b 0 in
      let own : slice_get reading.points b ≡ Some c = slice_get-get_or reading.points b 0 (omega (arith, room)) in
      let to : ℕ = offset reading (suc b - suc j) in
      let from-told : input.next Backward (offset reading (suc b)) ≡ Some (c, offset reading b) =
      tells.next Backward (suc b) room ∙ ap (λ o. option_map (point_told reading) (option_map (λ c. (c, b)) o)) own in
      copied-step input icase f Backward (offset reading (suc b)) to (offset reading p) (offsets-apart (suc b - suc j) (suc b) (omega (arith, low)) room).1
      ∙ ap (λ x. one_copied input icase f Backward to x (input.next Backward (offset reading p))) from-told
      ∙ by_place p here c own (λ q below. backward_copied j f b q (omega (arith, low)) (omega (arith, room)) (omega (arith, below)) (omega (arith, fuel)))
    where
      to : ℕ
      to = offset reading (suc b - suc j)

      part-size : (q : ℕ) → j ≤ q → q ≤ size → length (part (q - j) j) ≡ j
      part-size q low high = let x = length-take j (drop (q - j) reading.points) in let y = length-drop (q - j) reading.points in omega (arith, x, y)

      by_room : (p : ℕ) → (p < j) ⊎ (j ≤ p) → suc p ≤ size → (c d : ℕ) → slice_get reading.points b ≡ Some c → slice_get reading.points p ≡ Some d
          → copied input f Backward icase (offset reading b) (offset reading (b - j)) (offset reading p)
          ≡ (if nat_le j p && pointwise like (part (b - j) j) (part (p - j) j) then Some (offset reading (p - j)) else None)
          → (if like c d then copied input f Backward icase (offset reading b) (offset reading (b - j)) (offset reading p) else None)
          ≡ (if nat_le (suc j) (suc p) && pointwise like (part (b - j) (suc j)) (part (p - j) (suc j)) then Some (offset reading (p - j)) else None)
      by_room p (inl less) here c d own theirs rest =
          let none : copied input f Backward icase (offset reading b) (offset reading (b - j)) (offset reading p) ≡ None =
          rest ∙ ap (λ x. if x && pointwise like (part (b - j) j) (part (p - j) j) then Some (offset reading (p - j)) else None) (lt-leb j p less) in
          ap (λ (x : Option ℕ). if like c d then x else None) none ∙ none-either (like c d)
          ∙ ap (λ x. if x && pointwise like (part (b - j) (suc j)) (part (p - j) (suc j)) then Some (offset reading (p - j)) else None) (sym (lt-leb (suc j) (suc p) (omega arith)))
      by_room p (inr more) here c d own theirs rest =
          let at_b : (b - j) + j ≡ b = omega (arith, low) in
          let at_p : (p - j) + j ≡ p = omega (arith, more) in
          let last : part (b - j) (suc j) ≡ part (b - j) j ++ c ∷ [] = part-end reading.points (b - j) j c (ap (slice_get reading.points) at_b ∙ own) in
          let last' : part (p - j) (suc j) ≡ part (p - j) j ++ d ∷ [] = part-end reading.points (p - j) j d (ap (slice_get reading.points) at_p ∙ theirs) in
          let sizes : length (part (b - j) j) ≡ length (part (p - j) j) =
          part-size b (omega (arith, low)) (omega (arith, room)) ∙ sym (part-size p more (omega (arith, here))) in
          chosen (like c d) (nat_le j p) (pointwise like (part (b - j) j) (part (p - j) j))
          (copied input f Backward icase (offset reading b) (offset reading (b - j)) (offset reading p)) (Some (offset reading (p - j))) rest
          ∙ ap₂ (λ x y. if x && y then Some (offset reading (p - j)) else None) (le-leb j p more ∙ sym (le-leb (suc j) (suc p) (omega (arith, more))))
          (sym (pointwise-end like (part (b - j) j) (part (p - j) j) c d sizes) ∙ ap₂ (pointwise like) (sym last) (sym last'))

      by_place : (p : ℕ) → p ≤ size → (c : ℕ) → slice_get reading.points b ≡ Some c
          → ((q : ℕ) → q ≤ size → copied input f Backward icase (offset reading b) (offset reading (b - j)) (offset reading q)
          ≡ (if nat_le j q && pointwise like (part (b - j) j) (part (q - j) j) then Some (offset reading (q - j)) else None))
          → one_copied input icase f Backward to (Some (c, offset reading b)) (input.next Backward (offset reading p))
          ≡ (if nat_le (suc j) p && pointwise like (part (suc b - suc j) (suc j)) (part (p - suc j) (suc j)) then Some (offset reading (p - suc j)) else None)
      by_place zero here c own rest =
          ap (one_copied input icase f Backward to (Some (c, offset reading b))) (tells.next Backward 0 here)
          ∙ ap (λ b'. if b' && pointwise like (part (suc b - suc j) (suc j)) (part (0 - suc j) (suc j)) then Some (offset reading (0 - suc j)) else None)
          (sym (lt-leb (suc j) 0 (omega arith)))
      by_place (suc p) here c own rest =
          let d : ℕ = get_or reading.points p 0 in
          let theirs : slice_get reading.points p ≡ Some d = slice_get-get_or reading.points p 0 (omega (arith, here)) in
          let told : input.next Backward (offset reading (suc p)) ≡ Some (d, offset reading p) =
          tells.next Backward (suc p) here ∙ ap (λ o. option_map (point_told reading) (option_map (λ c. (c, p)) o)) theirs in
          let same_end : suc b - suc j ≡ b - j = omega arith in
          let same_place : suc p - suc j ≡ p - j = omega arith in
          ap (one_copied input icase f Backward to (Some (c, offset reading b))) told
          ∙ ap (λ q. if like c d then copied input f Backward icase (offset reading b) (offset reading q) (offset reading p) else None) same_end
          ∙ by_room p (cases_lt p j) here c d own theirs (rest p (omega (arith, here)))
          ∙ ap₂ (λ x y. if nat_le (suc j) (suc p) && pointwise like (part x (suc j)) (part y (suc j)) then Some (offset reading y) else None) (sym same_end) (sym same_place)
