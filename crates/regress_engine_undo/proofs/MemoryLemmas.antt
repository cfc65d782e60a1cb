-- What is read and written of a memory.
use Rattle.std.specs.Prelude.{Result, Ok, Err, IfOk, OnOk}
use Rattle.std.proofs.Common.{◌≡◌, ◌==◌, ℕ, zero, suc, ◌<◌, true, false, length, reverse, sym, List, [], ◌∷◌, map, replicate, refl, ap, ◌∙◌, arith}
use Rattle.std.proofs.lemmas.Bool.Decides.{nat_tests}
use Rattle.std.proofs.lemmas.List.{length-map, length-reverse}
use Rattle.regress_engine_runs.specs.UndoStack.{Undo}
use Rattle.regress_engine_undo.specs.Held.{recorded}

pub map-replicate : {A B : Type 0} (f : A → B) (n : ℕ) (v : A) → map f (replicate n v) ≡ replicate n (f v)
map-replicate f zero v = refl
map-replicate f (suc n) v = ap (λ xs. f v ∷ xs) (map-replicate f n v)

-- a list of one value so many times
pub filled : {A B : Type 0} (f : A → B) (items : List A) (n : ℕ) (v : A) (w : B) → items ≡ replicate n v → f v ≡ w → map f items ≡ replicate n w
filled f items n v w is same = ap (map f) is ∙ map-replicate f n v ∙ ap (replicate n) same

-- what is handed on
pub ok-then : {T E : Type 0} (r : Result T E) (P Q : T → Type 0) → ((x : T) → P x → Q x) → IfOk r P → IfOk r Q
ok-then (Ok x) P Q f h = f x h
ok-then (Err e) P Q f h = tt

-- no records are held where there are none
pub held-none : {A : Type 0} (f : A → Undo) (xs slice : List A) → slice ≡ xs → true ≡ (length slice == 0) → map f (reverse xs) ≡ []
held-none f xs slice same e =
    let empty : length slice ≡ 0 = grind (arith, nat_tests, e) in all-none (map f (reverse xs)) (length-map (reverse xs) f ∙ length-reverse xs ∙ ap length (sym same) ∙ empty)
  where
    all-none : (s : List Undo) → length s ≡ 0 → s ≡ []
    all-none [] e = refl
    all-none (v ∷ s) e = absurd (omega (arith, e))

-- a record on no records, and on some
module _ {A : Type 0} (f : A → Undo) (xs slice : List A) (same : slice ≡ xs) (u : Undo) where
  count : length (map f (reverse xs)) ≡ length slice
  count = length-map (reverse xs) f ∙ length-reverse xs ∙ ap length (sym same)

  none-on : (s : List Undo) → length s ≡ 0 → s ≡ recorded u s
  unfolding recorded
  none-on [] e = refl
  none-on (v ∷ s) e = absurd (omega (arith, e))

  some-on : (s : List Undo) → 0 < length s → u ∷ s ≡ recorded u s
  unfolding recorded
  some-on [] e = absurd (omega (arith, e))
  some-on (v ∷ s) e = refl

  pub recorded-none : true ≡ (length slice == 0) → map f (reverse xs) ≡ recorded u (map f (reverse xs))
  recorded-none e = let empty : length slice ≡ 0 = grind (arith, nat_tests, e) in none-on (map f (reverse xs)) (count ∙ empty)

  pub recorded-some : false ≡ (length slice == 0) → u ∷ map f (reverse xs) ≡ recorded u (map f (reverse xs))
  recorded-some e = let some : 0 < length slice = grind (arith, nat_tests, e) in let n = count in some-on (map f (reverse xs)) (omega (arith, some, n))

pub ok-on : {T E X : Type 0} (r : Result T E) (x y z : X) → y ≡ z → OnOk r (x ≡ y) → OnOk r (x ≡ z)
ok-on (Ok t) x y z same h = h ∙ same
ok-on (Err e) x y z same h = tt
