-- The four inputs move on, also at offsets that are no place's.
use Rattle.std.specs.Prelude.{slice_get, nat_lt}
use Rattle.std.proofs.Common.{◌≡◌, ℕ, zero, suc, ◌+◌, ◌-◌, ◌<◌, ◌&&◌, not, Bool, true, false, List, Option, Some, None, if◌then◌else◌, option_map, subst, ap, arith}
use Rattle.regress_meaning.specs.Table.{Table}
use Rattle.regress_meaning.specs.Meaning.{Direction, Forward, Backward}
use Rattle.regress_meaning.specs.Tokens.{is_high, is_low, joined}
use Rattle.regress_meaning.specs.Inputs.{single_next, pair_right, pair_left, unit_before, utf16_next, of_two, of_three, of_four, is_continuation, bytes_right, bytes_left, onto_right, onto_left, byte_at, utf8_next, ascii_input, ucs2_input, utf16_input, utf8_input}
use Rattle.regress_engine_runs.specs.UndoStack.{IsPast, MovesOn}

-- what holds of every offset that a function gives holds of the one that was found
found-past : {A : Type 0} (P : ℕ → Type 0) (f : A → ℕ × ℕ) → ((a : A) → P (f a).1) → (x : Option A) (c q : ℕ) → option_map f x ≡ Some (c, q) → P q
found-past P f each None c q e = absurd (cc)
found-past P f each (Some a) c q e =
    let g : ◌≡◌ {A = ℕ × ℕ} (f a) (c, q) = cc in subst P (ap (λ (v : ℕ × ℕ). v.1) g) (each a)

abbrev Moves : (Direction → ℕ → Option (ℕ × ℕ)) → Type 0
Moves next = (dir : Direction) (o c q : ℕ) → next dir o ≡ Some (c, q) → IsPast dir o q

single-moves : (units : List ℕ) → Moves (single_next units)
single-moves units Forward o c q e = found-past (IsPast Forward o) (λ u. (u, suc o)) (λ u. omega arith) (slice_get units o) c q e
single-moves units Backward zero c q e = absurd (cc)
single-moves units Backward (suc o) c q e = found-past (IsPast Backward (suc o)) (λ u. (u, o)) (λ u. omega arith) (slice_get units o) c q e

-- one character or another
abbrev one_of : Bool → ℕ × ℕ → ℕ × ℕ → ℕ × ℕ
one_of b x y = if b then x else y

pair_right-past : (o u : ℕ) (v : Option ℕ) → o < (pair_right o u v).1
pair_right-past o u None = omega arith
pair_right-past o u (Some v) = by_test (is_high u && is_low v)
  where
    by_test : (b : Bool) → o < (one_of b (joined u v, suc (suc o)) (u, suc o)).1
    by_test true = omega arith
    by_test false = omega arith

pair_left-past : (o v : ℕ) (u : Option ℕ) → (pair_left o v u).1 < suc o
pair_left-past o v None = omega arith
pair_left-past o v (Some u) = by_test (is_high u && is_low v)
  where
    by_test : (b : Bool) → (one_of b (joined u v, o - 1) (v, o)).1 < suc o
    by_test true = omega arith
    by_test false = omega arith

utf16-moves : (units : List ℕ) → Moves (utf16_next units)
utf16-moves units Forward o c q e =
    found-past (IsPast Forward o) (λ u. pair_right o u (slice_get units (suc o))) (λ u. pair_right-past o u (slice_get units (suc o))) (slice_get units o) c q e
utf16-moves units Backward zero c q e = absurd (cc)
utf16-moves units Backward (suc o) c q e =
    found-past (IsPast Backward (suc o)) (λ v. pair_left o v (unit_before units o)) (λ v. pair_left-past o v (unit_before units o)) (slice_get units o) c q e

-- a character takes at least one byte
takes-some : (b c d : Bool) (w x y z : ℕ) → 0 < (one_of b (w, 1) (one_of c (x, 2) (one_of d (y, 3) (z, 4)))).1
takes-some true c d w x y z = omega arith
takes-some false true d w x y z = omega arith
takes-some false false true w x y z = omega arith
takes-some false false false w x y z = omega arith

utf8-moves : (bytes : List ℕ) → Moves (utf8_next bytes)
utf8-moves bytes Forward o c q e =
    found-past (IsPast Forward o) (λ w. onto_right o (bytes_right w (byte_at bytes (o + 1)) (byte_at bytes (o + 2)) (byte_at bytes (o + 3))))
    (λ w. let x = byte_at bytes (o + 1) in let y = byte_at bytes (o + 2) in let z = byte_at bytes (o + 3) in
    let some = takes-some (nat_lt w 0x80) (nat_lt w 0xE0) (nat_lt w 0xF0) w (of_two w x) (of_three w x y) (of_four w x y z) in omega (arith, some))
    (slice_get bytes o) c q e
utf8-moves bytes Backward zero c q e = absurd (cc)
utf8-moves bytes Backward (suc o) c q e =
    found-past (IsPast Backward (suc o)) (λ z. onto_left (suc o) (bytes_left (byte_at bytes (o - 3)) (byte_at bytes (o - 2)) (byte_at bytes (o - 1)) z))
    (λ z. let w = byte_at bytes (o - 3) in let x = byte_at bytes (o - 2) in let y = byte_at bytes (o - 1) in
    let some = takes-some (nat_lt z 0x80) (not (is_continuation y)) (not (is_continuation x)) z (of_two y z) (of_three x y z) (of_four w x y z) in omega (arith, some))
    (slice_get bytes o) c q e

pub ascii-moves-on : (table : Table) (unicode : Bool) (bytes : List ℕ) → MovesOn (ascii_input table unicode bytes)
ascii-moves-on table unicode bytes = single-moves bytes

pub ucs2-moves-on : (table : Table) (unicode : Bool) (units : List ℕ) → MovesOn (ucs2_input table unicode units)
ucs2-moves-on table unicode units = single-moves units

pub utf16-moves-on : (table : Table) (unicode : Bool) (units : List ℕ) → MovesOn (utf16_input table unicode units)
utf16-moves-on table unicode units = utf16-moves units

pub utf8-moves-on : (table : Table) (unicode : Bool) (bytes : List ℕ) → MovesOn (utf8_input table unicode bytes)
utf8-moves-on table unicode bytes = utf8-moves bytes
