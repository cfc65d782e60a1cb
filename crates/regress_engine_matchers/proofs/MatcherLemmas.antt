-- What reads keep, and the code points of a part, one after another beside an offset.
use Rattle.std.specs.Prelude.{slice_get, slice_range}
use Rattle.std.proofs.Common.{◌≡◌, ◌≢◌, ◌⊎◌, inl, inr, ℕ, zero, suc, ◌+◌, ◌-◌, ◌<◌, ◌≤◌, Bool, true, false, ◌==◌, List, [], ◌∷◌, ◌++◌, length, take, drop, reverse, get_or, Option, Some, None, if◌then◌else◌, option_map, option_and_then, refl, sym, ap, ap₂, ◌∙◌, subst, arith, length-take, length-drop}
use Rattle.std.proofs.Math.Seq.{take-append_seam, take-add}
use Rattle.std.proofs.lemmas.Bool.{cases_lt, eq-eqb, ne_eqb}
use Rattle.std.proofs.lemmas.List.{drop_all, drop_more, take_more, take_all, reverse-append, length-reverse}
use Rattle.std.proofs.lemmas.Option.{slice_get-get_or, slice_get_past}
use Rattle.regress_meaning.specs.Table.{canon}
use Rattle.regress_meaning.specs.Meaning.{Direction, Forward, Backward, same}
use Rattle.regress_meaning.specs.Offsets.{Reading, offset}
use Rattle.regress_meaning.specs.Inputs.{Input, Tells, neighbour, point_told}
use Rattle.regress_meaning.specs.Steps.{copied, repeated, passed, point, only_if}
use Rattle.regress_meaning.proofs.OffsetLemmas.{offsets-far}
use Rattle.regress_engine_input.specs.Views.{View, input_of, reading_of, CanRead, behind}
use Rattle.regress_engine_input.proofs.KindLemmas.{table-is, unicode-is}
use Rattle.regress_engine_matchers.specs.References.{IsPlace, units_left, alike, all_alike, in_turn, begin_in}

-- All that is asked of what an input shows: a read stays where one may read, and goes on.
pub record Reads (v : View) : Type 0 where
  pub inside : (o : ℕ) → CanRead v o → o ≤ length v.units
  pub on : (dir : Direction) (o : ℕ) (x : ℕ × ℕ) → CanRead v o → (input_of v).next dir o ≡ Some x → CanRead v x.1 × (0 < units_left dir o x.1)
  -- between places, a read ends at a place no further than the other
  pub places : (dir : Direction) (a to : ℕ) (x : ℕ × ℕ) → IsPlace v a → IsPlace v to → 0 < units_left dir a to → (input_of v).next dir a ≡ Some x
      → IsPlace v x.1 × (units_left dir to x.1 ≡ 0)

-- ---- what is left of code points

-- what is left from a place on, as it is read in a direction
abbrev pub left_in : Direction → List ℕ → ℕ → List ℕ
left_in Forward cs p = drop p cs
left_in Backward cs p = reverse (take p cs)

-- what is read at a place is the first that is left, and at the end nothing is
abbrev IsFirst : Direction → List ℕ → ℕ → Option (ℕ × ℕ) → Type 0
IsFirst dir cs p None = left_in dir cs p ≡ []
IsFirst dir cs p (Some x) = (left_in dir cs p ≡ x.0 ∷ left_in dir cs x.1) × (x.1 ≤ length cs)

first-left : (dir : Direction) (cs : List ℕ) (p : ℕ) → p ≤ length cs → IsFirst dir cs p (neighbour cs dir p)
first-left Forward cs p room = by_room (cases_lt p (length cs))
  where
    by_room : (p < length cs) ⊎ (length cs ≤ p) → IsFirst Forward cs p (option_map (λ c. (c, suc p)) (slice_get cs p))
    by_room (inl less) =
        let next : p + 1 ≡ suc p = omega arith in
        let rest : drop p cs ≡ get_or cs p 0 ∷ drop (suc p) cs = drop_more cs p 0 less ∙ ap (λ n. get_or cs p 0 ∷ drop n cs) next in
        subst (λ o. IsFirst Forward cs p (option_map (λ c. (c, suc p)) o)) (sym (slice_get-get_or cs p 0 less)) (rest, omega arith)
    by_room (inr past) =
        subst (λ o. IsFirst Forward cs p (option_map (λ c. (c, suc p)) o)) (sym (slice_get_past cs p past)) (drop_all p cs past)
first-left Backward cs zero room = refl
first-left Backward cs (suc p) room =
    let less : p < length cs = omega (arith, room) in
    let next : suc p ≡ p + 1 = omega arith in
    let rest : reverse (take (suc p) cs) ≡ get_or cs p 0 ∷ reverse (take p cs) =
    ap (λ n. reverse (take n cs)) next ∙ ap reverse (take_more cs p 0 less) ∙ reverse-append (take p cs) (get_or cs p 0 ∷ []) in
    subst (λ o. IsFirst Backward cs (suc p) (option_map (λ c. (c, p)) o)) (sym (slice_get-get_or cs p 0 less)) (rest, omega (arith, room))

-- ---- what is copied between places

module _ (input : Input) (dir : Direction) where
  copied-here : (n to o : ℕ) → copied input n dir true to to o ≡ Some o
  unfolding copied
  copied-here zero to o = ap (λ b. only_if b o) (eq-eqb to to refl)
  copied-here (suc n) to o = ap (λ b. if b then Some o else option_and_then (λ x. option_and_then (λ y. if same input.table input.unicode true x.0 y.0 then copied input n dir true x.1 to y.1 else None)
      (input.next dir o)) (input.next dir to)) (eq-eqb to to refl)

  -- one code point, and then others
  copied-more : (n from to o c q : ℕ) (cs : List ℕ) → from ≢ to → input.next dir from ≡ Some (c, q)
      → ((r : ℕ) → copied input n dir true q to r ≡ all_alike input dir cs r) → copied input (suc n) dir true from to o ≡ all_alike input dir (c ∷ cs) o
  unfolding copied all_alike
  copied-more n from to o c q cs apart read rest =
      ap (λ b. if b then Some o else option_and_then (λ x. option_and_then (λ y. if same input.table input.unicode true x.0 y.0 then copied input n dir true x.1 to y.1 else None)
      (input.next dir o)) (input.next dir from)) (ne_eqb from to apart)
      ∙ ap (option_and_then (λ x. option_and_then (λ y. if same input.table input.unicode true x.0 y.0 then copied input n dir true x.1 to y.1 else None) (input.next dir o))) read
      ∙ by_next (input.next dir o)
    where
      by_test : (b : Bool) (r : ℕ) → (if b then copied input n dir true q to r else None) ≡ option_and_then (all_alike input dir cs) (if b then Some r else None)
      by_test true r = rest r
      by_test false r = refl

      by_next : (y : Option (ℕ × ℕ)) → option_and_then (λ (y : ℕ × ℕ). if same input.table input.unicode true c y.0 then copied input n dir true q to y.1 else None) y
          ≡ option_and_then (all_alike input dir cs) (passed (same input.table input.unicode true c) y)
      by_next None = refl
      by_next (Some (d, r)) = by_test (same input.table input.unicode true c d) r

module _ (input : Input) (reading : Reading) (told : Tells reading input) where
  -- the place so many code points on
  abbrev onward : Direction → ℕ → ℕ → ℕ
  onward Forward p k = p + k
  onward Backward p k = p - k

  -- there are so many from a place on
  abbrev HasRoom : Direction → ℕ → ℕ → Type 0
  HasRoom Forward p k = p + k ≤ length reading.points
  HasRoom Backward p k = (k ≤ p) × (p ≤ length reading.points)

  -- the first of those from a place on, and the place behind it
  record FirstLeft (dir : Direction) (p k : ℕ) : Type 0 where
    pub c : ℕ
    pub q : ℕ
    pub read : input.next dir (offset reading p) ≡ Some (c, offset reading q)
    pub left : left_in dir reading.points p ≡ c ∷ left_in dir reading.points q
    pub room : HasRoom dir q k
    pub end : onward dir q k ≡ onward dir p (suc k)
    pub apart : offset reading p ≢ offset reading (onward dir p (suc k))

  first_of : (dir : Direction) (p k : ℕ) → HasRoom dir p (suc k) → FirstLeft dir p k
  first_of Forward p k room =
      let same : suc p + k ≡ p + suc k = omega arith in
      let here : slice_get reading.points p ≡ Some (get_or reading.points p 0) = slice_get-get_or reading.points p 0 (omega (arith, room)) in
      let rest = subst (λ o. IsFirst Forward reading.points p (option_map (λ c. (c, suc p)) o)) here (first-left Forward reading.points p (omega (arith, room))) in
      record {
        c = get_or reading.points p 0;
        q = suc p;
        read = told.next Forward p (omega (arith, room)) ∙ ap (λ o. option_map (point_told reading) (option_map (λ c. (c, suc p)) o)) here;
        left = rest.0;
        room = omega (arith, room);
        end = same;
        apart = λ e. let h = told.rise p (p + suc k) (omega arith) room in omega (arith, e, h);
      }
  first_of Backward zero k room = absurd (omega (arith, room.0))
  first_of Backward (suc p) k room =
      let same : p - k ≡ suc p - suc k = omega arith in
      let here : slice_get reading.points p ≡ Some (get_or reading.points p 0) = slice_get-get_or reading.points p 0 (omega (arith, room.1)) in
      let rest = subst (λ o. IsFirst Backward reading.points (suc p) (option_map (λ c. (c, p)) o)) here (first-left Backward reading.points (suc p) room.1) in
      record {
        c = get_or reading.points p 0;
        q = p;
        read = told.next Backward (suc p) room.1 ∙ ap (λ o. option_map (point_told reading) (option_map (λ c. (c, p)) o)) here;
        left = rest.0;
        room = (omega (arith, room.0), omega (arith, room.1));
        end = same;
        apart = λ e. let h = told.rise (suc p - suc k) (suc p) (omega (arith, room.0)) room.1 in omega (arith, e, h);
      }

  stays : (dir : Direction) (p : ℕ) → onward dir p 0 ≡ p
  stays Forward p = omega arith
  stays Backward p = omega arith

  -- so many code points from a place on are copied where they stand beside an offset by equal canons
  copied-points : (dir : Direction) (k n p o : ℕ) → HasRoom dir p k → k ≤ n
      → copied input n dir true (offset reading p) (offset reading (onward dir p k)) o ≡ all_alike input dir (take k (left_in dir reading.points p)) o
  unfolding all_alike
  copied-points dir zero n p o room few =
      ap (λ q. copied input n dir true (offset reading p) (offset reading q) o) (stays dir p) ∙ copied-here input dir n (offset reading p) o
  copied-points dir (suc k) zero p o room few = absurd (omega (arith, few))
  copied-points dir (suc k) (suc m) p o room few =
      let f = first_of dir p k room in
      copied-more input dir m (offset reading p) (offset reading (onward dir p (suc k))) o f.c (offset reading f.q) (take k (left_in dir reading.points f.q)) f.apart f.read
      (λ r. ap (λ q. copied input m dir true (offset reading f.q) (offset reading q) r) (sym f.end) ∙ copied-points dir k m f.q r f.room (omega (arith, few)))
      ∙ ap (λ cs. all_alike input dir (take (suc k) cs) o) (sym f.left)

  module _ (a b : ℕ) (order : a ≤ b) (inside : b ≤ length reading.points) where
    abbrev word : List ℕ
    word = slice_range reading.points a b

    turned : take (b - a) (reverse (take b reading.points)) ≡ reverse word
    turned =
        let e : b ≡ a + (b - a) = omega (arith, order) in
        let front : take b reading.points ≡ take a reading.points ++ word = ap (λ n. take n reading.points) e ∙ take-add a (b - a) reading.points in
        let x = length-take (b - a) (drop a reading.points) in
        let y = length-drop a reading.points in
        let z = length-reverse word in
        let size : b - a ≡ length (reverse word) = omega (arith, x, y, z, inside) in
        ap (λ cs. take (b - a) (reverse cs)) front ∙ ap (take (b - a)) (reverse-append (take a reading.points) word)
        ∙ ap (λ n. take n (reverse word ++ reverse (take a reading.points))) size ∙ take-append_seam (reverse word) (reverse (take a reading.points))

    far : b - a ≤ offset reading b - offset reading a
    far =
        let e : a + (b - a) ≡ b = omega (arith, order) in
        let f = ap (offset reading) e in
        let h = offsets-far reading told.rise (b - a) a (omega (arith, e, inside)) in
        omega (arith, f, h)

    -- what stands between two places is copied where its code points stand beside an offset by equal canons
    pub repeated-points : (dir : Direction) (o : ℕ) → repeated input dir true (Some (offset reading a, offset reading b)) o ≡ all_alike input dir (in_turn dir word) o
    repeated-points Forward o =
        let e : b ≡ a + (b - a) = omega (arith, order) in
        ap (λ q. copied input (offset reading b - offset reading a) Forward true (offset reading a) (offset reading q) o) e
        ∙ copied-points Forward (b - a) (offset reading b - offset reading a) a o (omega (arith, order, inside)) far
    repeated-points Backward o =
        let e : a ≡ b - (b - a) = omega (arith, order) in
        ap (λ q. copied input (offset reading b - offset reading a) Backward true (offset reading b) (offset reading q) o) e
        ∙ copied-points Backward (b - a) (offset reading b - offset reading a) b o (omega arith, inside) far
        ∙ ap (λ cs. all_alike input Backward cs o) turned

-- ---- a loop over a part

-- how many units a text still has from an offset on, as it is read in a direction
abbrev pub unread : Direction → ℕ → ℕ → ℕ
unread Forward n at = n - at
unread Backward n at = at

-- the canons of an input are those of its table
pub canon-is : (v : View) (c : ℕ) → canon (input_of v).table (input_of v).unicode c ≡ canon v.table v.unicode c
canon-is v c = ap₂ (λ table unicode. canon table unicode c) (table-is v) (unicode-is v)

-- a code point that is read, compared by canons that are the table's
pub alike-here : (input : Input) (dir : Direction) (f : ℕ → ℕ) (c d o o' : ℕ) → Some d ≡ point input dir o → o' ≡ behind o (input.next dir o)
    → f c ≡ canon input.table input.unicode c → f d ≡ canon input.table input.unicode d → only_if (f c == f d) o' ≡ alike input dir c o
alike-here input dir f c d o o' read moved left right = by_read (input.next dir o) read moved
  where
    by_read : (x : Option (ℕ × ℕ)) → Some d ≡ option_map (λ (z : ℕ × ℕ). z.0) x → o' ≡ behind o x
        → only_if (f c == f d) o' ≡ passed (same input.table input.unicode true c) x
    by_read None e m = absurd (cc e)
    by_read (Some (b, r)) e m =
        let here : d ≡ b = cc in
        ap₂ (λ u v. only_if (u == v) o') left (right ∙ ap (canon input.table input.unicode) here) ∙ ap (only_if (canon input.table input.unicode c == canon input.table input.unicode b)) m

-- where a code point passed, it was read
passed-read : (test : ℕ → Bool) (x : Option (ℕ × ℕ)) (q : ℕ) → Some q ≡ passed test x → (d : ℕ) × (x ≡ Some (d, q))
passed-read test None q h = cc
passed-read test (Some (d, o)) q h = by_test (test d) h
  where
    by_test : (b : Bool) → Some q ≡ (if b then Some o else None) → (e : ℕ) × (◌≡◌ {A = Option (ℕ × ℕ)} (Some (d, o)) (Some (e, q)))
    by_test true h = let same : o ≡ q = cc in (d, ap (λ (n : ℕ). Some (d, n)) same)
    by_test false h = cc

-- A loop that reads a part from its one end has come to a place of the part, and to an offset beside which the rest is to stand.
pub record IsCompared (v part : View) (dir : Direction) (start at pos : ℕ) : Type 0 where
  pub place : ℕ
  pub inside : place ≤ length (reading_of part).points
  pub here : offset (reading_of part) place ≡ at
  pub can : CanRead v pos
  pub same : all_alike (input_of v) dir (in_turn dir (reading_of part).points) start ≡ all_alike (input_of v) dir (left_in dir (reading_of part).points place) pos

pub IsCompared-start : (v part : View) (dir : Direction) (start at : ℕ) → offset (reading_of part) (length (reading_of part).points) ≡ length part.units
    → at ≡ begin_in dir (length part.units) → CanRead v start → IsCompared v part dir start at start
IsCompared-start v part Forward start at end begins can = record { place = 0; inside = omega arith; here = sym begins; can = can; same = refl }
IsCompared-start v part Backward start at end begins can = record {
  place = length (reading_of part).points;
  inside = omega arith;
  here = end ∙ sym begins;
  can = can;
  same = ap (λ cs. all_alike (input_of v) Backward (reverse cs) start) (sym (take_all (length (reading_of part).points) (reading_of part).points (omega arith)));
}

module _ (v part : View) (told : Tells (reading_of part) (input_of part)) (dir : Direction) (start at pos : ℕ) (h : IsCompared v part dir start at pos) where
  abbrev points : List ℕ
  points = (reading_of part).points

  abbrev all : List ℕ → ℕ → Option ℕ
  all cs o = all_alike (input_of v) dir cs o

  -- what is read there
  read-here : (input_of part).next dir at ≡ option_map (point_told (reading_of part)) (neighbour points dir h.place)
  read-here = ap ((input_of part).next dir) (sym h.here) ∙ told.next dir h.place h.inside

  -- can be read at is a place of the part
  pub reads-at : (on : (p : ℕ) → p ≤ length points → CanRead part (offset (reading_of part) p)) → CanRead part at
  reads-at on = subst (CanRead part) h.here (on h.place h.inside)

  -- nothing is left
  pub IsCompared-end : point (input_of part) dir at ≡ None → all (in_turn dir points) start ≡ Some pos
  unfolding all_alike
  IsCompared-end none = by_point (neighbour points dir h.place) (first-left dir points h.place h.inside) read-here
    where
      by_point : (x : Option (ℕ × ℕ)) → IsFirst dir points h.place x → (input_of part).next dir at ≡ option_map (point_told (reading_of part)) x → all (in_turn dir points) start ≡ Some pos
      by_point None first read = h.same ∙ ap (λ cs. all cs pos) first
      by_point (Some (d, q)) first read = let clash : ◌≡◌ {A = Option ℕ} None (Some d) = sym none ∙ ap (option_map (λ (z : ℕ × ℕ). z.0)) read in absurd (cc clash)

  module _ (c next : ℕ) (here : Some c ≡ point (input_of part) dir at) (moved : next ≡ behind at ((input_of part).next dir at)) where
    -- the first that is left was read
    record ReadFirst : Type 0 where
      pub q : ℕ
      pub inside : q ≤ length points
      pub there : offset (reading_of part) q ≡ next
      pub left : left_in dir points h.place ≡ c ∷ left_in dir points q

    read_first : ReadFirst
    read_first = by_point (neighbour points dir h.place) (first-left dir points h.place h.inside) read-here
      where
        by_point : (x : Option (ℕ × ℕ)) → IsFirst dir points h.place x → (input_of part).next dir at ≡ option_map (point_told (reading_of part)) x → ReadFirst
        by_point None first read = let clash : ◌≡◌ {A = Option ℕ} (Some c) None = here ∙ ap (option_map (λ (z : ℕ × ℕ). z.0)) read in absurd (cc clash)
        by_point (Some (d, q)) first read =
            let found : Some c ≡ Some d = here ∙ ap (option_map (λ (z : ℕ × ℕ). z.0)) read in
            let same : d ≡ c = cc in
            record {
              q = q;
              inside = first.1;
              there = sym (moved ∙ ap (behind at) read);
              left = first.0 ∙ ap (λ n. n ∷ left_in dir points q) same;
            }

    rest-first : all (in_turn dir points) start ≡ option_and_then (all (left_in dir points read_first.q)) (alike (input_of v) dir c pos)
    unfolding all_alike
    rest-first = h.same ∙ ap (λ cs. all cs pos) read_first.left

    -- it stands there: the loop goes on behind it
    pub IsCompared-on : Reads v → (pos' : ℕ) → Some pos' ≡ alike (input_of v) dir c pos → IsCompared v part dir start next pos'
    IsCompared-on reads pos' stands =
        let read = passed-read (same (input_of v).table (input_of v).unicode true c) ((input_of v).next dir pos) pos' stands in
        record {
          place = read_first.q;
          inside = read_first.inside;
          here = read_first.there;
          can = (reads.on dir pos (read.0, pos') h.can read.1).0;
          same = rest-first ∙ ap (option_and_then (all (left_in dir points read_first.q))) (sym stands);
        }

    -- it doesn't: nothing is repeated
    pub IsCompared-none : None ≡ alike (input_of v) dir c pos → all (in_turn dir points) start ≡ None
    IsCompared-none none = rest-first ∙ ap (option_and_then (all (left_in dir points read_first.q))) (sym none)

    -- and less is left to be read
    pub unread-less : Reads part → CanRead part at → unread dir (length part.units) next < unread dir (length part.units) at
    unread-less reads can = by_read ((input_of part).next dir at) refl here moved
      where
        by_direction : (d : Direction) (x : ℕ) → at ≤ length part.units → x ≤ length part.units → 0 < units_left d at x → unread d (length part.units) x < unread d (length part.units) at
        by_direction Forward x from room on = omega arith
        by_direction Backward x from room on = omega arith

        by_read : (x : Option (ℕ × ℕ)) → (input_of part).next dir at ≡ x → Some c ≡ option_map (λ (z : ℕ × ℕ). z.0) x → next ≡ behind at x
            → unread dir (length part.units) next < unread dir (length part.units) at
        by_read None e some m = absurd (cc some)
        by_read (Some x) e some m =
            let on = reads.on dir at x can e in
            subst (λ n. unread dir (length part.units) n < unread dir (length part.units) at) (sym m) (by_direction dir x.1 (reads.inside at can) (reads.inside x.1 on.0) on.1)
