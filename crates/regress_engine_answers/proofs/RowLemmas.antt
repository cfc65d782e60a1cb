-- What is kept in rows of offsets.
use Rattle.std.specs.Global.{Vec}
use Rattle.std.specs.Option.{option_or}
use Rattle.std.specs.Prelude.{slice_get, slice_set}
use Rattle.std.proofs.Common.{◌≡◌, ℕ, zero, suc, ◌<◌, ◌≤◌, ◌⊎◌, inl, inr, ◌&&◌, ◌==◌, Bool, true, false, List, [], ◌∷◌, ◌++◌, length, get_or, replicate, take, Option, None, Some, if◌then◌else◌, refl, sym, ap, ◌∙◌, subst, arith, get_or-set_other, get_or-set_same, length-set}
use Rattle.std.proofs.lemmas.Bool.{cases_lt, eqb-false, eqb-true}
use Rattle.std.proofs.lemmas.List.{take_all}
use Rattle.std.proofs.lemmas.Option.{slice_get-get_or, slice_get_past}
use Rattle.regress_engine_answers.specs.AnswerTables.{in_row}
use Rattle.regress_engine_ways.specs.Ways.{preferred}

pub row-past : (rows : List (Vec (Option ℕ))) (k n : ℕ) → length rows ≤ k → in_row (slice_get rows k) n ≡ None
row-past rows k n past = ap (λ x. in_row x n) (slice_get_past rows k past)

pub item-past : (xs : List (Option ℕ)) (n : ℕ) → length xs ≤ n → get_or xs n None ≡ None
item-past [] n past = refl
item-past (x ∷ xs) zero past = absurd (omega (arith, past))
item-past (x ∷ xs) (suc n) past = item-past xs n (omega (arith, past))

abbrev none : Option ℕ
none = None

nothing : (j n : ℕ) → get_or (replicate j none) n none ≡ none
nothing zero n = refl
nothing (suc j) zero = refl
nothing (suc j) (suc n) = nothing j n

padded : (xs : List (Option ℕ)) (j n : ℕ) → get_or (xs ++ replicate j None) n None ≡ get_or xs n None
padded [] j n = nothing j n
padded (x ∷ xs) j zero = refl
padded (x ∷ xs) j (suc n) = padded xs j n

-- what is filled up with nothing keeps what it kept
pub item-resized : (xs : List (Option ℕ)) (m j n : ℕ) → length xs ≤ m → get_or (take m xs ++ replicate j None) n None ≡ get_or xs n None
item-resized xs m j n short = ap (λ ys. get_or (ys ++ replicate j None) n None) (take_all m xs short) ∙ padded xs j n

item-set : (xs : List (Option ℕ)) (k n : ℕ) (x : Option ℕ) → k < length xs → get_or (slice_set xs k x) n None ≡ (if n == k then x else get_or xs n None)
item-set xs k n x within = by_value (n == k) refl
  where
    by_value : (b : Bool) → (n == k) ≡ b → get_or (slice_set xs k x) n None ≡ (if b then x else get_or xs n None)
    by_value true e = let same = eqb-true n k e in ap (λ j. get_or (slice_set xs k x) j None) same ∙ get_or-set_same xs k x None within
    by_value false e = get_or-set_other xs k n x None (eqb-false n k e)

row-set : (rows : List (Vec (Option ℕ))) (k j n : ℕ) (row : Vec (Option ℕ)) → k < length rows
    → in_row (slice_get (slice_set rows k row) j) n ≡ (if j == k then get_or row.items n None else in_row (slice_get rows j) n)
row-set rows k j n row within = by_value (j == k) refl (cases_lt j (length rows))
  where
    size : length (slice_set rows k row) ≡ length rows
    size = length-set rows k row

    by_value : (b : Bool) → (j == k) ≡ b → (j < length rows) ⊎ (length rows ≤ j) → in_row (slice_get (slice_set rows k row) j) n ≡ (if b then get_or row.items n None else in_row (slice_get rows j) n)
    by_value true e order =
        let same = eqb-true j k e in
        ap (λ i. in_row (slice_get (slice_set rows k row) i) n) same
        ∙ ap (λ x. in_row x n) (slice_get-get_or (slice_set rows k row) k row (omega (arith, size, within)) ∙ ap Some (get_or-set_same rows k row row within))
    by_value false e (inl less) =
        ap (λ x. in_row x n)
        (slice_get-get_or (slice_set rows k row) j row (omega (arith, size, less))
        ∙ ap Some (get_or-set_other rows k j row row (eqb-false j k e)) ∙ sym (slice_get-get_or rows j row less))
    by_value false e (inr past) = row-past (slice_set rows k row) j n (omega (arith, size, past)) ∙ sym (row-past rows j n past)

-- A row keeps an offset more.
pub rows-kept : (rows : List (Vec (Option ℕ))) (k index : ℕ) (x : Option ℕ) (new : Vec (Option ℕ)) (ys : List (Option ℕ)) → k < length rows → index < length ys → new.items ≡ slice_set ys index x
    → ((n : ℕ) → get_or ys n None ≡ in_row (slice_get rows k) n) → (j n : ℕ)
    → in_row (slice_get (slice_set rows k new) j) n ≡ (if (j == k) && (n == index) then x else in_row (slice_get rows j) n)
rows-kept rows k index x new ys within there is same j n = row-set rows k j n new within ∙ by_value (j == k) refl
  where
    by_value : (b : Bool) → (j == k) ≡ b → (if b then get_or new.items n None else in_row (slice_get rows j) n) ≡ (if b && (n == index) then x else in_row (slice_get rows j) n)
    by_value false e = refl
    by_value true e =
        ap (λ zs. get_or zs n None) is ∙ item-set ys index n x there ∙ by_index (n == index)
      where
        by_index : (c : Bool) → (if c then x else get_or ys n None) ≡ (if c then x else in_row (slice_get rows j) n)
        by_index true = refl
        by_index false = same n ∙ ap (λ i. in_row (slice_get rows i) n) (sym (eqb-true j k e))

-- ---- which exit is preferred

pub preferred-none : (greedy : Bool) (here : Option ℕ) → preferred greedy here None ≡ here
preferred-none true here = refl
preferred-none false None = refl
preferred-none false (Some e) = refl

pub none-preferred : (greedy : Bool) (beyond : Option ℕ) → preferred greedy None beyond ≡ beyond
none-preferred true None = refl
none-preferred true (Some e) = refl
none-preferred false beyond = refl

pub preferred-on : (greedy : Bool) (x y z : Option ℕ) → preferred greedy x (preferred greedy y z) ≡ preferred greedy (preferred greedy x y) z
preferred-on true x y None = refl
preferred-on true x y (Some e) = refl
preferred-on false None y z = refl
preferred-on false (Some e) y z = refl
