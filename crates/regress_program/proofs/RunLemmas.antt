-- From what the parts of a run ensure to what the run does.
use Rattle.std.proofs.Common.{◌≡◌, ℕ, ◌+◌, ◌-◌, ◌≤◌, true, false, List, [], ◌∷◌, ◌++◌, length, take, drop, Option, Some, None, Result, Ok, Err, is_err, IfSome, OnOk, OnErr, chars, IsUtf8, refl, ◌∙◌, sym, ap, subst, append-nil, length-take, arith}
use Rattle.std.proofs.lemmas.List.{take-take, take_all, append_assoc, take-append-drop}
use Rattle.std.proofs.Math.Seq.{take-add, take-append_seam}
use Rattle.std.proofs.KnownBytes.{Appends-trans}
use Rattle.std.specs.Io.KnownBytes.{Appends}
use Rattle.regress_meaning.specs.Table.{Table}
use Rattle.regress_meaning.specs.Pattern.{Pattern}
use Rattle.regress_meaning.specs.Flags.{options_of}
use Rattle.regress_meaning.specs.Grammar.{Spells}
use Rattle.regress_meaning.specs.Limits.{WithinLimits}
use Rattle.regress_meaning.specs.Matches.{Item}
use Rattle.regress_meaning.specs.Output.{line_of, lines_of}
use Rattle.regress.specs.declared.api.Regex.{Regex}
use Rattle.regress_front_core.specs.declared.flags.Flags.{Flags}
use Rattle.regress_front.specs.FlagWords.{flags_of}
use Rattle.regress.specs.Standing.{StandsFor, StandsInUnits}
use Rattle.regress_front.specs.FlagWords.{options}
use Rattle.regress_program.specs.Running.{small, output, AppendsFront, Waits, Accepted, Searched}

-- what stands behind an error
pub on_err-at : {T E P : Type 0} (r : Result T E) → true ≡ is_err r → OnErr r P → P
on_err-at (Ok x) e p = cc
on_err-at (Err y) e p = p

-- what stands behind a success
pub on_ok-at : {T E P : Type 0} (r : Result T E) → false ≡ is_err r → OnOk r P → P
on_ok-at (Ok x) e p = p
on_ok-at (Err y) e p = cc

-- what follows behind a success
pub on_ok-more : {T E P Q : Type 0} (r : Result T E) → (P → Q) → OnOk r P → OnOk r Q
on_ok-more (Ok x) more p = more p
on_ok-more (Err y) more p = tt

-- what follows behind an error
pub on_err-more : {T E P Q : Type 0} (r : Result T E) → (P → Q) → OnErr r P → OnErr r Q
on_err-more (Ok x) more p = tt
on_err-more (Err y) more p = more p

-- what stands behind one error
pub on_err-of : {T E P : Type 0} (r : Result T E) (y : E) → r ≡ Err y → OnErr r P → P
on_err-of (Ok x) y e p = cc
on_err-of (Err x) y e p = p

-- a put after others
pub Appends-put : (a b c : Option (List ℕ)) (bytes : List ℕ) (done count : ℕ)
    → count ≤ length (take (length bytes - done) (drop done bytes)) → Appends a b (take done bytes)
    → Appends b c (take count (take (length bytes - done) (drop done bytes))) → Appends a c (take (done + count) bytes)
Appends-put a b c bytes done count le before now =
    let within : count ≤ length bytes - done = omega (arith, length-take (length bytes - done) (drop done bytes)) in
    rw (take-add, ← take-take count (length bytes - done) (drop done bytes) within) (Appends-trans a b c _ _ before now)

-- what was read and what was written of it are what was searched
pub searched : (flags pattern text slice bytes : List ℕ) (old new : Option (List ℕ)) (Wrote : List ℕ → Type 0)
    → IfSome old (λ input. (bytes ≡ input) × (new ≡ Some [])) → slice ≡ bytes → (text ≡ slice) × IsUtf8 slice → (a : Accepted flags pattern)
    → Wrote (output small (options_of (chars flags)) a.tree text) → IfSome old (λ input. Searched flags pattern input new Wrote)
searched flags pattern text slice bytes None new Wrote r e u a w = tt
searched flags pattern text slice bytes (Some input) new Wrote r e u a w =
    let same : slice ≡ input = e ∙ r.0 in
    record {
      read = r.1;
      utf8 = subst IsUtf8 same u.1;
      accepted = a;
      wrote = subst (λ t. Wrote (output small (options_of (chars flags)) a.tree t)) (u.0 ∙ same) w;
    }

-- what was read is no text
pub not-text : (slice bytes : List ℕ) (old new : Option (List ℕ)) → IfSome old (λ input. (bytes ≡ input) × (new ≡ Some [])) → slice ≡ bytes → ¬ IsUtf8 slice
    → IfSome old (λ input. (new ≡ Some []) × ¬ IsUtf8 input)
not-text slice bytes None new r e k = tt
not-text slice bytes (Some input) new r e k = (r.1, subst (λ t. ¬ IsUtf8 t) (e ∙ r.0) k)

-- a pattern that is compiled is accepted, and the compiled pattern stands for its tree
pub accepted : (flags pattern : List ℕ) (t : Table) (f : Flags) (r : Regex) → t ≡ small → f ≡ flags_of (chars flags)
    → ((p : Pattern) × Spells t (options f) (chars pattern) p × WithinLimits p × StandsFor r t (options f) p × StandsInUnits r t (options f) p)
    → (a : Accepted flags pattern) × StandsFor r small (options_of (chars flags)) a.tree
accepted flags pattern t f r same e s = let k = rw (same, e) at s in (record { tree = k.0; spelled = k.1; within = k.2 }, k.3)

-- of bytes that were written a beginning of others
pub front-of : (a b : Option (List ℕ)) (part behind all : List ℕ) → part ++ behind ≡ all → Appends a b part → AppendsFront a b all
front-of a b part behind all whole appended = (length part, rw (← whole, take-append_seam part behind) appended)

-- a beginning of the bytes behind those that were written
pub front-behind : (a b c : Option (List ℕ)) (pending line : List ℕ) → Appends a b pending → AppendsFront b c line → AppendsFront a c (pending ++ line)
front-behind a b c pending line before now =
    front-of a c (pending ++ take now.0 line) (drop now.0 line) (pending ++ line)
    (append_assoc pending (take now.0 line) (drop now.0 line) ∙ ap (λ l. pending ++ l) (take-append-drop now.0 line)) (Appends-trans a b c _ _ before now.1)

-- what waited was written too
pub Waits-all : (a b c : Option (List ℕ)) (pending all : List ℕ) → Waits a b pending all → Appends b c pending → Appends a c all
Waits-all a b c pending all w now = subst (Appends a c) w.2 (Appends-trans a b c _ _ w.1 now)

-- a beginning of what waited was written
pub Waits-part : (a b c : Option (List ℕ)) (pending all : List ℕ) (count : ℕ) → Waits a b pending (take count all) → AppendsFront b c pending → AppendsFront a c all
Waits-part a b c pending all count w now =
    let part : List ℕ = take now.0 pending in
    let rest : List ℕ = drop count all in
    let whole : (w.0 ++ part) ++ (drop now.0 pending ++ rest) ≡ all =
    append_assoc w.0 part (drop now.0 pending ++ rest) ∙ ap (λ l. w.0 ++ l) (sym (append_assoc part (drop now.0 pending) rest))
    ∙ ap (λ l. w.0 ++ (l ++ rest)) (take-append-drop now.0 pending) ∙ sym (append_assoc w.0 pending rest)
    ∙ ap (λ l. l ++ rest) w.2 ∙ take-append-drop count all in
    front-of a c (w.0 ++ part) (drop now.0 pending ++ rest) all whole (Appends-trans a b c _ _ w.1 now.1)

-- the same where all of it waited
pub Waits-front : (a b c : Option (List ℕ)) (pending all : List ℕ) → Waits a b pending all → AppendsFront b c pending → AppendsFront a c all
Waits-front a b c pending all w now =
    Waits-part a b c pending all (length all) (w.0, w.1, w.2 ∙ sym (take_all (length all) all (omega arith))) now

-- Of all that is to be written this much was, these bytes wait, and the lines of the items that are still coming are the rest.
pub record IsWritten (old new : Option (List ℕ)) (pending : List ℕ) (coming : List Item) (all : List ℕ) : Type 0 where
  pub done : List ℕ
  pub appended : Appends old new done
  pub whole : (done ++ pending) ++ lines_of coming ≡ all

-- a beginning was written or waits
pub IsWritten-front : (a b : Option (List ℕ)) (pending : List ℕ) (coming : List Item) (all : List ℕ) → IsWritten a b pending coming all
    → (count : ℕ) × Waits a b pending (take count all)
IsWritten-front a b pending coming all w =
    (length (w.done ++ pending), (w.done, w.appended, rw (← w.whole, take-append_seam (w.done ++ pending) (lines_of coming)) refl))

-- nothing is coming, so all was written or waits
pub IsWritten-all : (a b : Option (List ℕ)) (pending : List ℕ) (coming : List Item) (all : List ℕ) → IsWritten a b pending coming all → coming ≡ [] → Waits a b pending all
IsWritten-all a b pending coming all w none =
    (w.done, w.appended, sym (append-nil (w.done ++ pending)) ∙ ap (λ is. (w.done ++ pending) ++ lines_of is) (sym none) ∙ w.whole)

-- the lines that come behind what was written begin with that of the next item
next_line : (done line : List ℕ) (coming rest : List Item) (i : Item) → coming ≡ i ∷ rest → line ≡ line_of i
    → done ++ (line ++ lines_of rest) ≡ done ++ lines_of coming
next_line done line coming rest i next is = rw (next, is) refl

-- the same behind what waits
next_pending : (done pending line rest : List ℕ) → done ++ ((pending ++ line) ++ rest) ≡ (done ++ pending) ++ (line ++ rest)
next_pending done pending line rest = ap (λ l. done ++ l) (append_assoc pending line rest) ∙ sym (append_assoc done pending (line ++ rest))

-- the line of the next item was put behind what waits
pub IsWritten-more : (a b c : Option (List ℕ)) (pending pending2 : List ℕ) (coming rest : List Item) (i : Item) (all line : List ℕ) → IsWritten a b pending coming all
    → coming ≡ i ∷ rest → line ≡ line_of i → Waits b c pending2 (pending ++ line) → IsWritten a c pending2 rest all
IsWritten-more a b c pending pending2 coming rest i all line w next is now = record {
  done = w.done ++ now.0;
  appended = Appends-trans a b c _ _ w.appended now.1;
  whole = ap (λ l. l ++ lines_of rest) (append_assoc w.done now.0 pending2 ∙ ap (λ l. w.done ++ l) now.2)
      ∙ append_assoc w.done (pending ++ line) (lines_of rest) ∙ next_pending w.done pending line (lines_of rest)
      ∙ next_line (w.done ++ pending) line coming rest i next is ∙ w.whole;
}

-- a beginning of what waits and of the line of the next item was written
pub IsWritten-part : (a b c : Option (List ℕ)) (pending : List ℕ) (coming rest : List Item) (i : Item) (all line : List ℕ) → IsWritten a b pending coming all
    → coming ≡ i ∷ rest → line ≡ line_of i → AppendsFront b c (pending ++ line) → AppendsFront a c all
IsWritten-part a b c pending coming rest i all line w next is now =
    let more : List ℕ = pending ++ line in
    let part : List ℕ = take now.0 more in
    let behind : List ℕ = drop now.0 more ++ lines_of rest in
    let whole : (w.done ++ part) ++ behind ≡ all =
    append_assoc w.done part behind ∙ ap (λ l. w.done ++ l) (sym (append_assoc part (drop now.0 more) (lines_of rest)))
    ∙ ap (λ l. w.done ++ (l ++ lines_of rest)) (take-append-drop now.0 more) ∙ next_pending w.done pending line (lines_of rest)
    ∙ next_line (w.done ++ pending) line coming rest i next is ∙ w.whole in
    front-of a c (w.done ++ part) behind all whole (Appends-trans a b c _ _ w.appended now.1)
