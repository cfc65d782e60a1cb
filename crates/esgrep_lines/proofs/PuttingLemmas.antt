-- From what writes do to what was put out.
use Rattle.std.proofs.Common.{◌≡◌, ℕ, ◌+◌, ◌-◌, ◌≤◌, List, [], ◌++◌, length, take, drop, Option, Some, None, refl, sym, ap, ◌∙◌, append-nil, length-take, arith}
use Rattle.std.proofs.lemmas.List.{take-take, append_assoc, take-append-drop}
use Rattle.std.proofs.Math.Seq.{take-add}
use Rattle.std.proofs.KnownBytes.{Appends-trans}
use Rattle.std.specs.Io.KnownBytes.{Appends, Keeps, append_known}
use Rattle.esgrep_lines.specs.Putting.{AppendsFront, IsBeginning}

-- a write after others
pub Appends-put : (a b c : Option (List ℕ)) (bytes : List ℕ) (done count : ℕ)
    → count ≤ length (take (length bytes - done) (drop done bytes)) → Appends a b (take done bytes)
    → Appends b c (take count (take (length bytes - done) (drop done bytes))) → Appends a c (take (done + count) bytes)
Appends-put a b c bytes done count le before now =
    let within : count ≤ length bytes - done = omega (arith, length-take (length bytes - done) (drop done bytes)) in
    rw (take-add, ← take-take count (length bytes - done) (drop done bytes) within) (Appends-trans a b c _ _ before now)

-- a write that failed after others
pub Appends-kept : (a b c : Option (List ℕ)) (bytes : List ℕ) → Appends a b bytes → Keeps b c → Appends a c bytes
Appends-kept None b c bytes before kept = tt
Appends-kept (Some xs) None c bytes before kept = absurd before
Appends-kept (Some xs) (Some ys) None bytes before kept = absurd kept
Appends-kept (Some xs) (Some ys) (Some zs) bytes before kept = kept ∙ before

-- what was written is a beginning of what was put out
pub front-beginning : (a b : Option (List ℕ)) (bytes : List ℕ) → AppendsFront a b bytes → IsBeginning b (append_known a bytes)
front-beginning None None bytes front = tt
front-beginning None (Some ys) bytes front = tt
front-beginning (Some xs) None bytes front = tt
front-beginning (Some xs) (Some ys) bytes front =
    (drop front.0 bytes, ap (λ l. l ++ drop front.0 bytes) front.1 ∙ append_assoc xs (take front.0 bytes) (drop front.0 bytes) ∙ ap (λ l. xs ++ l) (take-append-drop front.0 bytes))

-- the same where more is put out behind it
pub beginning-more : (a all : Option (List ℕ)) (bytes : List ℕ) → IsBeginning a all → IsBeginning a (append_known all bytes)
beginning-more None None bytes h = tt
beginning-more None (Some ys) bytes h = tt
beginning-more (Some xs) None bytes h = tt
beginning-more (Some xs) (Some ys) bytes h = (h.0 ++ bytes, sym (append_assoc xs h.0 bytes) ∙ ap (λ l. l ++ bytes) h.1)

-- what waited was written, and nothing waits
pub flushed : (a b : Option (List ℕ)) (pending : List ℕ) → Appends a b pending → Appends (append_known a pending) (append_known b []) []
flushed None b pending now = tt
flushed (Some xs) None pending now = absurd now
flushed (Some xs) (Some ys) pending now = rw now refl

-- nothing waited, and bytes were written
pub written-behind : (a b : Option (List ℕ)) (bytes : List ℕ) → Appends a b bytes → Appends (append_known a []) (append_known b []) bytes
written-behind None b bytes now = tt
written-behind (Some xs) None bytes now = absurd now
written-behind (Some xs) (Some ys) bytes now = append-nil ys ∙ now ∙ ap (λ l. l ++ bytes) (sym (append-nil xs))

-- nothing waited, and a beginning of bytes was written
behind-nothing : (a b : Option (List ℕ)) (bytes : List ℕ) → AppendsFront a b bytes → IsBeginning b (append_known (append_known a []) bytes)
behind-nothing None None bytes front = tt
behind-nothing None (Some ys) bytes front = tt
behind-nothing (Some xs) None bytes front = tt
behind-nothing (Some xs) (Some ys) bytes front =
    let h = front-beginning (Some xs) (Some ys) bytes front in (h.0, h.1 ∙ ap (λ l. l ++ bytes) (sym (append-nil xs)))

pub front-behind : (a b : Option (List ℕ)) (pending bytes : List ℕ) → pending ≡ [] → AppendsFront a b bytes → IsBeginning b (append_known (append_known a pending) bytes)
front-behind a b pending bytes none front = rw none (behind-nothing a b bytes front)

-- a row waits
pub waits : (a : Option (List ℕ)) (pending row : List ℕ) → Appends (append_known a pending) (append_known a (pending ++ row)) row
waits None pending row = tt
waits (Some xs) pending row = sym (append_assoc xs pending row)

-- what waited was written before, and a beginning of the rest
pub beginning-from : (a b c : Option (List ℕ)) (row : List ℕ) → Appends a b [] → IsBeginning c (append_known b row) → IsBeginning c (append_known a row)
beginning-from a b None row same h = first-none a
  where
    first-none : (a : Option (List ℕ)) → IsBeginning None (append_known a row)
    first-none None = tt
    first-none (Some xs) = tt
beginning-from None b (Some zs) row same h = tt
beginning-from (Some xs) None (Some zs) row same h = absurd same
beginning-from (Some xs) (Some ys) (Some zs) row same h = (h.0, h.1 ∙ ap (λ l. l ++ row) (same ∙ append-nil xs))
