-- Patterns as texts: characters stand for themselves.
use Rattle.std.specs.Prelude.{◌*◌, ◌≤◌, nat_lt, sum_by}
use Rattle.std.proofs.lemmas.Bool.{cond_both}
use Rattle.std.proofs.lemmas.List.Sums.{sum_by-cons}
use Rattle.std.proofs.Common.{◌≡◌, ℕ, arith, Bool, true, false, ◌&&◌, if◌then◌else◌, List, [], ◌∷◌, map, chars, length, take, Option, Some, None, Result, Ok, Err, IfOk, IfSome, refl, sym, ap, ap₂, subst, ◌∙◌}
use lib.Utf8.{scalar}
use Rattle.std.proofs.lemmas.List.{take-map}
use Rattle.std.proofs.lemmas.Str.{encodes-chars, scalars-chars}
use Rattle.std.specs.Str.{encode_utf8_all, all_scalars, IsUtf8, IsCharBoundary}
use Rattle.regress_meaning.specs.Offsets.{of_utf8, offset}
use Rattle.regress_front_core.specs.declared.error.Error.{Error}
use Rattle.regress_front_bytes.proofs.TextLemmas.{length-encodes, offset_is_boundary}
use Rattle.regress_errors.specs.declared.refusing.SyntaxError.{SyntaxError}
use Rattle.regress_errors.specs.Texts.{shown, shown_text, unit_width}

both-pass : (a b : Bool) → (a && b) ≡ true → (a ≡ true) × (b ≡ true)
both-pass true b e = (refl, e)
both-pass false b e = absurd (cc)

shown-all : (cs : List ℕ) → all_scalars cs ≡ true → map shown cs ≡ cs
shown-all [] all = refl
shown-all (c ∷ cs) all =
    let both = both-pass (scalar c) (all_scalars cs) all in
    let first : shown c ≡ c = ap (λ (b : Bool). if b then c else 0xFFFD) both.0 in
    ap₂ (λ (d : ℕ) (ds : List ℕ). d ∷ ds) first (shown-all cs both.1)

-- the code points of a text are shown as that text
pub shown-chars : (bytes : List ℕ) → IsUtf8 bytes → shown_text (chars bytes) ≡ bytes
shown-chars bytes utf8 = ap encode_utf8_all (shown-all (chars bytes) (scalars-chars bytes utf8)) ∙ encodes-chars bytes utf8

-- its first characters take as many bytes as their offset tells
pub shown-prefix : (bytes : List ℕ) → IsUtf8 bytes → (place : ℕ) → length (shown_text (take place (chars bytes))) ≡ offset (of_utf8 bytes) place
shown-prefix bytes utf8 place =
    ap (λ (cs : List ℕ). length (encode_utf8_all cs)) (sym (take-map shown place (chars bytes)) ∙ ap (take place) (shown-all (chars bytes) (scalars-chars bytes utf8)))
    ∙ length-encodes (take place (chars bytes))

-- where reading a text stops is told in its bytes
pub stops-at : (found : Result (Option SyntaxError) Error) (points bytes : List ℕ) → IsUtf8 bytes → points ≡ chars bytes
    → IfOk found (λ f. IfSome f (λ e. e.offset ≡ length (shown_text (take e.place points)))) → IfOk found (λ f. IfSome f (λ e. e.offset ≡ offset (of_utf8 bytes) e.place))
stops-at (Ok (Some e)) points bytes utf8 same told = told ∙ ap (λ (cs : List ℕ). length (shown_text (take e.place cs))) same ∙ shown-prefix bytes utf8 e.place
stops-at (Ok None) points bytes utf8 same told = tt
stops-at (Err refused) points bytes utf8 same told = tt

-- between characters
pub stops-between : (found : Result (Option SyntaxError) Error) (bytes : List ℕ) → IsUtf8 bytes → IfOk found (λ f. IfSome f (λ e. e.offset ≡ offset (of_utf8 bytes) e.place))
    → IfOk found (λ f. IfSome f (λ e. IsCharBoundary bytes e.offset))
stops-between (Ok (Some e)) bytes utf8 told = subst (IsCharBoundary bytes) (sym told) (offset_is_boundary bytes utf8 e.place)
stops-between (Ok None) bytes utf8 told = tt
stops-between (Err refused) bytes utf8 told = tt

-- a code point takes two units at most
width-at_most : (c : ℕ) → unit_width c ≤ 2
width-at_most c = cond_both (nat_lt c 0x1_0000) 1 2 (λ n. n ≤ 2) (λ _. omega arith) (λ _. omega arith)

pub units-at_most : (cs : List ℕ) → sum_by unit_width cs ≤ length cs * 2
units-at_most [] = omega arith
units-at_most (c ∷ cs) = omega (arith, sum_by-cons unit_width c cs, width-at_most c, units-at_most cs)
