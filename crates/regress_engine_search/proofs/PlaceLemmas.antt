-- Places that are read at.
use Rattle.std.proofs.Common.{ℕ, true, length, Option, Some, None, option_map, ◌≡◌, refl, sym, ap, ◌∙◌, subst}
use Rattle.regress_meaning.specs.Meaning.{Direction}
use Rattle.regress_meaning.specs.Inputs.{Tells}
use Rattle.regress_meaning.specs.Offsets.{offset}
use Rattle.regress_meaning.specs.Steps.{passed}
use Rattle.regress_engine_input.specs.Views.{View, Kind, utf8, ascii, utf16, ucs2, AreOfKind, CanRead, LiesIn, behind, input_of, reading_of}
use Rattle.regress_engine_input.proofs.KindLemmas.{tells, end, readable}
use Rattle.regress_engine_matchers.proofs.MatcherLemmas.{Reads}
use Rattle.regress_engine_runs.specs.Meets.{IsAtPlace}
use Rattle.regress_engine_runs.specs.UndoStack.{MovesOn}
use Rattle.regress_engine_runs.proofs.Literals.{place-on}
use Rattle.regress_engine_runs.proofs.InputsMove.{utf8-moves-on, ascii-moves-on, utf16-moves-on, ucs2-moves-on}

-- what an input shows are the units of its view
pub units-are : (v : View) → (input_of v).units ≡ v.units
units-are v = by_kind v.kind
  where
    by_kind : (k : Kind) → (input_of (record v { kind = k })).units ≡ v.units
    by_kind utf8 = refl
    by_kind ascii = refl
    by_kind utf16 = refl
    by_kind ucs2 = refl

-- the last place has their number as its offset
pub end-is : (v : View) → AreOfKind v.kind v.units → offset (reading_of v) (length (reading_of v).points) ≡ length (input_of v).units
end-is v all = end v.kind v.units all ∙ ap length (sym (units-are v))

-- what is read at a place ends at a place
module _ (v : View) (all : AreOfKind v.kind v.units) where
  told : Tells (reading_of v) (input_of v)
  told = tells v.kind v.table v.unicode v.units all

  -- characters may be read there
  pub can-read : (o : ℕ) → IsAtPlace (reading_of v) o → CanRead v o
  can-read o (p, room, e) = subst (CanRead v) (sym e) (readable v.kind v.table v.unicode v.units all p room)

  pub next-place : (dir : Direction) (o c q : ℕ) → IsAtPlace (reading_of v) o → (input_of v).next dir o ≡ Some (c, q) → IsAtPlace (reading_of v) q
  next-place dir o c q place e = place-on (input_of v) (reading_of v) told dir (λ c. true) o q place (ap (passed (λ c. true)) e)

-- each input moves on
pub moves : (v : View) → MovesOn (input_of v)
moves v = by_kind v.kind
  where
    by_kind : (k : Kind) → MovesOn (input_of (record v { kind = k }))
    by_kind utf8 = utf8-moves-on v.table v.unicode v.units
    by_kind ascii = ascii-moves-on v.table v.unicode v.units
    by_kind utf16 = utf16-moves-on v.table v.unicode v.units
    by_kind ucs2 = ucs2-moves-on v.table v.unicode v.units

-- behind what is read lies in the text
pub lies-behind : (v : View) → Reads v → (dir : Direction) (o q : ℕ) → CanRead v o → q ≡ behind o ((input_of v).next dir o) → LiesIn v q
lies-behind v reads dir o q can e = by_read ((input_of v).next dir o) refl e
  where
    by_read : (x : Option (ℕ × ℕ)) → (input_of v).next dir o ≡ x → q ≡ behind o x → LiesIn v q
    by_read None h f = subst (LiesIn v) (sym f) (reads.inside o can)
    by_read (Some x) h f = subst (LiesIn v) (sym f) (reads.inside x.1 (reads.on dir o x can h).0)

-- where something is read, behind it lies in the text
pub lies-next : (v : View) → Reads v → (dir : Direction) (o q : ℕ) → CanRead v o → Some q ≡ option_map (λ x. x.1) ((input_of v).next dir o) → LiesIn v q
lies-next v reads dir o q can e = by_read ((input_of v).next dir o) refl e
  where
    by_read : (x : Option (ℕ × ℕ)) → (input_of v).next dir o ≡ x → Some q ≡ option_map (λ x. x.1) x → LiesIn v q
    by_read None h f = absurd (cc)
    by_read (Some x) h f = let same : x.1 ≡ q = cc in subst (LiesIn v) same (reads.inside x.1 (reads.on dir o x can h).0)
