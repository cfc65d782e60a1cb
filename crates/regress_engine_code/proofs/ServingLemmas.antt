-- What serves a tree: the predicate that says nothing, and a copy of what does.
use Rattle.std.proofs.Common.{◌≡◌, ℕ, Bool, List, take, drop, length, refl, sym, ap, ◌∙◌, subst}
use Rattle.regress_meaning.specs.Text.{holds}
use Rattle.regress_front_nodes.specs.Trees.{Tree}
use Rattle.regress_engine_scanning.specs.Units.{AreAscii}
use Rattle.regress_engine_prefix.specs.Starts.{AreNear, IsApart, BeginsAs, is_arbitrary, HoldsAtStart, IsPlain, Serves, IsSameStart}
use Rattle.regress_engine_prefix.specs.declared.start.StartPredicate.{StartPredicate}
use Rattle.regress_engine_prefix.specs.declared.start.StartPredicate.TheVariants.{Arbitrary, ByteSet1, ByteSet2, ByteSet3, ByteSeq, ByteBracket, ByteNear, StartAnchored}
use Rattle.regress_engine_prefix.specs.declared.start.StartPredicate.TheVariants as variant

-- two predicates say the same of bytes
pub record SayTheSame (start other : StartPredicate) : Type 0 where
  pub on : (bytes : List ℕ) (at : ℕ) → BeginsAs start bytes at → BeginsAs other bytes at
  pub back : (bytes : List ℕ) (at : ℕ) → BeginsAs other bytes at → BeginsAs start bytes at
  pub kept : is_arbitrary other ≡ is_arbitrary start
  pub plain : IsPlain start → IsPlain other
  pub first : (t : Tree) → HoldsAtStart t start → HoldsAtStart t other
  pub near : (points : List ℕ) → AreNear start points → AreNear other points
  pub apart : (points : List ℕ) (place : ℕ) → IsApart start points place → IsApart other points place

one-says : (start other : StartPredicate) → other ≡ start → SayTheSame start other
one-says start other e = record {
  on = λ bytes at. subst (λ p. BeginsAs p bytes at) (sym e);
  back = λ bytes at. subst (λ p. BeginsAs p bytes at) e;
  kept = ap is_arbitrary e;
  plain = subst IsPlain (sym e);
  first = λ t. subst (HoldsAtStart t) (sym e);
  near = λ points. subst (λ p. AreNear p points) (sym e);
  apart = λ points place. subst (λ p. IsApart p points place) (sym e);
}

pub same-says : (start other : StartPredicate) → IsSameStart start other → SayTheSame start other
same-says (ByteSeq front) (ByteSeq others) e = record {
  on = λ bytes at. subst (λ f. take (length f) (drop at bytes) ≡ f) (sym e);
  back = λ bytes at. subst (λ f. take (length f) (drop at bytes) ≡ f) e;
  kept = refl;
  plain = subst (λ f. AreAscii (holds f)) (sym e);
  first = λ t h. tt;
  near = λ points h. tt;
  apart = λ points place h. tt;
}
same-says (ByteSeq front) Arbitrary e = absurd e
same-says (ByteSeq front) (ByteSet1 _) e = absurd e
same-says (ByteSeq front) (ByteSet2 _) e = absurd e
same-says (ByteSeq front) (ByteSet3 _) e = absurd e
same-says (ByteSeq front) (ByteBracket _) e = absurd e
same-says (ByteSeq front) (ByteNear _ _) e = absurd e
same-says (ByteSeq front) (variant.BytePair _) e = absurd e
same-says (ByteSeq front) (variant.WordStart _) e = absurd e
same-says (ByteSeq front) StartAnchored e = absurd e
same-says Arbitrary other e = one-says Arbitrary other e
same-says (ByteSet1 set) other e = one-says (ByteSet1 set) other e
same-says (ByteSet2 set) other e = one-says (ByteSet2 set) other e
same-says (ByteSet3 set) other e = one-says (ByteSet3 set) other e
same-says (ByteBracket set) other e = one-says (ByteBracket set) other e
same-says (ByteNear set landmark) other e = one-says (ByteNear set landmark) other e
same-says (variant.BytePair pair) other e = one-says (variant.BytePair pair) other e
same-says (variant.WordStart word) other e = one-says (variant.WordStart word) other e
same-says StartAnchored other e = one-says StartAnchored other e

-- a copy of what serves a tree serves it
pub copy-serves : (units : Bool) (t : Tree) (start other : StartPredicate) → IsSameStart start other → Serves units t start → Serves units t other
copy-serves units t start other same serves =
    let says = same-says start other same in
    record {
      begins = record { each = λ bytes utf8 context text s some. says.on bytes _ (serves.begins.each bytes utf8 context text s some) };
      boundary = λ known bytes utf8 at begins. serves.boundary (sym says.kept ∙ known) bytes utf8 at (says.back bytes at begins);
      first = says.first t serves.first;
      plain = λ is. says.plain (serves.plain is);
      characters = λ is. record {
        each = λ context points s some. says.on _ 0 ((serves.characters is).each context points s some);
        near = λ context points s some. says.near _ ((serves.characters is).near context points s some);
        apart = λ context points s some. says.apart _ _ ((serves.characters is).apart context points s some);
      };
    }
