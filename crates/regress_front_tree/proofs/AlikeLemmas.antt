-- A lowered tree is alike its pattern: parts one after another, and alternatives.
use Rattle.std.proofs.Common.{◌≡◌, List, [], ◌∷◌, ◌++◌, reverse, All, refl, sym, ap, ◌∙◌}
use Rattle.std.specs.List.{flat_map}
use Rattle.std.proofs.lemmas.List.{append-nil, reverse-append}
use Rattle.std.proofs.lemmas.Grind.{flat_map-append}
use Rattle.regress_meaning.specs.TableParts.{is_code_point}
use Rattle.regress_meaning.specs.Pattern.{Pattern, Settings}
use Rattle.regress_meaning.specs.Meaning.{State, Direction, Forward, Backward, Context, outcomes}
use Rattle.regress_front_tokens.specs.Trees.{sequence_of, choice_of}
use Rattle.regress_front_nodes.specs.Trees.{Tree, cat_of}
use Rattle.regress_front_nodes.specs.TreeMeaning.{node_outcomes}
use Rattle.regress_meaning.specs.Laws.{IsInside}
use Rattle.regress_front_nodes.specs.Alike.{AreAlike, GoAlike, StayInside}
use Rattle.regress_front_tree.specs.Lowering.{HasArms, one_arm, two_halves}
use Rattle.regress_front_nodes.proofs.StepLemmas.{flat_map-self}
use Rattle.regress_front_nodes.proofs.SequenceLemmas.{cat_of-append}
use Rattle.regress_front_nodes.proofs.DistinctLemmas.{joined-alike, followed-alike}

module _ (w : Context) (valid : All is_code_point w.text) where
  -- trees that are alike patterns, one by one; the patterns' outcomes stay in the text
  abbrev pub AllAlike : Direction → Settings → List Pattern → List Tree → Type 0
  AllAlike dir e [] [] = Unit {0}
  AllAlike dir e [] (t ∷ ts) = ⊥
  AllAlike dir e (p ∷ ps) [] = ⊥
  AllAlike dir e (p ∷ ps) (t ∷ ts) = GoAlike w (node_outcomes w t dir) (outcomes w p dir e) × AllAlike dir e ps ts

  -- patterns' outcomes stay in the text
  abbrev pub Stays : Type 0
  Stays = (p : Pattern) (dir : Direction) (e : Settings) → StayInside w (outcomes w p dir e)

  -- one term before others

  pub term-ahead : Stays → (e : Settings) (p : Pattern) (ps : List Pattern) (t : Tree) (ts : List Tree) → GoAlike w (node_outcomes w t Forward) (outcomes w p Forward e)
      → GoAlike w (node_outcomes w (cat_of ts) Forward) (outcomes w (sequence_of ps) Forward e) → GoAlike w (node_outcomes w (cat_of (t ∷ ts)) Forward) (outcomes w (sequence_of (p ∷ ps)) Forward e)
  unfolding node_outcomes outcomes
  term-ahead stays e p ps t ts first rest s inside =
      followed-alike (IsInside w.text) (node_outcomes w (cat_of ts) Forward) (outcomes w (sequence_of ps) Forward e) (node_outcomes w t Forward s) (outcomes w p Forward e s)
      rest (stays p Forward e s inside) (first s inside)

  pub term-behind : Stays → (e : Settings) (p : Pattern) (ps : List Pattern) (t : Tree) (ts : List Tree) → GoAlike w (node_outcomes w t Backward) (outcomes w p Backward e)
      → GoAlike w (node_outcomes w (cat_of (reverse ts)) Backward) (outcomes w (sequence_of ps) Backward e)
      → GoAlike w (node_outcomes w (cat_of (reverse (t ∷ ts))) Backward) (outcomes w (sequence_of (p ∷ ps)) Backward e)
  unfolding node_outcomes outcomes
  term-behind stays e p ps t ts first rest s inside =
      let turned : node_outcomes w (cat_of (reverse (t ∷ ts))) Backward s ≡ flat_map (node_outcomes w t Backward) (node_outcomes w (cat_of (reverse ts)) Backward s) =
      ap (λ us. node_outcomes w (cat_of us) Backward s) (reverse-append (t ∷ []) ts)
      ∙ cat_of-append w (reverse ts) (t ∷ []) Backward s
      ∙ (λ i. flat_map (λ r. flat_map-self (node_outcomes w t Backward r) i) (node_outcomes w (cat_of (reverse ts)) Backward s)) in
      rw turned (followed-alike (IsInside w.text) (node_outcomes w t Backward) (outcomes w p Backward e) (node_outcomes w (cat_of (reverse ts)) Backward s) (outcomes w (sequence_of ps) Backward e s)
      first (stays (sequence_of ps) Backward e s inside) (rest s inside))

  -- alternatives

  pub arms-outcomes : {ts : List Tree} {t : Tree} → HasArms ts t → (dir : Direction) (s : State) → node_outcomes w t dir s ≡ flat_map (λ u. node_outcomes w u dir s) ts
  unfolding node_outcomes
  arms-outcomes {t = t} one_arm dir s = sym (append-nil (node_outcomes w t dir s))
  arms-outcomes (two_halves {ts} {us} h k) dir s =
      (λ i. arms-outcomes h dir s i ++ arms-outcomes k dir s i) ∙ sym (flat_map-append (λ u. node_outcomes w u dir s) ts us)

  HasArms-some : {ts : List Tree} {t : Tree} → HasArms ts t → (u : Tree) × (us : List Tree) × (ts ≡ u ∷ us)
  HasArms-some (one_arm {t}) = (t, [], refl)
  HasArms-some (two_halves {ts} {us} h k) = let (u, rest, e) = HasArms-some h in (u, rest ++ us, ap (λ v. v ++ us) e)

  choices-alike : (dir : Direction) (e : Settings) (p : Pattern) (ps : List Pattern) (t : Tree) (ts : List Tree) → AllAlike dir e (p ∷ ps) (t ∷ ts) → (s : State) → IsInside w.text s
      → AreAlike (flat_map (λ u. node_outcomes w u dir s) (t ∷ ts)) (outcomes w (choice_of (p ∷ ps)) dir e s)
  unfolding outcomes
  choices-alike dir e p [] t [] h s inside = rw (append-nil (node_outcomes w t dir s)) (h.0 s inside)
  choices-alike dir e p [] t (u ∷ ts) h s inside = absurd h.1
  choices-alike dir e p (q ∷ ps) t [] h s inside = absurd h.1
  choices-alike dir e p (q ∷ ps) t (u ∷ ts) h s inside =
      joined-alike (node_outcomes w t dir s) (flat_map (λ v. node_outcomes w v dir s) (u ∷ ts)) (outcomes w p dir e s) (outcomes w (choice_of (q ∷ ps)) dir e s) (h.0 s inside) (choices-alike dir e q ps u ts h.1 s inside)

  pub arms-alike : (dir : Direction) (e : Settings) (ps : List Pattern) (ts : List Tree) (t : Tree) → AllAlike dir e ps ts → HasArms ts t → GoAlike w (node_outcomes w t dir) (outcomes w (choice_of ps) dir e)
  arms-alike dir e [] [] t h k s inside = let (u, us, e) = HasArms-some k in absurd (cc)
  arms-alike dir e [] (u ∷ ts) t h k s inside = absurd h
  arms-alike dir e (p ∷ ps) [] t h k s inside = absurd h
  arms-alike dir e (p ∷ ps) (u ∷ ts) t h k s inside = rw (arms-outcomes k dir s) (choices-alike dir e p ps u ts h s inside)
