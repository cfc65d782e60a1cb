-- What characters one after another match: the text that they are.
use Rattle.std.proofs.Common.{◌≡◌, ℕ, ◌+◌, ◌-◌, List, [], ◌∷◌, ◌++◌, length, map, reverse, All, refl, sym, ap, ◌∙◌, arith}
use Rattle.std.specs.List.{flat_map}
use Rattle.std.proofs.lemmas.List.{append-nil, reverse-append}
use Rattle.regress_meaning.specs.TableParts.{is_code_point}
use Rattle.regress_meaning.specs.Pattern.{Pattern, Settings, character}
use Rattle.regress_meaning.specs.Laws.{IsInside}
use Rattle.regress_meaning.specs.Meaning.{State, Forward, Backward, Context, step, same, same_all, outcomes}
use Rattle.regress_front_tokens.specs.Trees.{sequence_of}
use Rattle.regress_front_nodes.specs.Trees.{Tree, cat_of}
use Rattle.regress_front_nodes.specs.TreeMeaning.{node_outcomes}
use Rattle.regress_front_nodes.specs.Alike.{distinct, GoAlike}
use Rattle.regress_front_nodes.proofs.StepLemmas.{flat_map-again, flat_map-self}
use Rattle.regress_front_nodes.proofs.SequenceLemmas.{cat_of-append}
use Rattle.regress_front_nodes.proofs.PieceOutcomes.{flat_map-agree, step-in, step-first, back-in, step-last, pieces-outcomes, back-outcomes}
use Rattle.regress_front_nodes.proofs.DistinctLemmas.{followed-alike}
use Rattle.regress_front_tree.specs.Lowering.{ArePieces}
use Rattle.regress_front_tree.proofs.AlikeLemmas.{Stays}

module _ (w : Context) (valid : All is_code_point w.text) (stays : Stays w valid) (e : Settings) where
  -- characters are the step over their text

  characters-ahead : (cs : List ℕ) (s : State) → IsInside w.text s
      → outcomes w (sequence_of (map character cs)) Forward e s ≡ step w Forward (length cs) (same_all w.table w.unicode e.icase cs) s
  unfolding outcomes
  characters-ahead [] s inside =
      let place = inside.place in
      let kept : s.place ≡ s.place + 0 = omega arith in
      rw (step-in w 0 (same_all w.table w.unicode e.icase []) s (omega arith)) (λ i. record s { place = kept i } ∷ [])
  characters-ahead (c ∷ cs) s inside =
      flat_map-agree (IsInside w.text) (outcomes w (sequence_of (map character cs)) Forward e) (step w Forward (length cs) (same_all w.table w.unicode e.icase cs))
      (characters-ahead cs) (outcomes w (character c) Forward e s) (stays (character c) Forward e s inside)
      ∙ sym (step-first w (same w.table w.unicode e.icase c) (same_all w.table w.unicode e.icase cs) (same_all w.table w.unicode e.icase (c ∷ cs)) (λ d ds. refl) (length cs) s)

  characters-behind : (cs : List ℕ) (s : State) → IsInside w.text s
      → outcomes w (sequence_of (map character cs)) Backward e s ≡ step w Backward (length cs) (same_all w.table w.unicode e.icase cs) s
  unfolding outcomes
  characters-behind [] s inside =
      let kept : s.place ≡ s.place - 0 = omega arith in
      rw (back-in w 0 (same_all w.table w.unicode e.icase []) s (omega arith)) (λ i. record s { place = kept i } ∷ [])
  characters-behind (c ∷ cs) s inside =
      ap (flat_map (outcomes w (character c) Backward e)) (characters-behind cs s inside)
      ∙ sym (step-last w (same w.table w.unicode e.icase c) (same_all w.table w.unicode e.icase cs) (same_all w.table w.unicode e.icase (c ∷ cs)) (λ d ds. refl) (length cs) s inside.place)

  -- terms before other terms

  sequence-ahead : (ps qs : List Pattern) (s : State)
      → outcomes w (sequence_of (ps ++ qs)) Forward e s ≡ flat_map (outcomes w (sequence_of qs) Forward e) (outcomes w (sequence_of ps) Forward e s)
  unfolding outcomes
  sequence-ahead [] qs s = sym (append-nil (outcomes w (sequence_of qs) Forward e s))
  sequence-ahead (p ∷ ps) qs s =
      (λ i. flat_map (λ r. sequence-ahead ps qs r i) (outcomes w p Forward e s))
      ∙ sym (flat_map-again (outcomes w (sequence_of qs) Forward e) (outcomes w (sequence_of ps) Forward e) (outcomes w p Forward e s))

  sequence-behind : (ps qs : List Pattern) (s : State)
      → outcomes w (sequence_of (ps ++ qs)) Backward e s ≡ flat_map (outcomes w (sequence_of ps) Backward e) (outcomes w (sequence_of qs) Backward e s)
  unfolding outcomes
  sequence-behind [] qs s = sym (flat_map-self (outcomes w (sequence_of qs) Backward e s))
  sequence-behind (p ∷ ps) qs s =
      ap (flat_map (outcomes w p Backward e)) (sequence-behind ps qs s)
      ∙ flat_map-again (outcomes w p Backward e) (outcomes w (sequence_of ps) Backward e) (outcomes w (sequence_of qs) Backward e s)

  module _ (cs : List ℕ) (us : List Tree) (pieces : ArePieces w.table w.unicode e.icase cs us) (ps : List Pattern) (ts : List Tree) where
    -- the pieces of a text before trees of other terms

    pub text-ahead : GoAlike w (node_outcomes w (cat_of ts) Forward) (outcomes w (sequence_of ps) Forward e)
        → GoAlike w (node_outcomes w (cat_of (us ++ ts)) Forward) (outcomes w (sequence_of (map character cs ++ ps)) Forward e)
    text-ahead rest s inside =
        let own : node_outcomes w (cat_of us) Forward s ≡ outcomes w (sequence_of (map character cs)) Forward e s =
        ap (λ vs. node_outcomes w (cat_of vs) Forward s) pieces.are ∙ pieces-outcomes w valid e.icase cs s pieces.points inside.place ∙ sym (characters-ahead cs s inside) in
        rw (cat_of-append w us ts Forward s, sequence-ahead (map character cs) ps s)
        (followed-alike (IsInside w.text) (node_outcomes w (cat_of ts) Forward) (outcomes w (sequence_of ps) Forward e)
        (node_outcomes w (cat_of us) Forward s) (outcomes w (sequence_of (map character cs)) Forward e s) rest (stays (sequence_of (map character cs)) Forward e s inside) (ap distinct own))

    pub text-behind : GoAlike w (node_outcomes w (cat_of (reverse ts)) Backward) (outcomes w (sequence_of ps) Backward e)
        → GoAlike w (node_outcomes w (cat_of (reverse (us ++ ts))) Backward) (outcomes w (sequence_of (map character cs ++ ps)) Backward e)
    text-behind rest s inside =
        rw (reverse-append us ts, cat_of-append w (reverse ts) (reverse us) Backward s, sequence-behind (map character cs) ps s)
        (followed-alike (IsInside w.text) (node_outcomes w (cat_of (reverse us)) Backward) (outcomes w (sequence_of (map character cs)) Backward e)
        (node_outcomes w (cat_of (reverse ts)) Backward s) (outcomes w (sequence_of ps) Backward e s) own (stays (sequence_of ps) Backward e s inside) (rest s inside))
      where
        own : GoAlike w (node_outcomes w (cat_of (reverse us)) Backward) (outcomes w (sequence_of (map character cs)) Backward e)
        own r within =
            ap distinct (ap (λ vs. node_outcomes w (cat_of (reverse vs)) Backward r) pieces.are ∙ back-outcomes w valid e.icase cs r pieces.points within.place ∙ sym (characters-behind cs r within))
