-- Rules somewhere in a tree, and one after another: what they make is alike, and stays well formed.
use Rattle.std.proofs.Common.{ℕ, ◌∷◌, All, refl, ap, ◌∙◌, arith}
use Rattle.regress_meaning.specs.TableParts.{is_code_point}
use Rattle.regress_meaning.specs.Meaning.{Direction, Outcomes, Context, captured, cleared}
use Rattle.regress_meaning.specs.Laws.{IsInside}
use Rattle.regress_meaning.proofs.StepLaws.{cleared-inside}
use Rattle.regress_front_nodes.specs.Trees.{Tree, cat_of}
use Rattle.regress_front_nodes.specs.TreeMeaning.{submatch_direction, node_outcomes}
use Rattle.regress_front_nodes.specs.Alike.{distinct, GoAlike}
use Rattle.regress_front_nodes.specs.WellFormed.{AreLawful}
use Rattle.regress_front_nodes.proofs.DistinctLemmas.{joined-alike, followed-alike, changed-alike, submatched-alike, iterated-alike}
use Rattle.regress_front_rules.specs.Rules.{Rewrites, there, in_part, in_first, in_second, in_capture, in_submatch, in_loop, in_single_loop, Reaches, stays, and_then}
use Rattle.regress_front_rules.specs.Laws.{RulesAreRight, WholesAreRight}
use Rattle.regress_front_rules.proofs.InsideLemmas.{tree-inside}
use Rattle.regress_front_rules.proofs.MeasureLemmas.{pending-loops}
use Rattle.regress_front_rules.proofs.RuleLemmas.{parts-lawful, behind-alike, root-alike}
use Rattle.regress_front_rules.proofs.KeepLemmas.{rewrites-rewritten, reaches-keeps, reaches-weight}
use Rattle.regress_front_rules.proofs.SpreadLemmas.{reaches-spread}

module _ (w : Context) (valid : All is_code_point w.text) where
  abbrev go : Direction → Tree → Outcomes
  go dir t = node_outcomes w t dir

  -- One rule somewhere makes what is alike, in the direction in which the whole is read.
  pub rewrites-alike : {dir : Direction} {t u : Tree} → Rewrites dir t u → (n : ℕ) → AreLawful n t → GoAlike w (go dir t) (go dir u)
  unfolding node_outcomes
  rewrites-alike (there h) n l = root-alike w valid h n l
  rewrites-alike {dir} (in_part {a = a} {b = b} ts vs h) n l =
      let here = rewrites-alike h n (parts-lawful n ts (a ∷ vs) l).1.0 in
      behind-alike w valid dir ts (a ∷ vs) (b ∷ vs)
      (λ s inside. followed-alike (IsInside w.text) (go dir (cat_of vs)) (go dir (cat_of vs)) (go dir a s) (go dir b s) (λ r i. refl) (tree-inside w b dir s inside) (here s inside))
  rewrites-alike {dir} (in_first {a = a} {b = b} {c = c} h) n l =
      let here = rewrites-alike h n l.0 in
      λ s inside. joined-alike (go dir a s) (go dir c s) (go dir b s) (go dir c s) (here s inside) refl
  rewrites-alike {dir} (in_second {a = a} {b = b} {c = c} h) n l =
      let here = rewrites-alike h n l.1 in
      λ s inside. joined-alike (go dir a s) (go dir b s) (go dir a s) (go dir c s) refl (here s inside)
  rewrites-alike {dir} (in_capture {k = k} {a = a} {b = b} h) n l =
      let here = rewrites-alike h n l.1 in
      λ s inside. changed-alike (captured k s.place) (go dir a s) (go dir b s) (here s inside)
  rewrites-alike {dir} (in_submatch {kind = kind} {a = a} {b = b} h) n l =
      let here = rewrites-alike h n l.1 in
      let inner = submatch_direction kind dir in
      λ s inside. ap distinct (submatched-alike w kind s (go inner a s) (go inner b s) (here s inside))
  rewrites-alike {dir} (in_loop {first = first} {last = last} {least = least} {most = most} {greedy = greedy} {a = a} {b = b} h) n l =
      let here = rewrites-alike h n l.2 in
      iterated-alike w (λ t. go dir a (cleared first last t)) (λ t. go dir b (cleared first last t)) greedy most least
      (λ s inside. here (cleared first last s) (cleared-inside w first last s inside))
      (λ s inside. tree-inside w b dir (cleared first last s) (cleared-inside w first last s inside))
  rewrites-alike {dir} (in_single_loop {least = least} {most = most} {greedy = greedy} {a = a} {b = b} h) n l =
      iterated-alike w (go dir a) (go dir b) greedy most least (rewrites-alike h n l.2) (tree-inside w b dir)

  pub reaches-alike : {dir : Direction} {t u : Tree} → Reaches dir t u → (n : ℕ) → AreLawful n t → GoAlike w (go dir t) (go dir u)
  reaches-alike stays n l s inside = refl
  reaches-alike (and_then h rest) n l s inside =
      rewrites-alike h n l s inside ∙ reaches-alike rest n ((rewrites-rewritten h).keeps.lawful n l) s inside

pub all-right : RulesAreRight
all-right dir n t u h l =
    let k = rewrites-rewritten h in (
      λ table unicode text valid. rewrites-alike (record { text = text; table = table; unicode = unicode }) valid h n l,
      k.keeps.lawful n l,
      k.lighter n l,
    )

pub wholes-right : WholesAreRight
wholes-right n t u h f =
    let k = reaches-keeps h in
    let one = k.goal_last f.one_goal f.ended in
    record {
      alike = λ table unicode text valid. reaches-alike (record { text = text; table = table; unicode = unicode }) valid h n f.lawful;
      well_formed = record {
        one_goal = one.0;
        ended = one.1;
        numbered = rw k.ids f.numbered;
        lawful = k.lawful n f.lawful;
      };
      named = k.named;
      few_loops = k.few_loops;
      few_nodes = omega (arith, k.no_larger n f.lawful, pending-loops t);
      few_spread = reaches-spread h n f.lawful;
      no_heavier = reaches-weight h n f.lawful;
    }
