-- Rounds of all passes.
use Rattle.std.proofs.Common.{◌≡◌, Bool, true, false, ◌||◌, ◌∷◌, Result, Ok, Err, subst, refl, sym}
use Rattle.std.proofs.lemmas.Bool.{false≢true}
use Rattle.std.proofs.lemmas.List.Elements.{All-weaker}
use Rattle.regress_meaning.specs.Meaning.{Forward}
use Rattle.regress_front_core.specs.declared.error.Error.{Error}
use Rattle.regress_front_nodes.specs.Trees.{Tree}
use Rattle.regress_front_rules.specs.NormalForm.{nodes_below, Nowhere, is_short_cat, has_loose_part, has_split_literal, is_loose_char, is_loop_of_one, is_empty_choice, is_unrollable, is_idle_loop, is_lost_cat, IsNormal}
use Rattle.regress_front_rules.specs.Rules.{Reaches, stays}
use Rattle.regress_front_opt.specs.Passes.{Advances, IsVisited, IsRound}
use Rattle.regress_front_opt.proofs.PassLemmas.{advances-reaches}

pub round-changed : (t u : Tree) (changed : Bool) → changed ≡ true → IsRound t u (Ok changed) → Advances Forward t u
round-changed t u true e h = h
round-changed t u false e h = absurd (false≢true e)

pub round-reaches : (t u : Tree) (changed : Bool) → IsRound t u (Ok changed) → Reaches Forward t u
round-reaches t u true h = advances-reaches h
round-reaches t u false h = subst (Reaches Forward t) (sym h.0) stays

-- neither of two tests passes anywhere
neither-first : (a b : Bool) → (a || b) ≡ false → a ≡ false
neither-first false b e = refl
neither-first true b e = absurd (false≢true (sym e))

neither-second : (a b : Bool) → (a || b) ≡ false → b ≡ false
neither-second false b e = e
neither-second true b e = absurd (false≢true (sym e))

nowhere-first : (p q : Tree → Bool) (t : Tree) → Nowhere (λ u. p u || q u) t → Nowhere p t
nowhere-first p q t h = All-weaker (λ u. (p u || q u) ≡ false) (λ u. p u ≡ false) (λ u e. neither-first (p u) (q u) e) (t ∷ nodes_below t) h

nowhere-second : (p q : Tree → Bool) (t : Tree) → Nowhere (λ u. p u || q u) t → Nowhere q t
nowhere-second p q t h = All-weaker (λ u. (p u || q u) ≡ false) (λ u. q u ≡ false) (λ u e. neither-second (p u) (q u) e) (t ∷ nodes_below t) h

-- what the passes test, as they are put together
abbrev of_loops : Tree → Bool
of_loops t = is_idle_loop t || is_unrollable t

abbrev of_lost : Tree → Bool
of_lost t = is_lost_cat t || of_loops t

abbrev of_characters : Tree → Bool
of_characters t = false || is_loose_char t

abbrev of_leaves : Tree → Bool
of_leaves t = of_characters t || of_lost t

abbrev of_parts : Tree → Bool
of_parts t = has_split_literal t || is_short_cat t

abbrev of_sequences : Tree → Bool
of_sequences t = has_loose_part t || of_parts t

abbrev of_others : Tree → Bool
of_others t = is_empty_choice t || is_loop_of_one t

abbrev of_kinds : Tree → Bool
of_kinds t = of_sequences t || of_others t

abbrev pub all_broken : Tree → Bool
all_broken t = of_leaves t || of_kinds t

nowhere-normal : (t : Tree) → Nowhere all_broken t → IsNormal t
nowhere-normal t h =
    let leaves = nowhere-first of_leaves of_kinds t h in
    let lost = nowhere-second of_characters of_lost t leaves in
    let loops = nowhere-second is_lost_cat of_loops t lost in
    let kinds = nowhere-second of_leaves of_kinds t h in
    let sequences = nowhere-first of_sequences of_others t kinds in
    let others = nowhere-second of_sequences of_others t kinds in
    let parts = nowhere-second has_loose_part of_parts t sequences in
    record {
      no_short_cat = nowhere-second has_split_literal is_short_cat t parts;
      no_loose_part = nowhere-first has_loose_part of_parts t sequences;
      no_split_literal = nowhere-first has_split_literal is_short_cat t parts;
      no_loose_char = nowhere-second (λ u. false) is_loose_char t (nowhere-first of_characters of_lost t leaves);
      no_idle_loop = nowhere-first is_idle_loop is_unrollable t loops;
      no_unrollable_loop = nowhere-second is_idle_loop is_unrollable t loops;
      no_loop_of_one = nowhere-second is_empty_choice is_loop_of_one t others;
      no_empty_choice = nowhere-first is_empty_choice is_loop_of_one t others;
      no_lost_cat = nowhere-first is_lost_cat of_loops t lost;
    }

-- a walk of all passes is a round
pub walk-round : (t u : Tree) (r : Result Bool Error) → IsVisited Forward all_broken t u r → IsRound t u r
walk-round t u (Ok true) h = h
walk-round t u (Ok false) h = (h.0, nowhere-normal t h.1)
walk-round t u (Err e) h = h
