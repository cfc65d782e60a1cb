-- A tree that takes one character steps over one.
use Rattle.std.proofs.Common.{◌≡◌, ℕ, Bool, true, All, refl, ◌∙◌}
use Rattle.std.specs.List.{list_all}
use Rattle.regress_meaning.specs.TableParts.{is_code_point}
use Rattle.regress_meaning.specs.Meaning.{State, Direction, Context, step}
use Rattle.regress_front_nodes.specs.Trees.{Tree, char, byte_set, char_set, any, any_in_line, bracket}
use Rattle.regress_front_nodes.specs.TreeMeaning.{one, node_outcomes}
use Rattle.regress_front_nodes.specs.Characters.{is_character, taken, Takes}
use Rattle.regress_front_nodes.proofs.StepLemmas.{list_all-agree, step-agree}

module _ (w : Context) where
  character-steps : (t : Tree) → is_character t ≡ true → (dir : Direction) (s : State) → node_outcomes w t dir s ≡ one w dir (taken t) s
  unfolding node_outcomes
  character-steps (char c) e dir s = refl
  character-steps (byte_set bs) e dir s = refl
  character-steps (char_set cs) e dir s = refl
  character-steps any e dir s = refl
  character-steps any_in_line e dir s = refl
  character-steps (bracket inverted intervals) e dir s = refl
  character-steps _ e dir s = absurd (cc)

  pub takes-steps : All is_code_point w.text → (t : Tree) (test : ℕ → Bool) → Takes t test → (dir : Direction) (s : State) → node_outcomes w t dir s ≡ step w dir 1 (list_all test) s
  takes-steps valid t test h dir s = character-steps t h.alone dir s ∙ step-agree w valid dir 1 (list_all (taken t)) (list_all test) (list_all-agree (taken t) test h.members) s
