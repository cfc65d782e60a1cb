use Rattle.std.proofs.Common.{◌≡◌, ◌+◌, ◌-◌, ◌*◌, ◌≤◌, Some, length, map}
use Rattle.regress_meaning.specs.Pattern.{sequence, choice}
use Rattle.regress_meaning.specs.Reading.{disjunction_at, alternative_at}
use Rattle.regress_front_tokens.specs.Cursors.{unread}
use Rattle.regress_front_tokens.specs.Escapes.{mode_view}
use Rattle.regress_front_tokens.specs.Trees.{tree, trees_of}
use Rattle.regress_front_tokens.specs.Ranges.{in_turn, opens, parts_of}
use Rattle.regress_front_syntax.specs.Parsing.{place}
use Rattle.regress_front_syntax.proofs.LoopLemmas.{LoopState}
use Rattle.regress_front_syntax.proofs.parser.Parser.+parser.Given as goal

-- The measure of the calls is the room that the limit on nesting leaves, so that limit bounds how deep they go.
abbrev pub decreases-disjunction : goal.decreases-disjunction
decreases-disjunction l = 5 * (256 - l.nesting) + 4

abbrev pub decreases-alternative : goal.decreases-alternative
decreases-alternative l = 5 * (256 - l.nesting) + 3

abbrev pub decreases-term : goal.decreases-term
decreases-term l = 5 * (256 - l.nesting) + 2

abbrev pub decreases-group : goal.decreases-group
decreases-group l = 5 * (256 - l.nesting) + 1

abbrev pub decreases-contents : goal.decreases-contents
decreases-contents l = 5 * (256 - l.nesting)

-- so far these terms were read, and what is read from the beginning on is these and what is read from here on
abbrev pub invariant-alternative-loop-self : goal.invariant-alternative-loop-self
invariant-alternative-loop-self l = record {
  progress : length (unread l.self.cursor) ≤ length (unread l.fn.self.cursor);
  state : LoopState sequence (alternative_at (mode_view l.mode)) (place l.nesting l.fn.self) (place l.nesting l.self) (trees_of l.terms.items);
  ranges : in_turn (parts_of l.terms.items) l.fn.self.groups ≡ Some l.self.groups;
}

abbrev pub decreases-alternative-loop-self : goal.decreases-alternative-loop-self
decreases-alternative-loop-self l = length (unread l.self.cursor)

-- the same for the alternatives of a disjunction
abbrev pub invariant-disjunction-loop-arms : goal.invariant-disjunction-loop-arms
invariant-disjunction-loop-arms l = record {
  progress : length (unread l.self.cursor) ≤ length (unread l.fn.self.cursor);
  state : LoopState choice (disjunction_at (mode_view l.mode)) (place l.nesting l.fn.self) (place l.nesting l.self) (map tree l.arms.items);
  ranges : in_turn (map opens l.arms.items) l.fn.self.groups ≡ Some l.self.groups;
}

abbrev pub decreases-disjunction-loop-arms : goal.decreases-disjunction-loop-arms
decreases-disjunction-loop-arms l = length (unread l.self.cursor)
