-- How the values of the evaluator stand to those of the definitions.
use Rattle.std.specs.Prelude.{map, option_map}
use Rattle.regress_meaning.specs.Meaning.{State, Direction, Forward, Backward, Context}
use Rattle.regress_front_tables.specs.TableViews.{table}
use Rattle.regress_evaluator.specs.declared.state.State as evaluator
use Rattle.regress_evaluator.specs.declared.steps.Direction as steps
use Rattle.regress_evaluator.specs.declared.steps.Direction.TheVariants as directions
use Rattle.regress_evaluator.specs.declared.evaluator.Evaluator.{Evaluator}
use Rattle.regress_evaluator.specs.PlaceViews.{ends}

-- the state that a value of the evaluator is
abbrev pub state_of : evaluator.State → State
state_of s = record { place = s.place; groups = map (option_map ends) s.groups.items }

-- a direction
abbrev pub direction_of : steps.Direction → Direction
direction_of directions.Forward = Forward
direction_of directions.Backward = Backward

-- the text, the table and the mode of an evaluator
abbrev pub context_of : Evaluator → Context
context_of e = record { text = e.points.now; table = table e.tables.now; unicode = e.unicode }
