use Rattle.std.proofs.Common.{◌≡◌, ◌+◌, ◌≤◌, [], length, map}
use Rattle.regress_engine_code.specs.Standing.{program_of}
use Rattle.regress_engine_search.specs.StateViews.{marks_of}
use Rattle.regress_engine_linear.specs.LinearViews.{flow_in, heights_in}
use Rattle.regress_engine_walks.specs.Walked.{Walks, far, walk_of}
use Rattle.regress_engine_walks.proofs.walking.follow.Given as goal

-- it is on its way, and has counted as many as it went nearer
abbrev pub invariant-way : goal.invariant-way
invariant-way g l = record {
  way : Walks (flow_in l.table) (heights_in l.table) (program_of l.answering.program.now) (g.Input.InputIndexer.view l.answering.input) l.start (walk_of l.walker).frames l.walker.forward
      l.walker.here.at l.walker.here.offset (map marks_of l.groups.items);
  size : length l.groups.items ≡ (program_of l.answering.program.now).groups;
  counted : l.steps + far (heights_in l.table) (program_of l.answering.program.now) (g.Input.InputIndexer.view l.answering.input) l.start (walk_of l.walker).frames l.walker.here.at l.walker.here.offset
      ≤ l.initial.steps + far (heights_in l.table) (program_of l.answering.program.now) (g.Input.InputIndexer.view l.answering.input) l.start [] 0 l.start;
}

abbrev pub decreases-way : goal.decreases-way
decreases-way g l = far (heights_in l.table) (program_of l.answering.program.now) (g.Input.InputIndexer.view l.answering.input) l.start (walk_of l.walker).frames l.walker.here.at l.walker.here.offset
