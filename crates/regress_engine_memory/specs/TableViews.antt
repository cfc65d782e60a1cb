-- What a table of the code is to definitions.
use Rattle.std.specs.Prelude.{ℕ, List, map}
use Rattle.regress_engine_memory.specs.Deciding.{Table}
use Rattle.regress_engine_memory.specs.declared.flow.Bounds.{Bounds}
use Rattle.regress_engine_memory.specs.declared.flow.FlowTable.{FlowTable}

-- how many iterations there are at least and at most
abbrev pub bounds_are : Bounds → ℕ × ℕ
bounds_are b = (b.least, b.most)

-- a table
abbrev pub table_of : FlowTable → Table
table_of t = record {
  calm = t.calm.items;
  scopes = t.scopes.items;
  loops = map (λ ids. ids.items) t.loops.items;
  bounds = map bounds_are t.bounds.items;
}

-- how many units are needed from each address on
abbrev pub needs_of : FlowTable → List ℕ
needs_of t = t.needs.units.items
