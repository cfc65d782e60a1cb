-- What a table of a linear program is to definitions.
use Rattle.regress_engine_memory.specs.Deciding.{flow_of}
use Rattle.regress_engine_memory.specs.Flow.{Flow}
use Rattle.regress_engine_memory.specs.TableViews.{table_of}
use Rattle.regress_engine_linear.specs.RankTables.{Heights, heights_of}
use Rattle.regress_engine_linear.specs.declared.testing.LinearTable.{LinearTable}

-- what flows through the program
abbrev pub flow_in : LinearTable → Flow
flow_in t = flow_of (table_of t.flow)

-- its ranking
abbrev pub heights_in : LinearTable → Heights
heights_in t = heights_of t.ranks
