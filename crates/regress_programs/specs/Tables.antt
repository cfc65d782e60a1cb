-- The tables by which programs of a pattern are linear.
use Rattle.std.specs.Arc.{arc_value}
use Rattle.std.specs.Prelude.{Option, option_map}
use Rattle.regress_engine_linear.specs.declared.testing.LinearTable.{LinearTable}
use Rattle.regress_programs.specs.declared.compiled.Compiled.{Compiled}

-- that of the program of bytes, if there is one
abbrev pub byte_table_of : Compiled → Option LinearTable
byte_table_of c = option_map arc_value c.byte_table

-- that of the program of units
abbrev pub unit_table_of : Compiled → Option LinearTable
unit_table_of c = option_map arc_value c.unit_table
