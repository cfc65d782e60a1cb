-- What tables know: the parts that they hold, and the table that they stand for.
use Rattle.std.specs.Arc.{arc_value}
use Rattle.regress_meaning.specs.Table.{Table}
use Rattle.regress_meaning.specs.TableParts.{TableParts, table_of}
use Rattle.regress_front_tables.specs.declared.tables.Known.{Known}
use Rattle.regress_front_tables.specs.declared.tables.Tables.{Tables}
use Rattle.regress_front_tables.specs.Listed.{parts_known}

-- what is kept once for all that share tables
abbrev pub known_by : Tables → Known
known_by t = arc_value t.known

-- what it tells of code points
abbrev pub table_known : Known → Table
table_known k = table_of (parts_known k)

-- the parts of tables, as plain lists
abbrev pub parts : Tables → TableParts
parts t = parts_known (known_by t)

-- what tables tell of code points
abbrev pub table : Tables → Table
table t = table_known (known_by t)
