-- That a program is made for a text has one proof at most, so a struct may keep it in a ghost field.
use Rattle.std.specs.Coded.{codes}
use denote.Struct.Props as logic
use Rattle.regress_meaning.specs.Table.{Table}
use Rattle.regress_engine_input.specs.Views.{View}
use Rattle.regress_engine_code.specs.declared.compiled.CompiledRegex.{CompiledRegex}
use Rattle.regress_engine_search.specs.Search.{IsMadeOf}

table-set : IsSet Table
table-set = Prim.hlevel (codes, logic.props)

pub IsMadeOf-prop : (compiled : CompiledRegex) (v : View) → IsProp (IsMadeOf compiled v)
IsMadeOf-prop compiled v = Prim.hlevel (table-set, codes, logic.props)
