-- What each input shows.
use Rattle.regress_front_tables.specs.TableViews.{table}
use Rattle.regress_engine_input.specs.Views.{View, utf8, ascii, utf16, ucs2}
use Rattle.regress_engine_inputs.specs.declared.utf8_input.Utf8Input.{Utf8Input}
use Rattle.regress_engine_inputs.specs.declared.ascii_input.AsciiInput.{AsciiInput}
use Rattle.regress_engine_inputs.specs.declared.utf16_input.Utf16Input.{Utf16Input}
use Rattle.regress_engine_inputs.specs.declared.ucs2_input.Ucs2Input.{Ucs2Input}

-- what an input of units shows that are each one character
abbrev pub ucs2_view : Ucs2Input → View
ucs2_view x = record { kind = ucs2; units = x.units.now; table = table x.tables.now; unicode = x.unicode }

-- what an input of units shows in which a pair is one character
abbrev pub utf16_view : Utf16Input → View
utf16_view x = record { kind = utf16; units = x.units.now; table = table x.tables.now; unicode = x.unicode }

-- what an input of ASCII shows
abbrev pub ascii_view : AsciiInput → View
ascii_view x = record { kind = ascii; units = x.text.now; table = table x.tables.now; unicode = x.unicode }

-- what an input of UTF-8 shows
abbrev pub utf8_view : Utf8Input → View
utf8_view x = record { kind = utf8; units = x.text.now; table = table x.tables.now; unicode = x.unicode }
