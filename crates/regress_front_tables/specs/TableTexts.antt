-- What is written for an error of tables.
use Rattle.std.specs.Prelude.{ℕ, List, codes}
use Rattle.regress_front_tables.specs.declared.tables.law.TableError.{TableError}
use Rattle.regress_front_tables.specs.declared.tables.law.TableError.TheVariants as table
use Rattle.regress_front_tables.specs.declared.tables.law.TableLaw.{TableLaw}
use Rattle.regress_front_tables.specs.declared.tables.law.TableLaw.TheVariants.{Range, Order, AsciiCase, Idempotent, ClassSize, Surrogate, Canonical, Identifier}

-- what is wrong with a table's parts that break the law, behind its name
abbrev pub law_text : TableLaw → List ℕ
law_text Range = codes "Range: the table has a number past the last code point"
law_text Order = codes "Order: the table's pairs are out of order"
law_text AsciiCase = codes "AsciiCase: the table's case of ASCII is wrong"
law_text Idempotent = codes "Idempotent: the table maps a code point twice"
law_text ClassSize = codes "ClassSize: the table maps too many code points to one"
law_text Surrogate = codes "Surrogate: the table maps a code point to a surrogate"
law_text Canonical = codes "Canonical: the table's intervals are out of order, overlap or are adjacent"
law_text Identifier = codes "Identifier: the table's identifiers have a wrong code point"

-- why no tables were made
abbrev pub table_error_text : TableError → List ℕ
table_error_text (table.Broken law c) = law_text law
table_error_text table.OutOfMemory = codes "out of memory"
