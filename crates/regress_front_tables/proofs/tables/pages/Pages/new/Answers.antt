use Rattle.std.proofs.Common.{◌/◌, length, ap, arith}
use Rattle.std.proofs.lemmas.List.{get_or_past}
use Rattle.regress_front_tables.specs.Pages.{numbers_of}
use Rattle.regress_front_tables.proofs.PagesLemmas.{number_in-none}
use Rattle.regress_front_tables.proofs.tables.pages.Pages.new.Goals as goal

pub returns-clause-numbers : goal.returns-clause-numbers
returns-clause-numbers c d =
    number_in-none c.new.result.items (numbers_of c.new-2.result.items) d
    (get_or_past c.new.result.items (d / 256) 0 (omega (arith, ap length c.new.ensures.items)))
