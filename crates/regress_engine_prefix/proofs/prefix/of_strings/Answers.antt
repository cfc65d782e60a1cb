use Rattle.std.proofs.Common.{map}
use Rattle.std.specs.Box.{boxed_slice_items}
use Rattle.regress_engine_prefix.proofs.PrefixLemmas.{Foretells-string_set}
use Rattle.regress_engine_prefix.proofs.prefix.of_strings.Goals as goal

pub returns-in-Some : goal.returns-in-Some
returns-in-Some c =
    rw c.if-icase.false (Foretells-string_set (map boxed_slice_items c.args.strings.now) c.in-Some.set c.in-Some.ensures)
