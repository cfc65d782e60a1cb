use Rattle.std.proofs.Common.{◌≡◌, ◌++◌, length, map}
use Rattle.std.specs.List.{AllZip}
use Rattle.std.specs.Vec.Iter.{into_iter_items, into_iter_len}
use Rattle.regress_front_sets.specs.Intervals.{ends_of}
use Rattle.regress_front_tables.specs.Entries.{entry_of}
use Rattle.regress_unicode.specs.Keys.{shown}
use Rattle.regress_unicode.proofs.KeyLemmas.{IsRead}
use Rattle.regress_unicode.proofs.properties.set_properties.Given as goal

abbrev pub invariant-loop-key : goal.invariant-loop-key
invariant-loop-key l = record {
  order : l.yielded ++ into_iter_items l.key-iterator ≡ into_iter_items l.initial.key-iterator;
  held : AllZip IsRead (map (entry_of (λ v. ends_of v.items)) l.properties.items) (map shown l.yielded);
  count : into_iter_len l.key-iterator ≡ length (into_iter_items l.key-iterator);
}
