use Rattle.std.proofs.Common.{subst}
use Rattle.std.proofs.lemmas.List.{map-id}
use Rattle.regress_front_bytes.specs.Bitmaps.{byte_bitmap_contains}
use Rattle.regress_engine_scanning.specs.Units.{IsNextUnit}
use Rattle.regress_engine_scanning.proofs.byte_set.find_byte_of.Goals as goal

pub returns : goal.returns
returns c =
    subst (λ units. IsNextUnit (byte_bitmap_contains c.args.set.now) units c.args.from c.find.result) (map-id c.args.units.now) c.find.ensures.least
