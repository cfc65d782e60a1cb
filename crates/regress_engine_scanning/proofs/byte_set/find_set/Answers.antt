use Rattle.std.proofs.Common.{subst}
use Rattle.std.proofs.lemmas.List.{map-id}
use Rattle.regress_front_bytes.specs.Bitmaps.{byte_bitmap_contains}
use Rattle.regress_engine_scanning.specs.Units.{IsNextUnit}
use Rattle.regress_engine_scanning.proofs.byte_set.find_set.Goals as goal

pub returns-clause-least : goal.returns-clause-least
returns-clause-least c =
    subst (λ bytes. IsNextUnit (byte_bitmap_contains c.args.set.now) bytes 0 c.find.result) (map-id c.args.bytes.now) c.find.ensures.least
