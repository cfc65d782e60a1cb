use Rattle.regress_front_bytes.specs.ByteSets.{has_bit}
use Rattle.regress_engine_scanning.proofs.TableLemmas.{places-looked, tables-met, met, lanes-marked}
use Rattle.regress_engine_scanning.proofs.AsciiTables.{PLACES, row, place, row-looked, place-looked, members-meet, rows-are, places-are}
use Rattle.regress_engine_scanning.proofs.ascii_run.marks_of.Goals as goal

pub swizzle-row : goal.swizzle-row
swizzle-row c =
    let long = c.fits-bytes.0 in
    places-looked row row-looked c.args.bytes _ (rows-are c.args.bytes long) long c.fits-bytes.1

pub swizzle-place : goal.swizzle-place
swizzle-place c =
    let long = c.fits-bytes.0 in
    places-looked place place-looked c.args.bytes _ (places-are c.args.bytes long) long c.fits-bytes.1

pub returns : goal.returns
returns c =
    let v = c.args.bytes in
    let long = c.fits-bytes.0 in
    let rows = c.args.rows in
    lanes-marked (met rows PLACES row place) (has_bit 8 rows) v _ (tables-met rows PLACES row place v _ _ (rows-are v long) (places-are v long) long) long c.fits-bytes.1 (members-meet rows c.fits-rows.0)
