use Rattle.std.proofs.Common.{bit_or}
use Rattle.std.proofs.lemmas.Simd.{zip2_of_maps}
use Rattle.regress_engine_scanning.specs.Halves.{halved}
use Rattle.regress_engine_scanning.proofs.TableLemmas.{places-looked, tables-met, met, lanes-marked}
use Rattle.regress_engine_scanning.proofs.HalfTables.{LOWER, UPPER, lane, row, place, row-looked, place-looked, halves-meet, rows-are, places-are}
use Rattle.regress_engine_scanning.proofs.byte_set.marks_of.Goals as goal

pub swizzle : goal.swizzle
swizzle c = places-looked row row-looked c.args.bytes _ (rows-are c.args.bytes c.fits-bytes.0) c.fits-bytes.0 c.fits-bytes.1

pub swizzle-2 : goal.swizzle-2
swizzle-2 c = places-looked place place-looked c.args.bytes _ (places-are c.args.bytes c.fits-bytes.0) c.fits-bytes.0 c.fits-bytes.1

pub swizzle-3 : goal.swizzle-3
swizzle-3 c = places-looked row row-looked c.args.bytes _ (rows-are c.args.bytes c.fits-bytes.0) c.fits-bytes.0 c.fits-bytes.1

pub swizzle-4 : goal.swizzle-4
swizzle-4 c = places-looked place place-looked c.args.bytes _ (places-are c.args.bytes c.fits-bytes.0) c.fits-bytes.0 c.fits-bytes.1

pub returns : goal.returns
returns c =
    let v = c.args.bytes in
    let long = c.fits-bytes.0 in
    let lower = c.args.lower in
    let upper = c.args.upper in
    let low = tables-met lower LOWER row place v _ _ (rows-are v long) (places-are v long) long in
    let high = tables-met upper UPPER row place v _ _ (rows-are v long) (places-are v long) long in
    lanes-marked (lane lower upper) (halved lower upper) v _ (zip2_of_maps bit_or (met lower LOWER row place) (met upper UPPER row place) v low high) long c.fits-bytes.1
    (halves-meet lower upper)
