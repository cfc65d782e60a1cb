use Rattle.regress_front_bytes.specs.Bitmaps.{ascii_bitmap_contains}
use Rattle.regress_engine_scanning.proofs.AsciiRuns.{below-ascii}
use Rattle.regress_engine_scanning.proofs.ascii_run.run_end_among.Goals as goal

pub end_of-requires-clause-fits : goal.end_of-requires-clause-fits
end_of-requires-clause-fits c = below-ascii (ascii_bitmap_contains c.args.set.now) c.ascii_bitmap_holds_ascii.ensures
