use Rattle.regress_engine_scanning.proofs.AsciiLemmas.{ascii-known}
use Rattle.regress_engine_scanning.proofs.bytes.are_ascii.Goals as goal

pub returns : goal.returns
returns c = ascii-known c.args.bytes.now c.is_ascii.result c.is_ascii.ensures.cases
