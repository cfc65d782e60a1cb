use Rattle.esgrep_rows.proofs.LineLemmas.{found-first, missed-first, found-boundary}
use Rattle.esgrep_rows.specs.Lines.{byte_of}
use Rattle.esgrep_rows.proofs.line.first_line.Goals as goal

pub split_at-requires : goal.split_at-requires
split_at-requires c =
    found-boundary c.byte.result c.args.text.now c.as_bytes.result.now c.in-Some.at c.byte.ensures.ascii c.as_bytes.ensures.value c.utf8.text
    (rw c.in-Some.is at c.memchr.ensures)

pub returns-in-Some-clause-first : goal.returns-in-Some-clause-first
returns-in-Some-clause-first c =
    found-first (byte_of c.args.ending) c.byte.result c.args.text.now c.as_bytes.result.now c.split_at.result.0.now c.split_at.result.1.now c.in-Some.at
    c.byte.ensures.value c.as_bytes.ensures.value (rw c.in-Some.is at c.memchr.ensures) c.split_at.ensures.front c.split_at.ensures.back

pub returns-in-None-clause-first : goal.returns-in-None-clause-first
returns-in-None-clause-first c =
    missed-first (byte_of c.args.ending) c.byte.result c.args.text.now c.as_bytes.result.now
    c.byte.ensures.value c.as_bytes.ensures.value c.requires (rw c.in-None.is at c.memchr.ensures)
