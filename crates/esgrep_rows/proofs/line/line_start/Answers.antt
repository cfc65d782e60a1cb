use Rattle.std.proofs.Common.{take, refl}
use Rattle.std.proofs.lemmas.Str.{IsCharBoundary-start}
use Rattle.esgrep_rows.specs.Lines.{byte_of}
use Rattle.esgrep_rows.proofs.CuttingLemmas.{start-found, lines-whole}
use Rattle.esgrep_rows.proofs.line.line_start.Goals as goal

pub returns-in-Some-clause-boundary : goal.returns-in-Some-clause-boundary
returns-in-Some-clause-boundary c =
    (start-found (byte_of c.args.ending) c.byte.result c.args.text.now c.as_bytes.result.now (take c.args.at c.as_bytes.result.now) c.args.at c.in-Some.end
    c.byte.ensures.value c.byte.ensures.ascii c.as_bytes.ensures.value refl c.requires c.utf8.text (rw c.in-Some.is at c.memrchr.ensures)).1

pub returns-in-Some-clause-lines : goal.returns-in-Some-clause-lines
returns-in-Some-clause-lines c =
    (start-found (byte_of c.args.ending) c.byte.result c.args.text.now c.as_bytes.result.now (take c.args.at c.as_bytes.result.now) c.args.at c.in-Some.end
    c.byte.ensures.value c.byte.ensures.ascii c.as_bytes.ensures.value refl c.requires c.utf8.text (rw c.in-Some.is at c.memrchr.ensures)).2

pub returns-in-None-clause-boundary : goal.returns-in-None-clause-boundary
returns-in-None-clause-boundary c = IsCharBoundary-start c.args.text.now c.utf8.text

pub returns-in-None-clause-lines : goal.returns-in-None-clause-lines
returns-in-None-clause-lines c = lines-whole (byte_of c.args.ending) c.args.text.now
