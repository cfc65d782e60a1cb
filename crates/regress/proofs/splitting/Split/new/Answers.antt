use Rattle.std.proofs.lemmas.Str.{IsCharBoundary-start}
use Rattle.regress.specs.Coming.{coming}
use Rattle.regress.proofs.RisingLemmas.{behind-front}
use Rattle.regress.proofs.splitting.Split.new.Goals as goal

pub invariant_of-result : goal.invariant_of-result
invariant_of-result c =
    let made = c.in_ok-matches.ensures in
    record { over = made.over; cut = IsCharBoundary-start c.args.source.now c.utf8.source; order = behind-front (coming c.in_ok-matches.matches) made.rise }
