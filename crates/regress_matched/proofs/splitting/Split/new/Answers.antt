use Rattle.std.proofs.lemmas.Str.{IsCharBoundary-start}
use Rattle.regress_matched.proofs.RisingLemmas.{behind-front}
use Rattle.regress_matched.proofs.splitting.Split.new.Goals as goal

pub invariant_of-result : goal.invariant_of-result
invariant_of-result g c =
    record { over = c.requires.over; cut = IsCharBoundary-start c.args.source.now c.utf8.source; order = behind-front (g.M.TextMatches.coming c.args.matches) c.requires.rise }
