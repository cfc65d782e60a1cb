use Rattle.esgrep_patterns.proofs.CandidateLemmas.{found-before, hit-inside}
use Rattle.esgrep_patterns.proofs.patterns.PatternsFinder.candidate.Goals as goal

pub returns-in-Some : goal.returns-in-Some
returns-in-Some c =
    let searched = c.args.self.now.searched in
    let prefilter = c.in-Some.prefilter in
    let one = searched.told prefilter c.in-Some.is in
    let hit = rw c.as_bytes.ensures.value at c.find_from.ensures in
    record {
      inside = hit-inside prefilter.start.now one.2 c.args.text.now c.find_from.result hit;
      passed = λ template find finds start part before.
          found-before searched.regexes.now finds.sought prefilter one finds.seek c.args.text.now c.find_from.result hit part before template (find start part) (finds.finds start part);
    }
