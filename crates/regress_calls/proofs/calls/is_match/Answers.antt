use Rattle.std.proofs.Common.{length}
use Rattle.regress_meaning.specs.Matches.{match_list}
use Rattle.regress_meaning.specs.Offsets.{told}
use Rattle.regress.specs.Standing.{names_of_regex}
use Rattle.regress_calls.specs.Texts.{reading_of_text}
use Rattle.regress_calls.proofs.CallLemmas.{counts-some}
use Rattle.regress_calls.proofs.calls.is_match.Goals as goal

pub returns-clause-found : goal.returns-clause-found
returns-clause-found c = λ r bound holds t o p stands place begins.
    counts-some (length (names_of_regex r)) (told (reading_of_text c.args.text)) (match_list t o p (reading_of_text c.args.text).points place) _ c.in_ok-count.count _
    (c.in_ok-count.ensures.found r bound holds t o p stands place begins)
