use Rattle.regress_calls.proofs.SlotLemmas.{in-slots}
use Rattle.regress_calls.proofs.finding.match_at_length.Goals as goal

pub returns-in-Utf8-clause-found : goal.returns-in-Utf8-clause-found
returns-in-Utf8-clause-found c = rw c.in-Utf8.is (λ t o p stands place begins. in-slots _ _ _ _ (c.match_into.ensures.found t o p stands place begins))

pub returns-in-Ascii-clause-found : goal.returns-in-Ascii-clause-found
returns-in-Ascii-clause-found c = rw c.in-Ascii.is (λ t o p stands place begins. in-slots _ _ _ _ (c.match_into-in-Ascii.ensures.found t o p stands place begins))

pub returns-in-Utf16-clause-found : goal.returns-in-Utf16-clause-found
returns-in-Utf16-clause-found c = rw c.in-Utf16.is (λ t o p stands place begins. in-slots _ _ _ _ (c.match_into_utf16.ensures.found t o p stands place begins))

pub returns-in-Ucs2-clause-found : goal.returns-in-Ucs2-clause-found
returns-in-Ucs2-clause-found c = rw c.in-Ucs2.is (λ t o p stands place begins. in-slots _ _ _ _ (c.match_into_ucs2.ensures.found t o p stands place begins))
