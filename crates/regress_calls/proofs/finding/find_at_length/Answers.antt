use Rattle.regress_calls.proofs.EndLemmas.{ends-in-text, ends-in-units}
use Rattle.regress_calls.proofs.SlotLemmas.{in-slots}
use Rattle.regress_calls.proofs.finding.find_at_length.Goals as goal

pub returns-in-Utf8-clause-found : goal.returns-in-Utf8-clause-found
returns-in-Utf8-clause-found c = rw c.in-Utf8.is (λ t o p stands place begins. in-slots _ _ _ _ (c.find_into.ensures.found t o p stands place begins))

pub returns-in-Ascii-clause-found : goal.returns-in-Ascii-clause-found
returns-in-Ascii-clause-found c = rw c.in-Ascii.is (λ t o p stands place begins. in-slots _ _ _ _ (c.find_into-in-Ascii.ensures.found t o p stands place begins))

pub returns-in-Utf16-clause-found : goal.returns-in-Utf16-clause-found
returns-in-Utf16-clause-found c = rw c.in-Utf16.is (λ t o p stands place begins. in-slots _ _ _ _ (c.find_into_utf16.ensures.found t o p stands place begins))

pub returns-in-Ucs2-clause-found : goal.returns-in-Ucs2-clause-found
returns-in-Ucs2-clause-found c = rw c.in-Ucs2.is (λ t o p stands place begins. in-slots _ _ _ _ (c.find_into_ucs2.ensures.found t o p stands place begins))

pub returns-in-Utf8-clause-ends : goal.returns-in-Utf8-clause-ends
returns-in-Utf8-clause-ends c = rw c.in-Utf8.is (ends-in-text _ _ c.find_into.ensures.starts)

pub returns-in-Ascii-clause-ends : goal.returns-in-Ascii-clause-ends
returns-in-Ascii-clause-ends c = rw c.in-Ascii.is (ends-in-text _ _ c.find_into-in-Ascii.ensures.starts)

pub returns-in-Utf16-clause-ends : goal.returns-in-Utf16-clause-ends
returns-in-Utf16-clause-ends c = rw c.in-Utf16.is (ends-in-units _ _ _ _ c.find_into_utf16.ensures.inside)

pub returns-in-Ucs2-clause-ends : goal.returns-in-Ucs2-clause-ends
returns-in-Ucs2-clause-ends c = rw c.in-Ucs2.is (ends-in-units _ _ _ _ c.find_into_ucs2.ensures.inside)
