use Rattle.regress_engine_input.specs.Views.{utf8, utf16, ucs2}
use Rattle.regress_programs.specs.declared.slots.Anchored.TheVariants.{Yes}
use Rattle.regress_calls.proofs.SlotLemmas.{in-slots}
use Rattle.regress_calls.proofs.StoppingLemmas.{all-in-bytes, all-in-units}
use Rattle.regress_calls.proofs.finding.match_within.Goals as goal

pub returns-in-Utf8-clause-found : goal.returns-in-Utf8-clause-found
returns-in-Utf8-clause-found c = rw c.in-Utf8.is (λ t o p stands place begins. in-slots _ _ _ _ (c.match_into.ensures.found t o p (c.within-bounded.ensures.stands t o p stands) place begins))

pub returns-in-Ascii-clause-found : goal.returns-in-Ascii-clause-found
returns-in-Ascii-clause-found c = rw c.in-Ascii.is (λ t o p stands place begins. in-slots _ _ _ _ (c.match_into-in-Ascii.ensures.found t o p (c.within-bounded.ensures.stands t o p stands) place begins))

pub returns-in-Utf16-clause-found : goal.returns-in-Utf16-clause-found
returns-in-Utf16-clause-found c = rw c.in-Utf16.is (λ t o p stands place begins. in-slots _ _ _ _ (c.match_into_utf16.ensures.found t o p (c.within-bounded.ensures.stands_in_units t o p stands) place begins))

pub returns-in-Ucs2-clause-found : goal.returns-in-Ucs2-clause-found
returns-in-Ucs2-clause-found c = rw c.in-Ucs2.is (λ t o p stands place begins. in-slots _ _ _ _ (c.match_into_ucs2.ensures.found t o p (c.within-bounded.ensures.stands_in_units t o p stands) place begins))

pub returns-in-Utf8-clause-stopped : goal.returns-in-Utf8-clause-stopped
returns-in-Utf8-clause-stopped c = rw c.in-Utf8.is (λ early.
    all-in-bytes c.args.regex.now c.within-bounded.result c.args.steps c.within-bounded.ensures.compiled c.within-bounded.ensures.steps Yes utf8 _ _ (c.match_into.ensures.stopped early))

pub returns-in-Ascii-clause-stopped : goal.returns-in-Ascii-clause-stopped
returns-in-Ascii-clause-stopped c = rw c.in-Ascii.is (λ early.
    all-in-bytes c.args.regex.now c.within-bounded.result c.args.steps c.within-bounded.ensures.compiled c.within-bounded.ensures.steps Yes utf8 _ _ (c.match_into-in-Ascii.ensures.stopped early))

pub returns-in-Utf16-clause-stopped : goal.returns-in-Utf16-clause-stopped
returns-in-Utf16-clause-stopped c = rw c.in-Utf16.is (λ early.
    all-in-units c.args.regex.now c.within-bounded.result c.args.steps c.within-bounded.ensures.compiled c.within-bounded.ensures.steps Yes utf16 _ _ (c.match_into_utf16.ensures.stopped early))

pub returns-in-Ucs2-clause-stopped : goal.returns-in-Ucs2-clause-stopped
returns-in-Ucs2-clause-stopped c = rw c.in-Ucs2.is (λ early.
    all-in-units c.args.regex.now c.within-bounded.result c.args.steps c.within-bounded.ensures.compiled c.within-bounded.ensures.steps Yes ucs2 _ _ (c.match_into_ucs2.ensures.stopped early))
