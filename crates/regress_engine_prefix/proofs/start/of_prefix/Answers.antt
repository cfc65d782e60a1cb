use Rattle.std.proofs.Common.{[], ◌∷◌, length, get_or, ap, arith}
use Rattle.std.proofs.lemmas.Str.{IsCharBoundary-start}
use Rattle.regress_meaning.specs.Text.{holds}
use Rattle.regress_engine_prefix.proofs.StartLemmas.{test-boundary, front-boundary, single-begins, single-leads}
use Rattle.regress_engine_prefix.proofs.start.of_prefix.Goals as goal

pub returns-in-Start-clause-boundary : goal.returns-in-Start-clause-boundary
returns-in-Start-clause-boundary c = λ known bytes utf8 at begins. rw begins (IsCharBoundary-start bytes utf8)

pub returns-in-len1-clause-begins : goal.returns-in-len1-clause-begins
returns-in-len1-clause-begins c = λ place bytes at end zero held.
    rw c.as_slice.ensures.value
    (single-begins bytes at c.in-Bytes.bytes.items (omega (arith, c.in-len1.len_at_least, c.in-len1.len_below, ap length c.as_slice.ensures.value)) (rw c.in-Bytes.is at held))

pub returns-in-len1-clause-boundary : goal.returns-in-len1-clause-boundary
returns-in-len1-clause-boundary c = λ known bytes utf8 at begins.
    let front = c.in-Bytes.bytes.items in
    test-boundary bytes at (holds (get_or front 0 0 ∷ []))
    (single-leads front (omega (arith, c.in-len1.len_at_least, c.in-len1.len_below, ap length c.as_slice.ensures.value)) (rw c.in-Bytes.is at c.requires))
    (rw c.as_slice.ensures.value at begins)

pub returns-in_default-as_slice-clause-boundary : goal.returns-in_default-as_slice-clause-boundary
returns-in_default-as_slice-clause-boundary c = λ known bytes utf8 at begins.
    front-boundary bytes at c.in-Bytes.bytes.items (omega (arith, c.in_default-as_slice.len_at_least, c.as_slice.ensures.len, ap length c.as_slice.ensures.value))
    (rw c.in-Bytes.is at c.requires) begins

pub returns-in-First-clause-begins : goal.returns-in-First-clause-begins
returns-in-First-clause-begins c = λ place bytes at end zero held. c.of_set.ensures.begins place bytes at end zero (rw c.in-First.is at held)

pub returns-in-Pair-clause-begins : goal.returns-in-Pair-clause-begins
returns-in-Pair-clause-begins c = λ place bytes at end zero held. c.of_set-in-Pair.ensures.begins place bytes at end zero (rw c.in-Pair.is at held).0
