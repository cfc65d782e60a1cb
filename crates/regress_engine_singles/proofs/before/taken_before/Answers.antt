use Rattle.std.specs.Prelude.{slice_index}
use Rattle.std.proofs.Common.{◌≡◌, [], ◌∷◌, false, not, refl}
use Rattle.regress_meaning.specs.Meaning.{is_line_end}
use Rattle.regress_meaning.specs.Text.{holds}
use Rattle.regress_engine_singles.proofs.AsciiLemmas.{ascii-passes, other-passed, in-line, not-byte}
use Rattle.regress_engine_singles.proofs.before.taken_before.Goals as goal

pub returns-in-MatchAnyExceptLineTerminator-clause-each : goal.returns-in-MatchAnyExceptLineTerminator-clause-each
returns-in-MatchAnyExceptLineTerminator-clause-each g c = λ program groups k from less.
    let v = g.Input.InputIndexer.view c.args.input.now in
    let stops = 0x0A ∷ 0x0D ∷ c.args.byte ∷ [] in
    let here = c.ascii_end.ensures.ascii k from less in
    let other : holds stops (slice_index v.units k) ≡ false = other-passed v stops (λ d. not (holds stops d)) (λ d. refl) k here (c.ascii_end.ensures.each k from less) in
    rw c.in-MatchAnyExceptLineTerminator.is
    (ascii-passes v (λ d. not (is_line_end d)) k here (in-line (slice_index v.units k) c.args.byte here.low other))

pub returns-in-MatchAnyExceptLineTerminator-clause-other : goal.returns-in-MatchAnyExceptLineTerminator-clause-other
returns-in-MatchAnyExceptLineTerminator-clause-other g c = λ k from less.
    let v = g.Input.InputIndexer.view c.args.input.now in
    let stops = 0x0A ∷ 0x0D ∷ c.args.byte ∷ [] in
    let here = c.ascii_end.ensures.ascii k from less in
    let other : holds stops (slice_index v.units k) ≡ false = other-passed v stops (λ d. not (holds stops d)) (λ d. refl) k here (c.ascii_end.ensures.each k from less) in
    not-byte (slice_index v.units k) c.args.byte here.low other
