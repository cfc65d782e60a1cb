use Rattle.std.proofs.Common.{◌≡◌, ◌-◌, length, None, Some, rules, sym, ◌∙◌, arith}
use Rattle.std.specs.Prelude.{slice_get}
use Rattle.std.proofs.lemmas.Bool.{lt-ltb, ltb-true}
use Rattle.std.proofs.lemmas.List.{length-map}
use Rattle.std.proofs.lemmas.Option.{slice_get-get_or}
use Rattle.regress_front_sets.specs.Intervals.{ends, ends_of}
use Rattle.regress_front_sets.proofs.IntervalLemmas.{in_intervals-place}
use Rattle.regress_front_sets.proofs.SetLemmas.{first_interval}
use Rattle.regress_front_sets.proofs.AsciiLemmas.{held-below, last-held}
use Rattle.regress_front_sets.proofs.code_point_set.CodePointSet.is_ascii.Goals as goal

pub returns-in-Some : goal.returns-in-Some
returns-in-Some c =
    let set = c.args.self.now in
    let xs = set.intervals.items in
    let i = c.in-Some.highest.now in
    let last : slice_get xs (length xs - 1) ≡ Some i = rw c.intervals.ensures at (sym c.in-Some.ensures.value) in (
      λ low d held. let top = held-below xs i set.canonical last d held in omega (arith, top, ltb-true i.last 128 low),
      λ all. lt-ltb i.last 128 (all i.last (last-held xs i set.canonical last)),
    )

pub returns-in-None : goal.returns-in-None
returns-in-None c =
    let xs = c.args.self.now.intervals.items in
    let none : slice_get xs (length xs - 1) ≡ None = rw c.intervals.ensures at (sym c.in-None.ensures.value) in (
      λ _ d held.
          let r = in_intervals-place (ends_of xs) d held in
          let here = slice_get-get_or xs (length xs - 1) first_interval (omega (arith, r.1, length-map xs ends)) in
          let clash = sym none ∙ here in
          absurd (cc),
      λ _. search rules,
    )
