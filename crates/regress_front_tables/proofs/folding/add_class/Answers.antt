use Rattle.std.proofs.Common.{◌≡◌, ◌≤◌, sym, ◌∙◌, take, arith}
use Rattle.std.proofs.lemmas.List.{take_all}
use Rattle.std.proofs.lemmas.Bool.{or_left}
use Rattle.regress_meaning.specs.Table.{last_code_point}
use Rattle.regress_front_sets.specs.Intervals.{ends_of}
use Rattle.regress_front_sets.specs.Sets.{in_set}
use Rattle.regress_front_sets.proofs.IntervalLemmas.{in_intervals-bounded}
use Rattle.regress_front_tables.specs.MapViews.{pairs_of}
use Rattle.regress_front_tables.proofs.FoldingLemmas.{Lists-told, Lists-bounded, Unites-class, Unites-no_class, member-added, member-there}
use Rattle.regress_front_tables.proofs.folding.add_class.Goals.{then-not-contains+in_ok-try_add_one, else-not-contains}
use Rattle.regress_front_tables.proofs.folding.add_class.Goals as goal

pub try_add_one-requires : goal.try_add_one-requires
try_add_one-requires c =
    let pairs = pairs_of c.args.map.now in
    let told = Lists-told pairs c.args.c c.in-Some.members.now (rw (c.in-Some.is, c.image.ensures) at c.class.ensures) in
    Lists-bounded _ c.in-Some.members.now told c.loop-member.member-index c.loop-member-test.true

pub loop-member-preserved : goal.loop-member-preserved
loop-member-preserved c =
    let s = in_set c.args.set.now in
    let members = c.in-Some.members.now in
    let k = c.loop-member.member-index in
    elim c.if-not-contains.branch [
      | then-not-contains+in_ok-try_add_one w ↦
          rw w.added-is (member-added s (in_set c.loop-member.added) (in_set c.args.added.now) members k c.loop-member-test.true c.loop-member.invariant _ w.in_ok-try_add_one.ensures.members)
      | else-not-contains w ↦
          rw w.added-is (member-there s (in_set c.loop-member.added) (in_set c.args.added.now) members k c.loop-member-test.true c.loop-member.invariant
          (sym c.contains.ensures ∙ w.if-not-contains.false))
    ]

pub returns-after-loop-member : goal.returns-after-loop-member
returns-after-loop-member c =
    let map = c.args.map.now in
    let pairs = pairs_of map in
    let set = c.args.set.now in
    let bound : c.args.c ≤ last_code_point = omega (arith, in_intervals-bounded (ends_of set.intervals.items) c.args.c set.canonical c.requires) in
    let members = c.in-Some.members.now in
    let told = Lists-told pairs c.args.c members (rw (c.in-Some.is, c.image.ensures) at c.class.ensures) in
    let all : take c.loop-member.member-index members ≡ members = take_all c.loop-member.member-index members c.loop-member-test.false in
    Unites-class pairs map.lawful c.args.c members _ _ bound told (rw all at c.loop-member.invariant)

pub returns-in_default : goal.returns-in_default
returns-in_default c = Unites-no_class (pairs_of c.args.map.now) c.args.c _ (or_left _ _ c.requires) (rw (c.in_default.is, c.image.ensures) at c.class.ensures)
