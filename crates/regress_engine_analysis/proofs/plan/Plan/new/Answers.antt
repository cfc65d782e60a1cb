use Rattle.std.proofs.Common.{◌≡◌, ℕ, ◌<◌, List, [], length, refl, sym, ◌∙◌, subst, arith}
use Rattle.regress_front_bytes.specs.declared.bitmaps.ByteBitmap.{ByteBitmap}
use Rattle.regress_engine_insn.specs.Instructions.{Program}
use Rattle.regress_engine_insn.specs.ProgramViews.{program_from}
use Rattle.regress_engine_analysis.specs.declared.facts.Facts.{Facts}
use Rattle.regress_engine_analysis.specs.declared.facts.Known.TheVariants.{Possessive, Turn, Ways}
use Rattle.regress_engine_analysis.specs.declared.ways.Ways as table
use Rattle.regress_engine_analysis.specs.MayBegin.{AreFirstBytes}
use Rattle.regress_engine_analysis.specs.Planned.{IsSo, firsts, known_of}
use Rattle.regress_engine_analysis.specs.Shared.{shared}
use Rattle.regress_engine_analysis.proofs.PlanLemmas.{firsts-size, known-so}
use Rattle.regress_engine_analysis.proofs.plan.Plan.new.Goals as goal

pub loop-at-init : goal.loop-at-init
loop-at-init c = record {
  same = refl;
  known = λ program same at. subst (IsSo program (firsts (shared c.in_ok-facts.facts)) [] at) (sym (c.in_ok-facts.ensures.known at)) tt;
}

pub add_known-requires-clause-inside : goal.add_known-requires-clause-inside
add_known-requires-clause-inside c =
    let size = firsts-size (shared c.loop-at.facts) (shared c.in_ok-facts.facts) c.loop-at.invariant.same in
    let all = c.in_ok-facts.ensures.size in
    let some = c.loop-at-test.true in
    omega (arith, size, all, some)

pub loop-at-preserved : goal.loop-at-preserved
loop-at-preserved c =
    let same = c.loop-at.invariant.same in
    record {
      same = c.in_ok-add_known.ensures.first ∙ same;
      known = λ program is at.
          subst (λ (sets : List ByteBitmap). IsSo program sets [] at (known_of (shared c.add_known.new.facts) at)) same
          (c.in_ok-add_known.ensures.known program is
          (λ k. subst (λ (sets : List ByteBitmap). IsSo program sets [] k (known_of (shared c.loop-at.facts) k)) (sym same) (c.loop-at.invariant.known program is k)) at);
    }

pub add_ways-requires : goal.add_ways-requires
add_ways-requires c = firsts-size (shared c.loop-at.facts) (shared c.in_ok-facts.facts) c.loop-at.invariant.same ∙ c.in_ok-facts.ensures.size

-- what is known is so, with the tables
so-after : (program : Program) (first facts all : List Facts) (tables : List table.Ways) → firsts facts ≡ firsts first → firsts all ≡ firsts facts
    → ((at : ℕ) → IsSo program (firsts first) [] at (known_of facts at))
    → (((at : ℕ) → IsSo program (firsts facts) [] at (known_of facts at)) → (at : ℕ) → IsSo program (firsts facts) tables at (known_of all at))
    → (at : ℕ) → at < length all → IsSo program (firsts all) tables at (known_of all at)
so-after program first facts all tables same kept so more at within =
    subst (λ (sets : List ByteBitmap). IsSo program sets tables at (known_of all at)) (sym kept)
    (more (λ k. subst (λ (sets : List ByteBitmap). IsSo program sets [] k (known_of facts k)) (sym same) (so k)) at)

pub returns-clause-planned : goal.returns-clause-planned
returns-clause-planned c = λ loops groups.
    let facts = shared c.add_ways.new.facts in
    let program : Program = program_from c.args.insns.now c.args.brackets.now loops groups c.args.units in
    let kept = c.in_ok-ways.ensures.first in
    let so = so-after program (shared c.in_ok-facts.facts) (shared c.loop-at.facts) facts c.in_ok-ways.ways.items c.loop-at.invariant.same kept
    (c.loop-at.invariant.known program refl) (c.in_ok-ways.ensures.known program refl) in
    record {
      first = subst (AreFirstBytes program) (sym (kept ∙ c.loop-at.invariant.same)) (c.in_ok-facts.ensures.told loops groups c.args.units);
      possessive = λ at e. known-so program (firsts facts) c.in_ok-ways.ways.items facts so at Possessive e (λ never. absurd (cc never));
      turn = λ at t e. known-so program (firsts facts) c.in_ok-ways.ways.items facts so at (Turn t) e (λ never. absurd (cc never));
    }

pub returns-clause-tabled : goal.returns-clause-tabled
returns-clause-tabled c = λ loops groups at k e.
    let facts = shared c.add_ways.new.facts in
    let program : Program = program_from c.args.insns.now c.args.brackets.now loops groups c.args.units in
    let so = so-after program (shared c.in_ok-facts.facts) (shared c.loop-at.facts) facts c.in_ok-ways.ways.items c.loop-at.invariant.same c.in_ok-ways.ensures.first
    (c.loop-at.invariant.known program refl) (c.in_ok-ways.ensures.known program refl) in
    known-so program (firsts facts) c.in_ok-ways.ways.items facts so at (Ways k) e (λ never. absurd (cc never))
