use Rattle.std.specs.Prelude.{slice_get, slice_index}
use Rattle.std.proofs.Common.{◌≡◌, ℕ, suc, ◌+◌, ◌<◌, List, Some, length, sym, ap, ◌∙◌, subst, arith}
use Rattle.std.proofs.lemmas.Option.{slice_get-get_or}
use Rattle.regress_engine_code.specs.Standing.{program_of}
use Rattle.regress_engine_input.specs.Views.{input_of}
use Rattle.regress_meaning.specs.Class.{is_ascii_word}
use Rattle.regress_meaning.specs.Meaning.{Forward}
use Rattle.regress_engine_search.proofs.PlaceLemmas.{can-read}
use Rattle.regress_engine_singles.proofs.ByteLemmas.{unit-next}
use Rattle.regress_engine_singles.proofs.LeadAheadLemmas.{lead_low}
use Rattle.regress_engine_leading.proofs.WordLemmas.{same-answer, word-before, word-inside, word-dead}
use Rattle.regress_engine_leading.proofs.leading.behind_words.Goals as goal

pub word_beside-was-requires : goal.word_beside-was-requires
word_beside-was-requires g c = can-read (g.Input.InputIndexer.view c.args.input.now) (g.met.Input.InputIndexer.are_of_kind c.args.input.now) c.args.start c.requires.place

pub loop-at-init : goal.loop-at-init
loop-at-init g c = record {
  reaches = record { low = omega arith; place = c.requires.place; on = λ offset finds. finds };
  before = c.word_beside-was.ensures;
}

-- where no word begins or ends the character is passed over
pub loop-at-preserved-then-word-was : goal.loop-at-preserved-then-word-was
loop-at-preserved-then-word-was g c =
    let v = g.Input.InputIndexer.view c.args.input.now in
    let all = g.met.Input.InputIndexer.are_of_kind c.args.input.now in
    let program = program_of c.args.program.now in
    let units : List ℕ = c.args.units.now in
    let at : ℕ = c.loop-at.at in
    let unit : ℕ = slice_index units at in
    let inv = c.loop-at.invariant in
    let inside : at < length units = omega arith in
    let here : slice_get v.units at ≡ Some unit = subst (λ (us : List ℕ). slice_get us at ≡ Some unit) c.requires.units (slice_get-get_or units at 0 inside) in
    let one : suc at ≡ at + 1 = omega arith in
    let next : (input_of v).next Forward at ≡ Some (unit, at + 1) = unit-next v.kind v.table v.unicode v.units unit at c.if-unit-ge128.false here ∙ ap (λ o. Some (unit, o)) one in
    let is : c.is_ascii_word-word.result ≡ is_ascii_word unit = c.is_ascii_word-word.ensures ∙ ap is_ascii_word c.from.ensures in
    let same : c.loop-at.was ≡ is_ascii_word unit = sym (same-answer _ _ c.if-word-was.true) ∙ is in
    record {
      reaches = word-inside program v all c.args.start at unit (at + 1) next inv.reaches c.requires.first c.loop-at.was inv.before same;
      before = word-before program v all c.args.start at unit (at + 1) next inv.reaches c.loop-at.was same;
    }

-- and where no match may begin with it
pub loop-at-preserved : goal.loop-at-preserved
loop-at-preserved g c =
    let v = g.Input.InputIndexer.view c.args.input.now in
    let all = g.met.Input.InputIndexer.are_of_kind c.args.input.now in
    let program = program_of c.args.program.now in
    let units : List ℕ = c.args.units.now in
    let at : ℕ = c.loop-at.at in
    let unit : ℕ = slice_index units at in
    let inv = c.loop-at.invariant in
    let inside : at < length units = omega arith in
    let here : slice_get v.units at ≡ Some unit = subst (λ (us : List ℕ). slice_get us at ≡ Some unit) c.requires.units (slice_get-get_or units at 0 inside) in
    let one : suc at ≡ at + 1 = omega arith in
    let next : (input_of v).next Forward at ≡ Some (unit, at + 1) = unit-next v.kind v.table v.unicode v.units unit at c.if-unit-ge128.false here ∙ ap (λ o. Some (unit, o)) one in
    let dead = c.is_dead_ahead.ensures v at all c.requires.suits (lead_low v c.requires.kind at unit here c.if-unit-ge128.false) c.if-not-is_dead_ahead.false in
    let is : c.is_ascii_word-word.result ≡ is_ascii_word unit = c.is_ascii_word-word.ensures ∙ ap is_ascii_word c.from.ensures in
    record {
      reaches = word-dead program v all c.args.start at unit (at + 1) next inv.reaches dead;
      before = word-before program v all c.args.start at unit (at + 1) next inv.reaches c.is_ascii_word-word.result is;
    }
