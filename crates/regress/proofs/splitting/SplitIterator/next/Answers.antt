use Rattle.std.proofs.Common.{◌≡◌, ◌∷◌, [], suc, take, slice_range, Some, ap, ◌∙◌}
use Rattle.regress_match.specs.Views.{item_of}
use Rattle.regress.specs.Coming.{coming}
use Rattle.regress.specs.Splitting.{parts_left}
use Rattle.regress_matched.proofs.SplittingLemmas.{part-given, part-last, parts-over, part-some}
use Rattle.regress.proofs.SplittingLemmas.{makes-progress}
use Rattle.regress.proofs.splitting.SplitIterator.next.Goals as goal

pub returns-in-Some-Ok-clause-steps : goal.returns-in-Some-Ok-clause-steps
returns-in-Some-Ok-clause-steps c =
    let text = c.args.self.now.source.now in
    let behind = c.args.self.now.behind in
    let at = c.in_ok-behind.behind in
    let m = c.in-Some-Ok.found in
    let is : behind ≡ Some at = cc in
    let step = rw c.in-Some-Ok.field-0-is at c.in-Some-Ok.ensures.steps in
    let first : coming c.args.self.now.matches ≡ item_of m ∷ coming c.next.new.self = step.2.first.0 in
    let here : c.range.result.now ≡ slice_range text at m.range.start = c.range.ensures.value ∙ ap (slice_range text at) c.start.ensures in
    record {
      gives = record {
        first = part-given text behind at c.end.result (coming c.args.self.now.matches) (coming c.next.new.self) m c.range.result.now is first here c.end.ensures;
        ended = λ none. absurd (part-some text behind at (coming c.args.self.now.matches) is none);
      };
      limited = λ n. part-given text behind at c.end.result (take (suc n) (coming c.args.self.now.matches)) (take n (coming c.next.new.self)) m c.range.result.now is
          (ap (take (suc n)) first) here c.end.ensures;
    }

pub returns-in-Some-Ok-clause-goes : goal.returns-in-Some-Ok-clause-goes
returns-in-Some-Ok-clause-goes c = makes-progress _ parts_left _ _ _ tt (returns-in-Some-Ok-clause-steps c).gives

pub returns-in-Some-Err-clause-steps : goal.returns-in-Some-Err-clause-steps
returns-in-Some-Err-clause-steps c =
    let text = c.args.self.now.source.now in
    let behind = c.args.self.now.behind in
    let at = c.in_ok-behind.behind in
    let is : behind ≡ Some at = cc in
    let step = rw c.in-Some-Err.field-0-is at c.in-Some-Err.ensures.steps in
    record {
      gives = record {
        first = (step.2.first.0, parts-over text _ (coming c.next.new.self) c.take.ensures.after);
        ended = λ none. absurd (part-some text behind at (coming c.args.self.now.matches) is none);
      };
      limited = λ n. (step.2.first.0, parts-over text _ (take n (coming c.next.new.self)) c.take.ensures.after);
    }

pub returns-in-Some-Err-clause-goes : goal.returns-in-Some-Err-clause-goes
returns-in-Some-Err-clause-goes c = makes-progress _ parts_left _ _ _ tt (returns-in-Some-Err-clause-steps c).gives

pub returns-in-None-clause-steps : goal.returns-in-None-clause-steps
returns-in-None-clause-steps c =
    let text = c.args.self.now.source.now in
    let behind = c.args.self.now.behind in
    let at = c.in_ok-behind.behind in
    let is : behind ≡ Some at = cc in
    let none : coming c.args.self.now.matches ≡ [] = c.in-None.ensures.steps.2.first.0 in
    record {
      gives = record {
        first = part-last text behind _ at (coming c.args.self.now.matches) (coming c.next.new.self) c.range_from.result.now is none c.range_from.ensures.value c.take.ensures.after;
        ended = λ over. absurd (part-some text behind at (coming c.args.self.now.matches) is over);
      };
      limited = λ n. part-last text behind _ at (take (suc n) (coming c.args.self.now.matches)) (take n (coming c.next.new.self)) c.range_from.result.now is
          (ap (take (suc n)) none) c.range_from.ensures.value c.take.ensures.after;
    }

pub returns-in-None-clause-goes : goal.returns-in-None-clause-goes
returns-in-None-clause-goes c = makes-progress _ parts_left _ _ _ tt (returns-in-None-clause-steps c).gives
