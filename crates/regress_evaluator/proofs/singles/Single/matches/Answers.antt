use Rattle.std.proofs.Common.{nat_eq, rules}
use Rattle.std.proofs.lemmas.Iterator.{YieldsList-from_slice}
use Rattle.std.proofs.lemmas.Iterator.Search.{any_from_yields_List}
use borrow.Author.Tests.{tests}
use Rattle.regress_evaluator.proofs.singles.Single.matches.Goals as goal

pub returns-in-ByteSet : goal.returns-in-ByteSet
returns-in-ByteSet c =
    rw c.in-ByteSet.is (any_from_yields_List (λ d. nat_eq d c.args.c) _ _ _ c.any.ensures.ran (YieldsList-from_slice c.in-ByteSet.bytes.now cc) (λ x b q k. search (rules, tests)))

pub returns-in-CharSet : goal.returns-in-CharSet
returns-in-CharSet c =
    rw c.in-CharSet.is (any_from_yields_List (λ d. nat_eq d c.args.c) _ _ _ c.any-in-CharSet.ensures.ran (YieldsList-from_slice c.in-CharSet.points.now cc) (λ x b q k. search (rules, tests)))
