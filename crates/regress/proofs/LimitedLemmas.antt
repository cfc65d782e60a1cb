-- Refusals where a limit is given, as errors of compiling.
use Rattle.std.proofs.Common.{◌≢◌, ◌*◌, ◌/◌, ◌<◌, ◌≤◌, ℕ, List, arith}
use Rattle.regress_meaning.specs.Table.{Table}
use Rattle.regress_meaning.specs.Flags.{Options}
use Rattle.regress_meaning.specs.Pattern.{Pattern}
use Rattle.regress_front_core.specs.declared.error.Error.TheVariants.{TooLarge}
use Rattle.regress_front_costs.specs.declared.limit.LimitError.{LimitError}
use Rattle.regress_front_costs.specs.declared.limit.LimitError.TheVariants.{PastLimit, Refused}
use Rattle.regress_errors.specs.ErrorTexts.{compile_error_of}
use Rattle.regress_errors.specs.declared.errors.CompileError.TheVariants as error
use Rattle.regress_programs.specs.Refusing.{MayRefuseMadeWithin}
use Rattle.regress.specs.Limited.{MayRefuseWithin}

-- what is within half of a limit is so twice within the limit
pub twice-within : (cost limit : ℕ) → cost ≤ limit / 2 → 2 * cost ≤ limit
twice-within cost limit h = omega (arith, h)

-- and what is past half of it is so twice past the limit
twice-past : (cost limit : ℕ) → limit / 2 < cost → limit < 2 * cost
twice-past cost limit h = omega (arith, h)

-- what is at most twice half of a limit is at most the limit
pub half-twice : (count limit : ℕ) → count ≤ 2 * (limit / 2) → count ≤ limit
half-twice count limit h = omega (arith, h)

-- what may be met when a pattern is compiled within half of a limit, in nodes, may be met as an error of compiling within the limit
pub refused-as : (limit : ℕ) (made : Pattern → Pattern) (t : Table) (o : Options) (text : List ℕ) (e : LimitError) → MayRefuseMadeWithin (limit / 2) made t o text e
    → MayRefuseWithin limit made t o text (compile_error_of e)
refused-as limit made t o text PastLimit h = record {
  pattern = h.pattern;
  spelled = h.spelled;
  within = h.within;
  larger = twice-past _ limit h.larger;
}
refused-as limit made t o text (Refused e) h = h

-- what isn't too large isn't so as an error of compiling
pub fits-as : (e : LimitError) → e ≢ Refused TooLarge → compile_error_of e ≢ error.Pattern TooLarge
fits-as PastLimit h large = cc
fits-as (Refused e) h large = h (cc)
