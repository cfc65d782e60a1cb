use Rattle.std.proofs.Common.{arith}
use Rattle.regress_engine_prefix.specs.declared.prefix.Prefix.TheVariants.{First}
use Rattle.regress_engine_prefix.proofs.PrefixLemmas.{Foretells-decided}
use Rattle.regress_engine_prefix.proofs.SecondLemmas.{Foretells-follow}
use Rattle.regress_engine_prefix.proofs.prefix.follow.Goals as goal

pub returns-in_default : goal.returns-in_default
returns-in_default c = λ t u told one then. Foretells-decided (First c.args.first) (λ e. cc) t u told

pub returns-then-is_beyond_ascii : goal.returns-then-is_beyond_ascii
returns-then-is_beyond_ascii c = λ t u told one then.
    Foretells-follow c.args.first c.in-Some.second c.with_continuations.result c.with_continuations.ensures.first (λ b small has high x low below. c.with_continuations.ensures.others x low below)
    c.args.next.now t u c.in-Some.ensures.weaker told one then

pub returns : goal.returns
returns c = λ t u told one then.
    Foretells-follow c.args.first c.in-Some.second c.in-Some.second (λ b h. h)
    (λ b small has high x low below. absurd (let ascii = c.is_beyond_ascii.ensures.none c.if-is_beyond_ascii.false b small has in omega (arith, ascii, high)))
    c.args.next.now t u c.in-Some.ensures.weaker told one then
