use Rattle.std.specs.Prelude.{IfSome}
use Rattle.std.proofs.Common.{subst}
use Rattle.regress_front_nodes.specs.Trees.{tree}
use Rattle.regress_engine_scanning.specs.Landmarks.{IsLow}
use Rattle.regress_engine_prefix.specs.Starts.{BeginsCharacters, IsStartOf, HitsBoundaries, IsPlain}
use Rattle.regress_engine_prefix.specs.Reaches.{Reaches}
use Rattle.regress_engine_prefix.specs.declared.reach.Reach.TheVariants.{By}
use Rattle.regress_engine_prefix.specs.declared.start.StartPredicate.TheVariants.{ByteBracket}
use Rattle.regress_engine_prefix.proofs.StartLemmas.{near-start, near-boundary, near-characters}
use Rattle.regress_engine_prefix.proofs.start.with_low_landmark.Goals as goal

-- what is known of the set, and of the landmark
pub returns-in-Some-clause-plain : goal.returns-in-Some-clause-plain
returns-in-Some-clause-plain c = (subst IsPlain c.in-ByteBracket.is c.requires.plain, subst (λ found. IfSome found IsLow) c.in-Some.is c.in_ok-landmark.ensures.low)

pub returns-in-Some-clause-characters : goal.returns-in-Some-clause-characters
returns-in-Some-clause-characters c =
    let t = tree c.args.node.now in
    let begins : BeginsCharacters (ByteBracket c.in-ByteBracket.set) t = subst (λ p. BeginsCharacters p t) c.in-ByteBracket.is c.requires.characters in
    let reach : Reaches (By c.in-Some.landmark) t = subst (λ found. IfSome found (λ landmark. Reaches (By landmark) t)) c.in-Some.is c.in_ok-landmark.ensures.reaches in
    near-characters c.in-ByteBracket.set c.in-Some.landmark t begins reach

pub returns-in-Some-clause-begins : goal.returns-in-Some-clause-begins
returns-in-Some-clause-begins c =
    let t = tree c.args.node.now in
    let begins : IsStartOf (ByteBracket c.in-ByteBracket.set) t = subst (λ p. IsStartOf p t) c.in-ByteBracket.is c.requires.begins in
    let reach : Reaches (By c.in-Some.landmark) t = subst (λ found. IfSome found (λ landmark. Reaches (By landmark) t)) c.in-Some.is c.in_ok-landmark.ensures.reaches in
    near-start c.in-ByteBracket.set c.in-Some.landmark t begins reach

pub returns-in-Some-clause-boundary : goal.returns-in-Some-clause-boundary
returns-in-Some-clause-boundary c = near-boundary c.in-ByteBracket.set c.in-Some.landmark (subst HitsBoundaries c.in-ByteBracket.is c.requires.boundary)

pub returns-in-None-clause-boundary : goal.returns-in-None-clause-boundary
returns-in-None-clause-boundary c = subst HitsBoundaries c.in-ByteBracket.is c.requires.boundary
