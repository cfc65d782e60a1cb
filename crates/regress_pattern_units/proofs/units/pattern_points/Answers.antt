use Rattle.std.proofs.Common.{◌≡◌, ◌<◌, Bool, true, false, All, sym, ap, ◌∙◌, arith}
use Rattle.std.proofs.lemmas.List.{get_or_default}
use Rattle.regress_meaning.specs.Flags.{is_unicode}
use Rattle.regress_front_core.specs.FlagWords.{options}
use Rattle.regress_pattern_units.specs.declared.units.Place.TheVariants.{Outside}
use Rattle.regress_pattern_units.specs.PatternUnits.{scanned_points}
use Rattle.regress_pattern_units.proofs.PatternLemmas.{unicode-points, plain-points, pattern-within}
use Rattle.regress_pattern_units.proofs.units.pattern_points.Goals as goal

pub returns-then-is_unicode-clause-points : goal.returns-then-is_unicode-clause-points
returns-then-is_unicode-clause-points c =
    let unicode : is_unicode (options c.args.flags) ≡ true = sym c.is_unicode.ensures ∙ c.if-is_unicode.true in
    c.in_ok-characters.ensures ∙ sym (unicode-points (is_unicode (options c.args.flags)) c.args.units.now unicode)

pub returns-clause-points : goal.returns-clause-points
returns-clause-points c =
    let plain : is_unicode (options c.args.flags) ≡ false = sym c.is_unicode.ensures ∙ c.if-is_unicode.false in
    c.in_ok-scanned_points.ensures ∙ ap (λ (named : Bool). scanned_points named Outside c.args.units.now) c.in_ok-named.ensures.named
    ∙ sym (plain-points (is_unicode (options c.args.flags)) c.args.units.now plain)

pub returns-then-is_unicode-clause-within : goal.returns-then-is_unicode-clause-within
returns-then-is_unicode-clause-within c =
    let units = c.args.units.now in
    let short : All (λ u. u < 0x1_0000) units = λ k d room. let same = get_or_default units k d 0 room in let fits = c.type_inv.units k in omega (arith, same, fits) in
    rw (returns-then-is_unicode-clause-points c) (pattern-within (is_unicode (options c.args.flags)) units short)

pub returns-clause-within : goal.returns-clause-within
returns-clause-within c =
    let units = c.args.units.now in
    let short : All (λ u. u < 0x1_0000) units = λ k d room. let same = get_or_default units k d 0 room in let fits = c.type_inv.units k in omega (arith, same, fits) in
    rw (returns-clause-points c) (pattern-within (is_unicode (options c.args.flags)) units short)
