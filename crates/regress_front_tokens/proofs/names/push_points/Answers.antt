use Rattle.std.proofs.Common.{◌++◌, ◌∷◌, [], List, ℕ, ap, sym, ◌∙◌, arith, append-nil, append_assoc, get_or, take}
use Rattle.std.proofs.lemmas.List.{take_all}
use Rattle.regress_front_tokens.specs.Words.{characters_of, code_points_of}
use Rattle.regress_front_tokens.proofs.NameLemmas.{characters-next}
use Rattle.regress_front_tokens.proofs.names.push_points.Goals as goal

pub loop-point-init : goal.loop-point-init
loop-point-init c = sym (append-nil _)

pub loop-point-preserved : goal.loop-point-preserved
loop-point-preserved c =
    let old = code_points_of c.args.text.now in
    let points = c.args.points.now in
    let i = c.loop-point.point-index in
    c.in_ok-push_point.ensures ∙ ap (λ (t : List ℕ). t ++ characters_of (get_or points i 0 ∷ [])) c.loop-point.invariant
    ∙ append_assoc old (characters_of (take i points)) (characters_of (get_or points i 0 ∷ []))
    ∙ ap (λ (t : List ℕ). old ++ t) (sym (characters-next points i 0 (omega arith)))

pub returns : goal.returns
returns c = c.loop-point.invariant ∙ ap (λ (t : List ℕ). code_points_of c.args.text.now ++ characters_of t) (take_all c.loop-point.point-index c.args.points.now (omega arith))
