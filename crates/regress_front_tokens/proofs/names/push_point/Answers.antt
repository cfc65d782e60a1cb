use Rattle.std.proofs.Common.{ℕ, ◌++◌, ◌∷◌, [], cond, string_bytes, ap, sym, subst, ◌∙◌}
use Rattle.std.specs.Char.{IsScalar}
use Rattle.std.proofs.lemmas.Str.{IsUtf8-string_bytes}
use Rattle.regress_front_tokens.specs.Words.{code_points_of}
use Rattle.regress_front_tokens.proofs.NameLemmas.{code_points-push}
use Rattle.regress_front_tokens.proofs.names.push_point.Goals as goal

pub returns-in_ok-push : goal.returns-in_ok-push
returns-in_ok-push c =
    let letter = c.in-Some.letter in
    let point = c.args.point in
    let old = code_points_of c.args.text.now in
    let same = c.in-Some.ensures.value.1 in
    let is_scalar : IsScalar letter = subst IsScalar (sym same) c.in-Some.ensures.value.0 in
    rw c.in_ok-push.ensures.bytes
    (code_points-push (string_bytes c.args.text.now) letter (IsUtf8-string_bytes c.args.text.now) is_scalar
    ∙ ap (λ (p : ℕ). old ++ p ∷ []) same
    ∙ ap (λ b. old ++ cond b (point ∷ []) []) (sym c.in-Some.ensures.value.0))
