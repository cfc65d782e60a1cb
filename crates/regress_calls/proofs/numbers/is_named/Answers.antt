use Rattle.std.proofs.Common.{◌≡◌, ◌∙◌, ℕ, List, string_bytes, nat_eq, slice_get, length, option_map, Some, refl, sym, ap}
use Rattle.std.proofs.lemmas.Option.{slice_get-map, slice_get_read, slice_get_past}
use lib.Pointwise.{pointwise}
use Rattle.regress_calls.proofs.NameLemmas.{same-bytes, same-self}
use Rattle.regress_calls.proofs.numbers.is_named.Goals as goal

pub returns-in-Some-clause-named : goal.returns-in-Some-clause-named
returns-in-Some-clause-named c =
    let found = c.in-Some.ensures.lookup in
    let there : slice_get c.args.names.now c.args.index ≡ Some c.in-Some.other.now
    = slice_get_read c.args.names.now (length c.args.names.now) c.args.index c.in-Some.other.now refl found.3.0 found.1 in
    λ yes. slice_get-map string_bytes c.args.names.now c.args.index ∙ ap (option_map string_bytes) there
    ∙ ap Some (sym c.as_str.ensures.value ∙ same-bytes c.as_str.result.now c.args.name.now (sym c.eq.ensures ∙ yes))

pub returns-in-Some-clause-other : goal.returns-in-Some-clause-other
returns-in-Some-clause-other c =
    let found = c.in-Some.ensures.lookup in
    let there : slice_get c.args.names.now c.args.index ≡ Some c.in-Some.other.now
    = slice_get_read c.args.names.now (length c.args.names.now) c.args.index c.in-Some.other.now refl found.3.0 found.1 in
    let at = slice_get-map string_bytes c.args.names.now c.args.index ∙ ap (option_map string_bytes) there in
    λ is. let same : string_bytes c.in-Some.other.now ≡ c.args.name.now = cc (at, is) in
    c.eq.ensures ∙ ap (λ (text : List ℕ). pointwise nat_eq text c.args.name.now) (c.as_str.ensures.value ∙ same) ∙ same-self c.args.name.now

pub returns-in-None-clause-other : goal.returns-in-None-clause-other
returns-in-None-clause-other c =
    let past = slice_get_past c.args.names.now c.args.index c.in-None.ensures.lookup.3 in
    let at = slice_get-map string_bytes c.args.names.now c.args.index ∙ ap (option_map string_bytes) past in
    λ is. absurd (cc (at, is))
