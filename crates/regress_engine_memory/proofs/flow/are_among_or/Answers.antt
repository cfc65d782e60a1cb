use Rattle.std.proofs.Common.{◌≡◌, ℕ, List, true, ◌++◌, ◌∷◌, [], Bor, drop, length, sym, ap, ◌∙◌}
use Rattle.std.specs.List.{list_all}
use Rattle.std.proofs.lemmas.Bool.Decides.{Decides-eqb}
use Rattle.std.proofs.lemmas.Slice.Eq.{starts_is}
use Rattle.regress_meaning.specs.Text.{holds}
use Rattle.regress_engine_memory.proofs.ClassLemmas.{front-among_or, front-among_last}
use Rattle.regress_engine_memory.proofs.flow.are_among_or.Goals.{in-Some, in_default-2, in_default}
use Rattle.regress_engine_memory.proofs.flow.are_among_or.Goals as goal

pub returns-then-starts_with : goal.returns-then-starts_with
returns-then-starts_with c =
    let one = c.args.one in
    let some = c.args.some.now in
    let others = c.args.others.now in
    let rest = c.match-split_last.rest.now in
    let more = drop (length rest) others in
    let begins : others ≡ rest ++ more = (starts_is Decides-eqb others rest _ c.starts_with.ensures.value).0 c.if-starts_with.true in
    let all_rest : list_all (holds (one ∷ others)) rest ≡ true = front-among_or one others rest more begins in
    let whole : rest ≡ some → list_all (holds (one ∷ others)) some ≡ true = λ e. sym (ap (list_all (holds (one ∷ others))) e) ∙ all_rest in
    let all : list_all (holds (one ∷ others)) some ≡ true =
    elim c.match-split_last.branch [
      | in-Some w ↦
          let ends : some ≡ rest ++ one ∷ [] =
          w.in-Some.ensures.cases.0 ∙ ap (λ x. w.in-Some.rest.now ++ x ∷ []) w.if-last-one.true
          ∙ ap (λ (r : Bor (List ℕ)). r.now ++ one ∷ []) (sym w.rest-is) in
          ap (list_all (holds (one ∷ others))) ends ∙ front-among_last one others rest more begins
      | in_default-2 w ↦ whole (ap (λ (r : Bor (List ℕ)). r.now) w.rest-is)
      | in_default w ↦ whole (ap (λ (r : Bor (List ℕ)). r.now) w.rest-is)
    ] in
    c.if-starts_with.true ∙ sym all
