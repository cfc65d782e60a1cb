use Rattle.std.proofs.Common.{◌≡◌, ℕ, List, [], ◌∷◌, ◌++◌, map, take, get_or, codes, Vec, Global, ap, ◌∙◌, sym, arith}
use Rattle.std.proofs.lemmas.List.{map_push, map_more}
use Rattle.regress_front_tables.proofs.tables.parts.keycaps.Goals as goal

pub loop-key-preserved : goal.loop-key-preserved
loop-key-preserved c =
    let keys : List ℕ = codes "#*0123456789" in
    let i = c.loop-key.key-index in
    let keycap : ℕ → List ℕ = λ k. k ∷ 0xFE0F ∷ 0x20E3 ∷ [] in
    let shown : Vec ℕ Global → List ℕ = λ s. s.items in
    let string : c.in_ok-vec.field-0.items ≡ keycap (get_or keys i 0) = c.in_ok-vec.ensures.items ∙ ap keycap c.from.ensures in
    ap (map shown) c.in_ok-push.ensures.items ∙ map_push shown c.loop-key.strings.items c.in_ok-vec.field-0
    ∙ ap (λ n. n ++ c.in_ok-vec.field-0.items ∷ []) c.loop-key.invariant ∙ ap (λ s. map keycap (take i keys) ++ s ∷ []) string
    ∙ sym (map_more keycap keys i 0 (omega arith))
