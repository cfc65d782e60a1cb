use Rattle.std.proofs.Common.{◌≡◌, [], ◌∷◌, map, take, codes}
use Rattle.regress_front_tables.proofs.tables.parts.keycaps.Given as goal

abbrev pub invariant-loop-key : goal.invariant-loop-key
invariant-loop-key l =
    map (λ s. s.items) l.strings.items ≡ map (λ c. c ∷ 0xFE0F ∷ 0x20E3 ∷ []) (take l.key-index (codes "#*0123456789"))
