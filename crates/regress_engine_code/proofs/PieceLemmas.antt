-- The pieces of a string, one by one.
use Rattle.std.proofs.Common.{◌≡◌, ℕ, zero, suc, ◌+◌, ◌<◌, Bool, List, [], ◌∷◌, ◌++◌, length, map, take, get_or, All, sym, ap, ◌∙◌, subst, arith, append_assoc}
use Rattle.std.proofs.lemmas.List.{append-nil}
use Rattle.std.proofs.lemmas.List.Elements.{All-head, All-tail}
use Rattle.regress_front_nodes.specs.declared.piece.Piece.{Piece}
use Rattle.regress_front_nodes.specs.Pieces.{piece_tree}
use Rattle.regress_engine_insn.specs.Instructions.{Instruction, Program}
use Rattle.regress_engine_insn.specs.Layout.{piece_code, pieces_code}

-- what holds of all items holds of one
pub among : {A B : Type 0} (f : A → B) (P : B → Type 0) (xs : List A) (k : ℕ) (x : A) → k < length xs → x ≡ get_or xs k x → All P (map f xs) → P (f x)
among f P [] k x within is all = absurd (omega arith)
among f P (y ∷ xs) zero x within is all = subst (λ z. P (f z)) (sym is) (All-head P (f y) (map f xs) all)
among f P (y ∷ xs) (suc k) x within is all = among f P xs k x (omega arith) is (All-tail P (f y) (map f xs) all)

-- one more piece
pub pieces_code-told : (program : Program) (b : Bool) (ps : List Piece) (k : ℕ) (p : Piece) → k < length ps → p ≡ get_or ps k p
    → pieces_code program b (map piece_tree (take k ps)) ++ piece_code program b (piece_tree p) ≡ pieces_code program b (map piece_tree (take (k + 1) ps))
pieces_code-told program b ps k p within is = next ps k within is ∙ ap (λ (n : ℕ). pieces_code program b (map piece_tree (take n ps))) (let e : suc k ≡ k + 1 = omega arith in e)
  where
    next : (ps : List Piece) (k : ℕ) → k < length ps → p ≡ get_or ps k p
        → pieces_code program b (map piece_tree (take k ps)) ++ piece_code program b (piece_tree p) ≡ pieces_code program b (map piece_tree (take (suc k) ps))
    next [] k within is = absurd (omega arith)
    next (q ∷ ps) zero within is = ap (λ x. piece_code program b (piece_tree x)) is ∙ sym (append-nil (piece_code program b (piece_tree q)))
    next (q ∷ ps) (suc k) within is =
        append_assoc (piece_code program b (piece_tree q)) (pieces_code program b (map piece_tree (take k ps))) (piece_code program b (piece_tree p))
        ∙ ap (λ (is : List Instruction). piece_code program b (piece_tree q) ++ is) (next ps k (omega arith) is)
