-- Strings of a set, one by one.
use Rattle.std.specs.Result.{IsErrAnd, IfErr}
use Rattle.std.proofs.lemmas.Result.{err_from_is_err_and}
use Rattle.regress_front_core.specs.declared.error.Error.{Error}
use Rattle.std.proofs.Common.{Result, ◌≡◌, ℕ, zero, suc, map, take, drop, get_or, ◌+◌, ◌<◌, ◌≤◌, Bool, List, [], ◌∷◌, ◌++◌, length, All, refl, sym, ap, ◌∙◌, subst, arith, length-append, append_assoc}
use Rattle.std.proofs.lemmas.List.{length-set, map-append, take_more}
use Rattle.std.proofs.lemmas.List.Elements.{All-nil, All-cons, All-head, All-tail}
use Rattle.std.proofs.lemmas.List.Sums.{sum_by-cons}
use Rattle.regress_front_tables.specs.TableViews.{table}
use Rattle.regress_front_nodes.specs.Trees.{string_set}
use Rattle.regress_engine_code.specs.declared.emitter.Emitter.{Emitter}
use Rattle.regress_engine_insn.specs.Counts.{string_count, strings_count, count}
use Rattle.regress_engine_insn.specs.Instructions.{Instruction, Program, alt, jump, fail, Stands, StandFrom}
use Rattle.regress_engine_insn.specs.Layout.{ProgramPoint, next, later, string_code, AreArms}
use Rattle.regress_engine_code.specs.Written.{Written, end, with, changed, closed, MayRefuse}
use Rattle.regress_engine_code.specs.Emitting.{target, AddsArms, OpensArms, RefusesArms, Refuses}
use Rattle.regress_engine_code.proofs.JumpLemmas.{closed-more}
use Rattle.regress_engine_code.proofs.AddLemmas.{MayRefuse-more, Lie, Adds-turned, Adds-all, Adds-one, Adds-chain, Adds-opened, one-longer}

places-more : (n m j : ℕ) (js : List ℕ) → n ≤ m → j < m → All (λ k. k < n) js → All (λ k. k < m) (js ++ j ∷ [])
places-more n m j [] more within places = All-cons (λ k. k < m) j [] within (All-nil (λ k. k < m))
places-more n m j (k ∷ js) more within places =
    let first = All-head (λ i. i < n) k js places in
    All-cons (λ i. i < m) k (js ++ j ∷ []) (omega (arith, first, more)) (places-more n m j js more within (All-tail (λ i. i < n) k js places))

module _ (emitter : Emitter) (backward icase : Bool) where
  abbrev units : Bool
  units = emitter.units

  -- no string yet
  pub OpensArms-nothing : (w : Written) → OpensArms emitter backward icase [] [] w w
  OpensArms-nothing w = record { lie = λ cs rest v adds. adds; places = All-nil (λ j. j < length w.instructions); counted = λ cs rest. refl }

  -- one more string
  pub OpensArms-more : (strings : List (List ℕ)) (jumps : List ℕ) (cs : List ℕ) (is : List Instruction) (a j : ℕ) (old w w1 w2 w3 : Written)
      → OpensArms emitter backward icase strings jumps old w
      → ((program : Program) → program.units ≡ units → is ≡ string_code (target emitter program) backward icase cs)
      → length is ≡ string_count units (table emitter.tables.now) emitter.unicode icase cs
      → w1 ≡ with w (alt a ∷ []) → w2 ≡ with w1 is → w3 ≡ with w2 (fail ∷ []) → a ≡ length w.instructions + (length is + 2) → j ≡ length w2.instructions
      → OpensArms emitter backward icase (strings ++ cs ∷ []) (jumps ++ j ∷ []) old w3
  OpensArms-more strings jumps cs is a j old w w1 w2 w3 opens told size forked spelled placed behind at = record {
    lie = λ ds rest v adds.
        let n = length v.instructions in
        let v' : Written = changed v j (jump n) in
        let same : length v'.instructions ≡ n = length-set v.instructions j (jump n) in
        let whole = opens.lie cs (ds ∷ rest) v' (first ds rest v adds) in
        subst (λ (x : Written). AddsArms emitter backward icase ((strings ++ cs ∷ []) ++ ds ∷ rest) old x)
        (ap (λ (m : ℕ). closed v' jumps m) same ∙ sym (closed-more jumps v j n))
        (subst (λ (ss : List (List ℕ)). AddsArms emitter backward icase ss old (closed v' jumps (length v'.instructions))) (sym (append_assoc strings (cs ∷ []) (ds ∷ rest))) whole);
    places = places-more (length w.instructions) (length w3.instructions) j jumps (omega (arith, sizes)) (omega (arith, sizes, at)) opens.places;
    counted = λ ds rest.
        let sum = sum_by-cons (string_count units (table emitter.tables.now) emitter.unicode icase) cs (ds ∷ rest) in
        let before = opens.counted cs (ds ∷ rest) in
        let join = ap (λ (ss : List (List ℕ)). strings_count units (table emitter.tables.now) emitter.unicode icase ss) (append_assoc strings (cs ∷ []) (ds ∷ rest)) in
        omega (arith, sizes, sum, before, join, size);
  }
    where
      sizes : (length w1.instructions ≡ suc (length w.instructions)) × (length w2.instructions ≡ length w1.instructions + length is) × (length w3.instructions ≡ suc (length w2.instructions))
      sizes = (
        (one-longer w (alt a) w1 forked).1,
        ap (λ (v : Written). length v.instructions) spelled ∙ length-append w1.instructions is,
        (one-longer w2 fail w3 placed).1,
      )

      first : (ds : List ℕ) (rest : List (List ℕ)) (v : Written) → AddsArms emitter backward icase (ds ∷ rest) w3 v
          → AddsArms emitter backward icase (cs ∷ ds ∷ rest) w (changed v j (jump (length v.instructions)))
      first ds rest v adds =
          let n = length v.instructions in
          let v' : Written = changed v j (jump n) in
          let Rest : Lie = λ program p q. AreArms (target emitter program) backward icase (ds ∷ rest) p q in
          let Fork : Lie = λ program p q. Stands program p.address (alt a) × (q ≡ next p) in
          let Spelled : Lie = λ program p q. StandFrom program p.address is × (q ≡ later p (length is)) in
          let start = one-longer w2 fail w3 placed in
          let fork = one-longer w (alt a) w1 forked in
          let opened = Adds-opened units Rest w2 w3 v v' (jump n) start.0 start.1 adds (ap (λ (k : ℕ). changed v k (jump n)) at) in
          let Jump : Lie = λ program p q. Stands program p.address (jump n) × Rest program (end w3) q in
          let Front : Lie = λ program p q. Fork program p (end w1) × Spelled program (end w1) q in
          let target_is : a ≡ suc (length w2.instructions) = omega (arith, behind, sizes) in
          Adds-turned units (λ program p q. Front program p (end w2) × Jump program (end w2) q) (λ program p q. AreArms (target emitter program) backward icase (cs ∷ ds ∷ rest) p q) w v'
          (λ program same h. (
            end w2,
            subst (λ (ks : List Instruction). StandFrom program (suc (length w.instructions)) ks × (end w2 ≡ later (next (end w)) (length ks))) (told program same)
                (subst (λ (p : ProgramPoint). StandFrom program p.address is × (end w2 ≡ later p (length is))) fork.2 h.0.1),
            subst (λ (k : ℕ). Stands program (length w.instructions) (alt k)) target_is h.0.0.0,
            subst (λ (k : ℕ). Stands program (length w2.instructions) (jump k)) (sym (ap (λ (p : ProgramPoint). p.address) opened.0)) h.1.0,
            subst (λ (p : ProgramPoint). Rest program p (end v')) start.2 h.1.1,
          ))
          (Adds-chain units Front Jump w w2 v' (Adds-chain units Fork Spelled w w1 w2 (Adds-one units w w1 (alt a) forked) (Adds-all units w1 w2 is spelled)) opened.1)

  -- one more string, and the branches round it, are no more than all
  pub arms-room : (strings : List (List ℕ)) (jumps : List ℕ) (s : List ℕ) (later all : List (List ℕ)) (old w : Written) → OpensArms emitter backward icase strings jumps old w
      → strings ++ s ∷ later ≡ all → (cs : List ℕ) (rest : List (List ℕ))
      → length w.instructions + (string_count units (table emitter.tables.now) emitter.unicode icase s + 2)
      ≤ length old.instructions + strings_count units (table emitter.tables.now) emitter.unicode icase (all ++ cs ∷ rest)
  arms-room strings jumps s later all old w opens whole cs rest =
      let n : List (List ℕ) → ℕ = strings_count units (table emitter.tables.now) emitter.unicode icase in
      let told = opens.counted s (later ++ cs ∷ rest) in
      let same : n (strings ++ s ∷ (later ++ cs ∷ rest)) ≡ n (all ++ cs ∷ rest) =
      ap n (sym (append_assoc strings (s ∷ later) (cs ∷ rest))) ∙ ap (λ (ss : List (List ℕ)). n (ss ++ cs ∷ rest)) whole in
      let more = front later in
      omega (arith, told, same, more)
    where
      front : (later : List (List ℕ)) → string_count units (table emitter.tables.now) emitter.unicode icase s + 2
          ≤ strings_count units (table emitter.tables.now) emitter.unicode icase (s ∷ (later ++ cs ∷ rest))
      front [] = let sum = sum_by-cons (string_count units (table emitter.tables.now) emitter.unicode icase) s (cs ∷ rest) in omega (arith, sum)
      front (l ∷ ls) = let sum = sum_by-cons (string_count units (table emitter.tables.now) emitter.unicode icase) s (l ∷ (ls ++ cs ∷ rest)) in omega (arith, sum)

module _ (emitter : Emitter) (backward icase : Bool) where
  -- the last string
  pub AddsArms-last : (cs : List ℕ) (is : List Instruction) (w w' : Written)
      → ((program : Program) → program.units ≡ emitter.units → is ≡ string_code (target emitter program) backward icase cs) → w' ≡ with w is
      → AddsArms emitter backward icase (cs ∷ []) w w'
  AddsArms-last cs is w w' told e =
      Adds-turned emitter.units (λ program p q. StandFrom program p.address is × (q ≡ later p (length is))) (λ program p q. AreArms (target emitter program) backward icase (cs ∷ []) p q) w w'
      (λ program same h. subst (λ (ks : List Instruction). StandFrom program (length w.instructions) ks × (end w' ≡ later (end w) (length ks))) (told program same) h)
      (Adds-all emitter.units w w' is e)

-- items up to one, that one, and those behind it
pub parts-around : {A B : Type 0} (f : A → B) (xs : List A) (k : ℕ) (x : A) → k < length xs → x ≡ get_or xs k x
    → map f (take k xs) ++ f x ∷ map f (drop (suc k) xs) ≡ map f xs
parts-around f [] k x within is = absurd (omega arith)
parts-around f (y ∷ xs) zero x within is = ap (λ z. f z ∷ map f xs) is
parts-around f (y ∷ xs) (suc k) x within is = ap (λ zs. f y ∷ zs) (parts-around f xs k x (omega arith) is)

-- items up to one, and that one
pub parts-up_to : {A B : Type 0} (f : A → B) (xs : List A) (k : ℕ) (x : A) → k < length xs → x ≡ get_or xs k x
    → map f (take (k + 1) xs) ≡ map f (take k xs) ++ f x ∷ []
parts-up_to f xs k x within is =
    ap (map f) (take_more xs k x within) ∙ map-append f (take k xs) (get_or xs k x ∷ []) ∙ ap (λ z. map f (take k xs) ++ f z ∷ []) (sym is)

-- an error that is handed on
pub err-handed : {T : Type 0} (r : Result T Error) (x : Error) (Q : Error → Type 0) → IsErrAnd r (λ e. e ≡ x) → Q x → IfErr r Q
err-handed r x Q is holds = let p = err_from_is_err_and r is in rw (p.1, p.2) holds

pub all-last : {A : Type 0} (P : A → Type 0) (xs : List A) (y : A) → All P (xs ++ y ∷ []) → P y
all-last P [] y all = All-head P y [] all
all-last P (x ∷ xs) y all = all-last P xs y (All-tail P x (xs ++ y ∷ []) all)

-- what is refused of strings is refused of a set that has one more
pub arms-refuse : (emitter : Emitter) (icase : Bool) (others : List (List ℕ)) (last : List ℕ) (ss : List (List ℕ)) (w : Written) (e : Error) → ss ≡ others ++ last ∷ []
    → RefusesArms emitter icase others w e → Refuses emitter (string_set ss icase) w e
unfolding count
arms-refuse emitter icase others last ss w e whole refused =
    let n : ℕ = length w.instructions + strings_count emitter.units (table emitter.tables.now) emitter.unicode icase (others ++ last ∷ []) in
    subst (λ (ts : List (List ℕ)). Refuses emitter (string_set ts icase) w e) (sym whole)
    (MayRefuse-more n 0 n (w.loops + 0) e (omega arith) (omega arith) (refused last []))

-- and the end of a set is refused where its strings are too many
pub end-refuse : (emitter : Emitter) (backward icase : Bool) (others : List (List ℕ)) (last : List ℕ) (ss : List (List ℕ)) (jumps : List ℕ) (is : List Instruction)
    (w w1 w2 : Written) (e : Error) → ss ≡ others ++ last ∷ [] → OpensArms emitter backward icase others jumps w w1
    → length is ≡ string_count emitter.units (table emitter.tables.now) emitter.unicode icase last → w2 ≡ with w1 is
    → MayRefuse (length w2.instructions) 0 e → Refuses emitter (string_set ss icase) w e
unfolding count
end-refuse emitter backward icase others last ss jumps is w w1 w2 e whole opens size spelled may =
    let n : ℕ = length w.instructions + strings_count emitter.units (table emitter.tables.now) emitter.unicode icase (others ++ last ∷ []) in
    let told = opens.counted last [] in
    let sum = sum_by-cons (string_count emitter.units (table emitter.tables.now) emitter.unicode icase) last [] in
    let long : length w2.instructions ≡ length w1.instructions + length is = ap (λ (v : Written). length v.instructions) spelled ∙ length-append w1.instructions is in
    subst (λ (ts : List (List ℕ)). Refuses emitter (string_set ts icase) w e) (sym whole)
    (MayRefuse-more (length w2.instructions) 0 n (w.loops + 0) e (omega (arith, told, sum, long, size)) (omega arith) may)
