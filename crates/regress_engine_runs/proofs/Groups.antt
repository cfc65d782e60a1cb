-- Entering a capture group.
use Rattle.std.specs.Prelude.{slice_set, IfSome}
use Rattle.std.proofs.Common.{◌≡◌, ◌⊎◌, inl, inr, ℕ, suc, ◌+◌, ◌<◌, ◌≤◌, ◌≢◌, ◌==◌, Bool, List, [], ◌∷◌, length, Option, Some, None, if◌then◌else◌, get_or, set, min, max, refl, sym, ap, ◌∙◌, arith, option_map, get_or-set_same, get_or-set_other, length-set}
use Rattle.std.proofs.lemmas.Bool.{cases_eq}
use Rattle.std.proofs.lemmas.Bool.Decides.{nat_tests}
use Rattle.std.proofs.lemmas.List.Elements.{All-set}
use Rattle.regress_meaning.specs.Meaning.{State, Direction, Forward, Backward, Context, captured}
use Rattle.regress_meaning.specs.Offsets.{Reading, offset, offset_range}
use Rattle.regress_meaning.specs.Laws.{IsAhead, LiesIn, IsInside}
use Rattle.regress_meaning.specs.Inputs.{Input, context_of}
use Rattle.regress_front_nodes.specs.Trees.{Tree}
use Rattle.regress_front_nodes.specs.Trees as tree
use Rattle.regress_front_nodes.specs.TreeMeaning.{node_outcomes, direction}
use Rattle.regress_engine_insn.specs.Instructions.{Program, Instruction, Stands}
use Rattle.regress_engine_insn.specs.Instructions as code
use Rattle.regress_engine_insn.specs.Layout.{ProgramPoint, next, Target}
use Rattle.regress_engine_runs.specs.States.{Whole, Marks, unset, range_of, begun, ended, onward}
use Rattle.regress_engine_runs.specs.Stand.{StandsFor}
use Rattle.regress_engine_runs.proofs.RunLemmas.{steps}
use Rattle.regress_engine_runs.proofs.Leading.{leads_at_once, first_expand, leads_to_one}
use Rattle.regress_engine_runs.proofs.Places.{occurs, AreFree, Arrives}
use Rattle.regress_engine_runs.proofs.Entering.{Enters, standing}

-- a group is counted where it stands
pub counted-one : (j k : ℕ) → j ≡ k → if◌then◌else◌ {A = ℕ} (k == j) 1 0 ≡ 1
counted-one j k e = grind (arith, nat_tests)

begun-hides : (dir : Direction) (o : ℕ) (m : Marks) → m ≡ unset → range_of (begun dir o m) ≡ None
begun-hides Forward o m e = ap (λ x. range_of (begun Forward o x)) e
begun-hides Backward o m e = ap (λ x. range_of (begun Backward o x)) e

-- a range from the place where a group began to one ahead of it
ended-tells : (reading : Reading) (dir : Direction) (p x o e : ℕ) (m : Marks) → IsAhead dir p x → o ≡ offset reading p → e ≡ offset reading x
    → m ≡ begun dir o unset → range_of (ended dir e m) ≡ Some (offset reading (min p x), offset reading (max p x))
ended-tells reading Forward p x o e m ahead first last same =
    let low : min p x ≡ p = omega arith in
    let high : max p x ≡ x = omega arith in
    ap (λ y. range_of (ended Forward e y)) same ∙ rw (first, last, low, high) refl
ended-tells reading Backward p x o e m ahead first last same =
    let low : min p x ≡ x = omega arith in
    let high : max p x ≡ p = omega arith in
    ap (λ y. range_of (ended Backward e y)) same ∙ rw (first, last, low, high) refl

module _ (reading : Reading) where
  abbrev told : Option (ℕ × ℕ) → Option (ℕ × ℕ)
  told g = option_map (offset_range reading) g

  -- the marks tell the ranges of the groups
  abbrev Tell : List Marks → List (Option (ℕ × ℕ)) → Type 0
  Tell ms gs = (k : ℕ) → range_of (get_or ms k unset) ≡ told (get_or gs k None)

  tell-set : (ms : List Marks) (gs : List (Option (ℕ × ℕ))) (k : ℕ) (m : Marks) (g : Option (ℕ × ℕ)) → k < length ms → k < length gs
      → range_of m ≡ told g → Tell ms gs → Tell (set ms k m) (set gs k g)
  tell-set ms gs k m g here there same h j = by_place (cases_eq j k)
    where
      by_place : (j ≡ k) ⊎ (j ≢ k) → range_of (get_or (set ms k m) j unset) ≡ told (get_or (set gs k g) j None)
      by_place (inl e) = rw (e, get_or-set_same ms k m unset here, get_or-set_same gs k g None there) same
      by_place (inr n) = rw (get_or-set_other ms k j m unset n, get_or-set_other gs k j g None n) (h j)

  tell-hidden : (ms : List Marks) (gs : List (Option (ℕ × ℕ))) (k : ℕ) (m : Marks) → k < length ms
      → range_of m ≡ told (get_or gs k None) → Tell ms gs → Tell (set ms k m) gs
  tell-hidden ms gs k m here same h j = by_place (cases_eq j k)
    where
      by_place : (j ≡ k) ⊎ (j ≢ k) → range_of (get_or (set ms k m) j unset) ≡ told (get_or gs j None)
      by_place (inl e) = rw (e, get_or-set_same ms k m unset here) same
      by_place (inr n) = rw (get_or-set_other ms k j m unset n) (h j)

  captured-inside : (k p : ℕ) (x : State) → p ≤ length reading.points → IsInside reading.points x
      → IsInside reading.points (captured k p x)
  captured-inside k p x low h = record {
    place = h.place;
    groups = All-set (λ g. IfSome g (LiesIn (length reading.points))) x.groups k (Some (min p x.place, max p x.place))
        (let a = h.place in (omega arith, omega arith)) h.groups;
  }

module _ (target : Target) (input : Input) (reading : Reading) where
  pub in_group : (b : Bool) (k : ℕ) (name : Option (List ℕ)) (a : Tree) (p m : ProgramPoint)
      → Stands target.program p.address (code.begin_group k) → Stands target.program m.address (code.end_group k)
      → ((j : ℕ) → (if k == j then 1 else 0) + occurs j a ≤ 1) → Enters target input reading b a (next p) m
      → Enters target input reading b (tree.capture k name a) p (next m)
  unfolding node_outcomes
  in_group b k name a p m begin end once inner s w at stands may =
      let dir : Direction = direction b in
      let context : Context = context_of reading input in
      let gone : ℕ → ℕ = λ j. (if k == j then 1 else 0) + occurs j a in
      let one = counted-one k k refl in
      let own : 0 < (if k == k then 1 else 0) + occurs k a = omega (arith, one) in
      let none : occurs k a ≡ 0 = omega (arith, one, once k) in
      let here : k < length w.groups = may.here k own in
      let free : get_or w.groups k unset ≡ unset = may.free k own in
      let mark : Marks = begun dir w.offset (get_or w.groups k unset) in
      let v : Whole = onward (record w { groups = slice_set w.groups k mark }) in
      let hidden : range_of mark ≡ option_map (offset_range reading) (get_or s.groups k None) =
      begun-hides dir w.offset (get_or w.groups k unset) free ∙ sym (ap range_of free) ∙ stands.groups k in
      let entered : StandsFor reading s v = record {
        place = stands.place;
        count = length-set w.groups k mark ∙ stands.count;
        groups = tell-hidden reading w.groups s.groups k mark here hidden stands.groups;
        inside = stands.inside;
      } in
      let other : (j : ℕ) → 0 < occurs j a → j ≢ k = λ j some e. absurd (omega (arith, none, ap (λ i. occurs i a) e)) in
      let may_inner : AreFree (λ j. occurs j a) m.loops v.loops v.groups = record {
        loops = may.loops;
        here = λ j some. omega (arith, length-set w.groups k mark, may.here j (omega (arith, some)));
        free = λ j some. get_or-set_other w.groups k j mark unset (other j some) ∙ may.free j (omega (arith, some));
      } in
      let R : State → Whole → Type 0 = Arrives reading dir m.address (λ j. occurs j a) p.loops m.loops s.place v in
      let Q : State → Whole → Type 0 = Arrives reading dir (suc m.address) gone p.loops m.loops s.place w in
      first_expand target.program input reading Q (w ∷ []) (v ∷ []) (node_outcomes context (tree.capture k name a) dir s)
      (steps target.program input reading (code.begin_group k) w (standing target input reading w at begin) refl (λ e. absurd (grind arith)))
      (leads_to_one target.program input reading R Q (captured k s.place) (v ∷ []) (node_outcomes context a dir s)
      (inner s v (ap suc at) entered may_inner)
      (λ x u r.
      let last : Marks = ended dir u.offset (get_or u.groups k unset) in
      let z : Whole = onward (record u { groups = slice_set u.groups k last }) in
      let room : k < length u.groups = omega (arith, here, r.keeps.group_count, length-set w.groups k mark) in
      let kept : get_or u.groups k unset ≡ begun dir w.offset unset =
      r.keeps.groups k none ∙ get_or-set_same w.groups k mark unset here ∙ ap (begun dir w.offset) free in
      let range : range_of last ≡ Some (offset reading (min s.place x.place), offset reading (max s.place x.place)) =
      ended-tells reading dir s.place x.place w.offset u.offset (get_or u.groups k unset) r.ahead stands.place r.stands.place kept in
      first_expand target.program input reading Q (u ∷ []) (z ∷ []) (captured k s.place x ∷ [])
      (steps target.program input reading (code.end_group k) u (standing target input reading u r.at end) refl (λ e. absurd (grind arith)))
      (leads_at_once target.program input reading Q (captured k s.place x ∷ []) (z ∷ []) (
        record {
          at = ap suc r.at;
          stands = record {
            place = r.stands.place;
            count = length-set u.groups k last ∙ r.stands.count ∙ sym (length-set x.groups k (Some (min s.place x.place, max s.place x.place)));
            groups = tell-set reading u.groups x.groups k last (Some (min s.place x.place, max s.place x.place)) room
                (omega (arith, room, r.stands.count)) range r.stands.groups;
            inside = captured-inside reading k s.place x stands.inside.place r.stands.inside;
          };
          keeps = record {
            loops = r.keeps.loops;
            loop_count = r.keeps.loop_count;
            groups = λ j e. let n : j ≢ k = λ f. absurd (omega (arith, e, counted-one j k f)) in
                get_or-set_other u.groups k j last unset n ∙ r.keeps.groups j (omega (arith, e)) ∙ get_or-set_other w.groups k j mark unset n;
            group_count = length-set u.groups k last ∙ r.keeps.group_count ∙ length-set w.groups k mark;
          };
          ahead = r.ahead;
        },
        tt,
      ))))
