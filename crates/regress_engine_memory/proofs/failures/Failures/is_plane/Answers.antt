use Rattle.std.specs.Prelude.{map}
use Rattle.std.proofs.Common.{◌≡◌, ℕ, Bool, true, false, refl, List, subst, sym, ◌∙◌}
use Rattle.std.proofs.lemmas.Bool.{eqb-true, true≢false}
use Rattle.std.proofs.Math.Bool.{beq}
use Rattle.regress_engine_search.specs.StateViews.{loop_of}
use Rattle.regress_engine_memory.specs.Remembered.{HaveClasses}
use Rattle.regress_engine_memory.specs.Deciding.{flow_of}
use Rattle.regress_engine_memory.specs.Keys.{AreFresh}
use Rattle.regress_engine_memory.specs.TableViews.{table_of}
use Rattle.regress_engine_memory.specs.declared.failures.Plane.{Plane}
use Rattle.regress_engine_memory.proofs.failures.Failures.is_plane.Goals as goal
use Rattle.regress_engine_memory.proofs.failures.Failures.is_plane.Goals.{then-plane-spot, else-plane-spot, then-plane-spot-2, else-plane-spot-2, then-plane-further, else-plane-further}

same-bool : (a b : Bool) → beq a b ≡ true → a ≡ b
same-bool true true e = refl
same-bool true false e = absurd (cc e)
same-bool false true e = absurd (cc e)
same-bool false false e = refl

pub returns-then-are_fresh : goal.returns-then-are_fresh
returns-then-are_fresh c e = elim c.if-plane-further.branch [
  | else-plane-further w ↦ absurd (true≢false (sym c.if-are_fresh.true ∙ w.value-is ∙ w.if-plane-further.false))
  | then-plane-further w ↦ elim c.if-plane-spot-2.branch [
    | else-plane-spot-2 x ↦ absurd (true≢false (sym w.if-plane-further.true ∙ x.value-is ∙ x.if-plane-spot-2.false))
    | then-plane-spot-2 x ↦ elim c.if-plane-spot.branch [
      | else-plane-spot y ↦ absurd (y.if-plane-spot.false (eqb-true c.args.plane.now.at c.args.spot.now.at (sym y.value-is ∙ x.if-plane-spot-2.true)))
      | then-plane-spot y ↦
          let p : Plane = c.args.plane.now in
          let loops : List (ℕ × ℕ) = map loop_of c.args.loops.now in
          let has : HaveClasses (table_of c.args.self.now.table) c.args.spot.now.at p.classes.items loops =
          subst (λ (classes : List ℕ). HaveClasses (table_of c.args.self.now.table) c.args.spot.now.at classes loops) c.deref-then-are_fresh.ensures.value (c.have_classes.ensures e) in
          let fresh : AreFresh (flow_of (table_of c.args.self.now.table)) c.args.spot.now.offset p.fresh.items loops =
          subst (λ (ids : List ℕ). AreFresh (flow_of (table_of c.args.self.now.table)) c.args.spot.now.offset ids loops) w.deref.ensures.value
          (sym w.are_fresh.ensures ∙ sym w.value-is ∙ c.if-are_fresh.true) in (
            y.if-plane-spot.true,
            same-bool p.forward c.args.spot.now.forward (sym y.value-is ∙ x.if-plane-spot-2.true),
            has,
            same-bool p.further c.args.further (sym x.value-is ∙ w.if-plane-further.true),
            fresh,
          )
    ]
  ]
]
