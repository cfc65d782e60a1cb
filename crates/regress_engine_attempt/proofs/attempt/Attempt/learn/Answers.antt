use Rattle.std.proofs.Common.{ℕ, false, refl, sym, subst, IfSome}
use Rattle.regress_engine_code.specs.Standing.{program_of}
use Rattle.regress_engine_undo.specs.declared.undo.Spot.{Spot}
use Rattle.regress_engine_undo.specs.Held.{held, pushed, undo_of}
use Rattle.regress_engine_memory.specs.Held.{FailsIfFree}
use Rattle.regress_engine_memory.specs.Remembered.{keyed_of}
use Rattle.regress_engine_memory.specs.TableViews.{table_of}
use Rattle.regress_engine_trying.specs.Trying.{World}
use Rattle.regress_engine_trying.specs.Remembering.{AreOf, IsUnderWay}
use Rattle.regress_engine_trying.proofs.RememberLemmas.{learned}
use Rattle.regress_engine_attempt.proofs.attempt.Attempt.learn.Goals as goal

pub returns-clause-so : goal.returns-clause-so
returns-clause-so g c =
    let w : World = record { program = program_of c.args.self.now.program.now; view = g.Input.InputIndexer.view c.args.self.now.input } in
    let s : Spot = record { at = c.in-Tried.at; offset = c.in-Tried.offset; forward = c.args.spot.now.forward } in
    let h = held c.args.memory.now in
    let old = c.deref_mut.result.now in
    let keyed = keyed_of (table_of old.table) in
    learned w old c.learn.new.self c.args.spot.now s h (g.met.Input.InputIndexer.are_of_kind c.args.self.now.input) c.requires.suits
    (subst (AreOf w) (sym c.deref_mut.ensures.value) (subst (λ x. IfSome x (λ f. AreOf w f.value)) c.in-Some.is c.requires.so)) c.learn.ensures.table
    (λ program input known fails. c.learn.ensures.known program input known
    (subst (FailsIfFree program input keyed c.text_len-last.result s) (sym c.loops.ensures)
    (subst (λ (last : ℕ). FailsIfFree program input keyed last s h.loops) (sym c.text_len-last.ensures) fails)))
    refl c.requires.sound.loops (subst (λ u. IsUnderWay w false c.args.spot.now (pushed (undo_of u) h)) c.in-Tried.is c.requires.tried)
