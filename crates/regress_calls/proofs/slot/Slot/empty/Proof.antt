-- `empty` makes a slot at null, which owns nothing.
use Rattle.std.proofs.Common.{[], ◌∷◌, refl, lit<}
use Rattle.std.specs.Prelude.{None}
use base.Logic.{emp}
use base.Fml.{ftrue}
use types.Kit.{‵, raw, ◌⊛◌, ◌$◌, ◌∵◌, !, qed, drop, join, suffices, done}
use types.Part.{agg}
use types.Run.{lit, no_more, and_then, returns, enter}
use types.ByLocal.{alloc_all, pass_all, free_all, look_at, sets}
use denote.RawPtr.{null_ptr}
use denote.Steps.{nothing}
use denote.Triple.Walked.{says, ends_at}
use Rattle.std.proofs.raw_atomic.Walks.{proved}
use Rattle.regress_calls.specs.Slots.{slot_owns}
use Rattle.regress_calls.proofs.AsBox.{slot_word, slot_in}
use Rattle.regress_calls.specs.contracts.slot.Slot.empty as F
use Rattle.regress_calls.specs.contracts.slot.Slot.empty.Key.{name as #self}
use Rattle.regress_calls.proofs.slot.Slot.empty.Statement.{statement}
use Rattle.regress_calls.proofs.slot.Slot.empty.Code as code

pub empty_spec : {M : Type 1} → statement M
unfolding slot_owns
empty_spec 𝓤 𝓛 𝓜 𝓡 wired =
    let c = F.clauses 𝓛 𝓜.mem 𝓡.returns in
    proved 𝓛 F.ended tt c 𝓜 𝓡 tt #self code.function (code.unfolded 𝓤 𝓛.H 𝓜 𝓡 wired) (λ κs. tt) (λ κs. tt) (λ κs qs bounds a n are.
    qed 𝓛 ((‵ ftrue ⊛ ‵ ftrue) ∷ raw (emp 𝓤) ∷ []) ∵ drop ! $ drop ! $
    enter ! _ _ _ _ _ $ alloc_all ! (λ l. pass_all ! refl tt $
    sets ! (agg ! (and_then ! (lit ! tt) (no_more !))) refl (tt, (record { fits = lit< tt }, tt)) $
    returns ! (look_at ! 0 refl) $ free_all ! refl $
    suffices ! _ (ends_at 𝓛 F.ended tt c ((κs, qs, bounds, a, tt), n) (slot_word null_ptr) (record { ptr = null_ptr; held = None }) tt tt) $ says ! refl $
    nothing ! $ slot_in ! null_ptr None $ nothing ! $ join ! $ nothing ! $ join ! $ done !))
