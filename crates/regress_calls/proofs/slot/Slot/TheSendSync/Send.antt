-- A slot may go to another thread, since what it holds may.
use mir.Raw.{raw}
use base.Shift.{Keyless}
use denote.Memory.{lone}
use denote.RawPtr.{Ptr, block_ptr, null_ptr}
use denote.Struct.Struct.{exits_of}
use denote.Struct.Owning.{shape, fields, to}
use denote.Param.Send.{IsSend, AllSend, owning_send, struct_send, sendable}
use Rattle.std.proofs.Crossing as heap
use Rattle.std.specs.Prelude.{Option, None, Some}
use Rattle.std_alloc.proofs.SendSync.{quiet, lies}
use Rattle.regress_calls.specs.contracts.held.Held as Held
use Rattle.regress_calls.proofs.held.Held.TheSendSync.{the_send as held}
use Rattle.regress_calls.specs.contracts.slot.Slot.{the_row, the_type}
use Rattle.regress_calls.specs.Slots.{slot_owns}

owned : (p : Ptr) (h : Option Held.the_row.Denot) → Keyless (slot_owns p h)
unfolding slot_owns
owned null_ptr None = tt
owned null_ptr (Some x) = tt
owned (block_ptr b o) None = tt
owned (block_ptr b o) (Some x) = λ a. (lies Held.the_row held (block_ptr b o) x, heap.frees.frees a (raw (lone Held.the_row.mir)) (block_ptr b o))

pub send : IsSend the_row
send =
    let all : AllSend (fields the_type) = (search sendable, tt) in
    owning_send the_type all (λ d. owned d.ptr d.held)
    (λ k. quiet (to the_type) (exits_of k (fields the_type)) ((struct_send (shape the_type) all).leaving k))
