-- What a `Slot` owns: nothing at null, and else what a `Box<Held>` of the C library's heap owns.
use Rattle.std.specs.Prelude.{Option, None, Some}
use base.Fml.{Fml, ftrue, ffalse, fex}
use denote.RawPtr.{Ptr, block_ptr, null_ptr}
use Rattle.std.specs.Box.Ownership.{box_owns}
use Rattle.std.specs.Global.{Global}
use Rattle.std_heap.specs.contracts.GlobalAllocator.TheImpl.{ghosts}
use Rattle.regress_calls.specs.contracts.held.Held.{the_row}

unfoldable pub slot_owns : Ptr → Option the_row.Denot → Fml
slot_owns null_ptr None = ftrue
slot_owns null_ptr (Some x) = ffalse
slot_owns (block_ptr b o) None = ffalse
slot_owns (block_ptr b o) (Some x) = fex Global (λ alloc. box_owns (ghosts.dealloc_token alloc) the_row (block_ptr b o) x)
