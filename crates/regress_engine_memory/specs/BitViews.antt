-- Which numbers a set of bits has.
use Rattle.std.specs.Prelude.{ℕ, ◌/◌, ◌%◌, Bool, false, List, Option, Some, None, slice_get}
use Rattle.regress_front_bytes.specs.Bitmaps.{byte_bitmap_contains}
use Rattle.regress_front_bytes.specs.declared.bitmaps.ByteBitmap.{ByteBitmap}
use Rattle.regress_engine_memory.specs.declared.bits.Bits.{Bits}

-- a number is one of a block, if there is a block
abbrev pub in_block : Option ByteBitmap → ℕ → Bool
in_block None n = false
in_block (Some block) n = byte_bitmap_contains block n

-- a number is one of blocks of 256 each
abbrev pub in_blocks : List ByteBitmap → ℕ → Bool
in_blocks blocks n = in_block (slice_get blocks (n / 256)) (n % 256)

-- a number is one of the set
abbrev pub has : Bits → ℕ → Bool
has bits n = in_blocks bits.blocks.items n
