-- The bytes that bitmaps hold.
use Rattle.std.specs.Prelude.{ℕ, Bool}
use Rattle.regress_front_bytes.specs.ByteSets.{has_bit}
use Rattle.regress_front_bytes.specs.declared.bitmaps.AsciiBitmap.{AsciiBitmap}
use Rattle.regress_front_bytes.specs.declared.bitmaps.ByteBitmap.{ByteBitmap}

-- b is a byte of the set of ASCII bytes
unfoldable pub ascii_bitmap_contains : AsciiBitmap → ℕ → Bool
ascii_bitmap_contains bitmap = has_bit 8 bitmap.0

-- b is a byte of the set
unfoldable pub byte_bitmap_contains : ByteBitmap → ℕ → Bool
byte_bitmap_contains bitmap = has_bit 16 bitmap.0
