use Rattle.std.proofs.Common.{◌≡◌, Some, slice_get, sym, ap, ◌∙◌}
use Rattle.std.specs.Box.{boxed_slice_items}
use Rattle.regress_front_bytes.specs.Bitmaps.{byte_bitmap_contains}
use Rattle.regress_engine_prefix.proofs.LeadLemmas.{AreFirstOfStrings-more, string-points}
use Rattle.regress_engine_prefix.proofs.first_bytes.first_of_strings.Goals as goal
use Rattle.regress_engine_prefix.proofs.first_bytes.first_of_strings.Goals.{In_ok-first}

-- the first code point of the string
begins : (c : In_ok-first) → slice_get (boxed_slice_items c.string-item.result) 0 ≡ Some c.in_ok-first.first.now
begins c = sym (c.in_ok-first.ensures.value ∙ ap (λ xs. slice_get xs 0) c.deref.ensures.value)

pub utf8_first_byte-requires : goal.utf8_first_byte-requires
utf8_first_byte-requires c = string-points c.args.strings.now c.loop-string.string-index c.string-item.result c.in_ok-first.first.now c.loop-string-test.true c.string-item.is c.requires (begins (goal.at.utf8_first_byte-requires c).In_ok-first)

pub loop-string-preserved : goal.loop-string-preserved
loop-string-preserved c =
    let first = begins (goal.at.loop-string-preserved c).In_ok-first in
    AreFirstOfStrings-more c.args.strings.now c.loop-string.string-index c.string-item.result c.in_ok-first.first.now c.utf8_first_byte.result
    (byte_bitmap_contains c.loop-string.set) (byte_bitmap_contains c.set.new.self) c.loop-string-test.true c.string-item.is first
    (string-points c.args.strings.now c.loop-string.string-index c.string-item.result c.in_ok-first.first.now c.loop-string-test.true c.string-item.is c.requires first)
    c.utf8_first_byte.ensures c.set.ensures c.loop-string.invariant
