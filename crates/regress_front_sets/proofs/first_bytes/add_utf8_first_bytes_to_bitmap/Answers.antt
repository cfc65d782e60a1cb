use Rattle.std.proofs.Common.{◌≡◌, ℕ, true, ◌||◌, ◌∙◌, Some, sym, ap, arith}
use Rattle.regress_front_bytes.specs.Bitmaps.{byte_bitmap_contains}
use Rattle.regress_front_sets.specs.declared.interval.Interval.{Interval}
use Rattle.regress_front_sets.specs.FirstBytes.{BeginsSome, begins_between}
use Rattle.regress_front_sets.proofs.FirstByteLemmas.{lead, lead-first, lead-unique, lead-mono, begins_between-lead, begins_between-some, from_either, to_either}
use Rattle.regress_front_sets.proofs.first_bytes.add_utf8_first_bytes_to_bitmap.Goals as goal

pub add_first_bytes-requires : goal.add_first_bytes-requires
add_first_bytes-requires c =
    let first = lead-first c.args.interval.first in
    let last = lead-first c.args.interval.last in
    let rises = lead-mono c.args.interval.first c.args.interval.last c.args.interval.ordered in
    grind arith

-- a byte between the first bytes of both ends begins some code point of the interval, and the other way round
some-begins : (i : Interval) (b : ℕ) → begins_between (lead i.first) (lead i.last) b ≡ true → BeginsSome i b
some-begins i b inside =
    let found = begins_between-some i.first i.last b i.ordered inside in
    (found.0, found.1, lead-first found.0 ∙ ap Some found.2)

begins-some : (i : Interval) (b : ℕ) → BeginsSome i b → begins_between (lead i.first) (lead i.last) b ≡ true
begins-some i b (c, inside, first) = rw (sym (lead-unique c b first)) (begins_between-lead i.first i.last c inside)

pub returns : goal.returns
returns c b =
    let i = c.args.interval in
    let first = lead-unique i.first _ c.utf8_first_byte-first.ensures in
    let last = lead-unique i.last _ c.utf8_first_byte-last.ensures in
    let there : byte_bitmap_contains c.add_first_bytes.new.bitmap b ≡ (byte_bitmap_contains c.args.bitmap.now b || begins_between (lead i.first) (lead i.last) b) = rw (first, last) (c.add_first_bytes.ensures b) in (
      λ held. from_either _ _ (sym there ∙ held) (some-begins i b),
      λ held. there ∙ to_either _ _ (begins-some i b) held,
    )
