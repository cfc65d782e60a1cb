use Rattle.regress_meaning.specs.Text.{holds}
use Rattle.regress_front_bytes.specs.Bitmaps.{byte_bitmap_contains}
use Rattle.regress_engine_prefix.proofs.StartLemmas.{passes-at, test-boundary, member-held, held-leads}
use Rattle.regress_engine_prefix.proofs.start.of_set.Goals as goal

pub returns-in-1-clause-begins : goal.returns-in-1-clause-begins
returns-in-1-clause-begins c = λ place bytes at end zero held.
    passes-at bytes at (byte_bitmap_contains c.args.set) (holds c.as_array.result)
    (member-held (byte_bitmap_contains c.args.set) c.as_array.result c.as_array.ensures c.requires) held

pub returns-in-2-clause-begins : goal.returns-in-2-clause-begins
returns-in-2-clause-begins c = λ place bytes at end zero held.
    passes-at bytes at (byte_bitmap_contains c.args.set) (holds c.as_array-in-2.result)
    (member-held (byte_bitmap_contains c.args.set) c.as_array-in-2.result c.as_array-in-2.ensures c.requires) held

pub returns-in-3-clause-begins : goal.returns-in-3-clause-begins
returns-in-3-clause-begins c = λ place bytes at end zero held.
    passes-at bytes at (byte_bitmap_contains c.args.set) (holds c.as_array-in-3.result)
    (member-held (byte_bitmap_contains c.args.set) c.as_array-in-3.result c.as_array-in-3.ensures c.requires) held

pub returns-in_default-clause-begins : goal.returns-in_default-clause-begins
returns-in_default-clause-begins c = λ place bytes at end zero held.
    passes-at bytes at (byte_bitmap_contains c.args.set) (byte_bitmap_contains c.args.set) (λ b e. e) held

pub returns-in-1-clause-boundary : goal.returns-in-1-clause-boundary
returns-in-1-clause-boundary c = λ known bytes utf8 at begins.
    test-boundary bytes at (holds c.as_array.result) (held-leads (byte_bitmap_contains c.args.set) c.as_array.result c.as_array.ensures c.requires) begins

pub returns-in-2-clause-boundary : goal.returns-in-2-clause-boundary
returns-in-2-clause-boundary c = λ known bytes utf8 at begins.
    test-boundary bytes at (holds c.as_array-in-2.result) (held-leads (byte_bitmap_contains c.args.set) c.as_array-in-2.result c.as_array-in-2.ensures c.requires) begins

pub returns-in-3-clause-boundary : goal.returns-in-3-clause-boundary
returns-in-3-clause-boundary c = λ known bytes utf8 at begins.
    test-boundary bytes at (holds c.as_array-in-3.result) (held-leads (byte_bitmap_contains c.args.set) c.as_array-in-3.result c.as_array-in-3.ensures c.requires) begins

pub returns-in_default-clause-boundary : goal.returns-in_default-clause-boundary
returns-in_default-clause-boundary c = λ known bytes utf8 at begins. test-boundary bytes at (byte_bitmap_contains c.args.set) c.requires begins
