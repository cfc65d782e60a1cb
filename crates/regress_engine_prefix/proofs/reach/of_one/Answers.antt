use Rattle.std.proofs.Common.{not, refl, ap}
use Rattle.regress_front_bytes.specs.Bitmaps.{byte_bitmap_contains}
use Rattle.regress_engine_prefix.proofs.ReachLemmas.{CoversOne-ascii, CoversOne-more}
use Rattle.regress_engine_prefix.proofs.reach.of_one.Goals as goal

pub returns-then-exact : goal.returns-then-exact
returns-then-exact c = CoversOne-ascii (byte_bitmap_contains c.args.first) _ (c.is_beyond_ascii-exact.ensures.none c.if-exact.true) (λ b h. h) refl

pub returns-else-exact : goal.returns-else-exact
returns-else-exact c = CoversOne-more (byte_bitmap_contains c.args.first) _ c.with_continuations.ensures.first c.with_continuations.ensures.others refl (ap not c.if-exact.false)
