use Rattle.std.proofs.Common.{◌≡◌, ◌⊎◌, inl, inr, ℕ, ◌<◌, ◌≤◌, ◌*◌, ◌&&◌, Bool, true, false, nat_lt, sym, ap, ◌∙◌, arith}
use Rattle.std.proofs.lemmas.Bool.{cases_lt, true≢false}
use Rattle.regress_front_bytes.specs.Bitmaps.{ascii_bitmap_contains}
use Rattle.regress_engine_insn.proofs.BitmapLemmas.{passes-below}
use Rattle.regress_engine_analysis.proofs.sets.members.Goals as goal

-- a member is below
low-member : (held : ℕ → Bool) → ((c : ℕ) → 0x80 ≤ c → held c ≡ false) → (b : ℕ) → held b ≡ true → b < 0x80
low-member held high b is = by_order (cases_lt b 0x80)
  where
    by_order : (b < 0x80) ⊎ (0x80 ≤ b) → b < 0x80
    by_order (inl less) = less
    by_order (inr more) = absurd (true≢false (sym is ∙ high b more))

pub returns : goal.returns
returns c = λ b.
    let held : ℕ → Bool = ascii_bitmap_contains c.args.bitmap.now in
    let all : c.loop-row.row * 16 ≡ 0x80 = omega (arith, c.loop-row.auto.row-end, c.loop-row-test.false) in
    c.loop-row.invariant b ∙ ap (λ n. nat_lt b n && held b) all ∙ passes-below 0x80 b (held b) (low-member held c.ascii_bitmap_holds_ascii.ensures b)
