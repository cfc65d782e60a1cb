use Rattle.std.proofs.Common.{◌≡◌, ◌&&◌, not, ap, ◌∙◌}
use Rattle.std.proofs.lemmas.Bool.{lt-ltb}
use Rattle.regress_front_bytes.specs.Bitmaps.{ascii_bitmap_contains}
use Rattle.regress_front_sets.specs.Sets.{in_set}
use Rattle.regress_engine_code.proofs.brackets.ascii_matched.Goals as goal

pub returns-then-contents : goal.returns-then-contents
returns-then-contents c = λ d low.
    let set = c.args.contents.now.cps in
    let member : ascii_bitmap_contains c.ascii_members-members.result d ≡ in_set set d = c.ascii_members-members.ensures d ∙ ap (λ t. t && in_set set d) (lt-ltb d 0x80 low) in
    rw c.if-contents.true (c.inverted.ensures d low ∙ ap not member)

pub returns-else-contents : goal.returns-else-contents
returns-else-contents c = λ d low.
    let set = c.args.contents.now.cps in
    rw c.if-contents.false (c.ascii_members-members.ensures d ∙ ap (λ t. t && in_set set d) (lt-ltb d 0x80 low))
