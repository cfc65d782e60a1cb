-- What is read is a character.
use Rattle.std.proofs.Common.{◌≡◌, Some, rules}
use Rattle.regress_meaning.specs.Meaning.{Forward}
use Rattle.regress_meaning.specs.Inputs.{utf8_next}
use Rattle.regress_engine_inputs.proofs.Utf8Reads.{char-read}
use Rattle.regress_engine_inputs.proofs.utf8_input.Utf8InputInputIndexer.next_right.Goals as goal

pub returns-clause-point : goal.returns-clause-point
returns-clause-point c =
    let e : utf8_next c.args.self.now.text.now Forward c.args.pos.now.offset ≡ Some (c.in_ok-c.c, c.in_ok-c.behind) = search rules in
    char-read c.args.self.now.text.now c.args.self.now.utf8 Forward c.args.pos.now.offset c.requires c.in_ok-c.c c.in_ok-c.behind e c.from_u32.result c.from_u32.ensures.value
