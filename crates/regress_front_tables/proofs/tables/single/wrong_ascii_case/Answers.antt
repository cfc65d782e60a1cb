use Rattle.std.proofs.Common.{◌<◌, rules}
use Rattle.std.proofs.lemmas.Iterator.{first_from_Range}
use borrow.Author.Tests.{tests}
use Rattle.regress_meaning.specs.TableParts.{HasAsciiCase}
use Rattle.regress_front_tables.specs.Parts.{parts_of}
use Rattle.regress_front_tables.proofs.TellingLemmas.{TellsLeast-below, Tells-ascii_case, kept-from_told}
use Rattle.regress_front_tables.proofs.tables.single.wrong_ascii_case.Goals as goal

pub returns : goal.returns
returns c =
    let parts = parts_of c.args.parts.now in
    let found = first_from_Range _ _ _ c.find.result (λ d. HasAsciiCase parts d → ⊥) (HasAsciiCase parts) c.find.ensures.ran
    (λ x q k. search (rules, tests)) (λ x q k. search (rules, tests)) in
    let told = TellsLeast-below (HasAsciiCase parts) 0x80 _ found in record {
      kept = kept-from_told (λ d. d < 0x80 → HasAsciiCase parts d) _ told;
      broken = Tells-ascii_case parts _ told;
    }
