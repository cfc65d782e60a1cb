use Rattle.std.proofs.Common.{rules}
use Rattle.std.proofs.lemmas.Iterator.{first_from_Range}
use borrow.Author.Tests.{tests}
use Rattle.regress_meaning.specs.TableParts.{KeepsIdentifierAt}
use Rattle.regress_front_tables.specs.Parts.{parts_of}
use Rattle.regress_front_tables.proofs.TellingLemmas.{TellsLeast-below, kept-from_told, least-from_told}
use Rattle.regress_front_tables.proofs.SurrogateLemmas.{TellsLeast-identifier}
use Rattle.regress_front_tables.proofs.tables.single.wrong_identifier.Goals as goal

pub returns : goal.returns
returns c =
    let parts = parts_of c.args.parts.now in
    let found = first_from_Range _ _ _ c.find-ascii.result (λ d. KeepsIdentifierAt parts d → ⊥) (KeepsIdentifierAt parts) c.find-ascii.ensures.ran
    (λ x q k. search (rules, tests)) (λ x q k. search (rules, tests)) in
    let ascii = TellsLeast-below (KeepsIdentifierAt parts) 0x80 _ found in
    let start = rw c.deref.ensures.value at c.first_surrogate-start.ensures in
    let further = rw c.deref-2.ensures.value at c.first_surrogate-further.ensures in
    let told = rw (← c.least.ensures, ← c.least-2.ensures) at (TellsLeast-identifier c.args.parts.now _ _ _ ascii start further) in
    record {
      kept = kept-from_told (KeepsIdentifierAt parts) _ told;
      broken = least-from_told (KeepsIdentifierAt parts) _ told;
    }
