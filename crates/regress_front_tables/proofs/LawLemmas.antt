-- Of a law that is kept nothing is told, and what is told of the first that isn't.
use Rattle.std.proofs.Common.{ℕ, Result, Ok, Err, IfErr, IsOkUnless, refl, arith}
use Rattle.std.proofs.lemmas.List.Elements.{All-contains}
use Rattle.regress_meaning.specs.TableParts.{TableParts, IsLawful, is_code_point}
use Rattle.regress_front_tables.specs.declared.tables.law.TableError.{TableError}
use Rattle.regress_front_tables.specs.declared.tables.law.TableError.TheVariants.{Broken, OutOfMemory}
use Rattle.regress_front_tables.specs.declared.tables.law.TableLaw.{TableLaw}
use Rattle.regress_front_tables.specs.declared.tables.law.TableLaw.TheVariants.{Range, Order, AsciiCase, Idempotent, ClassSize, Surrogate, Canonical, Identifier}
use Rattle.regress_front_tables.specs.Breaking.{Keeps, KeepsFirst, Tells, TellsBroken, rank, numbers, IsFirstBroken}
use Rattle.regress_front_tables.proofs.OrderLemmas.{out_of_order-none, out_of_place-none}
use Rattle.regress_front_tables.proofs.RangeLemmas.{All-numbers}

-- lawful parts keep each law
pub Keeps-lawful : (law : TableLaw) (parts : TableParts) → IsLawful parts → Keeps law parts
Keeps-lawful Range parts lawful = lawful.range
Keeps-lawful Order parts lawful = lawful.order
Keeps-lawful AsciiCase parts lawful = lawful.ascii_case
Keeps-lawful Idempotent parts lawful = lawful.idempotent
Keeps-lawful ClassSize parts lawful = lawful.class_size
Keeps-lawful Surrogate parts lawful = lawful.surrogate
Keeps-lawful Canonical parts lawful = lawful.canonical
Keeps-lawful Identifier parts lawful = lawful.identifier

-- of a law that is kept nothing is told
pub tells_nothing : (law : TableLaw) (parts : TableParts) → Keeps law parts → (c : ℕ) → Tells law parts c → ⊥
tells_nothing Range parts kept c told =
    let within = All-contains is_code_point (numbers parts) c (All-numbers parts kept) told.holds.1 in
    let past = told.holds.0 in
    omega arith
tells_nothing Order parts kept c told = let none = out_of_order-none parts kept in cc
tells_nothing AsciiCase parts kept c told = told.holds.1 (kept c told.holds.0)
tells_nothing Idempotent parts kept c told = told.holds (kept.0 c, kept.1 c)
tells_nothing ClassSize parts kept c told = told.holds (kept.0 c, kept.1 c)
tells_nothing Surrogate parts kept c told = told.holds (kept.0 c, kept.1 c)
tells_nothing Canonical parts kept c told = let none = out_of_place-none parts kept in cc
tells_nothing Identifier parts kept c told = told.holds (kept c)

-- what is told of a law after others that are kept
pub IsFirstBroken-from : (law : TableLaw) (parts : TableParts) → KeepsFirst (rank law) parts → (c : ℕ) → Tells law parts c → IsFirstBroken law parts c
IsFirstBroken-from law parts first c told =
    record { told = told; first = λ earlier l. tells_nothing earlier parts (first earlier l) }

-- where parts are lawful, nothing but refused memory is told
pub IsOkUnless-lawful : {T : Type 0} (parts : TableParts) → IsLawful parts → (result : Result T TableError)
    → IfErr result (λ e. TellsBroken e parts) → IsOkUnless result OutOfMemory
IsOkUnless-lawful parts lawful (Ok x) told = tt
IsOkUnless-lawful parts lawful (Err (Broken law c)) told = absurd (tells_nothing law parts (Keeps-lawful law parts lawful) c told.told)
IsOkUnless-lawful parts lawful (Err OutOfMemory) told = refl
