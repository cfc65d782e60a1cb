use Rattle.std.proofs.Common.{◌≡◌, ◌<◌, ◌==◌, ◌&&◌, ◌||◌, ℕ, true, false, length, sym, ap, ◌∙◌, subst, arith}
use Rattle.std.specs.Prelude.{map, nat_lt}
use Rattle.std.proofs.lemmas.Bool.{lt-ltb}
use Rattle.regress_engine_code.specs.Standing.{program_of}
use Rattle.regress_engine_input.specs.Views.{direction_of, input_of, reading_of}
use Rattle.regress_engine_insn.specs.Instructions.{Instruction, Stands}
use Rattle.regress_engine_insn.specs.InsnViews.{instruction}
use Rattle.regress_engine_runs.specs.Meets.{IsAtPlace, reads_character}
use Rattle.regress_engine_runs.proofs.RunViews.{one_stands}
use Rattle.regress_engine_search.specs.StateViews.{marks_of}
use Rattle.regress_engine_linear.specs.LinearViews.{flow_in, heights_in}
use Rattle.regress_engine_linear.specs.RankTables.{address_at, outside_at}
use Rattle.regress_engine_linear.specs.Answered.{AreExitsRight, exits_value_at}
use Rattle.regress_engine_answers.specs.AnswerTables.{ends_by, exits_by, told_by}
use Rattle.regress_engine_answers.specs.Ended.{IsEndKept}
use Rattle.regress_engine_ways.specs.Ways.{value_at}
use Rattle.regress_engine_answers.proofs.FillLemmas.{exits-known, never-come, one-at, skipped, unreferring-there}
use Rattle.regress_engine_answers.proofs.EndLemmas.{worked-inside, worked-outside}
use Rattle.regress_engine_answers.proofs.FillingWays.{order-stands}
use Rattle.regress_engine_answers.proofs.answers.Answering.fill_at.Goals as goal
use Rattle.regress_engine_answers.proofs.answers.Answering.fill_at.Goals.{else-not-is_place-via-then-not-is_place+else-reads_character, else-not-is_place-via-else-not-is_place}

pub address-at-requires : goal.address-at-requires
address-at-requires g c = let low = c.requires.level.within in let less = c.requires.within in omega (arith, low, less)

pub instruction-requires : goal.instruction-requires
instruction-requires g c =
    let v = g.Input.InputIndexer.view c.args.self.now.input in
    let all = g.met.Input.InputIndexer.are_of_kind c.args.self.now.input in
    let program = program_of c.args.self.now.program.now in
    let flow = flow_in c.args.table.now in
    let h = heights_in c.args.table.now in
    let low = c.requires.level.within in
    let less = c.requires.within in
    subst (λ x. (i : Instruction) × Stands program x i) (sym c.address-at.ensures)
    (order-stands flow h v all program c.requires.suits c.requires.linear c.requires.short c.args.index (omega (arith, low, less)))

pub returns-then-reads_character-clause-filled : goal.returns-then-reads_character-clause-filled
returns-then-reads_character-clause-filled g c =
    let v = g.Input.InputIndexer.view c.args.self.now.input in
    let all = g.met.Input.InputIndexer.are_of_kind c.args.self.now.input in
    let program = program_of c.args.self.now.program.now in
    let flow = flow_in c.args.table.now in
    let h = heights_in c.args.table.now in
    let at = c.address-at.result in
    skipped flow h v all program c.requires.suits c.requires.linear c.requires.short c.args.answers.now c.args.level c.args.index c.args.offset c.requires.filled
    (λ b within index.
    let same : b ≡ at = one-at flow h v all program c.requires.suits c.requires.linear c.requires.short c.args.index b within index ∙ sym c.address-at.ensures in
    never-come flow h v all program c.requires.suits c.requires.linear c.requires.short c.args.answers.now b c.args.offset (instruction c.instruction.result.now)
    (subst (λ x. Stands program x (instruction c.instruction.result.now)) (sym same) c.instruction.ensures.stands) (sym c.reads_character.ensures ∙ c.if-reads_character.true)
    (c.requires.apart c.if-not-is_place.true))

pub work_at-requires-clause-stands : goal.work_at-requires-clause-stands
work_at-requires-clause-stands g c =
    let v = g.Input.InputIndexer.view c.args.self.now.input in
    let all = g.met.Input.InputIndexer.are_of_kind c.args.self.now.input in
    let program = program_of c.args.self.now.program.now in
    let flow = flow_in c.args.table.now in
    let h = heights_in c.args.table.now in
    let low = c.requires.level.within in
    let less = c.requires.within in
    subst (λ x. (i : Instruction) × Stands program x i) (sym c.address-at.ensures)
    (order-stands flow h v all program c.requires.suits c.requires.linear c.requires.short c.args.index (omega (arith, low, less)))

pub work_at-requires-clause-within : goal.work_at-requires-clause-within
work_at-requires-clause-within g c =
    let v = g.Input.InputIndexer.view c.args.self.now.input in
    let all = g.met.Input.InputIndexer.are_of_kind c.args.self.now.input in
    let program = program_of c.args.self.now.program.now in
    let flow = flow_in c.args.table.now in
    let h = heights_in c.args.table.now in
    let low = c.requires.level.within in
    let less = c.requires.within in
    subst (λ x. x < length program.instructions) (sym c.address-at.ensures) (c.requires.linear.placed.there c.args.index (omega (arith, low, less)))

pub work_at-requires-clause-calm : goal.work_at-requires-clause-calm
work_at-requires-clause-calm g c b i here =
    let v = g.Input.InputIndexer.view c.args.self.now.input in
    let all = g.met.Input.InputIndexer.are_of_kind c.args.self.now.input in
    let program = program_of c.args.self.now.program.now in
    let flow = flow_in c.args.table.now in
    let h = heights_in c.args.table.now in
    unreferring-there flow h v all program c.requires.suits c.requires.linear c.requires.short b i here

pub work_at-requires-clause-exits : goal.work_at-requires-clause-exits
work_at-requires-clause-exits g c =
    let v = g.Input.InputIndexer.view c.args.self.now.input in
    let all = g.met.Input.InputIndexer.are_of_kind c.args.self.now.input in
    let program = program_of c.args.self.now.program.now in
    let flow = flow_in c.args.table.now in
    let h = heights_in c.args.table.now in
    subst (λ x. AreExitsRight (told_by c.args.answers.now) (exits_by c.args.answers.now) program v (direction_of c.args.level.forward) x c.args.offset) (sym c.address-at.ensures)
    (exits-known flow h v all program c.requires.suits c.requires.linear c.requires.short c.args.answers.now c.args.level c.requires.level c.args.index c.args.offset c.requires.filled
    c.requires.from c.requires.within c.requires.lies)

pub keep_end-requires-clause-stands : goal.keep_end-requires-clause-stands
keep_end-requires-clause-stands g c =
    let v = g.Input.InputIndexer.view c.args.self.now.input in
    let all = g.met.Input.InputIndexer.are_of_kind c.args.self.now.input in
    let program = program_of c.args.self.now.program.now in
    let flow = flow_in c.args.table.now in
    let h = heights_in c.args.table.now in
    let low = c.requires.level.within in
    let less = c.requires.within in
    subst (λ x. (i : Instruction) × Stands program x i) (sym c.address-at.ensures)
    (order-stands flow h v all program c.requires.suits c.requires.linear c.requires.short c.args.index (omega (arith, low, less)))

pub keep_end-requires-clause-calm : goal.keep_end-requires-clause-calm
keep_end-requires-clause-calm g c b i here =
    let v = g.Input.InputIndexer.view c.args.self.now.input in
    let all = g.met.Input.InputIndexer.are_of_kind c.args.self.now.input in
    let program = program_of c.args.self.now.program.now in
    let flow = flow_in c.args.table.now in
    let h = heights_in c.args.table.now in
    unreferring-there flow h v all program c.requires.suits c.requires.linear c.requires.short b i here

pub returns-else-is_inside-clause-filled : goal.returns-else-is_inside-clause-filled
returns-else-is_inside-clause-filled g c =
    let v = g.Input.InputIndexer.view c.args.self.now.input in
    let all = g.met.Input.InputIndexer.are_of_kind c.args.self.now.input in
    let program = program_of c.args.self.now.program.now in
    let flow = flow_in c.args.table.now in
    let h = heights_in c.args.table.now in
    let at = address_at h c.args.index in
    let is : c.address-at.result ≡ at = c.address-at.ensures in
    let low = c.requires.level.within in
    let less = c.requires.within in
    let (i, stands) = order-stands flow h v all program c.requires.suits c.requires.linear c.requires.short c.args.index (omega (arith, low, less)) in
    let here : Stands program c.address-at.result i = subst (λ x. Stands program x i) (sym is) stands in
    let reads : reads_character i ≡ true → IsAtPlace (reading_of v) c.args.offset = λ reads'. elim c.else-not-is_place.branch [
      | else-not-is_place-via-then-not-is_place+else-reads_character w ↦
          let same = one_stands program (input_of v) c.address-at.result i (instruction w.instruction.result.now) here w.instruction.ensures.stands in
          let never : true ≡ false = sym reads' ∙ ap reads_character same ∙ sym w.reads_character.ensures ∙ w.if-reads_character.false in
          absurd (cc never)
      | else-not-is_place-via-else-not-is_place w ↦ c.requires.place w.if-not-is_place.false
    ] in
    let old = c.args.answers.now in
    let new = c.work_at.new.answers in
    let dir = direction_of c.args.level.forward in
    let told = subst (λ x. (b q : ℕ) → told_by new b q ≡ (told_by old b q || (((b == x) && (c.args.offset == q)) && value_at (told_by old) (ends_by old) program (input_of v) dir i x c.args.offset))) is
    (c.in_ok-work_at.ensures.told i here) in
    let exits = subst (λ x. (b q : ℕ) → exits_by new b q ≡ (exits_by old b q || (((b == x) && (c.args.offset == q)) && exits_value_at (told_by old) (exits_by old) program (input_of v) dir i x c.args.offset))) is
    (c.in_ok-work_at.ensures.exits i here) in
    let outside = sym c.is_inside.ensures ∙ c.if-is_inside.false in
    worked-outside flow h v all program c.requires.suits c.requires.linear c.requires.short old c.args.level c.requires.level c.args.index c.args.offset c.requires.filled
    c.requires.from c.requires.within c.requires.lies i stands reads new told exits c.work_at.ensures.ends c.work_at.ensures.exit_ends
    (λ inside. let never : true ≡ false = sym (lt-ltb (outside_at h at) (length h.ranks) inside) ∙ subst (λ x. nat_lt (outside_at h x) (length h.ranks) ≡ false) is outside in absurd (cc never))

pub returns-in_ok-keep_end-clause-filled : goal.returns-in_ok-keep_end-clause-filled
returns-in_ok-keep_end-clause-filled g c =
    let v = g.Input.InputIndexer.view c.args.self.now.input in
    let all = g.met.Input.InputIndexer.are_of_kind c.args.self.now.input in
    let program = program_of c.args.self.now.program.now in
    let flow = flow_in c.args.table.now in
    let h = heights_in c.args.table.now in
    let at = address_at h c.args.index in
    let is : c.address-at.result ≡ at = c.address-at.ensures in
    let low = c.requires.level.within in
    let less = c.requires.within in
    let (i, stands) = order-stands flow h v all program c.requires.suits c.requires.linear c.requires.short c.args.index (omega (arith, low, less)) in
    let here : Stands program c.address-at.result i = subst (λ x. Stands program x i) (sym is) stands in
    let reads : reads_character i ≡ true → IsAtPlace (reading_of v) c.args.offset = λ reads'. elim c.else-not-is_place.branch [
      | else-not-is_place-via-then-not-is_place+else-reads_character w ↦
          let same = one_stands program (input_of v) c.address-at.result i (instruction w.instruction.result.now) here w.instruction.ensures.stands in
          let never : true ≡ false = sym reads' ∙ ap reads_character same ∙ sym w.reads_character.ensures ∙ w.if-reads_character.false in
          absurd (cc never)
      | else-not-is_place-via-else-not-is_place w ↦ c.requires.place w.if-not-is_place.false
    ] in
    let old = c.args.answers.now in
    let new = c.work_at.new.answers in
    let dir = direction_of c.args.level.forward in
    let told = subst (λ x. (b q : ℕ) → told_by new b q ≡ (told_by old b q || (((b == x) && (c.args.offset == q)) && value_at (told_by old) (ends_by old) program (input_of v) dir i x c.args.offset))) is
    (c.in_ok-work_at.ensures.told i here) in
    let exits = subst (λ x. (b q : ℕ) → exits_by new b q ≡ (exits_by old b q || (((b == x) && (c.args.offset == q)) && exits_value_at (told_by old) (exits_by old) program (input_of v) dir i x c.args.offset))) is
    (c.in_ok-work_at.ensures.exits i here) in
    worked-inside flow h v all program c.requires.suits c.requires.linear c.requires.short old c.args.level c.requires.level c.args.index c.args.offset c.requires.filled
    c.requires.from c.requires.within c.requires.lies i stands reads new told exits c.work_at.ensures.ends c.work_at.ensures.exit_ends
    c.keep_end.new.answers c.keep_end.ensures.offsets c.keep_end.ensures.exits (map marks_of c.args.self.now.groups.now)
    (subst (λ x. IsEndKept program v dir (map marks_of c.args.self.now.groups.now) x c.args.offset new c.keep_end.new.answers) is c.in_ok-keep_end.ensures.kept)
