-- What a table of answers is filled by.
use Rattle.std.specs.Prelude.{◌≡◌, ◌*◌, ℕ, suc, true, length, map}
use Rattle.regress_engine_input.specs.Views.{View}
use Rattle.regress_engine_insn.specs.Instructions.{Instruction}
use Rattle.regress_engine_code.specs.Standing.{program_of}
use Rattle.regress_engine_search.specs.Ready.{IsReady, is_simple}
use Rattle.regress_engine_search.specs.StateViews.{marks_of}
use Rattle.regress_engine_linear.specs.LinearViews.{flow_in, heights_in}
use Rattle.regress_engine_linear.specs.declared.testing.LinearTable.{LinearTable}
use Rattle.regress_engine_linear.specs.declared.levels.Level.{Level}
use Rattle.regress_engine_answers.specs.Filled.{IsFilled, IsFilledTo}
use Rattle.regress_engine_answers.specs.declared.answers.Answering.{Answering}
use Rattle.regress_engine_answers.specs.declared.answers.Answers.{Answers}

-- to work out what is told of a text takes at most one step for each address at each offset
abbrev pub fill_steps : LinearTable → View → ℕ
fill_steps table v = suc (length v.units) * length (heights_in table).order

-- what is told while a table is filled is so, by the ranks of its program, in the text that is worked out
abbrev pub IsFilledIn : {I : Type 0} → (I → View) → Answering I → LinearTable → Answers → Level → (index offset : ℕ) → Type 0
IsFilledIn view x table a level index offset = IsFilled (flow_in table) (heights_in table) (program_of x.program.now) (view x.input) a level index offset

-- so it is of all deeper levels, up to an index of the order
abbrev pub IsFilledToIn : {I : Type 0} → (I → View) → Answering I → LinearTable → Answers → (index : ℕ) → Type 0
IsFilledToIn view x table a index = IsFilledTo (flow_in table) (heights_in table) (program_of x.program.now) (view x.input) a index

-- an instruction that changes nothing but the offset is ready to be done at one
abbrev pub IsReadyIn : {I : Type 0} → (I → View) → Answering I → Instruction → (offset : ℕ) → Type 0
IsReadyIn view x i offset = is_simple i ≡ true → IsReady (program_of x.program.now) (view x.input) i (map marks_of x.groups.now) offset
