-- What an instruction of a program is to definitions.
use Rattle.std.specs.Prelude.{true, false}
use Rattle.regress_front_bytes.specs.ByteSets.{members}
use Rattle.regress_front_bytes.specs.Bitmaps.{ascii_bitmap_contains}
use Rattle.regress_front_nodes.specs.Trees.{lookaround, atomic}
use Rattle.regress_engine_insn.specs.declared.insn.LoopFields.{LoopFields}
use Rattle.regress_engine_insn.specs.declared.insn.Insn.{Insn}
use Rattle.regress_engine_insn.specs.declared.insn.Insn.TheVariants as insn
use Rattle.regress_engine_insn.specs.Instructions.{Instruction}
use Rattle.regress_engine_insn.specs.Instructions as code

-- a repetition
abbrev pub fields : LoopFields → code.LoopFields
fields f = record { loop_id = f.loop_id; least = f.min_iters; most = f.max_iters; greedy = f.greedy; exit = f.exit }

-- an instruction
abbrev pub instruction : Insn → Instruction
instruction insn.Goal = code.goal
instruction (insn.Char c) = code.char c
instruction (insn.StartOfLine multiline) = code.line_start multiline
instruction (insn.EndOfLine multiline) = code.line_end multiline
instruction insn.MatchAny = code.any
instruction insn.MatchAnyExceptLineTerminator = code.any_in_line
instruction (insn.EnterLoop f) = code.enter_loop (fields f)
instruction (insn.LoopAgain begin) = code.loop_again begin
instruction (insn.Loop1CharBody least most greedy) = code.single_loop least most greedy
instruction (insn.Jump address) = code.jump address
instruction (insn.Alt address) = code.alt address
instruction (insn.BeginCaptureGroup k) = code.begin_group k
instruction (insn.EndCaptureGroup k) = code.end_group k
instruction (insn.ResetCaptureGroup k) = code.reset_group k
instruction (insn.BackRef k icase) = code.back k icase
instruction (insn.Bracket k) = code.bracket k
instruction (insn.AsciiBracket bitmap) = code.ascii_bracket (members (ascii_bitmap_contains bitmap))
instruction (insn.Lookahead negate first last continuation) = code.submatch (lookaround negate false) first last continuation
instruction (insn.Lookbehind negate first last continuation) = code.submatch (lookaround negate true) first last continuation
instruction (insn.Atomic first last continuation) = code.submatch atomic first last continuation
instruction (insn.WordBoundary invert) = code.boundary invert false
instruction (insn.WordBoundaryUnicodeICase invert) = code.boundary invert true
instruction (insn.CharSet cs) = code.char_set cs
instruction (insn.ByteSet2 bs) = code.byte_set bs.0
instruction (insn.ByteSet3 bs) = code.byte_set bs.0
instruction (insn.ByteSet4 bs) = code.byte_set bs.0
instruction (insn.ByteSeq1 bs) = code.byte_seq bs
instruction (insn.ByteSeq2 bs) = code.byte_seq bs
instruction (insn.ByteSeq3 bs) = code.byte_seq bs
instruction (insn.ByteSeq4 bs) = code.byte_seq bs
instruction (insn.ByteSeq5 bs) = code.byte_seq bs
instruction (insn.ByteSeq6 bs) = code.byte_seq bs
instruction (insn.ByteSeq7 bs) = code.byte_seq bs
instruction (insn.ByteSeq8 bs) = code.byte_seq bs
instruction (insn.ByteSeq9 bs) = code.byte_seq bs
instruction (insn.ByteSeq10 bs) = code.byte_seq bs
instruction (insn.ByteSeq11 bs) = code.byte_seq bs
instruction (insn.ByteSeq12 bs) = code.byte_seq bs
instruction (insn.ByteSeq13 bs) = code.byte_seq bs
instruction (insn.ByteSeq14 bs) = code.byte_seq bs
instruction (insn.ByteSeq15 bs) = code.byte_seq bs
instruction (insn.ByteSeq16 bs) = code.byte_seq bs
instruction insn.JustFail = code.fail
