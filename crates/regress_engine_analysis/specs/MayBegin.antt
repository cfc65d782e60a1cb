-- The bytes with which a match from an address on may begin, read forward.
use Rattle.std.specs.Prelude.{◌≡◌, ℕ, suc, ◌<◌, Bool, true, false, not, ◌||◌, ◌&&◌, ◌==◌, nat_eq, List, [], ◌∷◌, length, None, Some, get_or, slice_get, nat_lt, encode_utf8}
use Rattle.regress_meaning.specs.Text.{holds}
use Rattle.regress_meaning.specs.Table.{code_points, some_below}
use Rattle.regress_meaning.specs.Meaning.{is_line_end}
use Rattle.regress_meaning.specs.Inputs.{is_continuation}
use Rattle.regress_front_bytes.specs.Bitmaps.{byte_bitmap_contains}
use Rattle.regress_front_bytes.specs.declared.bitmaps.ByteBitmap.{ByteBitmap}
use Rattle.regress_front_nodes.specs.TreeMeaning.{bracket_has}
use Rattle.regress_front_nodes.specs.Trees.{lookaround, atomic}
use Rattle.regress_engine_insn.specs.Instructions.{Instruction, Program}
use Rattle.regress_engine_insn.specs.Instructions as code

-- a code point that passes begins with the byte in UTF-8
abbrev pub leads : (ℕ → Bool) → ℕ → Bool
leads test b = some_below code_points (λ c. test c && (get_or (encode_utf8 c) 0 0 == b))

-- A byte may stand where a character that passes is read: one begins with it, or it stands inside of a character, where none is read.
abbrev pub may_lead : (ℕ → Bool) → ℕ → Bool
may_lead test b = leads test b || is_continuation b

-- bytes begin with a byte, or there are none
abbrev pub starts : List ℕ → ℕ → Bool
starts [] b = true
starts (c ∷ cs) b = c == b

-- a bracket with an index may match the character that begins with a byte
abbrev pub bracket_leads : Program → ℕ → ℕ → Bool
bracket_leads program k b = elim (slice_get program.brackets k) [ None ↦ true | Some x ↦ may_lead (bracket_has x.0 x.1) b ]

-- a match from an address behind another may begin with a byte; from one that is not behind it with each
abbrev pub behind : (ℕ → ℕ → Bool) → (at next b : ℕ) → Bool
behind may at next b = not (nat_lt at next) || may next b

-- A match from an instruction at an address on may begin with a byte, by what those from behind it may begin with.
abbrev pub begins : Program → (ℕ → ℕ → Bool) → Instruction → (at b : ℕ) → Bool
begins program may (code.byte_seq bs) at b = starts bs b
begins program may (code.char c) at b = may_lead (nat_eq c) b
begins program may (code.char_set cs) at b = may_lead (holds cs) b
begins program may (code.byte_set cs) at b = may_lead (holds cs) b
begins program may (code.bracket k) at b = bracket_leads program k b
begins program may (code.ascii_bracket cs) at b = may_lead (holds cs) b
begins program may code.any at b = may_lead (λ c. true) b
begins program may code.any_in_line at b = may_lead (λ c. not (is_line_end c)) b
begins program may (code.line_start multiline) at b = behind may at (suc at) b
begins program may (code.line_end multiline) at b = multiline && may_lead is_line_end b && behind may at (suc at) b
begins program may (code.boundary inverted folded) at b = behind may at (suc at) b
begins program may (code.submatch atomic first last continuation) at b = behind may at (suc at) b
begins program may (code.begin_group k) at b = behind may at (suc at) b
begins program may (code.end_group k) at b = behind may at (suc at) b
begins program may (code.reset_group k) at b = behind may at (suc at) b
begins program may (code.jump a) at b = behind may at a b
begins program may (code.alt a) at b = behind may at (suc at) b || behind may at a b
begins program may (code.enter_loop f) at b = behind may at (suc at) b || (f.least == 0 && behind may at f.exit b)
begins program may (code.single_loop least most greedy) at b = behind may at (suc at) b || (least == 0 && behind may at (suc (suc at)) b)
begins program may code.goal at b = true
begins program may (code.back k icase) at b = true
begins program may (code.loop_again begin) at b = true
begins program may (code.submatch (lookaround negated backward) first last continuation) at b = true
begins program may code.fail at b = false

-- by sets of bytes, one for each address from the first on, a match from an address on may begin with a byte; from others with each
abbrev pub may_begin_with : List ByteBitmap → ℕ → ℕ → Bool
may_begin_with sets at b = elim (slice_get sets at) [ None ↦ true | Some set ↦ byte_bitmap_contains set b ]

-- the same of the instruction at an address; where there is none each may
abbrev pub begins_at : Program → (ℕ → ℕ → Bool) → (at b : ℕ) → Bool
begins_at program may at b = elim (slice_get program.instructions at) [ None ↦ true | Some i ↦ begins program may i at b ]

-- a match from an address on may begin with each byte of its set, and with no other, by the instruction there
abbrev pub AreFirstBytes : Program → List ByteBitmap → Type 0
AreFirstBytes program sets = (at b : ℕ) → at < length sets → b < 256 → may_begin_with sets at b ≡ begins_at program (may_begin_with sets) at b
