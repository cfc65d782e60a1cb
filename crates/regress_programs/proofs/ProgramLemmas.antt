-- The programs of a pattern that was read, and when they pass no count.
use Rattle.std.proofs.Common.{◌≡◌, ◌≢◌, ℕ, ◌+◌, ◌*◌, ◌≤◌, Bool, false, List, length, map, chars, inl, inr, sym, ap, subst, ◌∙◌, arith}
use Rattle.std.proofs.Math.Nat.{mul-le-mul}
use Rattle.regress_meaning.specs.Table.{Table}
use Rattle.regress_meaning.specs.Pattern.{Pattern, names_of}
use Rattle.regress_meaning.specs.Flags.{Options, is_unicode}
use Rattle.regress_front_core.specs.declared.error.Error.{Error}
use Rattle.regress_front_core.specs.declared.error.Error.TheVariants.{Syntax, TooDeep, TooManyGroups, TooManyLoops, TooLarge, OutOfMemory}
use Rattle.regress_front_costs.specs.declared.limit.LimitError.{LimitError}
use Rattle.regress_front_costs.specs.declared.limit.LimitError.TheVariants.{PastLimit, Refused}
use Rattle.regress_front.specs.Costs.{MayRefuseWithin}
use Rattle.regress_front.specs.FlagWords.{options}
use Rattle.regress_front.specs.Parsed.{IsTreeMade}
use Rattle.regress_front.specs.RewritingLaws.{IsRewritten}
use Rattle.regress_front.specs.Rules.{stays}
use Rattle.regress_front.specs.Names.{names_in}
use Rattle.regress_front.specs.Sizes.{loops}
use Rattle.regress_front.specs.TableViews.{table, table_known}
use Rattle.regress_front.specs.Trees.{Tree, tree}
use Rattle.regress_front.specs.WellFormed.{IsWellFormed}
use Rattle.regress_front_nodes.specs.declared.ir.Regex as ir
use Rattle.regress_front_nodes.proofs.NameLemmas.{names-are}
use Rattle.regress_front_rules.proofs.RewriteLemmas.{wholes-right}
use Rattle.regress_engine_code.specs.declared.compiled.CompiledRegex.{CompiledRegex}
use Rattle.regress_engine_insn.specs.Counts.{count}
use Rattle.regress_engine_insn.specs.Layout.{IsLayout}
use Rattle.regress_engine_code.specs.Standing as code
use Rattle.regress_engine_code.specs.Standing.{target_of}
use Rattle.regress_engine_code.specs.Written as code_refusals
use Rattle.regress_engine_code.specs.Written.{AreTooMany}
use Rattle.regress_engine_runs.proofs.SizeLemmas.{count-bounded}
use Rattle.regress_programs.specs.Programs.{IsTreeFor, IsReadFrom, IsProgramOf}
use Rattle.regress_programs.specs.Refusing.{PassesCount, MayRefuseMade, MayRefuseMadeWithin}

-- a tree as it is parsed is one for what is made of the pattern
pub parsed-for : (made : Pattern → Pattern) (t : Table) (o : Options) (text : List ℕ) (p : Pattern) (regex : ir.Regex) → IsTreeMade made t o text p (tree regex.node)
    → IsTreeFor made t o text p (tree regex.node)
parsed-for made t o text p regex of_text = record {
  parsed = tree regex.node;
  of_text = of_text;
  rewritten = wholes-right (length (names_of (made p))) (tree regex.node) (tree regex.node) stays of_text.whole.well_formed;
}

-- A tree was read from a text under a table and flags, and rewritten or not: it is a tree of what is made of a pattern that the
-- text spells.
pub record IsReadAs (made : Pattern → Pattern) (t : Table) (o : Options) (text : List ℕ) (p : Pattern) (regex : ir.Regex) : Type 0 where
  pub of_text : IsTreeFor made t o text p (tree regex.node)
  pub flags : options regex.flags ≡ o
  pub table : table regex.tables.now ≡ t

module _ (made : Pattern → Pattern) (t : Table) (o : Options) (text : List ℕ) (p : Pattern) (parsed : ir.Regex) (from : IsReadFrom made t o text p parsed) where
  -- so it is as it is rewritten
  pub as-rewritten : (regex : ir.Regex) → ((n : ℕ) → IsWellFormed n (tree parsed.node) → IsRewritten n (tree parsed.node) (tree regex.node))
      → regex.flags ≡ parsed.flags → regex.tables ≡ parsed.tables → IsReadAs made t o text p regex
  as-rewritten regex rewritten same_flags same_tables = record {
    of_text = record {
      parsed = tree parsed.node;
      of_text = from.0;
      rewritten = rewritten (length (names_of (made p))) from.0.whole.well_formed;
    };
    flags = ap options same_flags ∙ from.2;
    table = ap (λ tables. table tables.now) same_tables ∙ from.1;
  }

module _ (made : Pattern → Pattern) (t : Table) (o : Options) (text : List ℕ) (p : Pattern) (regex : ir.Regex) (read : IsReadAs made t o text p regex) where
  -- the names of its groups are those of the pattern
  named : names_in (tree regex.node) ≡ names_of (made p)
  named =
      names-are (length (names_of (made p))) (tree regex.node) (names_of (made p)) read.of_text.rewritten.well_formed.numbered
      (λ k. read.of_text.rewritten.named k ∙ read.of_text.of_text.whole.named k)

  -- a program that stands for it is one of what is made of the pattern
  pub read-program : (compiled : CompiledRegex) → code.StandsFor regex compiled → IsProgramOf compiled t o (made p)
  read-program compiled stands = record {
    table = stands.table ∙ read.table;
    flags = ap options stands.flags ∙ read.flags;
    names = stands.names ∙ named;
    node = tree regex.node;
    well_formed = read.of_text.rewritten.well_formed;
    layout = subst (λ n. IsLayout (target_of compiled) n (tree regex.node)) (ap length named) stands.layout;
    alike = λ searched points s inside.
        sym (read.of_text.rewritten.alike t (is_unicode o) searched points s inside) ∙ read.of_text.of_text.alike searched points s inside;
  }

  -- a refusal of a program is one of the pattern
  pub program-refused : (units : Bool) (e : Error) → code_refusals.MayRefuse (code.length_for units regex) (loops (tree regex.node)) e → MayRefuseMade made t o text e
  program-refused units e (inl memory) = subst (MayRefuseMade made t o text) (sym memory) tt
  program-refused units e (inr (large, many)) = subst (MayRefuseMade made t o text) (sym large) record {
    pattern = p;
    node = tree regex.node;
    units = units;
    of_text = read.of_text;
    many = subst (λ n. AreTooMany n (loops (tree regex.node))) same many;
  }
    where
      same : code.length_for units regex ≡ count units t (is_unicode o) (tree regex.node)
      same = λ i. count units (read.table i) (is_unicode (read.flags i)) (tree regex.node)

-- without `v` no program of a short text passes its count
short-passes-none : (made : Pattern → Pattern) (t : Table) (o : Options) (text : List ℕ) → o.sets ≡ false → length text ≤ 10000 → PassesCount made t o text → ⊥
short-passes-none made t o text plain short passes = few passes.many
  where
    node : Tree
    node = passes.node

    groups : ℕ
    groups = length (names_of (made passes.pattern))

    square : (length text + 4) * (length text + 4) ≤ 10004 * 10004
    square = let room : length text + 4 ≤ 10004 = omega (arith, short) in mul-le-mul room room

    few_loops : loops node ≤ 10000
    few_loops =
        let before = passes.of_text.of_text.whole.few_loops in
        let fewer = passes.of_text.rewritten.few_loops in
        omega (arith, before, fewer, short)

    few_groups : groups ≤ 10000
    few_groups = let before = passes.of_text.of_text.whole.few_groups in omega (arith, before, short)

    looped : loops node * groups ≤ 10000 * 10000
    looped = mul-le-mul few_loops few_groups

    few : AreTooMany (count passes.units t (is_unicode o) node) (loops node) → ⊥
    few (inl more) =
        let bounded = count-bounded passes.units t (is_unicode o) groups node passes.of_text.rewritten.well_formed in
        let small = passes.of_text.of_text.whole.small plain in
        let before = passes.of_text.of_text.whole.few_loops in
        let grown = passes.of_text.rewritten.few_nodes in
        absurd (omega (arith, more, bounded, small, grown, before, short, square, looped))
    few (inr more) = absurd (omega (arith, more, few_loops))

-- so it is not refused as too large
pub refused-fits : (made : Pattern → Pattern) (t : Table) (o : Options) (text : List ℕ) (e : Error) → MayRefuseMade made t o text e → o.sets ≡ false → length text ≤ 10000 → e ≢ TooLarge
refused-fits made t o text e refused plain short large = short-passes-none made t o text plain short (subst (MayRefuseMade made t o text) large refused)

-- nor where a limit is given
pub refused-fits-within : (limit : ℕ) (made : Pattern → Pattern) (t : Table) (o : Options) (text : List ℕ) (e : LimitError) → MayRefuseMadeWithin limit made t o text e
    → o.sets ≡ false → length text ≤ 10000 → e ≢ Refused TooLarge
refused-fits-within limit made t o text e refused plain short large =
    short-passes-none made t o text plain short (subst (MayRefuseMadeWithin limit made t o text) large refused)

-- a refusal of its reading is one of the pattern
pub read-refused-within : (limit : ℕ) (made : Pattern → Pattern) (t : Table) (o : Options) (text : List ℕ) (e : LimitError) → MayRefuseWithin limit made t o text e
    → MayRefuseMadeWithin limit made t o text e
read-refused-within limit made t o text PastLimit h = h
read-refused-within limit made t o text (Refused (Syntax message)) h = h
read-refused-within limit made t o text (Refused TooDeep) h = h
read-refused-within limit made t o text (Refused TooManyGroups) h = h
read-refused-within limit made t o text (Refused TooManyLoops) h = h
read-refused-within limit made t o text (Refused TooLarge) h = absurd h
read-refused-within limit made t o text (Refused OutOfMemory) h = h

-- a copy of a program is made for the same
pub copied-target : (compiled copy : CompiledRegex) → code.IsCopyOf compiled copy → target_of copy ≡ target_of compiled
copied-target compiled copy same = λ i. record { program = same.program i; table = table_known (same.tables i); unicode = is_unicode (options (same.flags i)) }

-- a copy of a program is one of the same pattern
pub copied-program : (compiled copy : CompiledRegex) → code.IsCopyOf compiled copy → (t : Table) (o : Options) (p : Pattern) → IsProgramOf compiled t o p → IsProgramOf copy t o p
copied-program compiled copy same t o p stands = record {
  table = ap table_known same.tables ∙ stands.table;
  flags = ap options same.flags ∙ stands.flags;
  names = ap (map chars) same.names ∙ stands.names;
  node = stands.node;
  well_formed = stands.well_formed;
  layout = subst (λ target. IsLayout target (length (names_of p)) stands.node) (sym (copied-target compiled copy same)) stands.layout;
  alike = stands.alike;
}
