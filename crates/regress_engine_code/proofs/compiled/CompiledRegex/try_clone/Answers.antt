use Rattle.std.proofs.Common.{◌≡◌, List, Bool, ℕ, map, ap, rules, sym, subst}
use Rattle.std.proofs.Math.Logic.{∥∥₁_elim, ∥∥₁_prop}
use Rattle.regress_meaning.specs.Flags.{is_unicode}
use Rattle.regress_meaning.specs.Table.{Table}
use Rattle.regress_front_core.specs.FlagWords.{options}
use Rattle.regress_front_tables.specs.TableViews.{table, table_known}
use Rattle.regress_engine_code.proofs.ServingLemmas.{copy-serves}
use Rattle.regress_engine_insn.specs.Instructions.{Program}
use Rattle.regress_engine_analysis.specs.Planned.{ArePlanned, AreTabled}
use Rattle.regress_engine_analysis.specs.Shared.{facts_of, tables_of}
use Rattle.regress_engine_insn.specs.ProgramViews.{bracket_ends, program_from, target_from}
use Rattle.regress_engine_code.specs.Laid.{IsLaid}
use Rattle.regress_engine_code.specs.Standing.{program_of}
use Rattle.regress_engine_code.specs.Told.{AreToldAscii}
use Rattle.regress_engine_code.proofs.compiled.CompiledRegex.try_clone.Goals as goal

pub invariant_of-result : goal.invariant_of-result
invariant_of-result c =
    let self = c.args.self.now in
    let copy = c.in_ok-copy.field-0 in
    let same : program_from c.in_ok-to_vec.field-0.items c.in_ok-copies_of.field-0.items self.loops self.groups self.units ≡ program_of self = search rules in
    let laid : ∥ IsLaid (target_from (program_of self) self.tables self.flags) copy ∥₁ = ∥∥₁_elim self.laid ∥∥₁_prop
    (λ (n, t, formed, layout, serves). ∣ (n, t, formed, layout, copy-serves self.units t self.start_pred copy c.in_ok-copy.ensures serves) ∣₁) in
    let facts : facts_of c.in_ok-try_clone-2.field-0 ≡ facts_of self.plan = c.in_ok-try_clone-2.ensures.facts in
    let tables : tables_of c.in_ok-try_clone-2.field-0 ≡ tables_of self.plan = c.in_ok-try_clone-2.ensures.tables in
    let shared : table c.in_ok-try_clone.field-0 ≡ table self.tables = ap table_known c.in_ok-try_clone.ensures in
    let ends : map bracket_ends c.in_ok-copies_of.field-0.items ≡ map bracket_ends self.brackets.items = search rules in
    let kept : c.in_ok-to_vec-2.field-0.items ≡ self.ascii.items = search rules in
    record {
      laid = subst (λ (x : Table). ∥ IsLaid (record { program = program_from c.in_ok-to_vec.field-0.items c.in_ok-copies_of.field-0.items self.loops self.groups self.units; table = x; unicode = is_unicode (options self.flags) }) copy ∥₁)
          (sym shared) (subst (λ (p : Program). ∥ IsLaid (target_from p self.tables self.flags) copy ∥₁) (sym same) laid);
      planned = subst (λ (p : Program). ArePlanned p (facts_of c.in_ok-try_clone-2.field-0)) (sym same) (subst (ArePlanned (program_of self)) (sym facts) self.planned);
      told = subst (AreToldAscii (map bracket_ends c.in_ok-copies_of.field-0.items)) (sym kept) (subst (λ (xs : List (Bool × List (ℕ × ℕ))). AreToldAscii xs self.ascii.items) (sym ends) self.told);
      tabled = subst (λ (p : Program). AreTabled p (facts_of c.in_ok-try_clone-2.field-0) (tables_of c.in_ok-try_clone-2.field-0)) (sym same)
          (rw (facts, tables) self.tabled);
      submatches = search rules;
    }
