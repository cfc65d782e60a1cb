use Rattle.std.proofs.Common.{◌≡◌, ℕ, Bool, false, length, map, chars, String, Vec, Global, refl, sym, ap, ◌∙◌, subst, arith}
use Rattle.std.specs.String.{string_bytes}
use Rattle.std.specs.Arc.{arc_slice_items}
use Rattle.std.proofs.lemmas.List.{length-map}
use Rattle.std.proofs.lemmas.Simd.{map-map}
use Rattle.regress_meaning.specs.Flags.{is_unicode}
use Rattle.regress_meaning.specs.Table.{Table}
use Rattle.regress_front_core.specs.FlagWords.{options}
use Rattle.regress_front_tables.specs.TableViews.{table, table_known}
use Rattle.regress_front_nodes.specs.Trees.{Tree, tree}
use Rattle.regress_front_nodes.specs.Names.{names_in, name_texts}
use Rattle.regress_front_nodes.specs.WellFormed.{IsWellFormed}
use Rattle.regress_front_nodes.proofs.NameLemmas.{names-counted}
use Rattle.regress_engine_insn.specs.InsnViews.{instruction}
use Rattle.regress_engine_analysis.specs.Planned.{ArePlanned, AreTabled}
use Rattle.regress_engine_analysis.specs.Shared.{facts_of, tables_of}
use Rattle.regress_engine_analysis.specs.Submatches.{has_submatches}
use Rattle.regress_engine_insn.specs.ProgramViews.{bracket_ends, program_from}
use Rattle.regress_engine_insn.specs.Layout.{Target, IsLayout}
use Rattle.regress_engine_code.specs.Told.{AreToldAscii}
use Rattle.regress_engine_code.specs.Written.{written, AddsTree}
use Rattle.regress_engine_insn.proofs.BeginLemmas.{all-begin}
use Rattle.regress_engine_code.proofs.EmitLemmas.{err-refused}
use Rattle.regress_engine_code.proofs.StandingLemmas.{groups-few, told-layout, whole-counted}
use Rattle.regress_engine_code.proofs.emission.whole_program.Goals as goal

-- the names of a well-formed tree are as many as its groups
group-for-name : (n : ℕ) (t : Tree) (names : Vec (String Global) Global) → IsWellFormed n t → name_texts names ≡ names_in t → length names.items ≡ n
group-for-name n t names formed named =
    sym (length-map names.items (λ name. chars (string_bytes name))) ∙ ap length named ∙ names-counted n t formed.numbered

pub returns-clause-emitted : goal.returns-clause-emitted
returns-clause-emitted c =
    let regex = c.args.regex.now in
    let (n, formed) = c.requires in
    let t = tree regex.node in
    let unicode = is_unicode (options regex.flags) in
    let start = written c.in_ok-code.code in
    let w = written c.node.new.code in
    let adds = subst (λ (u : Bool). AddsTree c.args.units (table regex.tables.now) u false t start w) c.is_unicode.ensures c.in_ok-node.ensures.added in
    let counted = whole-counted c.args.units (table regex.tables.now) unicode n t start w c.in_ok-code.ensures formed.lawful adds in
    let target : Target = record {
      program = record { instructions = w.instructions; brackets = w.brackets; loops = c.from.result; groups = c.in_ok-groups.groups; units = c.args.units };
      table = table regex.tables.now;
      unicode = unicode;
    } in
    let shared : table c.in_ok-tables.tables ≡ table regex.tables.now = ap table_known c.in_ok-tables.ensures in
    let grouped = c.in_ok-groups.ensures.ok ∙ ap length c.deref.ensures.value ∙ group-for-name n t c.in_ok-names.names formed c.in_ok-names.ensures in
    let layout = told-layout c.args.units (table regex.tables.now) unicode _ n t start w c.from.result c.in_ok-groups.groups
    c.in_ok-code.ensures c.is_unicode.ensures c.in_ok-node.ensures.added c.from.ensures grouped in
    record {
      flags = refl;
      table = shared;
      names = map-map chars string_bytes (arc_slice_items c.in_ok-group_names.group_names)
          ∙ ap (map (λ (name : String Global). chars (string_bytes name))) c.in_ok-group_names.ensures ∙ c.in_ok-names.ensures;
      layout = subst (λ (x : Table). IsLayout (record target { table = x }) (length (names_in t)) t) (sym shared)
          (subst (λ (m : ℕ). IsLayout target m t) (sym (names-counted n t formed.numbered)) layout);
      counted = sym (length-map c.node.new.code.insns.items instruction) ∙ counted.0;
      loops = c.from.ensures ∙ counted.1;
      begun = all-begin target n t layout;
      start = c.in_ok-start_pred.ensures.serves;
    }

pub invariant_of-result : goal.invariant_of-result
invariant_of-result c =
    let regex = c.args.regex.now in
    let (n, formed) = c.requires in
    let t = tree regex.node in
    let w = written c.node.new.code in
    let target : Table → Target = λ x. record {
      program = record { instructions = w.instructions; brackets = w.brackets; loops = c.from.result; groups = c.in_ok-groups.groups; units = c.args.units };
      table = x;
      unicode = is_unicode (options regex.flags);
    } in
    let shared : table c.in_ok-tables.tables ≡ table regex.tables.now = ap table_known c.in_ok-tables.ensures in
    let grouped = c.in_ok-groups.ensures.ok ∙ ap length c.deref.ensures.value ∙ group-for-name n t c.in_ok-names.names formed c.in_ok-names.ensures in
    record {
      laid = ∣ (
        n,
        t,
        formed,
        subst (λ (x : Table). IsLayout (target x) n t) (sym shared)
            (told-layout c.args.units (table regex.tables.now) (is_unicode (options regex.flags)) _ n t (written c.in_ok-code.code) w
            c.from.result c.in_ok-groups.groups c.in_ok-code.ensures c.is_unicode.ensures c.in_ok-node.ensures.added c.from.ensures
            grouped),
        c.in_ok-start_pred.ensures.serves,
      ) ∣₁;
      planned = subst (λ brackets. ArePlanned (program_from c.node.new.code.insns.items brackets c.from.result c.in_ok-groups.groups c.args.units) (facts_of c.in_ok-plan.plan)) c.deref-3.ensures.value
          (subst (λ insns. ArePlanned (program_from insns c.deref-3.result.now c.from.result c.in_ok-groups.groups c.args.units) (facts_of c.in_ok-plan.plan)) c.deref-2.ensures.value
          (c.in_ok-plan.ensures.planned c.from.result c.in_ok-groups.groups));
      told = subst (λ brackets. AreToldAscii (map bracket_ends brackets) c.in_ok-ascii.ascii.items) c.deref-4.ensures.value c.in_ok-ascii.ensures;
      tabled = subst (λ brackets. AreTabled (program_from c.node.new.code.insns.items brackets c.from.result c.in_ok-groups.groups c.args.units) (facts_of c.in_ok-plan.plan) (tables_of c.in_ok-plan.plan)) c.deref-3.ensures.value
          (subst (λ insns. AreTabled (program_from insns c.deref-3.result.now c.from.result c.in_ok-groups.groups c.args.units) (facts_of c.in_ok-plan.plan) (tables_of c.in_ok-plan.plan)) c.deref-2.ensures.value
          (c.in_ok-plan.ensures.tabled c.from.result c.in_ok-groups.groups));
      submatches = c.in_ok-plan.ensures.submatches ∙ ap has_submatches c.deref-2.ensures.value;
    }

pub returns-in_err-groups-clause-refused : goal.returns-in_err-groups-clause-refused
returns-in_err-groups-clause-refused c =
    let regex = c.args.regex.now in
    let (n, formed) = c.requires in
    let few = groups-few c.args.units (table regex.tables.now) (is_unicode (options regex.flags)) n (tree regex.node) formed in
    let same = ap length c.deref.ensures.value ∙ group-for-name n (tree regex.node) c.in_ok-names.names formed c.in_ok-names.ensures in
    err-refused c.from_residual-in_err-groups.result c.in_err-groups.field-0.0 _ _ _ _ c.from_residual-in_err-groups.ensures.1 c.in_err-groups.ensures.err (omega (arith, few, same)) (omega arith)
