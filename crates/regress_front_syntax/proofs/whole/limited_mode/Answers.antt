use Rattle.std.proofs.Common.{◌≡◌, ap, length, arith}
use Rattle.std.proofs.lemmas.List.{length-map}
use Rattle.regress_meaning.specs.Scan.{scanned_names}
use Rattle.regress_front_core.specs.FlagWords.{options}
use Rattle.regress_front_tables.specs.TableViews.{table}
use Rattle.regress_front_tokens.specs.Escapes.{texts}
use Rattle.regress_front_tokens.specs.Words.{code_points_of}
use Rattle.regress_front_syntax.proofs.PatternLemmas.{groups-passed}
use Rattle.regress_front_syntax.proofs.whole.limited_mode.Goals as goal

pub returns-then-len-gt-MAX_CAPTURE_GROUPS-clause-refused : goal.returns-then-len-gt-MAX_CAPTURE_GROUPS-clause-refused
returns-then-len-gt-MAX_CAPTURE_GROUPS-clause-refused c =
    let tb = table c.args.tables.now in
    let o = options c.args.flags in
    let t = c.args.points.now in
    let names : texts c.in_ok-mode.mode.names ≡ scanned_names tb o t = ap (λ m. m.names) c.in_ok-mode.ensures.ok in
    let many = c.if-len-gt-MAX_CAPTURE_GROUPS.true in
    let count = c.len.ensures in
    groups-passed tb o t (c.names_are_found_by_a_scan.ensures tb o t) (omega (arith, many, count, ap length names, length-map c.in_ok-mode.mode.names.items code_points_of))
