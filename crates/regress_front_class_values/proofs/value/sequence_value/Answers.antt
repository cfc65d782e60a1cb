use Rattle.std.proofs.Common.{ℕ, ◌∙◌, Option, List, [], All, sym, ap, unwrap_or}
use Rattle.regress_meaning.specs.TableParts.{is_code_point}
use Rattle.regress_meaning.specs.Class.{of_list}
use Rattle.regress_front_class_values.specs.ClassValues.{lists}
use Rattle.regress_front_class_values.proofs.ClassLemmas.{only-none, entry-all}
use Rattle.regress_front_class_values.proofs.value.sequence_value.Goals as goal

pub of_strings-requires : goal.of_strings-requires
of_strings-requires c = entry-all (All (All is_code_point)) _ _ (lists c.in-Some.strings.now) c.args.tables.now.lawful.range.1 (sym c.in-Some.ensures)

pub returns-in-None : goal.returns-in-None
returns-in-None c =
    c.of_points.ensures ∙ only-none c.new.result c.new.ensures ∙ ap (λ (o : Option (List (List ℕ))). of_list (unwrap_or o [])) c.in-None.ensures
