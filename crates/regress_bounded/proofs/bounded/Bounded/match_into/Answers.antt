use Rattle.std.proofs.Common.{length, refl, ap, ◌∙◌, chars}
use Rattle.std.proofs.lemmas.Result.{IfOk-weaker}
use Rattle.regress_meaning.specs.Flags.{is_unicode}
use Rattle.regress_meaning.specs.Pattern.{names_of}
use Rattle.regress_front_core.specs.FlagWords.{options}
use Rattle.regress_front.specs.TableViews.{table}
use Rattle.regress_engine_input.specs.Views.{utf8}
use Rattle.regress_programs.specs.declared.slots.Anchored.TheVariants.{Yes}
use Rattle.regress_bounded.specs.Standing.{byte_program_of, steps_of}
use Rattle.regress_bounded.proofs.AlikeLemmas.{filled-shown, slots-shown}
use Rattle.regress_bounded.proofs.ShownLemmas.{seen-as, takes-shown}
use Rattle.regress_front_bytes.proofs.TextLemmas.{chars-code_points}
use Rattle.regress_programs.proofs.OutcomeLemmas.{pattern-outcome}
use Rattle.regress_programs.proofs.ToldLemmas.{slots-in_text, ends-are_starts}
use Rattle.regress_bounded.proofs.bounded.Bounded.match_into.Goals as goal

pub returns-clause-found_of_tree : goal.returns-clause-found_of_tree
returns-clause-found_of_tree c = λ n t laid.
    filled-shown _ _ c.new-input.ensures c.find_into_within.result c.args.slots.now c.find_into_within.new.slots Yes (byte_program_of c.args.self.now) n t c.args.start
    (c.find_into_within.ensures.of_tree n t laid)

pub returns-clause-found : goal.returns-clause-found
returns-clause-found c = λ t o p stands place begins.
    rw (pattern-outcome (byte_program_of c.args.self.now) t o p stands (chars c.args.text.now) (chars-code_points c.args.text.now c.utf8.text) place)
    (returns-clause-found_of_tree c (length (names_of p)) stands.node (stands.well_formed, stands.layout) place begins)

pub returns-clause-begins : goal.returns-clause-begins
returns-clause-begins c = c.find_into_within.ensures.begins refl

pub returns-clause-inside : goal.returns-clause-inside
returns-clause-inside c =
    IfOk-weaker c.find_into_within.result _ _ (λ found inside. slots-in_text c.args.text.now c.utf8.text found c.find_into_within.new.slots inside)
    (slots-shown _ _ c.new-input.ensures c.find_into_within.result c.args.slots.now c.find_into_within.new.slots c.find_into_within.ensures.inside)

pub returns-clause-starts : goal.returns-clause-starts
returns-clause-starts c =
    IfOk-weaker c.find_into_within.result _ _ (λ found lie. ends-are_starts c.args.text.now c.utf8.text found c.find_into_within.new.slots lie) (returns-clause-inside c)

pub returns-clause-stopped : goal.returns-clause-stopped
returns-clause-stopped c =
    let same = seen-as _ (byte_program_of c.args.self.now) utf8 c.args.text.now _ _ c.new-input.ensures (ap table c.tables.ensures) (c.is_unicode.ensures ∙ ap (λ f. is_unicode (options f)) c.flags.ensures) in
    takes-shown c.find_into_within.result _ _ c.byte_table-table.ensures.table Yes (byte_program_of c.args.self.now) c.args.start (steps_of c.args.self.now) _ _ same c.find_into_within.ensures.stopped
