use Rattle.std.proofs.Common.{length, refl, ap, ◌∙◌, inl, arith}
use Rattle.std.proofs.lemmas.Result.{IfOk-weaker}
use Rattle.regress_meaning.specs.Flags.{is_unicode}
use Rattle.regress_meaning.specs.Pattern.{names_of}
use Rattle.regress_front_core.specs.FlagWords.{options}
use Rattle.regress_front.specs.TableViews.{table}
use Rattle.regress_engine_input.specs.Views.{ascii}
use Rattle.regress_programs.specs.declared.slots.Anchored.TheVariants.{No}
use Rattle.regress_programs.proofs.ToldLemmas.{lies-in_text, starts-in_text}
use Rattle.regress_bounded.specs.Standing.{byte_program_of, steps_of}
use Rattle.regress_bounded.proofs.AlikeLemmas.{first-alike}
use Rattle.regress_bounded.proofs.ShownLemmas.{first-shown, places-shown, seen-as, takes-shown}
use Rattle.regress_programs.proofs.ListedLemmas.{pattern-in_text}
use Rattle.regress_bounded.proofs.bounded.Bounded.find_ascii.Goals as goal

pub returns-clause-found_of_tree : goal.returns-clause-found_of_tree
returns-clause-found_of_tree c = λ n t laid.
    first-alike c.args.text.now c.requires No (byte_program_of c.args.self.now) n t 0 c.first_within.result
    (first-shown _ _ c.new-input.ensures c.first_within.result No (byte_program_of c.args.self.now) n t 0 (c.first_within.ensures.of_tree n t laid) 0 (inl (omega arith, refl)))

pub returns-clause-found : goal.returns-clause-found
returns-clause-found c = λ t o p stands.
    rw (pattern-in_text (byte_program_of c.args.self.now) t o p stands c.args.text.now c.utf8.text 0)
    (returns-clause-found_of_tree c (length (names_of p)) stands.node (stands.well_formed, stands.layout))

pub returns-clause-inside : goal.returns-clause-inside
returns-clause-inside c =
    IfOk-weaker c.first_within.result _ _ (λ found inside. lies-in_text ascii c.args.text.now refl c.requires found inside)
    (places-shown _ _ c.new-input.ensures c.first_within.result c.first_within.ensures.inside)

pub returns-clause-starts : goal.returns-clause-starts
returns-clause-starts c = IfOk-weaker c.first_within.result _ _ (λ found lies. starts-in_text c.args.text.now c.utf8.text found lies) (returns-clause-inside c)

pub returns-clause-stopped : goal.returns-clause-stopped
returns-clause-stopped c =
    let same = seen-as _ (byte_program_of c.args.self.now) ascii c.args.text.now _ _ c.new-input.ensures (ap table c.tables.ensures) (c.is_unicode.ensures ∙ ap (λ f. is_unicode (options f)) c.flags.ensures) in
    takes-shown c.first_within.result _ _ c.byte_table-table.ensures.table No (byte_program_of c.args.self.now) 0 (steps_of c.args.self.now) _ _ same c.first_within.ensures.stopped
