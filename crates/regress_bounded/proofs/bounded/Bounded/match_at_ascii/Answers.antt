use Rattle.std.proofs.Common.{length, refl, ap, ◌∙◌, sym, subst, ℕ, chars}
use Rattle.std.proofs.lemmas.Result.{IfOk-weaker}
use Rattle.regress_meaning.specs.Flags.{is_unicode}
use Rattle.regress_meaning.specs.Pattern.{names_of}
use Rattle.regress_front_core.specs.FlagWords.{options}
use Rattle.regress_front.specs.TableViews.{table}
use Rattle.regress_engine_input.specs.Views.{ascii, View, reading_of}
use Rattle.regress_programs.specs.declared.slots.Anchored.TheVariants.{Yes}
use Rattle.regress_programs.proofs.ToldLemmas.{lies-in_text, starts-in_text}
use Rattle.regress_bounded.specs.Standing.{byte_program_of, steps_of}
use Rattle.regress_bounded.proofs.AlikeLemmas.{first-alike}
use Rattle.regress_bounded.proofs.ShownLemmas.{first-shown, places-shown, seen-as, takes-shown}
use Rattle.regress_meaning.specs.Offsets.{Begins, of_ascii, of_utf8}
use Rattle.regress_front_bytes.proofs.TextLemmas.{chars-code_points}
use Rattle.regress_engine_search.proofs.ByteTexts.{begins-alike, bytes-alike}
use Rattle.regress_programs.proofs.OutcomeLemmas.{pattern-outcome}
use Rattle.regress_programs.proofs.UnitLemmas.{begins-anywhere}
use Rattle.regress_bounded.proofs.bounded.Bounded.match_at_ascii.Goals as goal

pub first_within-requires-clause-start : goal.first_within-requires-clause-start
first_within-requires-clause-start c = subst (λ (x : View). (place : ℕ) × Begins (reading_of x) c.args.start place) (sym c.new-input.ensures) (begins-anywhere c.args.text.now c.args.start)

pub returns-clause-found_of_tree : goal.returns-clause-found_of_tree
returns-clause-found_of_tree c = λ n t laid place begins.
    let bytes = c.args.text.now in
    let alike = bytes-alike ascii bytes refl c.requires in
    first-alike bytes c.requires Yes (byte_program_of c.args.self.now) n t place c.first_within.result
    (first-shown _ _ c.new-input.ensures c.first_within.result Yes (byte_program_of c.args.self.now) n t c.args.start (c.first_within.ensures.of_tree n t laid) place
    (begins-alike (of_ascii bytes) (of_utf8 bytes) alike c.args.start place begins))

pub returns-clause-found : goal.returns-clause-found
returns-clause-found c = λ t o p stands place begins.
    let text = chars c.args.text.now in
    rw (pattern-outcome (byte_program_of c.args.self.now) t o p stands text (chars-code_points c.args.text.now c.utf8.text) place)
    (returns-clause-found_of_tree c (length (names_of p)) stands.node (stands.well_formed, stands.layout) place begins)

pub returns-clause-begins : goal.returns-clause-begins
returns-clause-begins c = c.first_within.ensures.begins refl

pub returns-clause-inside : goal.returns-clause-inside
returns-clause-inside c =
    IfOk-weaker c.first_within.result _ _ (λ found inside. lies-in_text ascii c.args.text.now refl c.requires found inside)
    (places-shown _ _ c.new-input.ensures c.first_within.result c.first_within.ensures.inside)

pub returns-clause-starts : goal.returns-clause-starts
returns-clause-starts c = IfOk-weaker c.first_within.result _ _ (λ found lies. starts-in_text c.args.text.now c.utf8.text found lies) (returns-clause-inside c)

pub returns-clause-stopped : goal.returns-clause-stopped
returns-clause-stopped c =
    let same = seen-as _ (byte_program_of c.args.self.now) ascii c.args.text.now _ _ c.new-input.ensures (ap table c.tables.ensures) (c.is_unicode.ensures ∙ ap (λ f. is_unicode (options f)) c.flags.ensures) in
    takes-shown c.first_within.result _ _ c.byte_table-table.ensures.table Yes (byte_program_of c.args.self.now) c.args.start (steps_of c.args.self.now) _ _ same c.first_within.ensures.stopped
