use Rattle.std.proofs.Common.{length, chars, refl}
use Rattle.regress_meaning.specs.Pattern.{names_of}
use Rattle.regress_front_bytes.proofs.TextLemmas.{chars-code_points}
use Rattle.regress_engine_input.specs.Views.{utf8}
use Rattle.regress.specs.Standing.{byte_target}
use Rattle.regress_programs.proofs.OutcomeLemmas.{pattern-outcome}
use Rattle.regress.proofs.ToldLemmas.{told-shown, inside-shown, lies-in_text}
use Rattle.regress.proofs.api.Regex.match_at.Goals as goal

pub returns-clause-found_of_tree : goal.returns-clause-found_of_tree
returns-clause-found_of_tree c = λ n t laid.
    told-shown _ _ c.new-input.ensures (byte_target c.args.self.now) n t c.args.start c.in_ok-found.found (c.in_ok-found.ensures.of_tree n t laid)

pub returns-clause-found : goal.returns-clause-found
returns-clause-found c = λ t o p stands place begins.
    let text = chars c.args.text.now in
    rw (pattern-outcome c.args.self.now.compiled.byte_program t o p stands text (chars-code_points c.args.text.now c.utf8.text) place)
    (returns-clause-found_of_tree c (length (names_of p)) stands.node (stands.well_formed, stands.layout) place begins)

pub returns-clause-inside : goal.returns-clause-inside
returns-clause-inside c =
    lies-in_text utf8 c.args.text.now refl c.utf8.text c.in_ok-found.found (inside-shown _ _ c.new-input.ensures c.in_ok-found.found c.in_ok-found.ensures.inside)

pub returns-clause-begins : goal.returns-clause-begins
returns-clause-begins c = c.in_ok-found.ensures.begins refl
