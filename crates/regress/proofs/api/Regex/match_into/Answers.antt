use Rattle.std.proofs.Common.{length, chars, refl}
use Rattle.regress_meaning.specs.Pattern.{names_of}
use Rattle.regress_front_bytes.proofs.TextLemmas.{chars-code_points}
use Rattle.regress_programs.specs.declared.slots.Anchored.TheVariants.{Yes}
use Rattle.regress_programs.proofs.OutcomeLemmas.{pattern-outcome}
use Rattle.regress.proofs.ToldLemmas.{fills-shown, slots-shown, slots-in_text, ends-are_starts}
use Rattle.regress.proofs.api.Regex.match_into.Goals as goal

pub returns-clause-found_of_tree : goal.returns-clause-found_of_tree
returns-clause-found_of_tree c = λ n t laid.
    fills-shown _ _ c.new-input.ensures Yes c.args.self.now.compiled.byte_program n t c.args.start c.in_ok-found.found c.args.slots.now c.find_into.new.slots
    (c.in_ok-found.ensures.of_tree n t laid)

pub returns-clause-found : goal.returns-clause-found
returns-clause-found c = λ t o p stands place begins.
    rw (pattern-outcome c.args.self.now.compiled.byte_program t o p stands (chars c.args.text.now) (chars-code_points c.args.text.now c.utf8.text) place)
    (returns-clause-found_of_tree c (length (names_of p)) stands.node (stands.well_formed, stands.layout) place begins)

pub returns-clause-inside : goal.returns-clause-inside
returns-clause-inside c =
    slots-in_text c.args.text.now c.utf8.text c.in_ok-found.found c.find_into.new.slots
    (slots-shown _ _ c.new-input.ensures c.in_ok-found.found c.find_into.new.slots c.in_ok-found.ensures.inside)

pub returns-clause-starts : goal.returns-clause-starts
returns-clause-starts c = ends-are_starts c.args.text.now c.utf8.text c.in_ok-found.found c.find_into.new.slots (returns-clause-inside c)

pub returns-clause-begins : goal.returns-clause-begins
returns-clause-begins c = c.in_ok-found.ensures.begins refl
