use Rattle.std.specs.Str.{chars}
use Rattle.std.proofs.Common.{map, length}
use Rattle.regress_meaning.specs.Offsets.{of_utf8, told}
use Rattle.regress_meaning.specs.Pattern.{names_of}
use Rattle.regress.specs.Standing.{tree_list}
use Rattle.regress.proofs.ListedLemmas.{pattern-in_text}
use Rattle.regress.proofs.SplittingLemmas.{parts-made}
use Rattle.regress.proofs.api.Regex.split.Goals as goal

pub returns-clause-parts_of_tree : goal.returns-clause-parts_of_tree
returns-clause-parts_of_tree c = λ n t laid.
    let text = c.args.text.now in
    parts-made text (map (told (of_utf8 text)) (tree_list c.args.self.now n t (chars text) 0)) c.new.result c.new.ensures.begins (c.new.ensures.matches_of_tree n t laid)

pub returns-clause-parts : goal.returns-clause-parts
returns-clause-parts c = λ t o p stands.
    rw (pattern-in_text c.args.self.now.compiled.byte_program t o p stands c.args.text.now c.utf8.text 0)
    (returns-clause-parts_of_tree c (length (names_of p)) stands.node (stands.well_formed, stands.layout))
