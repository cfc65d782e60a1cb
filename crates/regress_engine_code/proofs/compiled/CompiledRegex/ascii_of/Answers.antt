use Rattle.std.proofs.Common.{◌≡◌, ◌<◌, ◌∙◌, map, length, sym, ap, arith}
use Rattle.std.proofs.lemmas.List.{length-map, get_or-map}
use Rattle.regress_engine_insn.specs.ProgramViews.{bracket_ends}
use Rattle.regress_engine_code.proofs.compiled.CompiledRegex.ascii_of.Goals as goal

pub index-requires : goal.index-requires
index-requires c =
    let self = c.args.self.now in
    let same : length self.ascii.items ≡ length self.brackets.items = self.told.count ∙ length-map self.brackets.items bracket_ends in
    omega (arith, same)

pub returns : goal.returns
returns c = λ class is.
    let self = c.args.self.now in
    let size = length-map self.brackets.items bracket_ends in
    let inside : c.args.index < length (map bracket_ends self.brackets.items) = omega (arith, size) in
    self.told.each c.args.index inside (bracket_ends class) c.index.result.now
    (ap bracket_ends is ∙ sym (get_or-map bracket_ends self.brackets.items c.args.index class (bracket_ends class) c.requires)) c.index.ensures
