use Rattle.std.specs.List.{AllZip}
use Rattle.std.proofs.Common.{◌≡◌, ◌+◌, ◌++◌, ◌∷◌, [], ◌∙◌, map, take, take_all, sym, ap, subst, arith}
use Rattle.std.proofs.lemmas.List.{map_more}
use Rattle.std.proofs.lemmas.Slice.Zip.{all_zipped_more}
use Rattle.regress_engine_insn.specs.ProgramViews.{bracket_ends}
use Rattle.regress_engine_code.specs.Told.{HasAscii}
use Rattle.regress_engine_code.proofs.ToldLemmas.{told-each}
use Rattle.regress_engine_code.proofs.brackets.ascii_of_each.Goals as goal

pub loop-contents-preserved : goal.loop-contents-preserved
loop-contents-preserved c =
    let xs = c.args.brackets.now in
    let i = c.loop-contents.contents-index in
    let x = c.contents-item.result in
    let more : map bracket_ends (take (i + 1) xs) ≡ map bracket_ends (take i xs) ++ bracket_ends x ∷ [] =
    map_more bracket_ends xs i x c.loop-contents-test.true ∙ ap (λ y. map bracket_ends (take i xs) ++ bracket_ends y ∷ []) (sym c.contents-item.is) in
    let pushed : c.push.new.self.items ≡ c.loop-contents.told.items ++ c.ascii_matched.result ∷ [] = c.in_ok-push.ensures.items in
    rw (more, pushed) (all_zipped_more HasAscii (map bracket_ends (take i xs)) c.loop-contents.told.items (bracket_ends x) c.ascii_matched.result c.loop-contents.invariant c.ascii_matched.ensures)

pub returns : goal.returns
returns c =
    told-each (map bracket_ends c.args.brackets.now) c.loop-contents.told.items
    (subst (λ xs. AllZip HasAscii (map bracket_ends xs) c.loop-contents.told.items) (take_all c.loop-contents.contents-index c.args.brackets.now (omega arith)) c.loop-contents.invariant)
