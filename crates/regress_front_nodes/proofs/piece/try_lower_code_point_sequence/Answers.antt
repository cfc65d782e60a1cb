use Rattle.std.proofs.Common.{◌≡◌, ℕ, ◌+◌, ◌≤◌, List, length, get_or, take, drop, map, sym, ap, ◌∙◌, arith}
use Rattle.std.proofs.lemmas.List.{take_all}
use Rattle.std.proofs.lemmas.List.Elements.{All-same, All-more}
use Rattle.regress_meaning.specs.Table.{Table, last_code_point}
use Rattle.regress_front_tables.specs.TableViews.{table}
use Rattle.regress_front_nodes.specs.Trees.{Tree}
use Rattle.regress_front_nodes.specs.WellFormed.{AreLawful}
use Rattle.regress_front_nodes.specs.Pieces.{piece_tree, completed, before, expansion, pieces_of}
use Rattle.regress_front_nodes.specs.declared.piece.OpenPieces.{OpenPieces}
use Rattle.regress_front_nodes.proofs.PieceLemmas.{expansion-listed, expansion-points, pieces-step, pieces-end, pieces-lawful}
use Rattle.regress_front_nodes.proofs.piece.try_lower_code_point_sequence.Goals as goal

pub add-requires : goal.add-requires
add-requires c =
    let t : Table = table c.args.tables.now in
    let cp : ℕ = get_or c.args.cps.now c.loop-cp.cp-index 0 in
    let members : List ℕ = c.in_ok-members.members.items in
    let told = c.in_ok-members.ensures in
    let valid : cp ≤ last_code_point = c.requires c.loop-cp.cp-index 0 c.loop-cp-test.true in
    All-same (λ d. d ≤ last_code_point) members (expansion t c.args.icase c.args.unicode cp) (expansion-listed t c.args.unicode cp c.args.icase members told.alone told.all)
    (expansion-points t c.args.unicode cp c.args.icase valid)

pub loop-cp-preserved : goal.loop-cp-preserved
loop-cp-preserved c =
    let t : Table = table c.args.tables.now in
    let i : ℕ = c.loop-cp.cp-index in
    let cp : ℕ = get_or c.args.cps.now i 0 in
    let members : List ℕ = c.in_ok-members.members.items in
    let told = c.in_ok-members.ensures in
    let listed : members ≡ expansion t c.args.icase c.args.unicode cp = expansion-listed t c.args.unicode cp c.args.icase members told.alone told.all in
    let rest : List Tree = pieces_of t c.args.icase c.args.unicode (drop (i + 1) c.args.cps.now) in
    let front : OpenPieces = c.loop-cp.front in
    let size = told.few.1 in
    let same = ap (λ (ms : List ℕ). length ms) listed in
    let few : length (expansion t c.args.icase c.args.unicode cp) ≤ 4 = omega arith in (
      c.in_ok-add.ensures rest ∙ ap (λ (ms : List ℕ). completed front (before ms rest)) listed
          ∙ ap (λ (ts : List Tree). completed front ts) (sym (pieces-step t c.args.icase c.args.unicode c.args.cps.now i c.loop-cp-test.true))
          ∙ c.loop-cp.invariant.0,
      All-more (λ d. length (expansion t c.args.icase c.args.unicode d) ≤ 4) c.args.cps.now i 0 c.loop-cp-test.true c.loop-cp.invariant.1 few,
    )

pub returns : goal.returns
returns c =
    let t : Table = table c.args.tables.now in
    let cps : List ℕ = c.args.cps.now in
    let whole : take c.loop-cp.cp-index cps ≡ cps = take_all c.loop-cp.cp-index cps (omega arith) in
    let same : map piece_tree c.close.new.self.pieces.items ≡ pieces_of t c.args.icase c.args.unicode cps =
    c.in_ok-close.ensures.pieces
    ∙ ap (λ (ts : List Tree). completed c.loop-cp.front ts) (sym (pieces-end t c.args.icase c.args.unicode cps c.loop-cp.cp-index (omega arith)))
    ∙ c.loop-cp.invariant.0 in
    let Few : ℕ → Type 0 = λ d. length (expansion t c.args.icase c.args.unicode d) ≤ 4 in
    record {
      pieces = same;
      lawful = All-same (AreLawful 0) (map piece_tree c.close.new.self.pieces.items) (pieces_of t c.args.icase c.args.unicode cps) same
          (pieces-lawful t c.args.icase c.args.unicode cps c.requires (All-same Few cps (take c.loop-cp.cp-index cps) (sym whole) c.loop-cp.invariant.1));
    }
