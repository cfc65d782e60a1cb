use Rattle.regress_front_tables.specs.TableViews.{table}
use Rattle.regress_front_tree.proofs.TextTerms.{made-pieces}
use Rattle.regress_front_tree.proofs.lowering.text_pieces.Goals as goal

pub returns : goal.returns
returns c =
    let made = c.try_lower_code_point_sequence.ensures in
    made-pieces (table c.args.tables.now) c.args.unicode c.args.icase c.args.points.now c.try_lower_code_point_sequence.result c.requires made.pieces made.lawful
