use Rattle.regress_front_nodes.proofs.PieceOutcomes.{pieces-outcomes, back-outcomes}
use Rattle.regress_front_nodes.proofs.piece.pieces_match_their_string.Goals as goal

pub returns : goal.returns
returns c = record {
  backward = λ context icase cs s valid points inside. back-outcomes context valid icase cs s points inside;
  forward = λ context icase cs s valid points inside. pieces-outcomes context valid icase cs s points inside;
}
