use Rattle.std.proofs.Common.{◌≡◌, length}
use Rattle.regress_meaning.specs.Tokens.{name_at}
use Rattle.regress_front_tables.specs.TableViews.{table}
use Rattle.regress_front_tokens.specs.Cursors.{unread}
use Rattle.regress_front_tokens.specs.Words.{code_points_of}
use Rattle.regress_front_tokens.proofs.NameLemmas.{behind, rest_at}
use Rattle.regress_front_tokens.proofs.cursor.Cursor.try_name.Given as goal

abbrev pub invariant-loop-ahead : goal.invariant-loop-ahead
invariant-loop-ahead l = record {
  read : name_at (table l.tables) (unread l.fn.self) ≡ behind (code_points_of l.name) (rest_at (table l.tables) (unread l.ahead));
  kept : l.ahead.points.now ≡ l.fn.self.points.now;
}

abbrev pub decreases-loop-ahead : goal.decreases-loop-ahead
decreases-loop-ahead l = length (unread l.ahead)
