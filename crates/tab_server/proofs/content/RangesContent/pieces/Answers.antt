use Rattle.tab_server.proofs.Checkpoints.{server_checkpoint}
use Rattle.tab_server.proofs.content.RangesContent.pieces.Goals as goal

pub returns : goal.returns
returns g c = server_checkpoint _ _ c.in_ok-pieces.ensures
