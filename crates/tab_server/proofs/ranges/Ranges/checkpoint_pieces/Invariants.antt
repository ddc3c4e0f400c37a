-- The pieces are the frames of the ranges so far, which are as a server holds them.
use Rattle.std.proofs.Common.{◌≡◌, take}
use Rattle.std.specs.List.{AllByRecursion}
use Rattle.tab_server.specs.Rewriting.{checkpoint_frames, IsHeld}
use Rattle.tab_server.specs.Contents.{told_ranges}
use Rattle.tab_server.proofs.ranges.Ranges.checkpoint_pieces.Given as goal

abbrev pub invariant-loop-marked : goal.invariant-loop-marked
invariant-loop-marked g l =
    (l.pieces.items ≡ checkpoint_frames (told_ranges (take l.marked-index l.self))) × AllByRecursion IsHeld (told_ranges (take l.marked-index l.self))
