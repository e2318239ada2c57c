-- The array has room for a piece.
use Rattle.std.proofs.Common.{arith}
use Rattle.sat_mutex.proofs.print_clauses.Goals as goal

pub print_pieces-requires : goal.print_pieces-requires
print_pieces-requires g c = (c.args.following.now.fit.fits, c.requires, omega arith)
