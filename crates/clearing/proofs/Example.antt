-- The worked example, computed.
use Rattle.std.proofs.Common.{refl}
use lib.Count.{ones, ones_in}
use Rattle.matrices.specs.Matrices.{add_row, add_column}
use Rattle.clearing.specs.Clearing.{clear, rising, sweep_at, pivot, greedy_at, solved, below, try, best, helpers}
use Rattle.clearing.specs.Pairs.{differing}
use Rattle.clearing.specs.Example.{Line0}

pub line_0 : Line0
unfolding add_row add_column differing ones ones_in clear rising sweep_at pivot greedy_at solved below try best helpers
line_0 = (refl, refl, refl)
