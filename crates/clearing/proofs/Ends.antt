-- The theorems: what clearing a line leaves, and what a run leaves.
use Rattle.std.proofs.Common.{arith}
use Rattle.std.proofs.lemmas.Bool.{both_ways}
use Rattle.matrices.proofs.Identities.{identity_by_rows}
use Rattle.clearing.specs.Clearing.{solved, start, clear, run}
use Rattle.clearing.specs.Pairs.{pairs}
use Rattle.clearing.specs.Laws.{ClearSolves, RunEnds}
use Rattle.clearing.proofs.Lawful.{Solved}
use Rattle.clearing.proofs.Tests.{solved_true, solved_from}
use Rattle.clearing.proofs.Cleared.{cleared, left_falls, some_gate, rest_fewer}
use Rattle.clearing.proofs.Runs.{run_ends}
use Rattle.clearing.proofs.Pairs.{laws, free_rows}

pub clear_solves : ClearSolves
clear_solves n few p v d hd off =
    let ud : Solved pairs n p d → ⊥ = λ h. both_ways (solved pairs n p d) off (solved_from pairs n p d h) in
    let c = cleared pairs n (laws n few) p v d hd ud in
    record {
      now = solved_from pairs n (clear pairs n d (start pairs p)).state d c.done;
      still = λ k hk e. solved_from pairs n (clear pairs n d (start pairs p)).state k (c.inv.kept k hk (solved_true pairs n p k e));
      fewer = left_falls pairs n (laws n few) p d (clear pairs n d (start pairs p)) hd ud c;
      some = some_gate pairs n (laws n few) p d (clear pairs n d (start pairs p)) ud c;
      few = omega (arith, c.few, rest_fewer pairs n (laws n few) p d hd ud);
      reached = c.inv.led;
      legal = c.inv.legal;
      inverses = c.inv.good;
    }

pub run_finishes : RunEnds
run_finishes n few p v =
    let e = run_ends pairs n (laws n few) p v in
    record {
      identity = identity_by_rows n (run pairs n p).state.matrix e.ran.good.square.size (free_rows n (run pairs n p).state e.ran.good e.zero_cost);
      free = e.zero_cost;
      reached = e.ran.led;
      legal = e.ran.legal;
      few = e.few;
      inverses = e.ran.good;
    }
