use Rattle.std.proofs.Common.{arith, ◌+◌}
use Rattle.stack.specs.Calls.{Run}
use Rattle.stack.proofs.Pairing.{run_of}
use Rattle.stack.proofs.level.run_end.Goals as goal

run : (c : goal.After-run_len) → Run c.args.bucket_ids.now c.args.start c.args.pairs (c.args.start + c.run_len.result)
run c = run_of c.args.bucket_ids.now c.args.start c.args.pairs c.run_len.result c.requires.start_lt_pairs c.requires.pairs_in_bounds c.run_len.ensures

pub overflow_add-result : goal.overflow_add-result
overflow_add-result c = omega (arith, (run c).within)

pub returns : goal.returns
returns c = run c
