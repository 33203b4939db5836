use Rattle.std.proofs.Common.{◌≡◌, ℕ, ◌<◌, length, Some, slice_get}
use Rattle.caches.specs.declared.pairs.Pairs.{Pairs}
use Rattle.caches.proofs.partitions.PartitionsBuffer.clear.Given as goal

abbrev pub invariant-loop-partition : goal.invariant-loop-partition
invariant-loop-partition l = (length l.partition-items ≡ 16) × ((g : ℕ) (p : Pairs) → slice_get l.partition-items g ≡ Some p → g < l.partition-index → p.len ≡ 0)
