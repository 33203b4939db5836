use Rattle.std.proofs.Common.{replicate, refl, arith}
use Rattle.caches.specs.Groups.{group_none, home_none, copies_none}
use Rattle.caches.proofs.partitions.PartitionsBuffer.new.Goals as goal

pub invariant_of-result : goal.invariant_of-result
invariant_of-result c =
    let none = copies_none 16 c.new.result c.new.ensures in
    record { few = omega arith; total = group_none (replicate 16 c.new.result) none; home = home_none (replicate 16 c.new.result) none; sixteen = refl }
