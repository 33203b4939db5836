use Rattle.std.proofs.Common.{◌≡◌, ℕ, Some, slice_get, arith}
use Rattle.std.proofs.lemmas.Option.{slice_get_within}
use Rattle.caches.specs.declared.pairs.Pairs.{Pairs}
use Rattle.caches.specs.Groups.{group_none, home_none}
use Rattle.caches.proofs.partitions.PartitionsBuffer.clear.Goals as goal

pub invariant_of-self : goal.invariant_of-self
invariant_of-self c =
    let ps = c.loop-partition.partition-items in
    let i = c.loop-partition.invariant in
    let none : (g : ℕ) (p : Pairs) → slice_get ps g ≡ Some p → p.len ≡ 0 = λ g p h. i.1 g p h (omega (arith, slice_get_within ps g p h, i.0, c.loop-partition-test.false)) in
    record { few = omega arith; total = group_none ps none; home = home_none ps none; sixteen = i.0 }
