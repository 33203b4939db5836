-- Pairs in partitions, by bucket number modulo 16.
use Rattle.std.specs.Prelude.{◌≡◌, ℕ, ◌%◌, ◌≢◌, List, [], flat_map, sum_by, Some, slice_get}
use Rattle.stack.specs.Overruns.{Deliveries}
use Rattle.caches.specs.declared.pairs.Pairs.{Pairs}
use Rattle.caches.specs.Waiting.{waits_in}

-- the documents of a partition that wait for each bucket
abbrev pub part_waits : Pairs → Deliveries
part_waits p = waits_in p.bucket_ids p.docs p.len

-- the documents that wait for each bucket, partition after partition
unfoldable pub group_waits : List Pairs → Deliveries
group_waits ps b = flat_map (λ p. part_waits p b) ps

-- how many pairs wait in all
unfoldable pub group_len : List Pairs → ℕ
group_len ps = sum_by (λ p. p.len) ps

-- each partition holds what waits for buckets with its number modulo 16
abbrev pub AllHome : List Pairs → Type 0
AllHome ps = (g : ℕ) (p : Pairs) → slice_get ps g ≡ Some p → (b : ℕ) → (b % 16 ≢ g) → part_waits p b ≡ []
