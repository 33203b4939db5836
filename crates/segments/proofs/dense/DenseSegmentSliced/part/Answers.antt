use Rattle.std.proofs.Common.{◌∙◌}
use Rattle.segments.proofs.Values.{part_one}
use Rattle.segments.proofs.dense.DenseSegmentSliced.part.Goals as goal

pub returns : goal.returns
returns c = c.cut.ensures ∙ part_one c.column.result.now c.args.doc ∙ c.column.ensures c.args.doc
