-- The first `len` steps with the next one behind them.
use Rattle.std.proofs.Common.{[], ◌∷◌, ◌++◌, take, ap, ◌∙◌, arith, w64, to_z, of_z}
use Rattle.std.proofs.lemmas.List.{take_more_set}
use Rattle.std.proofs.lemmas.Int.{to_z-of_z}
use Rattle.records.proofs.path.Path.extended.Goals as goal

pub returns : goal.returns
returns c =
    let p = c.args.self.now in
    take_more_set p.steps p.len (to_z w64 (of_z w64 c.args.step)) (omega (arith, p.whole, p.few))
    ∙ ap (λ s. take p.len p.steps ++ (s ∷ [])) (to_z-of_z w64 c.args.step c.ranges.step)
