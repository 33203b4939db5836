use Rattle.std.proofs.Common.{◌≡◌, ◌-◌, ◌^◌, refl, arith, rules}
use Rattle.std.proofs.lemmas.Int.{ints}
use Rattle.numbers.specs.Columns.{first_from, value_of}
use Rattle.numbers.proofs.Columns.{first_is}
use Rattle.numbers.proofs.fast_field.f64_to_fastfield_u64.Goals as goal

pub returns-in-U64 : goal.returns-in-U64
unfolding value_of
returns-in-U64 c =
    let v = c.ceil.ensures.value in
    let f = first_is 0 (2 ^ 64 - 1) c.args.val refl in
    let e : c.ceil.result ≡ first_from 0 c.args.val = omega (arith, ints) in
    search rules

pub returns-in-I64 : goal.returns-in-I64
unfolding value_of
returns-in-I64 c =
    let v = c.ceil-in-I64.ensures.value in
    let f = first_is (2 ^ 63) (2 ^ 63 - 1) c.args.val refl in
    let e : c.i64_to_u64.result ≡ first_from (2 ^ 63) c.args.val = omega (arith, ints) in
    search rules

pub returns-in-F64 : goal.returns-in-F64
unfolding value_of
returns-in-F64 c = search rules
