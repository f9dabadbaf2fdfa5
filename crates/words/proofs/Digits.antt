-- A number of fewer digits than there are has room for one more.
use Rattle.std.proofs.Common.{ℕ, suc, ◌+◌, ◌*◌, ◌^◌, ◌<◌, ◌≤◌, arith}
use Rattle.std.proofs.Math.Nat.{mul-le-mul_left, pow-le-pow_right}
use Rattle.std.proofs.lemmas.Grind.{pow_more}

pub one_more : (b n d i len : ℕ) → n < b ^ i → d < b → i < len → b * n + d < b ^ len
one_more b n d i len small digit inside =
    let base : 0 < b = omega arith in
    let step : b * suc n ≤ b * b ^ i = mul-le-mul_left b small in
    let grow : b ^ (i + 1) ≤ b ^ len = pow-le-pow_right base (omega arith) in
    omega (arith, pow_more b i)
