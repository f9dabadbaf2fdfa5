-- `Normal::ln` meets its contract: q / 2 ^ 23, which a division in binary64 gives exactly, is the value's significand, and size - 150 its exponent.
use Rattle.std.proofs.Common.{◌≡◌, ℕ, zero, suc, ◌+◌, ◌-◌, ◌*◌, ◌^◌, ◌<◌, false, refl, ap, ◌∙◌, le_of_lt, le_trans, arith, lit≤, pow_pos}
use lib.Ieee.{Float, binary64, size, neg, of_bits}
use lib.Ieee.Exact.{HasValue}
use lib.Ieee.Scale.{round_same}
use Rattle.elementary.specs.Notation.{◌⊞◌, ◌⊟◌, ◌⊠◌, ◌⧄◌, lit64, one64, whole64}
use Rattle.elementary.specs.Units.{Normalised}
use Rattle.elementary.specs.Convert.{narrow}
use Rattle.elementary.specs.Logarithm.{two, c31, ln2, odds, significand, exponent, ln_series}
use Rattle.elementary.proofs.Lengths.{two_pows}
use Rattle.elementary.proofs.Quotients.{whole64_at, div_at}
use Rattle.elementary.proofs.Scaled.{length_is}
use Rattle.elementary.proofs.normal.Normal.ln.Goals as goal

-- 8388608.0 is 2 ^ 23
power : HasValue (lit64 0x4160_0000_0000_0000) false (2 ^ 23) 1
unfolding of_bits
power = (refl, refl)

some : (a q length : ℕ) → Normalised a q length → 0 < length
some a q zero N = absurd (omega (arith, N.low, N.high, N.is))
some a q (suc length) N = omega arith

module _ (a q length : ℕ) (N : Normalised a q length) where
  -- a / 2 ^ (length - 1) is q / 2 ^ 23
  same : q * 1 * 2 ^ (size a - 1) ≡ a * (2 ^ 23 * 1)
  same =
      let e : size a - 1 ≡ length - 1 = omega (arith, length_is a q length N) in
      let s : length - 1 + 1 ≡ length = omega (arith, some a q length N) in
      let t : q * 2 ^ (length - 1) * 2 ≡ q * 2 ^ length = two_pows q (length - 1) 1 ∙ ap (λ (n : ℕ). q * 2 ^ n) s in
      ap (λ (n : ℕ). q * 1 * 2 ^ n) e ∙ omega (arith, N.is, t)

  significand_is : whole64 q ⧄ lit64 0x4160_0000_0000_0000 ≡ significand a
  significand_is =
      div_at binary64 (whole64 q) (lit64 0x4160_0000_0000_0000) false q 1 (2 ^ 23) 1 (pow_pos 0) (pow_pos 23) (pow_pos 0) (whole64_at q (le_trans (le_of_lt N.high) (lit≤ tt))) power
      ∙ round_same binary64 false (q * 1) (2 ^ 23 * 1) a (2 ^ (size a - 1)) (pow_pos 23) (pow_pos (size a - 1)) same

  exponent_is : neg (whole64 (150 - length)) ≡ exponent a
  exponent_is =
      let e : 150 - length ≡ 150 - size a = omega (arith, length_is a q length N) in
      ap (λ (n : ℕ). neg (whole64 n)) e

series : (m e : Float) → let s = (m ⊟ one64) ⧄ (m ⊞ one64) in narrow (e ⊠ ln2 ⊞ two ⊠ s ⊠ odds 15 (s ⊠ s) (one64 ⧄ c31)) ≡ ln_series m e
unfolding ln_series
series m e = refl

pub returns : goal.returns
returns c = λ a N.
    let q = c.args.self.q in
    let z = c.args.self.size in
    let m = whole64 q ⧄ lit64 0x4160_0000_0000_0000 in
    let e = neg (whole64 (150 - z)) in
    let t = (m ⊟ one64) ⧄ (m ⊞ one64) in
    c.narrow.ensures
    ∙ ap (λ (h : Float). narrow (e ⊠ ln2 ⊞ two ⊠ t ⊠ h)) c.ln_terms.ensures
    ∙ series m e
    ∙ (λ i. ln_series (significand_is a q z N i) (exponent_is a q z N i))
