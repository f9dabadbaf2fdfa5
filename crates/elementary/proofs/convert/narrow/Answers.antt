-- `narrow` meets its contract: the laws of `Values` say what x is by its pattern's parts, and `pack` what the pattern of the result is.
use Rattle.std.proofs.Common.{◌≡◌, ℕ, ◌+◌, ◌*◌, ◌/◌, ◌^◌, ◌<◌, ◌≤◌, Bool, true, false, cond, not, T, leb, sym, ap, ◌∙◌, arith, leb→le, pow_pos}
use denote.Floats.{passes}
use lib.Dec.{nleb→lt}
use lib.Ieee.{Float, binary32, binary64, fits, of_bits}
use lib.Ieee.Bits.{to_bits-lt}
use Rattle.elementary.specs.Convert as Convert
use Rattle.elementary.proofs.Patterns.{infinite}
use Rattle.elementary.proofs.Values.{told_nan, told_number, pattern, negative, at_top, at_zero, between}
use Rattle.elementary.proofs.Rounded.{rounded_at, rounded_inf, rounded_nan}
use Rattle.elementary.proofs.convert.narrow.Goals as goal

-- the sign's bit, as a Bool and as a number
sign_is : (b : ℕ) → b < 2 * 2 ^ 63 → cond (leb (2 ^ 63) b) (2 ^ 31) 0 ≡ b / 2 ^ 63 * 2 ^ 31
sign_is b h = go (leb (2 ^ 63) b) (leb→le (2 ^ 63) b) (nleb→lt (2 ^ 63) b)
  where
    go : (t : Bool) → (T t → 2 ^ 63 ≤ b) → (T (not t) → b < 2 ^ 63) → cond t (2 ^ 31) 0 ≡ b / 2 ^ 63 * 2 ^ 31
    go true p q = omega (arith, p tt)
    go false p q = omega (arith, q tt)

module _ (x : Float) (held : T (fits binary64 x)) where
  abbrev minus : Bool
  minus = negative binary64 x held

  -- the sign's bit that `signed` is given
  bit : pattern binary64 x held / 2 ^ 63 < 2
  bit = omega (arith, to_bits-lt binary64 x held)

  -- what `signed` gives, with the sign as `pack` has it
  stamp : (r : ℕ) → of_bits binary32 (pattern binary64 x held / 2 ^ 63 * 2 ^ 31 + r) ≡ of_bits binary32 (cond minus (2 ^ 31) 0 + r)
  stamp r = ap (λ (n : ℕ). of_bits binary32 (n + r)) (sym (sign_is (pattern binary64 x held) (to_bits-lt binary64 x held)))

pub returns-then-is_nan : goal.returns-then-is_nan
returns-then-is_nan c = c.nan.ensures ∙ sym (rounded_nan binary32) ∙ ap Convert.narrow (sym (told_nan _ c.is_nan.ensures.value c.if-is_nan.true))

pub float_to_bits-bits : goal.float_to_bits-bits
float_to_bits-bits c = told_number _ c.is_nan.ensures.value c.if-is_nan.false

pub signed-requires-clause-bit : goal.signed-requires-clause-bit
signed-requires-clause-bit c = bit c.args.x (passes _ c.well_formed.0.1)

pub returns-then-field-eq2047 : goal.returns-then-field-eq2047
returns-then-field-eq2047 c =
    let x = c.args.x in
    let held = passes _ c.well_formed.0.1 in
    c.signed.ensures ∙ stamp x held _ ∙ infinite (minus x held) ∙ sym (rounded_inf binary32 (minus x held)) ∙ ap Convert.narrow (sym (at_top binary64 x held c.if-field-eq2047.true (told_number _ c.is_nan.ensures.value c.if-is_nan.false)))

pub signed-requires-then-field-eq0-clause-bit : goal.signed-requires-then-field-eq0-clause-bit
signed-requires-then-field-eq0-clause-bit c = bit c.args.x (passes _ c.well_formed.0.1)

pub returns-then-field-eq0 : goal.returns-then-field-eq0
returns-then-field-eq0 c =
    let x = c.args.x in
    let held = passes _ c.well_formed.0.1 in
    c.signed-then-field-eq0.ensures ∙ stamp x held _ ∙ c.pack.ensures.1 (minus x held)
    ∙ sym (rounded_at binary32 x (minus x held) _ (2 ^ 1074) (pow_pos 1074) (at_zero binary64 x held c.if-field-eq0.true))

pub signed-requires-2-clause-bit : goal.signed-requires-2-clause-bit
signed-requires-2-clause-bit c = bit c.args.x (passes _ c.well_formed.0.1)

pub returns : goal.returns
returns c =
    let x = c.args.x in
    let held = passes _ c.well_formed.0.1 in
    c.signed-2.ensures ∙ stamp x held _ ∙ c.pack-2.ensures.1 (minus x held)
    ∙ sym (rounded_at binary32 x (minus x held) _ (2 ^ 1074) (pow_pos 1074) (between binary64 x held c.if-field-eq0.false c.if-field-eq2047.false))
