-- `ln` meets its contract: `Inside` has what the two tests say of x.
use Rattle.std.proofs.Common.{◌≡◌, ℕ, ◌<◌, ◌^◌, subst, Bool, false, cond, ◌&&◌, T, sym, ◌∙◌, refl, arith}
use denote.Floats.{passes}
use lib.Ieee.{Float, nan, lt, le, binary32, fits}
use lib.Ieee.Digits.{size-le}
use Rattle.elementary.specs.Notation.{lit}
use Rattle.elementary.specs.Units.{mag, Normalised}
use Rattle.elementary.specs.Logarithm.{significand, exponent, ln_series, ln}
use Rattle.elementary.proofs.Magnitude.{mag_at}
use Rattle.elementary.proofs.Inside.{Inside, inside_positive, inside_units, value}
use Rattle.elementary.proofs.Scaled.{length_is}
use Rattle.elementary.proofs.logarithm.ln.Goals as goal
use Rattle.elementary.proofs.logarithm.ln.Goals.{then-x+else-x-2, else-x}

-- `ln` by its two tests
at : (x : Float) {a b : Bool} → le (lit 0x0080_0000) x ≡ a → lt x (lit 0x3f80_0000) ≡ b → cond (a && b) (ln_series (significand (mag x)) (exponent (mag x))) nan ≡ ln x
unfolding ln
at x p q = sym (λ i. cond (p i && q i) (ln_series (significand (mag x)) (exponent (mag x))) nan)

pub new-requires : goal.new-requires
new-requires c = inside_positive c.args.x record { low = c.if-x.true; high = c.if-x-2.true }

size_below : (x : Float) → T (fits binary32 x) → Inside x → (q length : ℕ) → Normalised (mag x) q length → length < 150
size_below x F I q length N =
    let v = value x F I in
    let e = mag_at x false _ v in
    omega (arith, length_is (mag x) q length N, size-le (mag x) 149 (subst (λ (a : ℕ). a < 2 ^ 149) (sym e) (inside_units x I _ v).1))

pub ln-requires : goal.ln-requires
ln-requires c = size_below c.args.x (passes _ c.well_formed.0.1) record { low = c.if-x.true; high = c.if-x-2.true } _ _ c.new.ensures

pub returns-then-x-2 : goal.returns-then-x-2
returns-then-x-2 c = c.ln.ensures _ c.new.ensures ∙ at c.args.x c.if-x.true c.if-x-2.true

pub returns : goal.returns
returns c = c.nan.ensures ∙ elim c.if-x.branch [ then-x+else-x-2 w ↦ at _ w.if-x.true w.if-x-2.false | else-x w ↦ at _ w.if-x.false refl ]
