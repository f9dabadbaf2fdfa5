-- `rounded f x`, the value of the format f nearest to x. It sees only the value of x (`rounded_at`), and a value that the format holds stays as it is (`rounded_same`). Assumes nothing.
use Rattle.std.proofs.Common.{◌≡◌, ℕ, ◌*◌, ◌^◌, ◌<◌, Bool, T, refl, ap, ◌∙◌, lt_of_lt_of_le, pow_pos, pow_mono, shl_lt}
use lib.Ieee.{Float, Format, nan, inf, fin, prec, low, up, down, round, fits}
use lib.Ieee.Fits.{down_pos, round-fits, nan-fits, inf-fits}
use lib.Ieee.Exact.{HasValue, round_exact}
use lib.Ieee.Scale.{round_same}
use Rattle.elementary.specs.Convert.{rounded}
use Rattle.elementary.proofs.Values.{unique, finite_units}

pub rounded_at : (f : Format) (x : Float) (s : Bool) (a c : ℕ) → 0 < c → HasValue x s a c → rounded f x ≡ round f s a c
unfolding rounded
rounded_at f nan s a c C v = absurd v
rounded_at f (inf t) s a c C v = absurd v
rounded_at f (fin t m e) s a c C v = round_same f t (m * up e) (down e) a c (down_pos e) C v.1 ∙ ap (λ (b : Bool). round f b a c) v.0

pub rounded_inf : (f : Format) (s : Bool) → rounded f (inf s) ≡ inf s
unfolding rounded
rounded_inf f s = refl

pub rounded_nan : (f : Format) → rounded f nan ≡ nan
unfolding rounded
rounded_nan f = refl

pub rounded_fits : (f : Format) (x : Float) → T (fits f (rounded f x))
unfolding rounded
rounded_fits f nan = nan-fits f
rounded_fits f (inf s) = inf-fits f s
rounded_fits f (fin s m e) = round-fits f s (m * up e) (down e)

-- a value that the format holds
pub rounded_same : (f : Format) (x : Float) → T (fits f x) → rounded f x ≡ x
rounded_same f nan F = rounded_nan f
rounded_same f (inf s) F = rounded_inf f s
rounded_same f (fin s m e) F =
    let u = finite_units f s m e F in
    let a = u.0 * 2 ^ u.1 in
    let c = 2 ^ low f in
    rounded_at f (fin s m e) s a c (pow_pos (low f)) u.4
    ∙ unique f (round f s a c) (fin s m e) s a (round-fits f s a c) F (round_exact f s a c u.0 u.1 (pow_pos (low f)) u.2 (lt_of_lt_of_le (shl_lt (prec f) u.1 u.2) (pow_mono u.3)) refl) u.4
