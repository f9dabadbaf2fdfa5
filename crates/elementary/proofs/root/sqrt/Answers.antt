-- `sqrt` meets its contract: each return is the case of `sqrt` of specs/Root that the tests on the way say, and what is nearest to the root follows from the equation alone (`root_of_equation`).
use Rattle.std.proofs.Common.{◌≡◌, suc, true, false, not, T, refl, sym, ap, ◌∙◌, zero-lt-suc, lt→ltb, true≢false}
use denote.Floats.{passes}
use lib.Ieee.{Float, nan, inf, is_nan, eq}
use lib.Ieee.Positive.{positive}
use Rattle.elementary.specs.Root.{sqrt}
use Rattle.elementary.proofs.Values.{told_nan, told_number}
use Rattle.elementary.proofs.Signs.{Below, inf_below, fin_below, Level, level_at, Other, nan_other, inf_other, fin_other, below, level, other}
use Rattle.elementary.proofs.Nearest.{sqrt_mag, root_of_equation}
use Rattle.elementary.proofs.root.sqrt.Goals as goal

-- ---- `sqrt` by the tests

of_nan : (x : Float) → x ≡ nan → x ≡ sqrt x
unfolding sqrt
of_nan x e = e ∙ ap sqrt (sym e)

of_level : {x : Float} → Level x → x ≡ sqrt x
unfolding sqrt
of_level (level_at s e) = refl

of_below : {x : Float} → Below x → nan ≡ sqrt x
unfolding sqrt
of_below inf_below = refl
of_below (fin_below m e) = refl

of_inf : {x : Float} → Other x → eq x (inf false) ≡ true → x ≡ sqrt x
unfolding eq sqrt
of_inf nan_other h = absurd (true≢false (sym h))
of_inf inf_other h = refl
of_inf (fin_other m e) h = absurd (true≢false (sym h))

finite_above : {x : Float} → Other x → T (not (is_nan x)) → eq x (inf false) ≡ false → T (positive x)
unfolding is_nan eq
finite_above nan_other n h = absurd n
finite_above inf_other n h = absurd (true≢false h)
finite_above (fin_other m e) n h = lt→ltb 0 (suc m) (zero-lt-suc m)

-- ---- the returns

pub returns-then-is_nan : goal.returns-then-is_nan
returns-then-is_nan c = root_of_equation c.args.x _ (passes _ c.well_formed.0.1) (of_nan _ (told_nan _ c.is_nan.ensures.value c.if-is_nan.true))

pub returns-then-x : goal.returns-then-x
returns-then-x c = root_of_equation c.args.x _ (passes _ c.well_formed.0.1) (of_level (level _ c.if-x.true))

pub returns-then-x-2 : goal.returns-then-x-2
returns-then-x-2 c = root_of_equation c.args.x _ (passes _ c.well_formed.0.1) (c.nan.ensures ∙ of_below (below _ c.if-x-2.true))

pub returns-then-x-infinity : goal.returns-then-x-infinity
returns-then-x-infinity c =
    root_of_equation c.args.x _ (passes _ c.well_formed.0.1) (of_inf (other _ c.if-x-2.false c.if-x.false) (rw c.infinity.ensures at c.if-x-infinity.true))

pub new-requires : goal.new-requires
new-requires c = finite_above (other _ c.if-x-2.false c.if-x.false) (told_number _ c.is_nan.ensures.value c.if-is_nan.false) (rw c.infinity.ensures at c.if-x-infinity.false)

pub returns : goal.returns
returns c =
    let p = finite_above (other _ c.if-x-2.false c.if-x.false) (told_number _ c.is_nan.ensures.value c.if-is_nan.false) (rw c.infinity.ensures at c.if-x-infinity.false) in
    root_of_equation c.args.x _ (passes _ c.well_formed.0.1) (c.root.ensures _ c.new.ensures ∙ sqrt_mag c.args.x p)
