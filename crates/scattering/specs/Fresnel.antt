-- `fr_dielectric` of reflection.rs (specification, section 8.2): how much of the light is reflected at the boundary between two dielectrics.
use Rattle.std.specs.Prelude.{cond, Float}
use Rattle.std.specs.Float.Ieee.{neg, lt, le}
use Rattle.elementary.specs.Notation.{◌⊕◌, ◌⊖◌, ◌⊗◌, ◌⊘◌, lit}
use Rattle.elementary.specs.Sign.{abs, max0}
use Rattle.elementary.specs.Root.{sqrt}
use Rattle.scattering.specs.Literals.{one, two}
use Rattle.scattering.specs.Clamp.{clamp_t}
use Rattle.scattering.specs.declared.fresnel.Boundary.{Boundary}

-- The clamped cosine, and the indices of refraction on the incident and on the other side: swapped where the ray is not entering, and the cosine's sign cleared.
unfoldable pub swapped : Float → Float → Float → Boundary
swapped cos_theta_i eta_i eta_t =
    let c = clamp_t cos_theta_i (neg one) one in
    cond
    (lt (lit 0) c)
    (record { cos_theta_i = c; eta_i = eta_i; eta_t = eta_t })
    (record { cos_theta_i = abs c; eta_i = eta_t; eta_t = eta_i })

-- 1 - x ^ 2, and +0 where that is not above zero
unfoldable pub complement : Float → Float
complement x = max0 (one ⊖ x ⊗ x)

-- Snell's law: the sine of the angle on the other side, by that of the angle
unfoldable pub snell : Boundary → Float → Float
snell b sine = b.eta_i ⊘ b.eta_t ⊗ sine

-- the sine of the angle, that on the other side, and the cosine there
unfoldable pub sin_theta_i : Boundary → Float
sin_theta_i b = sqrt (complement b.cos_theta_i)

unfoldable pub sin_theta_t : Boundary → Float
sin_theta_t b = snell b (sin_theta_i b)

unfoldable pub cos_theta_t : Boundary → Float
cos_theta_t b = sqrt (complement (sin_theta_t b))

-- the mean of the squares of the parallel and the perpendicular part, by the cosine on the other side
unfoldable pub reflectance_at : Boundary → Float → Float
reflectance_at b ct =
    let ci = b.cos_theta_i in
    let r_parl = (b.eta_t ⊗ ci ⊖ b.eta_i ⊗ ct) ⊘ (b.eta_t ⊗ ci ⊕ b.eta_i ⊗ ct) in
    let r_perp = (b.eta_i ⊗ ci ⊖ b.eta_t ⊗ ct) ⊘ (b.eta_i ⊗ ci ⊕ b.eta_t ⊗ ct) in
    (r_parl ⊗ r_parl ⊕ r_perp ⊗ r_perp) ⊘ two

unfoldable pub reflectance : Boundary → Float
reflectance b = reflectance_at b (cos_theta_t b)

-- all is reflected where the sine on the other side is 1 or more
unfoldable pub reflected_at : Boundary → Float → Float → Float
reflected_at b st ct = cond (le one st) one (reflectance_at b ct)

unfoldable pub reflected : Boundary → Float
reflected b = reflected_at b (sin_theta_t b) (cos_theta_t b)

unfoldable pub fr_dielectric : Float → Float → Float → Float
fr_dielectric cos_theta_i eta_i eta_t = reflected (swapped cos_theta_i eta_i eta_t)
