-- `phase_hg` of medium.rs, the phase function of Henyey and Greenstein (specification, section 8.3).
use Rattle.std.specs.Prelude.{Float}
use Rattle.elementary.specs.Notation.{◌⊕◌, ◌⊖◌, ◌⊗◌, ◌⊘◌}
use Rattle.elementary.specs.Constants.{inv_4_pi}
use Rattle.elementary.specs.Root.{sqrt}
use Rattle.scattering.specs.Literals.{one, two}

unfoldable pub denom : Float → Float → Float
denom cos_theta g = one ⊕ g ⊗ g ⊕ two ⊗ g ⊗ cos_theta

unfoldable pub phase_hg : Float → Float → Float
phase_hg cos_theta g = let d = denom cos_theta g in inv_4_pi ⊗ (one ⊖ g ⊗ g) ⊘ (d ⊗ sqrt d)
