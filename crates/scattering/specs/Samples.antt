-- What the sums of `beam_diffusion_ss` and `beam_diffusion_ms` share (specification, section 8.5): a hundred samples of depth, by the logarithm.
use Rattle.std.specs.Prelude.{ℕ, List, pos, Float}
use Rattle.std.specs.Float.{binary32}
use Rattle.std.specs.Float.Ieee.{of_int}
use Rattle.elementary.specs.Notation.{◌⊕◌, ◌⊖◌, ◌⊗◌, ◌⊘◌}
use Rattle.elementary.specs.Lists.{list_of}
use Rattle.elementary.specs.Root.{sqrt}
use Rattle.elementary.specs.Logarithm.{ln}
use Rattle.scattering.specs.Literals.{half, one, hundred}

-- `n_samples`
unfoldable pub n_samples : ℕ
n_samples = 100

-- ln(1 - (i + 0.5) / n_samples)
unfoldable pub sample_ln : ℕ → Float
sample_ln i = ln (one ⊖ (of_int binary32 (pos i) ⊕ half) ⊘ hundred)

-- the same for every sample
unfoldable pub sample_logs : List Float
sample_logs = list_of n_samples sample_ln

-- the root of r * r + z * z
unfoldable pub distance : Float → Float → Float
distance r z = sqrt (r ⊗ r ⊕ z ⊗ z)
