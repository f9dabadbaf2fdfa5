-- The proved values (specification, section 13.2), a field for each, the integral and its CDF apart, as answers of the offered calls; with Q(2), Q(2^-148) and E(0). A 0 is +0, and `minus0` is -0.
use Rattle.std.specs.Prelude.{◌≡◌, List, [], ◌∷◌, ℕ, ◌≤◌, pos, negsuc, Float}
use Rattle.std.specs.Float.Ieee.{neg}
use Rattle.elementary.specs.Notation.{lit}
use Rattle.elementary.specs.Root.{sqrt}
use Rattle.elementary.specs.Exponential.{exp}
use Rattle.interpolation.specs.Checks.{max_allowance}
use Rattle.answers.specs.Answer.{Answer, refusal, value}
use Rattle.interpolation.specs.Own.{weights, integral, cdf_after, sample2d}

-- ---- the numbers of the table

abbrev pub n0 : Float
n0 = lit 0

abbrev pub minus0 : Float
minus0 = lit 0x8000_0000

abbrev pub n½ : Float
n½ = lit 0x3f00_0000

abbrev pub n1 : Float
n1 = lit 0x3f80_0000

abbrev pub n1½ : Float
n1½ = lit 0x3fc0_0000

abbrev pub n2 : Float
n2 = lit 0x4000_0000

abbrev pub n2½ : Float
n2½ = lit 0x4020_0000

abbrev pub n4 : Float
n4 = lit 0x4080_0000

-- 0.4375, 0.625 and 0.0625
abbrev pub n7/16 : Float
n7/16 = lit 0x3ee0_0000

abbrev pub n5/8 : Float
n5/8 = lit 0x3f20_0000

abbrev pub n1/16 : Float
n1/16 = lit 0x3d80_0000

-- 0.75
abbrev pub n¾ : Float
n¾ = lit 0x3f40_0000

-- 2 - 2^-21, exactly (`near2_is` of proofs/Table)
abbrev pub near2 : Float
near2 = lit 0x3fff_fffc

-- ---- its lists

abbrev pub nodes2 : List Float
nodes2 = n0 ∷ n1 ∷ []

abbrev pub nodes3 : List Float
nodes3 = n0 ∷ n1 ∷ n2 ∷ []

-- the first row given, the second all 0
abbrev pub over0 : Float → Float → Float → List Float
over0 a b c = a ∷ b ∷ c ∷ n0 ∷ n0 ∷ n0 ∷ []

-- sampling with alpha 0 and u 0.75, under an allowance
abbrev pub sampled : List Float → List Float → ℕ → Answer
sampled values cdf allowance = sample2d nodes2 nodes3 values cdf n0 n¾ allowance

pub record ProvedTable : Type 0 where
  -- nodes 0, 1, 2
  pub at_0 : weights nodes3 n0 ≡ value (n0 ∷ n1 ∷ n0 ∷ n0 ∷ []) (negsuc 0 ∷ [])
  pub at_1 : weights nodes3 n1 ≡ value (minus0 ∷ n1 ∷ n0 ∷ n0 ∷ []) (pos 0 ∷ [])
  pub at_2 : weights nodes3 n2 ≡ value (minus0 ∷ n0 ∷ n1 ∷ n0 ∷ []) (pos 0 ∷ [])
  pub at_½ : weights nodes3 n½ ≡ value (n0 ∷ n7/16 ∷ n5/8 ∷ neg n1/16 ∷ []) (negsuc 0 ∷ [])
  pub at_1½ : weights nodes3 n1½ ≡ value (neg n1/16 ∷ n5/8 ∷ n7/16 ∷ n0 ∷ []) (pos 0 ∷ [])
  pub at_2½_outside : weights nodes3 n2½ ≡ value [] []
  -- nodes 0, 1
  pub between_two : weights nodes2 n½ ≡ value (n0 ∷ n½ ∷ n½ ∷ n0 ∷ []) (negsuc 0 ∷ [])
  -- the integral on 0, 1, 2 of values 0, 2, 4, whatever the list held: CDF 0, 1, 4
  pub the_sum : (a b c : Float) → integral nodes3 (n0 ∷ n2 ∷ n4 ∷ []) (a ∷ b ∷ c ∷ []) ≡ value (n4 ∷ []) []
  pub the_cdf : (a b c : Float) → cdf_after nodes3 (n0 ∷ n2 ∷ n4 ∷ []) (a ∷ b ∷ c ∷ []) ≡ n0 ∷ n1 ∷ n4 ∷ []
  -- values 1, 1, 1, CDF 0, 1, 2: position 1.5, value 1, density 0.5, one round, under every accepted allowance
  pub ones : (allowance : ℕ) → 1 ≤ allowance → allowance ≤ max_allowance → sampled (over0 n1 n1 n1) (over0 n0 n1 n2) allowance ≡ value (n1½ ∷ n1 ∷ n½ ∷ []) (pos 1 ∷ [])
  -- values 0, 0, 0, CDF 0, 1, 2: allowance 20 gets 13, and 21 gives position 2 - 2^-21 after 21 rounds
  pub zeros_20 : sampled (over0 n0 n0 n0) (over0 n0 n1 n2) 20 ≡ refusal 13
  pub zeros_21 : sampled (over0 n0 n0 n0) (over0 n0 n1 n2) 21 ≡ value (near2 ∷ n0 ∷ n0 ∷ []) (pos 21 ∷ [])
  -- the stand-ins: Q(2), Q(2^-148) = 2^-74, E(0) = 1
  pub root_of_2 : sqrt n2 ≡ lit 0x3fb5_04f3
  pub root_of_2^_148 : sqrt (lit 2) ≡ lit 0x1a80_0000
  pub exp_of_0 : exp n0 ≡ n1
