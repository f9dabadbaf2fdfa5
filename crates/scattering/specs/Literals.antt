-- The small literals of the formulas, by their bits. proofs/Literals.antt shows that each is what its decimal rounds to.
use Rattle.std.specs.Prelude.{Float}
use Rattle.elementary.specs.Notation.{lit}

-- 0.25
abbrev pub quarter : Float
quarter = lit 0x3e80_0000

-- 0.5
abbrev pub half : Float
half = lit 0x3f00_0000

-- 1.0
abbrev pub one : Float
one = lit 0x3f80_0000

-- 2.0
abbrev pub two : Float
two = lit 0x4000_0000

-- 3.0
abbrev pub three : Float
three = lit 0x4040_0000

-- 100, which is `n_samples as Float`
abbrev pub hundred : Float
hundred = lit 0x42c8_0000

-- the coefficients of `fresnel_moment1` below 1

abbrev pub «0·45966» : Float
«0·45966» = lit 0x3eeb_588e

abbrev pub «1·73965» : Float
«1·73965» = lit 0x3fde_acda

abbrev pub «3·37668» : Float
«3·37668» = lit 0x4058_1b86

abbrev pub «3·904945» : Float
«3·904945» = lit 0x4079_ea9e

abbrev pub «2·49277» : Float
«2·49277» = lit 0x401f_898b

abbrev pub «0·68441» : Float
«0·68441» = lit 0x3f2f_357e

-- and from 1 on

abbrev pub «4·61686» : Float
«4·61686» = lit 0x4093_bd51

abbrev pub «11·1136» : Float
«11·1136» = lit 0x4131_d14e

abbrev pub «10·4646» : Float
«10·4646» = lit 0x4127_6f00

abbrev pub «5·11455» : Float
«5·11455» = lit 0x40a3_aa65

abbrev pub «1·27198» : Float
«1·27198» = lit 0x3fa2_d03e

abbrev pub «0·12746» : Float
«0·12746» = lit 0x3e02_84e0

-- the coefficients of `fresnel_moment2` below 1

abbrev pub «0·27614» : Float
«0·27614» = lit 0x3e8d_6239

abbrev pub «0·87350» : Float
«0·87350» = lit 0x3f5f_9db2

abbrev pub «1·12077» : Float
«1·12077» = lit 0x3f8f_7564

abbrev pub «0·65095» : Float
«0·65095» = lit 0x3f26_a4a9

abbrev pub «0·07883» : Float
«0·07883» = lit 0x3da1_719f

abbrev pub «0·04860» : Float
«0·04860» = lit 0x3d47_10cb

-- and from 1 on

abbrev pub «547·033» : Float
«547·033» = lit 0x4408_c21d

abbrev pub «45·3087» : Float
«45·3087» = lit 0x4235_3c1c

abbrev pub «218·725» : Float
«218·725» = lit 0x435a_b99a

abbrev pub «458·843» : Float
«458·843» = lit 0x43e5_6be7

abbrev pub «404·557» : Float
«404·557» = lit 0x43ca_474c

abbrev pub «189·519» : Float
«189·519» = lit 0x433d_84dd

abbrev pub «54·9327» : Float
«54·9327» = lit 0x425b_bb16

abbrev pub «9·00603» : Float
«9·00603» = lit 0x4110_18b3

abbrev pub «0·63942» : Float
«0·63942» = lit 0x3f23_b107
