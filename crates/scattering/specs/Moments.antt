-- `fresnel_moment1` and `fresnel_moment2` of bssrdf.rs (specification, section 8.4): polynomials in eta, and in 1 / eta, that approximate the moments of the Fresnel reflectance. Each coefficient is named by its decimal; specs/Literals has its bits.
use Rattle.std.specs.Prelude.{cond, Float}
use Rattle.std.specs.Float.Ieee.{lt, neg}
use Rattle.elementary.specs.Notation.{◌⊕◌, ◌⊖◌, ◌⊗◌, ◌⊘◌}
use Rattle.scattering.specs.Literals.{one, «0·45966», «1·73965», «3·37668», «3·904945», «2·49277», «0·68441», «4·61686», «11·1136», «10·4646», «5·11455», «1·27198», «0·12746», «0·27614», «0·87350», «1·12077», «0·65095», «0·07883», «0·04860», «547·033», «45·3087», «218·725», «458·843», «404·557», «189·519», «54·9327», «9·00603», «0·63942»}

unfoldable pub fresnel_moment1 : Float → Float
fresnel_moment1 eta =
    let eta2 = eta ⊗ eta in
    let eta3 = eta2 ⊗ eta in
    let eta4 = eta3 ⊗ eta in
    let eta5 = eta4 ⊗ eta in
    cond
    (lt eta one)
    («0·45966» ⊖ «1·73965» ⊗ eta ⊕ «3·37668» ⊗ eta2 ⊖ «3·904945» ⊗ eta3 ⊕ «2·49277» ⊗ eta4 ⊖ «0·68441» ⊗ eta5)
    (neg «4·61686» ⊕ «11·1136» ⊗ eta ⊖ «10·4646» ⊗ eta2 ⊕ «5·11455» ⊗ eta3 ⊖ «1·27198» ⊗ eta4 ⊕ «0·12746» ⊗ eta5)

unfoldable pub fresnel_moment2 : Float → Float
fresnel_moment2 eta =
    let eta2 = eta ⊗ eta in
    let eta3 = eta2 ⊗ eta in
    let eta4 = eta3 ⊗ eta in
    let eta5 = eta4 ⊗ eta in
    let r_eta = one ⊘ eta in
    let r_eta2 = r_eta ⊗ r_eta in
    let r_eta3 = r_eta2 ⊗ r_eta in
    cond
    (lt eta one)
    («0·27614» ⊖ «0·87350» ⊗ eta ⊕ «1·12077» ⊗ eta2 ⊖ «0·65095» ⊗ eta3 ⊕ «0·07883» ⊗ eta4 ⊕ «0·04860» ⊗ eta5)
    (neg «547·033» ⊕ «45·3087» ⊗ r_eta3 ⊖ «218·725» ⊗ r_eta2 ⊕ «458·843» ⊗ r_eta ⊕ «404·557» ⊗ eta ⊖ «189·519» ⊗ eta2 ⊕ «54·9327» ⊗ eta3 ⊖ «9·00603» ⊗ eta4 ⊕ «0·63942» ⊗ eta5)
