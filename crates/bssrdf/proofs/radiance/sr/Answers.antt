-- `sr` meets its contract. The arrays of three channels stand for the weights of the definition (`ThreeChannels`), so the rows asked for are those that `sr` needs, and each channel is the definition's.
use Rattle.std.proofs.Common.{◌&&◌, [], ◌∷◌, List, get_or, sym, ap, ◌∙◌}
use lib.Ieee.{Float, nan}
use Rattle.answers.specs.Refusal.{number, number_of, told}
use Rattle.interpolation.specs.Interval.{node_interval}
use Rattle.interpolation.specs.Weights.{within}
use Rattle.scattering.specs.Spectrum.{values}
use Rattle.scattering.specs.declared.spectrum.Spectrum.{Spectrum}
use Rattle.table.specs.Parameters.{lists_of}
use Rattle.bssrdf.specs.Coefficients.{optical}
use Rattle.bssrdf.specs.Axes.{three_of, radius_values, three_weights}
use Rattle.bssrdf.specs.Radiance.{sr_told}
use Rattle.bssrdf.proofs.ThreeChannels.{Albedos, Radii, marks_reach, readable, sr_unmarked, sr_marked, unclamped_is}
use Rattle.bssrdf.proofs.TwoParts.{query_parts, both_pass}
use Rattle.bssrdf.proofs.radiance.sr.Goals as goal
use Rattle.bssrdf.proofs.radiance.sr.Goals.{After-new-rho, After-new-radius}

-- what the code has of the albedo axis
albedos : (c : After-new-rho) → let a = c.args in
    Albedos a.t.record (lists_of a.t) a.c a.x c.from-rhos.result (radius_values c.optical_radii-xs.result) c.are_inside-inside.result c.new-rho.result.at c.new-rho.result.weights
unfolding number_of
albedos c =
    let a = c.args in
    let rho = ap (λ l. l.now) c.in_ok-rho_nodes.ensures.same in
    let radii = ap (λ l. l.now) c.in_ok-radius_nodes.ensures.same in
    let inside : List Float → List Float → _ = λ l m. three_of (λ k. within l (get_or c.from-rhos.result k nan) && within m (get_or (radius_values c.optical_radii-xs.result) k nan)) in
    record {
      passes = both_pass (query_parts _ _ a.c) (sym c.in_ok-rho_nodes.ensures.number) (sym c.in_ok-radius_nodes.ensures.number);
      rhos_are = c.from-rhos.ensures ∙ ap values c.rho.ensures;
      xs_are = ap radius_values (c.optical_radii-xs.ensures ∙ ap (λ (v : Spectrum). optical a.x v.r ∷ optical a.x v.g ∷ optical a.x v.b ∷ []) c.sigma_t-sigma_t.ensures);
      inside_is = c.are_inside-inside.ensures ∙ (λ i. inside (rho i) (radii i));
      at_is = c.new-rho.ensures.at ∙ ap (λ (l : List Float). three_of (λ k. node_interval l (get_or c.from-rhos.result k nan))) rho;
      ws_is = c.new-rho.ensures.weights ∙ ap (λ (l : List Float). three_weights l c.from-rhos.result c.new-rho.result.at) rho;
    }

-- and of the radius axis
radii : (c : After-new-radius) → Radii (lists_of c.args.t) (radius_values c.optical_radii-xs.result) c.new-radius.result.at c.new-radius.result.weights
radii c =
    let e = ap (λ l. l.now) c.in_ok-radius_nodes.ensures.same in
    let at_nodes : List Float → List Float → _ = λ l xs. three_of (λ k. node_interval l (get_or xs k nan)) in
    record {
      at_is = c.new-radius.ensures.at ∙ (λ i. at_nodes (e i) (c.radius_values.ensures i));
      ws_is = c.new-radius.ensures.weights ∙ (λ i. three_weights (e i) (c.radius_values.ensures i) c.new-radius.result.at);
    }

pub are_ready-requires : goal.are_ready-requires
are_ready-requires c = λ k l i. marks_reach (albedos (goal.at.are_ready-requires c).After-new-rho) k l

pub returns-then-not-are_ready : goal.returns-then-not-are_ready
unfolding sr_told told number
returns-then-not-are_ready c =
    sym (sr_unmarked (albedos (goal.at.returns-then-not-are_ready c).After-new-rho) c.are_ready.ensures c.if-not-are_ready.true)

pub three_channels-optical-requires : goal.three_channels-optical-requires
three_channels-optical-requires c =
    readable (albedos (goal.at.three_channels-optical-requires c).After-new-rho) (radii (goal.at.three_channels-optical-requires c).After-new-radius)
    (record { rho = c.in_ok-rho_nodes.ensures.held; radii = c.in_ok-radius_nodes.ensures.held })

pub returns : goal.returns
returns c =
    let A = albedos (goal.at.returns c).After-new-rho in
    rw (c.in_world.ensures, c.three_channels-optical.ensures, unclamped_is A (radii (goal.at.returns c).After-new-radius) _ c.sigma_t-sigma_t.ensures)
    (sym (sr_marked A c.are_ready.ensures c.if-not-are_ready.false))
