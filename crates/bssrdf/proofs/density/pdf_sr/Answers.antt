-- `pdf_sr` meets its contract: what is read of a channel that is inside is there, since the two parts of its checks have passed.
use Rattle.std.proofs.Common.{sym, ap, ◌∙◌}
use Rattle.answers.specs.Refusal.{number_of}
use Rattle.scattering.specs.Spectrum.{channel}
use Rattle.scattering.specs.declared.spectrum.Spectrum.{Spectrum}
use Rattle.bssrdf.specs.Coefficients.{optical, mean_free_paths}
use Rattle.bssrdf.specs.Axes.{optical_radius}
use Rattle.bssrdf.proofs.AcceptedQueries.{readable}
use Rattle.bssrdf.proofs.TwoParts.{query_parts, both_pass}
use Rattle.bssrdf.proofs.density.pdf_sr.Goals as goal

pub invariant_of-cells : goal.invariant_of-cells
unfolding number_of optical_radius
invariant_of-cells c =
    let a = c.args in
    let sigma = c.index-sigma_t.ensures ∙ ap (λ (s : Spectrum). channel s a.ch) c.sigma_t-total.ensures in
    let b = c.mean_free_paths.ensures ∙ ap mean_free_paths (c.optical-optical.ensures ∙ ap (optical a.x) sigma) in
    record {
      readable = readable _ _ a.c (both_pass (query_parts _ _ a.c) (sym c.in_ok-rho_nodes.ensures.number) (sym c.in_ok-radius_nodes.ensures.number))
          (record { rho = c.in_ok-rho_nodes.ensures.held; radii = c.in_ok-radius_nodes.ensures.held })
          a.x a.ch (ap (λ l. l.now) c.in_ok-rho_nodes.ensures.same) (ap (λ l. l.now) c.in_ok-radius_nodes.ensures.same) c.channel_rho-albedo.ensures b
          (rw c.mean_free_paths.ensures (sym c.is_inside.ensures ∙ c.if-not-is_inside.false))
          c.place-rho.ensures.interval c.place-rho.ensures.four c.place.ensures.interval c.place.ensures.four;
    }
