-- `are_ready` meets its contract: it asks for the rows of the place of each channel that is inside, and of no other.
use Rattle.std.proofs.Common.{rules, refl, [], get_or, ◌∙◌}
use Rattle.interpolation.specs.Weights.{four_of}
use Rattle.bssrdf.proofs.Marks.{channel_marked, three_marked}
use Rattle.bssrdf.proofs.needed.are_ready.Goals as goal

pub returns : goal.returns
returns c =
    let a = c.args in
    rw (
      three_marked a.marks.now _ _ _,
      c.is_channel_ready-r.ensures ∙ channel_marked a.marks.now _ (get_or a.rho.at 0 0) (four_of (get_or a.rho.weights 0 [])) _ c.then.ensures.variant (search rules),
      c.is_channel_ready-g.ensures ∙ channel_marked a.marks.now _ (get_or a.rho.at 1 0) (four_of (get_or a.rho.weights 1 [])) _ c.then-2.ensures.variant (search rules),
      c.is_channel_ready-b.ensures ∙ channel_marked a.marks.now _ (get_or a.rho.at 2 0) (four_of (get_or a.rho.weights 2 [])) _ c.then-3.ensures.variant (search rules),
    ) refl
