-- Eight places at once. What a vector's comparison counts of eight neighbouring nodes is how many of their places pass the test. Assumes nothing.
use mathlib.Core.Path.{◌≡◌, sym, ◌∙◌, ap}
use mathlib.Core.Bool.{Bool, cond}
use mathlib.Core.List.{List, map}
use Prim.Native.Nat.{ℕ, ◌+◌, ◌-◌, ◌≤◌, ◌^◌, ◌%◌}
use native.Mathlib.Omega.{arith}
use lib.ListN.{length, get_or, replicate}
use lib.Lanes.{chunk, zip2, mask_l, top}
use lib.Ieee.{Float, nan, le, lt}
use mir.Syntax.{w32}
use mir.Val.{hbits, bits}
use Rattle.std.specs.List.{count_by, range_with_len}
use Rattle.std.specs.Int.RustNames.{count_ones}
use Rattle.std.proofs.lemmas.Simd.{bitmask_splat, length-chunk, pick_l-range_with_len, ones-mask_l, map-map, tops_compared, zip2_of_maps, mask_l-mod}
use Rattle.std.proofs.lemmas.List.Sums.{count_by-le-length}
use Rattle.interpolation.specs.Interval.{at_most}
use Rattle.interpolation.specs.Nodes.{rises}

-- the eight nodes from i on
eight : (nodes : List Float) (i : ℕ) → i + 8 ≤ length nodes → chunk i 8 nodes ≡ map (λ k. get_or nodes k nan) (range_with_len i 8)
eight nodes i l = sym (pick_l-range_with_len nan nodes i 8 l)

-- of a comparison with x
pub counted_at_most : (nodes : List Float) (x : Float) (i : ℕ) → i + 8 ≤ length nodes
    → count_ones (mask_l (map (top (hbits w32)) (zip2 (λ a b. cond (le a b) (2 ^ bits w32 - 1) 0) (chunk i 8 nodes) (replicate 8 x))) % 2 ^ 64) ≡ count_by (at_most nodes x) (range_with_len i 8)
unfolding at_most
counted_at_most nodes x i l =
    let mask = bitmask_splat w32 le (chunk i 8 nodes) 8 x (length-chunk i 8 nodes l) (omega arith) in
    let places = ap (map (λ a. le a x)) (eight nodes i l) ∙ map-map (λ a. le a x) (λ k. get_or nodes k nan) (range_with_len i 8) in
    ap count_ones (mask ∙ ap mask_l places) ∙ ones-mask_l (λ k. le (get_or nodes k nan) x) (range_with_len i 8)

-- of a comparison with the next eight
pub counted_rises : (nodes : List Float) (i : ℕ) → i + 9 ≤ length nodes
    → count_ones (mask_l (map (top (hbits w32)) (zip2 (λ a b. cond (lt a b) (2 ^ bits w32 - 1) 0) (chunk i 8 nodes) (chunk (i + 1) 8 nodes))) % 2 ^ 64) ≡ count_by (rises nodes) (range_with_len i 8)
counted_rises nodes i l =
    let places = range_with_len i 8 in
    let next : chunk (i + 1) 8 nodes ≡ map (λ k. get_or nodes (k + 1) nan) places = eight nodes (i + 1) (omega arith) in
    let pairs = zip2_of_maps lt (λ k. get_or nodes k nan) (λ k. get_or nodes (k + 1) nan) places (eight nodes i (omega arith)) next in
    let mask = tops_compared w32 lt (chunk i 8 nodes) (chunk (i + 1) 8 nodes) ∙ pairs in
    rw (mask, mask_l-mod (map (rises nodes) places) 64 (omega arith)) (ones-mask_l (rises nodes) places)

-- at most all eight pass
pub few : (p : ℕ → Bool) (i : ℕ) → count_by p (range_with_len i 8) ≤ 8
few p i = count_by-le-length p (range_with_len i 8)
