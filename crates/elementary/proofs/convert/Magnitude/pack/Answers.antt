-- `Magnitude::pack` meets its contract. 64 less the leading zeros is q's length (`lead_size`), and `Rounding` says by that length what `round` keeps.
use Rattle.std.proofs.Common.{◌≡◌, ℕ, ◌+◌, ◌-◌, ◌*◌, ◌^◌, ◌<◌, ◌≤◌, Bool, cond, sym, subst, lt_of_lt_of_le, arith, lit≤}
use lib.Count.{count_leading_zeros}
use lib.Ieee.{binary32, size, of_bits, round}
use lib.Ieee.Nearest.{closest}
use Rattle.elementary.proofs.Lengths.{lead_size, size_gt}
use Rattle.elementary.proofs.Rounding.{Rounds, normal, subnormal, vanishes, kept_small, in_range, out_of_range}
use Rattle.elementary.proofs.convert.Magnitude.pack.Goals as goal

module _ (q j : ℕ) (digits : q < 2 ^ 53) (full : 0 < j → 2 ^ 52 ≤ q) where
  -- q's length as the machine works it out
  abbrev length : ℕ
  length = 64 - count_leading_zeros 64 q

  length_is : length ≡ size q
  length_is = omega (arith, lead_size 64 q (lt_of_lt_of_le digits (lit≤ tt)))

  -- a j above 0 comes with a q of 53 digits
  long : 0 < j → 52 < length
  long h = omega (arith, length_is, size_gt q 52 (full h))

  enough : 949 < length + j → 25 ≤ length
  enough g = grind (arith, long)

  few : length + j ≤ 949 → j ≤ 896
  few g = grind (arith, long)

  at_normal : 949 < length + j → Rounds q j (length - 24) (length + j - 949)
  at_normal g = subst (λ (n : ℕ). 949 < n + j → 24 ≤ n → Rounds q j (n - 24) (n + j - 949)) (sym length_is) (normal q j) g (omega (arith, enough g))

  at_subnormal : length + j ≤ 949 → Rounds q j (925 - j) 0
  at_subnormal g = subnormal q j (subst (λ (n : ℕ). n + j ≤ 949) length_is g) (omega (arith, few g))

  -- what the function ensures, where k is 0
  alone : (r : ℕ) → length + j ≤ 949 → r ≡ closest q (2 ^ (925 - j)) → (r ≤ 255 * 2 ^ 23) × ((s : Bool) → of_bits binary32 (cond s (2 ^ 31) 0 + r) ≡ round binary32 s (q * 2 ^ j) (2 ^ 1074))
  alone r g e =
      let R = at_subnormal g in
      let l : r ≤ 2 ^ 24 = kept_small q j (925 - j) 0 r R e in
      let z : 0 * 2 ^ 23 + r ≡ r = omega arith in
      (omega arith, λ s. subst (λ (n : ℕ). of_bits binary32 (cond s (2 ^ 31) 0 + n) ≡ round binary32 s (q * 2 ^ j) (2 ^ 1074)) z (in_range q j (925 - j) 0 r R e (omega arith) s))

pub overflow_sub-size-then-size-j-gt949 : goal.overflow_sub-size-then-size-j-gt949
overflow_sub-size-then-size-j-gt949 c = omega (arith, enough c.args.self.q c.args.self.j c.args.self.digits c.args.self.normal c.if-size-j-gt949.true)

pub nearest-requires-clause-some : goal.nearest-requires-clause-some
nearest-requires-clause-some c = omega (arith, enough c.args.self.q c.args.self.j c.args.self.digits c.args.self.normal c.if-size-j-gt949.true)

pub overflow_sub-j : goal.overflow_sub-j
overflow_sub-j c = omega (arith, few c.args.self.q c.args.self.j c.args.self.digits c.args.self.normal c.if-size-j-gt949.false)

pub nearest-requires-else-j-lt872-clause-some : goal.nearest-requires-else-j-lt872-clause-some
nearest-requires-else-j-lt872-clause-some c = omega (arith, few c.args.self.q c.args.self.j c.args.self.digits c.args.self.normal c.if-size-j-gt949.false)

pub returns-then-r-lt2139095040 : goal.returns-then-r-lt2139095040
returns-then-r-lt2139095040 c =
    (omega arith, in_range c.args.self.q c.args.self.j _ _ c.nearest.result (at_normal c.args.self.q c.args.self.j c.args.self.digits c.args.self.normal c.if-size-j-gt949.true) c.nearest.ensures c.if-r-lt2139095040.true)

pub returns-else-r-lt2139095040 : goal.returns-else-r-lt2139095040
returns-else-r-lt2139095040 c =
    (lit≤ tt, out_of_range c.args.self.q c.args.self.j _ _ c.nearest.result (at_normal c.args.self.q c.args.self.j c.args.self.digits c.args.self.normal c.if-size-j-gt949.true) c.nearest.ensures c.if-r-lt2139095040.false)

pub returns-then-j-lt872 : goal.returns-then-j-lt872
returns-then-j-lt872 c =
    alone c.args.self.q c.args.self.j c.args.self.digits c.args.self.normal 0 c.if-size-j-gt949.false (sym (vanishes c.args.self.q (925 - c.args.self.j) c.args.self.digits (omega arith)))

pub returns-else-j-lt872 : goal.returns-else-j-lt872
returns-else-j-lt872 c = alone c.args.self.q c.args.self.j c.args.self.digits c.args.self.normal _ c.if-size-j-gt949.false c.nearest-else-j-lt872.ensures
