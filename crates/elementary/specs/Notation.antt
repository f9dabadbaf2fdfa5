-- The notation of every definition (specification, section 2; a comment that cites the specification means docs/SPECIFICATION.md): the operations of IEEE 754 with infix names, each rounded once to the nearest value, ties to even, and literals by their bit patterns.
-- `Float` is the logic's type of values: `nan`, `inf s`, or `fin s m e`, which is m * 2 ^ e, negative where s is true. There is one `nan`, and +0 and -0 differ,
-- so an equation `x ≡ y` of Floats says "the same bits, any NaN equal to any NaN". One type serves binary32 and binary64.
use Rattle.std.specs.Prelude.{ℕ, ◌^◌, false, pos, from_bits, Float}
use Rattle.std.specs.Float.{Format, binary32, binary64}
use Rattle.std.specs.Float.Ieee.{round, add, sub, mul, div, of_int}

-- ---- binary32, the Rust's `f32`

infixl 70 ◌⊕◌
infixl 70 ◌⊖◌
infixl 75 ◌⊗◌
infixl 75 ◌⊘◌
abbrev pub ◌⊕◌ : Float → Float → Float
x ⊕ y = add binary32 x y

abbrev pub ◌⊖◌ : Float → Float → Float
x ⊖ y = sub binary32 x y

abbrev pub ◌⊗◌ : Float → Float → Float
x ⊗ y = mul binary32 x y

abbrev pub ◌⊘◌ : Float → Float → Float
x ⊘ y = div binary32 x y

-- the value with the bit pattern b
abbrev pub lit : ℕ → Float
lit b = from_bits binary32 b

-- ---- binary64, the Rust's `f64`

infixl 70 ◌⊞◌
infixl 70 ◌⊟◌
infixl 75 ◌⊠◌
infixl 75 ◌⧄◌
abbrev pub ◌⊞◌ : Float → Float → Float
x ⊞ y = add binary64 x y

abbrev pub ◌⊟◌ : Float → Float → Float
x ⊟ y = sub binary64 x y

abbrev pub ◌⊠◌ : Float → Float → Float
x ⊠ y = mul binary64 x y

abbrev pub ◌⧄◌ : Float → Float → Float
x ⧄ y = div binary64 x y

abbrev pub lit64 : ℕ → Float
lit64 b = from_bits binary64 b

-- 1
abbrev pub one64 : Float
one64 = lit64 0x3ff0_0000_0000_0000

-- the whole number n
abbrev pub whole64 : ℕ → Float
whole64 n = of_int binary64 (pos n)

-- ---- a decimal literal, digits / 10 ^ places: the nearest value of the format

abbrev pub decimal : Format → ℕ → ℕ → Float
decimal f digits places = round f false digits (10 ^ places)
