-- The numbers of Rust's types have magnitudes of at most 128 bits.
use Rattle.std.proofs.Common.{ℕ, ◌^◌, ◌≤◌, arith}
use Rattle.std.specs.Prelude.{ℤ, pos, negsuc}
use Rattle.std.specs.Int.{Width, w8, w16, w32, w64, w128, FitsUnsignedBits}
use Rattle.std.specs.Int.RustNames.{FitsSigned}
use Rattle.std.proofs.Math.Nat.{pow-le-pow_right}
use mir.Val.{hbits}
use Rattle.bcder.specs.x690.Number.{HasMagnitude}

unsigned_magnitude : (k : ℕ) → k ≤ 128 → (z : ℤ) → FitsUnsignedBits k z → HasMagnitude z
unsigned_magnitude k l (pos n) h = let p : 2 ^ k ≤ 2 ^ 128 = pow-le-pow_right (omega arith) l in omega arith
unsigned_magnitude k l (negsuc n) h = absurd h

signed_magnitude : (w : Width) → hbits w ≤ 128 → (z : ℤ) → FitsSigned w z → HasMagnitude z
signed_magnitude w l (pos n) h = let p : 2 ^ hbits w ≤ 2 ^ 128 = pow-le-pow_right (omega arith) l in let q = h.sfits in omega arith
signed_magnitude w l (negsuc n) h = let p : 2 ^ hbits w ≤ 2 ^ 128 = pow-le-pow_right (omega arith) l in let q = h.sfits in omega arith

-- the numbers of each type have magnitudes of at most 128 bits
pub u8_magnitude : (z : ℤ) → FitsUnsignedBits 8 z → HasMagnitude z
u8_magnitude = unsigned_magnitude 8 (omega arith)

pub u16_magnitude : (z : ℤ) → FitsUnsignedBits 16 z → HasMagnitude z
u16_magnitude = unsigned_magnitude 16 (omega arith)

pub u32_magnitude : (z : ℤ) → FitsUnsignedBits 32 z → HasMagnitude z
u32_magnitude = unsigned_magnitude 32 (omega arith)

pub u64_magnitude : (z : ℤ) → FitsUnsignedBits 64 z → HasMagnitude z
u64_magnitude = unsigned_magnitude 64 (omega arith)

pub u128_magnitude : (z : ℤ) → FitsUnsignedBits 128 z → HasMagnitude z
u128_magnitude = unsigned_magnitude 128 (omega arith)

pub i8_magnitude : (z : ℤ) → FitsSigned w8 z → HasMagnitude z
i8_magnitude = signed_magnitude w8 (omega arith)

pub i16_magnitude : (z : ℤ) → FitsSigned w16 z → HasMagnitude z
i16_magnitude = signed_magnitude w16 (omega arith)

pub i32_magnitude : (z : ℤ) → FitsSigned w32 z → HasMagnitude z
i32_magnitude = signed_magnitude w32 (omega arith)

pub i64_magnitude : (z : ℤ) → FitsSigned w64 z → HasMagnitude z
i64_magnitude = signed_magnitude w64 (omega arith)

pub i128_magnitude : (z : ℤ) → FitsSigned w128 z → HasMagnitude z
i128_magnitude = signed_magnitude w128 (omega arith)
