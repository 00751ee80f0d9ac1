pub mod Gcd
pub mod GreatestDivisor
pub mod FloorDivision
pub mod Ratio
pub mod Rounding
pub mod Sign
