-- definitions
pub mod Types
pub mod Chunks
pub mod Wave
pub mod Private
-- theorems
pub mod RoundTrip
pub mod Within
pub mod Ignored
-- laws
pub mod ChunksLaws
pub mod WaveLaws
pub mod WriteLaws
