-- The chunks of a RIFF file: "chunks padded to even", "the first chunk of each kind counts", "a chunk or pad past that size".
-- Assumes nothing.
use Rattle.std.specs.Prelude.{Bool, true, false, List, ℕ, zero, suc, ◌+◌, ◌%◌, eqb}
use Rattle.layout.specs.Bytes.{num_at}
use Rattle.codes.specs.Says.{pick}

-- the four letters, as the number that they stand for (ChunksLaws: `letters`)
abbrev pub riff_tag : ℕ
riff_tag = 0x46464952

abbrev pub wave_tag : ℕ
wave_tag = 0x45564157

abbrev pub fmt_tag : ℕ
fmt_tag = 0x20746d66

abbrev pub data_tag : ℕ
data_tag = 0x61746164

-- the bytes that n bytes and their pad take
abbrev pub padded : ℕ → ℕ
padded n = n + n % 2

-- the places of chunks, until the bytes end where a chunk ends, or within one
pub data Chunks : Type 0 where
  ended : Chunks
  cut : Chunks
  chunk : ℕ → Chunks → Chunks

-- the chunks in the n bytes of s from place o on, of which the first k belong to the chunk before them.
-- A chunk is its tag, 4 bytes, its size, 4, so many bytes, and a pad where their number is odd: after its first byte, 7 and the padded size are left
unfoldable pub chunks_at : List ℕ → ℕ → ℕ → ℕ → Chunks
chunks_at s o zero zero = ended
chunks_at s o (suc k) zero = cut
chunks_at s o (suc k) (suc n) = chunks_at s (suc o) k n
chunks_at s o zero (suc n) = chunk o (chunks_at s (suc o) (7 + padded (num_at (o + 4) 4 s)) n)

-- each chunk, with its pad, is there whole
abbrev pub laid : Chunks → Bool
laid ended = true
laid cut = false
laid (chunk o c) = laid c

-- the place of the first chunk with this tag; 0 where there is none, for at 0 stands the RIFF itself
abbrev pub first_of : List ℕ → ℕ → Chunks → ℕ
first_of s tag ended = 0
first_of s tag cut = 0
first_of s tag (chunk o c) = pick (eqb (num_at o 4 s) tag) o (first_of s tag c)
