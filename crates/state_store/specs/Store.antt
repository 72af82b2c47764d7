-- The state as bytes in its owner's storage: 64 bytes of core, then the tables as they are, then parameters, lifecycles and tokens, a row for each.
-- Assumes nothing.
use Rattle.std.specs.Prelude.{ℕ, ◌+◌, Bool, true, false, not, ◌&&◌, List, [], ◌∷◌, ◌++◌, ◌==◌, nat_le, slice_index}
use Rattle.std.proofs.lemmas.List.Edits.{sets}
use Rattle.layout.specs.Bytes.{bytes_at, num_at}
use Rattle.layout.specs.Layout.{write, read_at}
use Rattle.layout.specs.Rows.{rows_at, rows_bytes}
use Rattle.codes.specs.Says.{pick}
use Rattle.tables.specs.Tables.{tables_bytes}
use Rattle.state_store.specs.Places.{head_size, params_place, lives_place, tokens_place}
use Rattle.state_store.specs.Flat.{flat_row, flat_values, flat_of, flat_stage, flat_ready, whole_flat}
use Rattle.state_store.specs.Types.{Params, Core, Sound, Token, Streams, JacksAsked, Head}

-- ---- the core: configured counts 4 each, table counts 4 each, then the stage

-- and the guard 8, which is 0 or 1, and 8 bytes that are reserved: 0
abbrev pub guard_row : List ℕ
guard_row = 8 ∷ 8 ∷ []

abbrev pub flag : Bool → ℕ
flag t = pick t 1 0

abbrev pub head_row : List ℕ
head_row = 4 ∷ 4 ∷ 4 ∷ 4 ∷ 4 ∷ 4 ∷ (flat_row ++ guard_row)

abbrev pub head_values : Head → List ℕ
head_values h =
    h.counts.jacks ∷ h.counts.streams ∷ h.counts.maps ∷ h.read.jacks ∷ h.read.streams ∷ h.read.maps ∷ (flat_values h.flat ++ (h.guard ∷ h.reserved ∷ []))

abbrev pub head_from : List ℕ → Head
head_from vs =
    record {
      counts = record { jacks = slice_index vs 0; streams = slice_index vs 1; maps = slice_index vs 2 };
      read = record { jacks = slice_index vs 3; streams = slice_index vs 4; maps = slice_index vs 5 };
      flat =
          record {
            ready = slice_index vs 6;
            stage = slice_index vs 7;
            call = slice_index vs 8;
            part = slice_index vs 9;
            id = slice_index vs 10;
            first = slice_index vs 11;
            second = slice_index vs 12;
            third = slice_index vs 13;
            known = slice_index vs 14;
            channels = slice_index vs 15;
            format = slice_index vs 16;
            rate = slice_index vs 17;
          };
      guard = slice_index vs 18;
      reserved = slice_index vs 19;
    }

unfoldable pub head_at : List ℕ → Head
head_at s = head_from (read_at 0 head_row s)

abbrev pub head_of : Core → Head
head_of c = record { counts = c.counts; read = c.read; flat = flat_of c.ready c.stage; guard = flag c.guard; reserved = 0 }

-- a store whose stage is written as it must be, whose guard is 0 or 1, and in which what is reserved is 0
abbrev pub whole_head : Head → Bool
whole_head h = whole_flat h.flat && (nat_le h.guard 1 && h.reserved == 0)

abbrev pub whole : List ℕ → Bool
whole s = whole_head (head_at s)

-- the core of a head; one that is not whole reads as done with set-up that still asks for jacks, which fails the consistency test
abbrev pub core_of : Head → Core
core_of h =
    pick (whole_head h)
    (record { counts = h.counts; guard = not (h.guard == 0); read = h.read; ready = flat_ready h.flat; stage = flat_stage h.flat })
    (record { counts = h.counts; guard = false; read = h.read; ready = true; stage = JacksAsked (Streams 0) })

-- ---- rows

-- known 1, channels 1, format 1, rate 1, buffer 4, period 4, features 4
abbrev pub params_row : List ℕ
params_row = 1 ∷ 1 ∷ 1 ∷ 1 ∷ 4 ∷ 4 ∷ 4 ∷ []

abbrev pub params_bytes : Params → List ℕ
params_bytes p = write params_row (p.known ∷ p.channels ∷ p.format ∷ p.rate ∷ p.buffer ∷ p.period ∷ p.features ∷ [])

unfoldable pub params_at : ℕ → List ℕ → Params
params_at o s =
    record {
      known = num_at o 1 s;
      channels = num_at (o + 1) 1 s;
      format = num_at (o + 2) 1 s;
      rate = num_at (o + 3) 1 s;
      buffer = num_at (o + 4) 4 s;
      period = num_at (o + 8) 4 s;
      features = num_at (o + 12) 4 s;
    }

-- where a stream is in its lifecycle, 1
abbrev pub life_row : List ℕ
life_row = 1 ∷ []

abbrev pub life_bytes : ℕ → List ℕ
life_bytes l = write life_row (l ∷ [])

unfoldable pub life_at : ℕ → List ℕ → ℕ
life_at o s = num_at o 1 s

-- what is pending under a token: its state 4, its status 4
abbrev pub token_row : List ℕ
token_row = 4 ∷ 4 ∷ []

abbrev pub token_bytes : Token → List ℕ
token_bytes t = write token_row (t.state ∷ t.status ∷ [])

unfoldable pub token_in : ℕ → List ℕ → Token
token_in o s = record { state = num_at o 4 s; status = num_at (o + 4) 4 s }

-- ---- THE STATE that a store holds, and the bytes of a state

unfoldable pub sound_of : List ℕ → Sound
sound_of s =
    record {
      core = core_of (head_at s);
      tables = bytes_at head_size tables_bytes s;
      params = rows_at params_at 16 params_place 127 s;
      lives = rows_at life_at 1 lives_place 127 s;
      pending = record { tokens = rows_at token_in 8 tokens_place 32 s };
    }

unfoldable pub sound_bytes : Sound → List ℕ
sound_bytes x =
    write head_row (head_values (head_of x.core))
    ++ (x.tables ++ (rows_bytes params_bytes x.params ++ (rows_bytes life_bytes x.lives ++ rows_bytes token_bytes x.pending.tokens)))

-- what a store holds once its state is x: a store that is not whole holds no state, and stays
abbrev pub state_after : List ℕ → Sound → List ℕ
state_after s x = pick (whole s) (sets s 0 (sound_bytes x)) s
