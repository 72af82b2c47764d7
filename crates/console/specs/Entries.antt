-- What the C entries say where an entry puts stores together, a state with a ring, and where there is no store: an event, a configuration, a WAVE file. The others say what `state_store`, `ring_store` and
-- `model_store` say.
-- Assumes nothing.
use Rattle.std.specs.Prelude.{ℕ, Bool, false, ◌&&◌, List, [], ◌∷◌, length, ◌==◌, nat_le, Result, Ok, Err}
use Rattle.std.proofs.lemmas.List.Edits.{sets}
use Rattle.layout.specs.Bytes.{le, num_at}
use Rattle.layout.specs.Layout.{read, write}
use Rattle.layout.specs.Rows.{rows_bytes}
use Rattle.codes.specs.Says.{pick, guard}
use Rattle.codes.specs.Codes.{among}
use Rattle.codes.specs.Events.{event_codes_of}
use Rattle.codes.specs.Answers.{refusal_word}
use Rattle.codes.specs.Versions.{version_numbers, has_controls}
use Rattle.codes.specs.declared.answers.Cause.TheVariants.{NoStatus}
use Rattle.codes.specs.declared.answers.Refusal.TheVariants.{IoError}
use Rattle.turns.specs.Ring.{is_refused}
use Rattle.records.specs.Config.{config_row, fits}
use Rattle.records.specs.Notice.{event_row}
use Rattle.exchange.specs.Xfer.{start_of, start_traced_of, capture_of, xfer_message, xfer_word}
use Rattle.sound_core.specs.declared.state.Call.{Call}
use Rattle.exchange.specs.declared.xfer.XferReply.{XferReply}
use Rattle.exchange.specs.declared.xfer.XferReply.TheVariants.{Send, Says}
use Rattle.exchange.specs.declared.xfer.XferStep.{XferStep}
use Rattle.ring_store.specs.Store.{ring_size}
use Rattle.state_store.specs.Places.{state_size}
use Rattle.layout.specs.Lent.{Made, made, Shown, shown, result_size}
use Rattle.ring_store.specs.Store.{track_at, ring_of, ring_bytes}
use Rattle.state_store.specs.Store.{sound_of, state_after}
use Rattle.state_store.specs.Calls.{Told, too_short, call_in}
use Rattle.state_store.specs.Tokens.{Submitted, submitted, nb_in}
use Rattle.trace.specs.Listed.{compared_of, listed_of, says_compared}
use Rattle.wav.specs.Wave.{wave_of, says_wave, wrote_of, says_wrote, file_of, written_by}
use Rattle.wav.specs.declared.reader.Wave.{Wave}
use Rattle.wav.specs.declared.reader.WaveError.{WaveError}

-- ---- a call: the state's, with the ring that tells Busy

abbrev pub call_entry : List ℕ → List ℕ → Call → List ℕ → List ℕ → Told
call_entry s ring call m r =
    guard (nat_le ring_size (length ring)) (too_short s m r)
    (call_in s (track_at ring) call m r)

-- ---- a submission that does not wait: likewise

abbrev pub nb_entry : List ℕ → List ℕ → ℕ → List ℕ → List ℕ → List ℕ → List ℕ → Submitted
nb_entry s ring stream payload places m r =
    guard (nat_le ring_size (length ring)) (submitted 10 s places m r)
    (nb_in s (track_at ring) stream payload places m r)

-- ---- the start of a transfer: `start_of` or, of one that writes a trace (2026-11), `start_traced_of`, or, of a capture (2026-09), `capture_of` on the state and the ring that the stores hold

pub record Begun : Type 0 where
  pub answer : ℕ
  pub state : List ℕ
  pub ring : List ℕ
  pub message : List ℕ

-- what an entry answers and leaves, as one record
abbrev pub began : ℕ → List ℕ → List ℕ → List ℕ → Begun
began answer s ring m = record { answer = answer; state = s; ring = ring; message = m }

-- the ring changes only where a transfer begins
abbrev pub ring_then : XferReply → List ℕ → List ℕ → List ℕ
ring_then (Send n) old new = old
ring_then (Says x) old new = pick (is_refused x) old new

abbrev pub begun : List ℕ → List ℕ → ℕ → List ℕ → XferStep → Begun
begun s ring stream m x =
    record {
      answer = xfer_word x.reply;
      state = state_after s x.sound;
      ring = ring_then x.reply ring (sets ring 0 (ring_bytes x.ring));
      message = xfer_message x.reply (sound_of s) stream m;
    }

abbrev pub entry_of : List ℕ → List ℕ → ℕ → List ℕ → XferStep → Begun
entry_of s ring stream m x =
    guard (nat_le state_size (length s) && nat_le ring_size (length ring)) (began 10 s ring m)
    (begun s ring stream m x)

unfoldable pub start_entry : List ℕ → List ℕ → ℕ → ℕ → ℕ → List ℕ → Begun
start_entry s ring stream len budget m = entry_of s ring stream m (start_of (sound_of s) (ring_of ring) stream len budget (length m))

unfoldable pub start_traced_entry : List ℕ → List ℕ → ℕ → ℕ → ℕ → ℕ → List ℕ → Begun
start_traced_entry s ring stream len budget room m = entry_of s ring stream m (start_traced_of (sound_of s) (ring_of ring) stream len budget room (length m))

unfoldable pub capture_entry : List ℕ → List ℕ → ℕ → ℕ → ℕ → ℕ → List ℕ → Begun
capture_entry s ring stream periods len budget m = entry_of s ring stream m (capture_of (sound_of s) (ring_of ring) stream periods len budget (length m))

-- ---- an event: each number that it gives, 4 bytes in the result; 513 where it says nothing; an unknown code is 2, which no status caused

abbrev pub notice_shown : Bool → List ℕ → List ℕ → Shown
notice_shown controls e r =
    let code = num_at 0 4 e in
    guard (length e == 8) (shown 513 r)
    (guard (among code (event_codes_of controls)) (shown (refusal_word (IoError NoStatus)) r)
    (shown 0 (sets r 0 (rows_bytes (le 4) (read (event_row controls code) e)))))

unfoldable pub notice_entry : List ℕ → List ℕ → Shown
notice_entry e r = guard (nat_le result_size (length r)) (shown 10 r) (notice_shown false e r)

-- ---- by the version and the negotiated features that the caller names: 10 first, then 1 for a number that is no version

unfoldable pub notice_entry_in : List ℕ → ℕ → ℕ → List ℕ → Shown
notice_entry_in e version features r =
    guard (nat_le result_size (length r)) (shown 10 r)
    (guard (among version version_numbers) (shown 1 r)
    (notice_shown (has_controls version features) e r))

-- the counts, laid out in the result as in the configuration
unfoldable pub config_entry : List ℕ → ℕ → ℕ → List ℕ → Shown
config_entry s version features r =
    let controls = has_controls version features in
    let row = config_row controls in
    guard (nat_le result_size (length r)) (shown 10 r)
    (guard (fits controls s) (shown 10 r)
    (guard (among version version_numbers) (shown 1 r)
    (shown 0 (sets r 0 (write row (read row s))))))

-- ---- a WAVE file that is read: where its data chunk is, offset 8 and length 8, and its sound as set parameters takes it, channels 1, format 1, rate 1

abbrev pub wave_row : List ℕ
wave_row = 8 ∷ 8 ∷ 1 ∷ 1 ∷ 1 ∷ []

abbrev pub wave_values : Wave → List ℕ
wave_values w = w.offset ∷ w.len ∷ w.sound.channels ∷ w.sound.format ∷ w.sound.rate ∷ []

abbrev pub wave_result : Result Wave WaveError → List ℕ → List ℕ
wave_result (Ok w) r = sets r 0 (write wave_row (wave_values w))
wave_result (Err e) r = r

-- by what reading said
abbrev pub wave_shown : List ℕ → Result Wave WaveError → Shown
wave_shown r x = shown (says_wave x).number (wave_result x r)

unfoldable pub wave_entry : List ℕ → List ℕ → Shown
wave_entry file r = guard (nat_le result_size (length r)) (shown 10 r) (wave_shown r (wave_of file))

-- ---- a WAVE file that is written at the front of a slice

unfoldable pub file_entry : ℕ → ℕ → ℕ → List ℕ → List ℕ → Made
file_entry channels format rate frames l =
    let x = wrote_of channels format rate (length frames) (length l) in
    made (says_wrote x).number (written_by x (file_of channels format rate frames) l)

-- ---- two traces compared: the list at the front of the room, or the room as it was

abbrev pub compare_entry : List ℕ → List ℕ → List ℕ → Made
compare_entry a b list = made (says_compared (compared_of a b (length list))).number (listed_of a b list)
