-- "A state and ring that calls left", word for word: made new and then called, fed and turned in any way. They have the invariant, and demand 3's premises can be met.
-- Assumes nothing.
use Rattle.std.specs.Prelude.{◌≡◌, ℕ, Bool, true, false, List, [], ◌∷◌, length, replicate, ◌≢◌, refl, None}
use Rattle.std.proofs.lemmas.Bool.{false≢true}
use Rattle.std.proofs.Common.{inl, arith}
use Rattle.layout.specs.Bytes.{un, bytes_at, num_at}
use Rattle.codes.specs.Says.{guard}
use Rattle.codes.specs.Life.{takes_of}
use Rattle.tables.specs.Tables.{judged}
use Rattle.turns.specs.Calls.{traced_call, drain_call, turned_of, start_call, start_traced, started_of, written_in}
use Rattle.turns.specs.Capture.{capture_start, capture_call}
use Rattle.turns.specs.declared.capture.Catch.{Catch}
use Rattle.exchange.specs.CaptureLaws.{capture-start-keeps, capture-keeps}
use Rattle.turns.specs.Script.{transfer_of}
use Rattle.turns.specs.Consistent.{placed_of, paced_of}
use Rattle.turns.specs.ConsistentLaws.{Consistent, consistent-facts, consistent-true}
use Rattle.turns.specs.StaysConsistentLaws.{traced-keeps, drain-keeps, start-keeps, traced-start-keeps, new-passes}
use Rattle.turns.specs.DemandLaws.{script-keeps}
use Rattle.turns.specs.Ring.{direct, new_track, new_ring}
use Rattle.turns.specs.Private.{Mode}
use Rattle.pending.specs.Table.{none_in}
use Rattle.exchange.specs.State.{new_sound, params_of, life_of}
use Rattle.sound_core.specs.Consistent.{consistent_of}
use Rattle.sound_core.specs.Plan.{own_set, begin_of, after_jacks, after_streams, after_maps, after_sent, answer_of}
use Rattle.exchange.specs.Exchange.{step_of, call_of, feed_of, fail_of}
use Rattle.exchange.specs.Xfer.{start_of, start_traced_of, xfer_of, capture_of}
use Rattle.exchange.specs.Submit.{nb_of, mark_step, finish_step}
use Rattle.exchange.specs.Submitted.{nb-kept, mark-kept, finish-kept}
use Rattle.exchange.specs.Kept.{Kept, Playable}
use Rattle.exchange.specs.KeptLaws.{new-kept, call_kept, feed-kept}
use Rattle.exchange.specs.Ends.{after}
use Rattle.exchange.specs.XferLaws.{start-by, script-by, traced-by, capture-by, start-kept, xfer-kept, traced-kept, capture-kept}
use Rattle.exchange.specs.Feed.{Feed, paged, failed, fed_of}
use Rattle.exchange.specs.Types.{Ring, Reading, Call, SetParams, Idle, Sound}

-- a ring whose trace is so long: nothing else of it changes where the writer of a turn notes that
abbrev pub penned_in : ℕ → Ring → Ring
penned_in written r = record { track = written_in written r.track; slots = r.slots }

pub data Reached : Sound → Ring → Type 0 where
  fresh : (descriptors : ℕ) → Mode descriptors → (guard : Bool) (jacks streams maps : ℕ) → Reached (new_sound guard jacks streams maps) (new_ring descriptors)
  called : {s : Sound} {r : Ring} (call : Call) (n : ℕ) → Reached s r → Reached (step_of (call_of s r.track call n) s []).sound r
  fed : {s : Sound} {r : Ring} (f : Feed) → Reached s r → Reached (fed_of s f).sound r
  started : {s : Sound} {r : Ring} (stream len budget n : ℕ) → Reached s r → Reached (start_of s r stream len budget n).sound (start_of s r stream len budget n).ring
  scripted : {s : Sound} {r : Ring} (stream : ℕ) (frames : List ℕ) (budget : ℕ) (script : List ℕ) (n : ℕ) → Reached s r
      → Reached (xfer_of s r stream (length frames) budget script n).sound (xfer_of s r stream (length frames) budget script n).ring
  -- a turn, lent room for a trace, or none; what it writes there, the ring keeps the length of
  turned : {s : Sound} {r : Ring} (len room : ℕ) (reading : Reading) → Reached s r → Reached s (turned_of r (traced_call r.track len room reading)).ring
  traced : {s : Sound} {r : Ring} (stream len budget room n : ℕ) → Reached s r → Reached (start_traced_of s r stream len budget room n).sound (start_traced_of s r stream len budget room n).ring
  penned : {s : Sound} {r : Ring} (written : ℕ) → Reached s r → Reached s (penned_in written r)
  captured : {s : Sound} {r : Ring} (stream periods lent budget n : ℕ) → Reached s r → Reached (capture_of s r stream periods lent budget n).sound (capture_of s r stream periods lent budget n).ring
  received : {s : Sound} {r : Ring} (len : ℕ) (c : Catch) → Reached s r → Reached s (turned_of r (capture_call r.track len c)).ring
  drained : {s : Sound} {r : Ring} (reading : Reading) → Reached s r → Reached s (turned_of r (drain_call r.track reading)).ring
  submitted : {s : Sound} {r : Ring} (stream n len m : ℕ) → Reached s r → Reached (nb_of s r stream n len m).sound r
  marked : {s : Sound} {r : Ring} (reading : Reading) → Reached s r → Reached (mark_step s reading).sound r
  finished : {s : Sound} {r : Ring} (token : ℕ) → Reached s r → Reached (finish_step s token).sound r
  -- the ring by itself: `start`, `capture_start`, `traced_start` and `transfer` of turns, and a new one, of either mode, beside a state that was kept
  begun : {s : Sound} {r : Ring} (stream len period budget : ℕ) → Reached s r → Reached s (started_of r (start_call r.track stream len period budget)).ring
  listened : {s : Sound} {r : Ring} (stream periods period lent budget : ℕ) → Reached s r → Reached s (started_of r (capture_start r.track stream periods period lent budget)).ring
  logged : {s : Sound} {r : Ring} (stream len period budget room : ℕ) → Reached s r → Reached s (started_of r (start_traced r.track stream len period budget room)).ring
  ran : {s : Sound} {r : Ring} (stream period budget : ℕ) (frames script : List ℕ) → Reached s r → Reached s (transfer_of r stream (length frames) period budget script).ring
  renewed : {s : Sound} {r : Ring} (descriptors : ℕ) → Mode descriptors → Reached s r → Reached s (new_ring descriptors)

module _ (s : Sound) (r : Ring) (stream budget n : ℕ) (c : Consistent r.track) where
  start-ring : (len : ℕ) → Consistent (start_of s r stream len budget n).ring.track
  start-ring len = start-by (λ x. Consistent x.ring.track) s r stream len budget n (λ _. c) (λ _ _ _. c) (start-keeps r.track stream len (params_of s stream).period budget c)

  traced-ring : (len room : ℕ) → Consistent (start_traced_of s r stream len budget room n).ring.track
  traced-ring len room =
      traced-by (λ x. Consistent x.ring.track) s r stream len budget room n (λ _. c) (λ _ _ _. c) (λ _. traced-start-keeps r.track stream len (params_of s stream).period budget room c)

  capture-ring : (periods lent : ℕ) → Consistent (capture_of s r stream periods lent budget n).ring.track
  capture-ring periods lent =
      capture-by (λ x. Consistent x.ring.track) s r stream periods lent budget n (λ _. c) (λ _ _ _. c) (λ _. capture-start-keeps r.track stream periods (params_of s stream).period lent budget c)

  script-ring : (frames script : List ℕ) → Consistent (xfer_of s r stream (length frames) budget script n).ring.track
  script-ring frames script =
      script-by (λ x. Consistent x.ring.track) s r stream (length frames) budget n (λ _. c) (λ _ _ _. c) script (script-keeps r stream (params_of s stream).period budget frames script c)

penned-keeps : (r : Ring) (written : ℕ) → Consistent r.track → Consistent (penned_in written r).track
penned-keeps r written c =
    let p = c.placed in
    let q = c.paced in
    record {
      placed = record { mode = p.mode; head_in = p.head_in; tail-in = p.tail-in; room = p.room; line = p.line };
      paced = record { within = q.within; some = q.some; left = q.left };
      kept = c.kept;
      good = c.good;
    }

-- what calls left has the invariant
pub reached-kept : {s : Sound} {r : Ring} → Reached s r → Kept s × Consistent r.track
reached-kept (fresh descriptors mode guard jacks streams maps) = (new-kept guard jacks streams maps, consistent-facts (new_track descriptors) (new-passes descriptors mode))
reached-kept (called {s} {r} call n h) = let k = reached-kept h in (call_kept s r.track call n k.0, k.1)
reached-kept (fed {s} f h) = let k = reached-kept h in (feed-kept s f k.0, k.1)
reached-kept (started {s} {r} stream len budget n h) = let k = reached-kept h in (start-kept s r stream len budget n k.0, start-ring s r stream budget n k.1 len)
reached-kept (scripted {s} {r} stream frames budget script n h) = let k = reached-kept h in (xfer-kept s r stream (length frames) budget n k.0 script, script-ring s r stream budget n k.1 frames script)
reached-kept (turned {r} len room reading h) = let k = reached-kept h in (k.0, traced-keeps r.track len room reading k.1)
reached-kept (traced {s} {r} stream len budget room n h) = let k = reached-kept h in (traced-kept s r stream len budget room n k.0, traced-ring s r stream budget n k.1 len room)
reached-kept (penned {r} written h) = let k = reached-kept h in (k.0, penned-keeps r written k.1)
reached-kept (captured {s} {r} stream periods lent budget n h) = let k = reached-kept h in (capture-kept s r stream periods lent budget n k.0, capture-ring s r stream budget n k.1 periods lent)
reached-kept (received {r} len c h) = let k = reached-kept h in (k.0, capture-keeps r.track len c k.1)
reached-kept (drained {r} reading h) = let k = reached-kept h in (k.0, drain-keeps r.track reading k.1)
reached-kept (submitted {s} {r} stream n len m h) = let k = reached-kept h in (nb-kept s r stream n len m k.0, k.1)
reached-kept (marked {s} reading h) = let k = reached-kept h in (mark-kept s reading k.0, k.1)
reached-kept (finished {s} token h) = let k = reached-kept h in (finish-kept s token k.0, k.1)
reached-kept (begun {r} stream len period budget h) = let k = reached-kept h in (k.0, start-keeps r.track stream len period budget k.1)
reached-kept (listened {r} stream periods period lent budget h) = let k = reached-kept h in (k.0, capture-start-keeps r.track stream periods period lent budget k.1)
reached-kept (logged {r} stream len period budget room h) = let k = reached-kept h in (k.0, traced-start-keeps r.track stream len period budget room k.1)
reached-kept (ran {r} stream period budget frames script h) = let k = reached-kept h in (k.0, script-keeps r stream period budget frames script k.1)
reached-kept (renewed descriptors mode h) = ((reached-kept h).0, consistent-facts (new_track descriptors) (new-passes descriptors mode))

-- so demand 3 speaks of every state and ring that calls left
pub reached-playable : {s : Sound} {r : Ring} (stream : ℕ) → Reached s r → ((params_of s stream).known ≢ 0) → (s.core.guard ≡ true → takes_of (life_of s stream) ≡ true) → s.core.stage ≡ Idle → r.track.running ≡ false
    → r.track.inflight ≡ 0 → none_in s.pending ≡ true → Playable s r stream
reached-playable {r} stream h set live closed still empty clear =
    let k = reached-kept h in
    record { state = k.0; ring = consistent-true r.track k.1; set = set; live = live; closed = closed; still = still; empty = empty; clear = clear }

-- ---- and they can be met: 2 streams, set parameters of stream 1; the queries of jacks and maps fail, those of streams and the setting are answered with ok

abbrev ok : Feed
ok = paged None (0x00 ∷ 0x80 ∷ replicate 4094 0) 24

abbrev first : Call
first = SetParams 1 (record { known = 0; buffer = 8192; period = 2048; features = 0; channels = 2; format = 5; rate = 7 })

abbrev asked : Sound
asked = (step_of (call_of (new_sound false 0 2 0) (new_track direct) first 24) (new_sound false 0 2 0) []).sound

abbrev pub parameters_set : Sound
parameters_set = after asked (failed 24 ∷ ok ∷ failed 24 ∷ ok ∷ [])

unfoldable pub reached-set : Reached parameters_set (new_ring direct)
unfolding after
reached-set = fed ok (fed (failed 24) (fed ok (fed (failed 24) (called first 24 (fresh direct (inl refl) false 0 2 0)))))

pub premises-met : Playable parameters_set (new_ring direct) 1
unfolding after call_of feed_of fail_of begin_of answer_of after_jacks after_streams after_maps after_sent own_set consistent_of placed_of paced_of guard judged num_at bytes_at un
premises-met =
    let k : ◌≡◌ {A = ℕ} (params_of parameters_set 1).known 1 = refl in
    reached-playable 1 reached-set (λ e. omega (arith, k, e)) (λ g. absurd (false≢true g)) refl refl refl refl
