-- The premises of `capture-in-time` can be met, on a ring of indirect descriptors: stream 1 has direction 1 on the page that was fed, and its parameters were set by calls.
-- Assumes nothing.
use Rattle.std.specs.Prelude.{◌≡◌, ℕ, false, [], ◌∷◌, ◌++◌, replicate, refl, None}
use Rattle.std.proofs.lemmas.Bool.{false≢true}
use Rattle.std.proofs.Common.{inr, arith}
use Rattle.layout.specs.Bytes.{un, bytes_at, num_at}
use Rattle.codes.specs.Says.{guard}
use Rattle.tables.specs.Tables.{judged, pcm_at, copied_in}
use Rattle.layout.specs.Rows.{rows_at}
use Rattle.turns.specs.Consistent.{placed_of, paced_of}
use Rattle.turns.specs.Ring.{indirect, new_track, new_ring}
use Rattle.exchange.specs.State.{new_sound, params_of, pcm_of}
use Rattle.sound_core.specs.Consistent.{consistent_of}
use Rattle.sound_core.specs.Plan.{own_set, begin_of, after_jacks, after_streams, after_maps, after_sent, answer_of}
use Rattle.exchange.specs.Exchange.{step_of, call_of, feed_of, fail_of}
use Rattle.exchange.specs.Kept.{Playable}
use Rattle.exchange.specs.Ends.{after}
use Rattle.exchange.specs.Feed.{Feed, paged, failed}
use Rattle.exchange.specs.Reached.{Reached, fresh, called, fed, reached-playable}
use Rattle.exchange.specs.declared.state.Sound.{Sound}
use Rattle.sound_core.specs.declared.state.Call.{Call}
use Rattle.sound_core.specs.declared.state.Call.TheVariants.{SetParams}

-- stream 1 of the page has direction 1
abbrev ok : Feed
ok = paged None (0x00 ∷ 0x80 ∷ (replicate 58 0 ++ (1 ∷ replicate 4035 0))) 24

abbrev first : Call
first = SetParams 1 (record { known = 0; buffer = 8192; period = 2048; features = 0; channels = 2; format = 5; rate = 7 })

abbrev asked : Sound
asked = (step_of (call_of (new_sound false 0 2 0) (new_track indirect) first 24) (new_sound false 0 2 0) []).sound

abbrev pub microphone : Sound
microphone = after asked (failed 24 ∷ ok ∷ failed 24 ∷ ok ∷ [])

unfoldable pub reached-microphone : Reached microphone (new_ring indirect)
unfolding after
reached-microphone = fed ok (fed (failed 24) (fed ok (fed (failed 24) (called first 24 (fresh indirect (inr refl) false 0 2 0)))))

pub capture-met : Playable microphone (new_ring indirect) 1 × ((pcm_of microphone 1).direction ≡ 1) × ((params_of microphone 1).period ≡ 2048)
unfolding after call_of feed_of fail_of begin_of answer_of after_jacks after_streams after_maps after_sent own_set consistent_of placed_of paced_of guard judged num_at bytes_at un rows_at pcm_at copied_in
capture-met =
    let k : ◌≡◌ {A = ℕ} (params_of microphone 1).known 1 = refl in
    (reached-playable 1 reached-microphone (λ e. omega (arith, k, e)) (λ g. absurd (false≢true g)) refl refl refl refl, refl, refl)
