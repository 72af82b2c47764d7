-- Flag sets: "the stored bits, unknown bits kept". Flag n is bit n; VirtIO 1.2 names the bits, 1 << VIRTIO_SND_*.
-- Assumes nothing.
use Rattle.std.specs.Prelude.{Bool, [], ◌∷◌, ℕ, ◌/◌, ◌%◌, ◌^◌, eqb, Result}
use Rattle.codes.specs.Says.{Says}
use Rattle.codes.specs.Answers.{says_result}
use Rattle.codes.specs.declared.flags.PcmFeature.{PcmFeature}
use Rattle.codes.specs.declared.flags.PcmFeature.TheVariants.{ShmemHost, ShmemGuest, MsgPolling, EvtShmemPeriods, EvtXruns}
use Rattle.codes.specs.declared.answers.Refusal.{Refusal}

-- bit n of a set
abbrev pub has_bit : ℕ → ℕ → Bool
has_bit n bits = eqb (bits / 2 ^ n % 2) 1

-- VIRTIO_SND_JACK_F_REMAP
abbrev pub remap_feature : ℕ
remap_feature = 0

-- VIRTIO_SND_F_CTLS, of the device: VirtIO 1.3, 5.14.3
abbrev pub ctls_feature : ℕ
ctls_feature = 0

-- VIRTIO_SND_PCM_F_*
abbrev pub feature_number : PcmFeature → ℕ
feature_number ShmemHost = 0
feature_number ShmemGuest = 1
feature_number MsgPolling = 2
feature_number EvtShmemPeriods = 3
feature_number EvtXruns = 4

abbrev pub says_bit : Result ℕ Refusal → Says
says_bit = says_result (λ b. b ∷ [])
