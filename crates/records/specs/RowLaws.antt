-- The layout is the row as printed: where the code keeps a padding, or the positions, as several numbers, they are the one field of the row.
-- Assumes nothing.
use Rattle.std.specs.Prelude.{◌≡◌, List, [], ◌∷◌, ◌++◌, ℕ, ◌+◌, ◌*◌, ◌<◌, ◌^◌}
use Rattle.std.proofs.Common.{ap, ◌∙◌}
use Rattle.layout.specs.Bytes.{le, num_at}
use Rattle.layout.specs.Layout.{write, read, Fit}
use Rattle.layout.specs.BytesLaws.{num_at-split}
use Rattle.layout.specs.LayoutLaws.{write-join}
use Rattle.records.specs.Records.{jack_info, jack_info_values, pcm_info, pcm_info_values, channel_map, channel_map_values, jack_info_of, pcm_info_of, channel_map_of}
use Rattle.records.specs.declared.info.JackInfo.{JackInfo}
use Rattle.records.specs.declared.info.PcmInfo.{PcmInfo}
use Rattle.records.specs.declared.info.ChannelMap.{ChannelMap}

-- three fields are one: of a bytes, of b bytes, and what is above them
abbrev pub joined : ℕ → ℕ → ℕ → ℕ → ℕ → ℕ
joined a b x y z = (z * 256 ^ b + y) * 256 ^ a + x

write-three : (a b c x y z : ℕ) → x < 256 ^ a → y < 256 ^ b → write (a ∷ b ∷ c ∷ []) (x ∷ y ∷ z ∷ []) ≡ write ((a + (b + c)) ∷ []) (joined a b x y z ∷ [])
write-three a b c x y z h k = ap (λ (l : List ℕ). le a x ++ l) (write-join b c y z [] [] k) ∙ write-join a (b + c) x (z * 256 ^ b + y) [] [] h

read-three : (a b c o : ℕ) (s : List ℕ) → num_at o (a + (b + c)) s ≡ joined a b (num_at o a s) (num_at (o + a) b s) (num_at (o + a + b) c s)
read-three a b c o s = num_at-split a (b + c) o s ∙ ap (λ (n : ℕ). n * 256 ^ a + num_at o a s) (num_at-split b c (o + a) s)

-- ---- "node 4, features 4, defconf 4, caps 4, connected 1, padding 7"

abbrev pub jack_info_row : List ℕ
jack_info_row = 4 ∷ 4 ∷ 4 ∷ 4 ∷ 1 ∷ 7 ∷ []

abbrev pub jack_info_row_values : JackInfo → List ℕ
jack_info_row_values r = r.node ∷ r.features ∷ r.defconf ∷ r.caps ∷ r.connected ∷ joined 4 2 r.padding r.padding4 r.padding6 ∷ []

pub jack-info-write : (r : JackInfo) → Fit jack_info (jack_info_values r) → write jack_info (jack_info_values r) ≡ write jack_info_row (jack_info_row_values r)
jack-info-write r f =
    ap (λ (l : List ℕ). le 4 r.node ++ (le 4 r.features ++ (le 4 r.defconf ++ (le 4 r.caps ++ (le 1 r.connected ++ l)))))
    (write-three 4 2 1 r.padding r.padding4 r.padding6 f.1.1.1.1.1.0 f.1.1.1.1.1.1.0)

pub jack-info-read : (s : List ℕ) → read jack_info_row s ≡ jack_info_row_values (jack_info_of (read jack_info s))
jack-info-read s = ap (λ (p : ℕ). num_at 0 4 s ∷ num_at 4 4 s ∷ num_at 8 4 s ∷ num_at 12 4 s ∷ num_at 16 1 s ∷ p ∷ []) (read-three 4 2 1 17 s)

-- ---- "node 4, features 4, formats 8, rates 8, direction 1, min 1, max 1, padding 5"

abbrev pub pcm_info_row : List ℕ
pcm_info_row = 4 ∷ 4 ∷ 8 ∷ 8 ∷ 1 ∷ 1 ∷ 1 ∷ 5 ∷ []

abbrev pub pcm_info_row_values : PcmInfo → List ℕ
pcm_info_row_values r = r.node ∷ r.features ∷ r.formats ∷ r.rates ∷ r.direction ∷ r.min ∷ r.max ∷ (r.padding4 * 256 ^ 4 + r.padding) ∷ []

pub pcm-info-write : (r : PcmInfo) → Fit pcm_info (pcm_info_values r) → write pcm_info (pcm_info_values r) ≡ write pcm_info_row (pcm_info_row_values r)
pcm-info-write r f =
    ap (λ (l : List ℕ). le 4 r.node ++ (le 4 r.features ++ (le 8 r.formats ++ (le 8 r.rates ++ (le 1 r.direction ++ (le 1 r.min ++ (le 1 r.max ++ l)))))))
    (write-join 4 1 r.padding r.padding4 [] [] f.1.1.1.1.1.1.1.0)

pub pcm-info-read : (s : List ℕ) → read pcm_info_row s ≡ pcm_info_row_values (pcm_info_of (read pcm_info s))
pcm-info-read s = ap (λ (p : ℕ). num_at 0 4 s ∷ num_at 4 4 s ∷ num_at 8 8 s ∷ num_at 16 8 s ∷ num_at 24 1 s ∷ num_at 25 1 s ∷ num_at 26 1 s ∷ p ∷ []) (num_at-split 4 1 27 s)

-- ---- "node 4, direction 1, channels 1, positions 18"

abbrev pub channel_map_row : List ℕ
channel_map_row = 4 ∷ 1 ∷ 1 ∷ 18 ∷ []

abbrev pub channel_map_row_values : ChannelMap → List ℕ
channel_map_row_values r = r.node ∷ r.direction ∷ r.channels ∷ joined 8 8 r.positions r.positions8 r.positions16 ∷ []

pub channel-map-write : (r : ChannelMap) → Fit channel_map (channel_map_values r) → write channel_map (channel_map_values r) ≡ write channel_map_row (channel_map_row_values r)
channel-map-write r f =
    ap (λ (l : List ℕ). le 4 r.node ++ (le 1 r.direction ++ (le 1 r.channels ++ l)))
    (write-three 8 8 2 r.positions r.positions8 r.positions16 f.1.1.1.0 f.1.1.1.1.0)

pub channel-map-read : (s : List ℕ) → read channel_map_row s ≡ channel_map_row_values (channel_map_of (read channel_map s))
channel-map-read s = ap (λ (p : ℕ). num_at 0 4 s ∷ num_at 4 1 s ∷ num_at 5 1 s ∷ p ∷ []) (read-three 8 8 2 6 s)
