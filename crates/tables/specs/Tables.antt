-- An answer page: how it is judged, and the table that it holds. One definition over the record's size serves all three tables.
-- Assumes nothing.
use Rattle.std.specs.Prelude.{Bool, true, false, ◌&&◌, List, [], ◌∷◌, ◌++◌, ℕ, ◌+◌, ◌*◌, leb, eqb, length, drop, Option, None, Some, Result, Ok, Err}
use Rattle.std.proofs.lemmas.List.Edits.{sets}
use Rattle.layout.specs.Lent.{page_size}
use Rattle.layout.specs.Bytes.{bytes_at, num_at}
use Rattle.layout.specs.Layout.{size, read_at}
use Rattle.layout.specs.Rows.{rows_at}
use Rattle.codes.specs.Says.{Says, says, pick, guard}
use Rattle.codes.specs.Answers.{says_refusal}
use Rattle.codes.specs.declared.answers.Refusal.TheVariants.{TooMany, BadLength, Short}
use Rattle.records.specs.Records.{jack_info, pcm_info, channel_map, jack_info_of, pcm_info_of, channel_map_of}
use Rattle.records.specs.declared.info.JackInfo.{JackInfo}
use Rattle.records.specs.declared.info.PcmInfo.{PcmInfo}
use Rattle.records.specs.declared.info.ChannelMap.{ChannelMap}
use Rattle.tables.specs.declared.verdict.Fault.{Fault}
use Rattle.tables.specs.declared.verdict.Fault.TheVariants.{Status, Refused}

-- ---- "trust only what was written": each feed carries the length that the device wrote, or the page counts as written in full

-- so many bytes, or all of the page
abbrev pub Written : Type 0
Written = Option ℕ

-- the first k bytes of a page were written
abbrev pub covers : Written → ℕ → Bool
covers None k = true
covers (Some w) k = leb k w

-- a page of 4,096 bytes, and no more bytes written than that
abbrev pub page_ok : Written → List ℕ → Bool
page_ok None page = eqb (length page) page_size
page_ok (Some w) page = eqb (length page) page_size && leb w page_size

-- ---- the verdict: "The header is judged before the count."

abbrev pub Verdict : Type 0
Verdict = Result (Unit {0}) Fault

-- a page of n records of so many bytes: 10 for lengths, 11 where its header was not written, then the header, 5 where the records do not fit,
-- and 11 where they were not all written
unfoldable pub judged : Written → List ℕ → ℕ → ℕ → Verdict
judged w page n bytes =
    guard (page_ok w page) (Err (Refused BadLength))
    (guard (covers w 4) (Err (Refused Short))
    (guard (eqb (num_at 0 4 page) 0x8000) (Err (Status (num_at 0 4 page)))
    (guard (leb (4 + n * bytes) page_size) (Err (Refused TooMany))
    (guard (covers w (4 + n * bytes)) (Err (Refused Short))
    (Ok tt)))))

abbrev pub is_good : Verdict → Bool
is_good (Ok _) = true
is_good (Err (Status word)) = false
is_good (Err (Refused r)) = false

-- the refusal of a number, whatever was asked
abbrev pub refused_by : ℕ → Verdict → Bool
refused_by n (Ok _) = false
refused_by n (Err (Status word)) = false
refused_by n (Err (Refused r)) = eqb (says_refusal r).number n

-- document 01's number and values of a verdict; a status not ok says 2, and 3 to a remap, and carries the header's word
abbrev pub says_verdict : Verdict → Says
says_verdict (Ok _) = says 0 []
says_verdict (Err (Status word)) = says 2 (word ∷ [])
says_verdict (Err (Refused r)) = says_refusal r

-- ---- the records, at 4 + i × their bytes, over what the table held; past its count a table is as it was, and is not looked at

-- the record at a place of a page, by the layout of `records`
unfoldable pub jack_at : ℕ → List ℕ → JackInfo
jack_at o s = jack_info_of (read_at o jack_info s)

unfoldable pub pcm_at : ℕ → List ℕ → PcmInfo
pcm_at o s = pcm_info_of (read_at o pcm_info s)

unfoldable pub map_at : ℕ → List ℕ → ChannelMap
map_at o s = channel_map_of (read_at o channel_map s)

-- n records of a page over the first n of a table
abbrev pub filled : {A : Type 0} → (ℕ → List ℕ → A) → ℕ → List ℕ → ℕ → List A → List A
filled f bytes page n old = rows_at f bytes 4 n page ++ drop n old

-- a page that holds n records of so many bytes
abbrev pub fits : List ℕ → ℕ → ℕ → Bool
fits page n bytes = eqb (length page) page_size && leb (4 + n * bytes) page_size

-- the same where the page does not hold them: the table is as it was
abbrev pub refilled : {A : Type 0} → (ℕ → List ℕ → A) → ℕ → List ℕ → ℕ → List A → List A
refilled f bytes page n old = pick (fits page n bytes) (filled f bytes page n old) old

-- ---- "Keep each as the received records in one flat byte store": 170 jacks, then 127 streams, then 170 channel maps

abbrev pub jacks_place : ℕ
jacks_place = 0

abbrev pub pcms_place : ℕ
pcms_place = 4080

abbrev pub maps_place : ℕ
maps_place = 8144

abbrev pub tables_bytes : ℕ
tables_bytes = 12224

-- the decoded form of each: no value of the driver holds one
abbrev pub jacks_in : List ℕ → List JackInfo
jacks_in t = rows_at jack_at (size jack_info) jacks_place 170 t

abbrev pub pcms_in : List ℕ → List PcmInfo
pcms_in t = rows_at pcm_at (size pcm_info) pcms_place 127 t

abbrev pub maps_in : List ℕ → List ChannelMap
maps_in t = rows_at map_at (size channel_map) maps_place 170 t

-- n records of so many bytes, copied from a page that holds them to place o of a store with room for them; else nothing changes
unfoldable pub copied_in : ℕ → ℕ → ℕ → List ℕ → List ℕ → List ℕ
copied_in o bytes n page t = pick (fits page n bytes && leb (o + n * bytes) (length t)) (sets t o (bytes_at 4 (n * bytes) page)) t
