-- One control request, one answer: as `fake.rs`; where it panics, 0x8001 and nothing changes.
-- Assumes nothing.
use Rattle.std.specs.Prelude.{◌≡◌, ℕ, Result, Ok, Err, Option, Some, None, ◌+◌, Bool, ◌&&◌, List, [], ◌∷◌, ◌++◌, length, take, drop, ◌==◌, nat_le, nat_lt, slice_index_or, slice_set}
use Rattle.layout.specs.Lent.{page_size}
use Rattle.layout.specs.Bytes.{le, num_at}
use Rattle.layout.specs.Layout.{size, read}
use Rattle.layout.specs.Rows.{rows_bytes}
use Rattle.codes.specs.Says.{Says, says, pick, guard}
use Rattle.codes.specs.Answers.{says_result}
use Rattle.codes.specs.Codes.{among}
use Rattle.codes.specs.Rates.{place_of}
use Rattle.codes.specs.Requests.{request_codes}
use Rattle.codes.specs.declared.answers.Refusal.{Refusal}
use Rattle.codes.specs.declared.answers.Refusal.TheVariants.{InvalidParam, BadLength}
use Rattle.model.specs.Types.{RequestCode, RJackInfo, RJackRemap, RPcmInfo, RPcmSetParams, RPcmPrepare, RPcmRelease, RPcmStart, RPcmStop, RChmapInfo, Held, Device, Answered, Range}
use Rattle.records.specs.Records.{query, pcm_command, set_parameters, jack_info, pcm_info, channel_map, query_of, set_parameters_of, jack_bytes, pcm_bytes, map_bytes}
use Rattle.model.specs.Device.{within_of}

-- what a request or a transfer leaves and says, document 01's number and values of that, and what the lent slice holds
abbrev pub says_control : Result ℕ Refusal → Says
says_control = says_result (λ n. n ∷ [])

pub record Given : Type 0 where
  pub answered : Answered
  pub said : Says
  pub lent : List ℕ

abbrev pub given : Answered → List ℕ → Given
given a l = record { answered = a; said = says_control a.said; lent = l }

abbrev pub refusing : Device → Refusal → List ℕ → Given
refusing d r l = given (record { device = d; said = Err r }) l

-- bytes at the front of a page: only they change
abbrev pub laid : List ℕ → List ℕ → List ℕ
laid b page = b ++ drop (length b) page

-- they were laid there, and their length was told
abbrev pub Laid : List ℕ → List ℕ → ℕ → List ℕ → Type 0
Laid b page n after = (n ≡ length b) × (after ≡ laid b page)

-- what the device is then, and the bytes of its answer
pub record Outcome : Type 0 where
  pub device : Device
  pub bytes : List ℕ

unfoldable pub answering : Outcome → List ℕ → Given
answering o page = given (record { device = o.device; said = Ok (length o.bytes) }) (laid o.bytes page)

abbrev pub status_alone : Device → ℕ → Outcome
status_alone d status = record { device = d; bytes = le 4 status }

abbrev pub bad : Device → Outcome
bad d = status_alone d 0x8001

abbrev pub ok : Device → Outcome
ok d = status_alone d 0x8000

-- ---- a query: 16 bytes, the record's own row, and a range within the table

abbrev pub query_fits : List ℕ → ℕ → ℕ → Bool
query_fits request row n =
    let q = query_of (read query request) in
    (length request == size query) && (q.size == row && nat_le (q.start + q.count) n)

-- the first record asked for, and how many
abbrev pub says_range : Option Range → Says
says_range (Some r) = says 0 (r.start ∷ r.count ∷ [])
says_range None = says 1 []

abbrev pub asked_says : List ℕ → ℕ → ℕ → Says
asked_says request row n =
    let q = query_of (read query request) in
    pick (query_fits request row n) (says 0 (q.start ∷ q.count ∷ [])) (says 1 [])

-- the records of a range, after an ok header
abbrev pub rows_in : {A : Type 0} → (A → List ℕ) → ℕ → ℕ → List A → List ℕ
rows_in bytes_of start count records = le 4 0x8000 ++ rows_bytes bytes_of (take count (drop start records))

abbrev pub table : {A : Type 0} → (A → List ℕ) → List ℕ → ℕ → ℕ → List A → Device → Outcome
table bytes_of request row n records d =
    let q = query_of (read query request) in
    pick (query_fits request row n)
    (record { device = d; bytes = rows_in bytes_of q.start q.count records })
    (bad d)

-- ---- set parameters: 24 bytes and a stream of the table; all 24 are kept, with no period rule

abbrev pub kept_by : Device → ℕ → Held → Device
kept_by d stream h = record { counts = d.counts; jacks = d.jacks; pcms = d.pcms; maps = d.maps; params = slice_set d.params stream h; played = d.played }

abbrev pub setting_of : List ℕ → Device → Outcome
setting_of request d =
    let p = set_parameters_of (read set_parameters request) in
    pick (length request == size set_parameters && nat_lt p.stream d.counts.streams)
    (ok (kept_by d p.stream (record { known = 1; set = p })))
    (bad d)

-- ---- the four commands: 8 bytes; the stream is not tested

abbrev pub command_of : List ℕ → Device → Outcome
command_of request d = pick (length request == size pcm_command) (ok d) (bad d)

-- ---- ONE REQUEST, by its code

abbrev pub answer_by : RequestCode → List ℕ → Device → Outcome
answer_by RJackInfo request d = table jack_bytes request (size jack_info) d.counts.jacks d.jacks d
answer_by RJackRemap request d = bad d
answer_by RPcmInfo request d = table pcm_bytes request (size pcm_info) d.counts.streams d.pcms d
answer_by RPcmSetParams request d = setting_of request d
answer_by RPcmPrepare request d = command_of request d
answer_by RPcmRelease request d = command_of request d
answer_by RPcmStart request d = command_of request d
answer_by RPcmStop request d = command_of request d
answer_by RChmapInfo request d = table map_bytes request (size channel_map) d.counts.maps d.maps d

-- the requests in the order of their codes
abbrev pub requests : List RequestCode
requests = RJackInfo ∷ RJackRemap ∷ RPcmInfo ∷ RPcmSetParams ∷ RPcmPrepare ∷ RPcmRelease ∷ RPcmStart ∷ RPcmStop ∷ RChmapInfo ∷ []

-- the request with a code; ControlLaws: it is the decision of `codes`
unfoldable pub request_by : ℕ → Result RequestCode Refusal
request_by n = pick (among n request_codes) (Ok (slice_index_or requests (place_of n request_codes) RJackInfo)) (Err InvalidParam)

abbrev pub answer_found : Result RequestCode Refusal → List ℕ → Device → Outcome
answer_found (Ok code) request d = answer_by code request d
answer_found (Err r) request d = bad d

unfoldable pub outcome_of : List ℕ → Device → Outcome
outcome_of request d = pick (nat_le 4 (length request)) (answer_found (request_by (num_at 0 4 request)) request d) (bad d)

-- ---- the call: a page of 4,096 bytes, else 10; a device with larger tables than a page holds gets 1

unfoldable pub control_of : Device → List ℕ → List ℕ → Given
control_of d request page =
    guard (length page == page_size) (refusing d BadLength page)
    (guard (within_of d.counts) (refusing d InvalidParam page)
    (answering (outcome_of request d) page))
