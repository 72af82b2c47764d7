-- The stream listing: what it says of a PCM info answer, and its lines. Bytes are ASCII.
-- Assumes nothing.
use Rattle.std.specs.Prelude.{◌≡◌, Bool, ◌&&◌, List, [], ◌∷◌, ◌++◌, ℕ, ◌+◌, ◌-◌, ◌*◌, ◌/◌, ◌%◌, leb, ltb, eqb, length, drop, Result, Ok, Err}
use Rattle.layout.specs.Bytes.{num_at}
use Rattle.codes.specs.Says.{Says, says, pick, guard}
use Rattle.codes.specs.Answers.{says_refusal, says_result}
use Rattle.codes.specs.declared.answers.Refusal.{Refusal}
use Rattle.codes.specs.declared.answers.Refusal.TheVariants.{IoError, BadLength}
use Rattle.codes.specs.declared.answers.Cause.TheVariants.{Status}
use Rattle.records.specs.declared.info.PcmInfo.{PcmInfo}
use Rattle.tables.specs.Tables.{pcm_at}

-- "Length under 4, above 4,096, or not 4 plus a multiple of 32: `refused 10`. Then a header not ok: `refused 2`." Else as many streams as records
abbrev pub length_ok : ℕ → Bool
length_ok n = leb 4 n && (leb n 4096 && eqb ((n - 4) % 32) 0)

abbrev pub says_listing : Result ℕ Refusal → Says
says_listing = says_result (λ n. n ∷ [])

-- what is returned, and document 01's number and values of it
pub record Judged : Type 0 where
  pub listing : Result ℕ Refusal
  pub said : Says

abbrev pub judged : Result ℕ Refusal → Judged
judged x = record { listing = x; said = says_listing x }

unfoldable pub listing_of : ℕ → List ℕ → Judged
listing_of n page =
    guard (length_ok n) (judged (Err BadLength))
    (guard (eqb (num_at 0 4 page) 0x8000) (judged (Err (IoError (Status (num_at 0 4 page)))))
    (judged (Ok ((n - 4) / 32))))

-- ---- the lines

-- a number below 1000, in decimal
unfoldable pub decimal : ℕ → List ℕ
decimal n =
    pick (ltb n 10) ((48 + n) ∷ [])
    (pick (ltb n 100) ((48 + n / 10) ∷ (48 + n % 10) ∷ [])
    ((48 + n / 100) ∷ (48 + n / 10 % 10) ∷ (48 + n % 10) ∷ []))

-- "streams N"
abbrev pub count_line : ℕ → List ℕ
count_line n = 115 ∷ 116 ∷ 114 ∷ 101 ∷ 97 ∷ 109 ∷ 115 ∷ 32 ∷ (decimal n ++ (10 ∷ []))

-- "refused N", N the refusal's number
abbrev pub refused_line : Refusal → List ℕ
refused_line r = 114 ∷ 101 ∷ 102 ∷ 117 ∷ 115 ∷ 101 ∷ 100 ∷ 32 ∷ (decimal (says_refusal r).number ++ (10 ∷ []))

-- " output ", " input ", or " other "
unfoldable pub direction_word : ℕ → List ℕ
direction_word d =
    pick (eqb d 0) (32 ∷ 111 ∷ 117 ∷ 116 ∷ 112 ∷ 117 ∷ 116 ∷ 32 ∷ [])
    (pick (eqb d 1) (32 ∷ 105 ∷ 110 ∷ 112 ∷ 117 ∷ 116 ∷ 32 ∷ [])
    (32 ∷ 111 ∷ 116 ∷ 104 ∷ 101 ∷ 114 ∷ 32 ∷ []))

-- "ID DIRECTION MIN-MAX"
abbrev pub stream_line : ℕ → PcmInfo → List ℕ
stream_line i p = decimal i ++ (direction_word p.direction ++ (decimal p.min ++ (45 ∷ (decimal p.max ++ (10 ∷ [])))))

-- ---- a line in a lent slice: its bytes at the front and the rest as it was, and its length is told; a slice that is too short gets 10 and is as it was

abbrev pub says_line : Result ℕ Refusal → Says
says_line = says_result (λ n. n ∷ [])

abbrev pub line_says : List ℕ → List ℕ → Says
line_says line out = pick (leb (length line) (length out)) (says 0 (length line ∷ [])) (says 10 [])

abbrev pub line_result : List ℕ → List ℕ → Result ℕ Refusal
line_result line out = pick (leb (length line) (length out)) (Ok (length line)) (Err BadLength)

abbrev pub line_in : List ℕ → List ℕ → List ℕ
line_in line out = pick (leb (length line) (length out)) (line ++ drop (length line) out) out

-- a function that gives a line: what it returns (which says `line_says`, by `gives-says` of TextLaws), and what the slice holds then
pub record Gives (line : List ℕ) (r : Result ℕ Refusal) (before after : List ℕ) : Type 0 where
  pub said : r ≡ line_result line before
  pub holds : after ≡ line_in line before

-- ---- line k of the listing: first the count and then a line for each stream, or the refusal alone; past the last one, no bytes

abbrev pub record_at : ℕ → List ℕ → PcmInfo
record_at i page = pcm_at (4 + i * 32) page

abbrev pub line_of : Result ℕ Refusal → List ℕ → ℕ → List ℕ
line_of (Err r) page k = pick (eqb k 0) (refused_line r) []
line_of (Ok n) page k = pick (eqb k 0) (count_line n) (pick (leb k n) (stream_line (k - 1) (record_at (k - 1) page)) [])

abbrev pub line_at : ℕ → List ℕ → ℕ → List ℕ
line_at n page k = line_of (listing_of n page).listing page k
