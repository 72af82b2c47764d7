-- The laws of control requests: what each test and each call of the code comes to in the definitions.
-- Assumes nothing.
use Rattle.std.specs.Prelude.{◌≡◌, ℕ, Ok, ◌+◌, ◌<◌, ◌≤◌, Bool, true, ◌&&◌, List, [], ◌∷◌, length, ◌==◌, nat_le, nat_lt, slice_index, refl, Result, Err}
use Rattle.std.proofs.Common.{sym, ap, ◌∙◌, arith, leb-true, le-leb, eq-eqb}
use Rattle.std.proofs.lemmas.Bool.{lt-leb}
use Rattle.layout.specs.Bytes.{num_at}
use Rattle.layout.specs.Layout.{size, read}
use Rattle.codes.specs.Says.{says, pick}
use Rattle.codes.specs.SaysLaws.{picks, skips, took, refused}
use Rattle.codes.specs.RefusalLaws.{refusal-is}
use Rattle.codes.specs.Codes.{among, code_says}
use Rattle.codes.specs.Rates.{place_of}
use Rattle.codes.specs.Requests.{request_codes, request_code, says_request}
use Rattle.model.specs.Types.{RequestCode, RJackInfo, RJackRemap, RPcmInfo, RPcmSetParams, RPcmPrepare, RPcmRelease, RPcmStart, RPcmStop, RChmapInfo, Query, SetParameters, Device}
use Rattle.codes.specs.declared.answers.Refusal.TheVariants.{InvalidParam}
use Rattle.codes.specs.declared.answers.Refusal.{Refusal}
use Rattle.records.specs.Records.{query, query_values, set_parameters, set_parameters_values, query_of, set_parameters_of}
use Rattle.records.specs.Slice.{read_says}
use Rattle.records.specs.SliceLaws.{read_is}
use Rattle.model.specs.DeviceLaws.{and_both}
use Rattle.model.specs.Control.{Outcome, Given, given, Laid, answering, bad, ok, query_fits, asked_says, rows_in, table, kept_by, setting_of, request_by, answer_by, answer_found, outcome_of}

-- ---- outcomes

pub gives : {o o' : Outcome} {g : Given} (page : List ℕ) → o ≡ o' → g ≡ answering o' page → g ≡ answering o page
gives page e p = p ∙ ap (λ (o : Outcome). answering o page) (sym e)

pub laid-gives : (d : Device) (b page after : List ℕ) (n : ℕ) → Laid b page n after → given (record { device = d; said = Ok n }) after ≡ answering (record { device = d; bytes = b }) page
unfolding answering
laid-gives d b page after n p = λ i. given (record { device = d; said = Ok (p.0 i) }) (p.1 i)

-- ---- a query

pub asked_by : (s : List ℕ) (row n : ℕ) (q : Query) → length s ≡ size query → says 0 (query_values q) ≡ read_says query s
    → asked_says s row n ≡ pick (q.size == row && nat_le (q.start + q.count) n) (says 0 (q.start ∷ q.count ∷ [])) (says 1 [])
asked_by s row n q h e =
    let k : query_of (read query s) ≡ q = sym (ap query_of (read_is query s (query_values q) e).1) in
    ap (λ (x : Query). pick (length s == size query && (x.size == row && nat_le (x.start + x.count) n)) (says 0 (x.start ∷ x.count ∷ [])) (says 1 [])) k
    ∙ ap (λ (t : Bool). pick (t && (q.size == row && nat_le (q.start + q.count) n)) (says 0 (q.start ∷ q.count ∷ [])) (says 1 [])) (eq-eqb (length s) (size query) h)

module _ (s : List ℕ) (row n : ℕ) where
  abbrev pub asked : Query
  asked = query_of (read query s)

  pub a-range : (start count : ℕ) → says 0 (start ∷ count ∷ []) ≡ asked_says s row n → (query_fits s row n ≡ true) × (start ≡ asked.start) × (count ≡ asked.count)
  a-range start count e =
      let r = took (query_fits s row n) 0 (asked.start ∷ asked.count ∷ []) (start ∷ count ∷ []) e in
      (r.0, ap (λ (l : List ℕ). slice_index l 0) r.1, ap (λ (l : List ℕ). slice_index l 1) r.1)

  pub query-fits : query_fits s row n ≡ true → asked.start + asked.count ≤ n
  query-fits e =
      leb-true (asked.start + asked.count) n (and_both (asked.size == row) (nat_le (asked.start + asked.count) n) (and_both (length s == size query) _ e).1).1

  pub range-fits : (start count : ℕ) → says 0 (start ∷ count ∷ []) ≡ asked_says s row n → start + count ≤ n
  range-fits start count e =
      let r = a-range start count e in
      let h = query-fits r.0 in
      omega arith

  module _ {A : Type 0} (g : A → List ℕ) (rows : List A) (d : Device) where
    pub table-bad : says 1 [] ≡ asked_says s row n → table g s row n rows d ≡ bad d
    table-bad e = skips _ _ _ (refused (query_fits s row n) 0 (asked.start ∷ asked.count ∷ []) e)

    pub table-rows : (start count : ℕ) → says 0 (start ∷ count ∷ []) ≡ asked_says s row n → table g s row n rows d ≡ record { device = d; bytes = rows_in g start count rows }
    table-rows start count e =
        let r = a-range start count e in
        picks _ _ _ r.0 ∙ (λ i. record { device = d; bytes = rows_in g (sym r.1 i) (sym r.2 i) rows })

-- ---- set parameters

pub setting-by : (s : List ℕ) (d : Device) (p : SetParameters) → length s ≡ size set_parameters → says 0 (set_parameters_values p) ≡ read_says set_parameters s
    → setting_of s d ≡ pick (nat_lt p.stream d.counts.streams) (ok (kept_by d p.stream (record { known = 1; set = p }))) (bad d)
setting-by s d p h e =
    let k : set_parameters_of (read set_parameters s) ≡ p = sym (ap set_parameters_of (read_is set_parameters s (set_parameters_values p) e).1) in
    ap (λ (x : SetParameters). pick (length s == size set_parameters && nat_lt x.stream d.counts.streams) (ok (kept_by d x.stream (record { known = 1; set = x }))) (bad d)) k
    ∙ ap (λ (t : Bool). pick (t && nat_lt p.stream d.counts.streams) (ok (kept_by d p.stream (record { known = 1; set = p }))) (bad d)) (eq-eqb (length s) (size set_parameters) h)

-- ---- THE DECISION OVER A CODE is that of `codes`

by-own : (c : RequestCode) → request_by (request_code c) ≡ Ok c
unfolding request_by place_of
by-own RJackInfo = refl
by-own RJackRemap = refl
by-own RPcmInfo = refl
by-own RPcmSetParams = refl
by-own RPcmPrepare = refl
by-own RPcmRelease = refl
by-own RPcmStart = refl
by-own RPcmStop = refl
by-own RChmapInfo = refl

pub request-by : (r : Result RequestCode Refusal) (n : ℕ) → says_request r ≡ code_says request_codes 1 n → request_by n ≡ r
unfolding request_by
request-by (Ok c) n e =
    let w : request_code c ≡ n = ap (λ (l : List ℕ). slice_index l 0) (took (among n request_codes) 0 (n ∷ []) (request_code c ∷ []) e).1 in
    ap request_by (sym w) ∙ by-own c
request-by (Err r) n e = let f = refusal-is (among n request_codes) (n ∷ []) r InvalidParam e in skips _ _ _ f.0 ∙ ap Err (sym f.1)

-- ---- one request

pub outcome-code : (s : List ℕ) (d : Device) (c : RequestCode) → 4 ≤ length s → num_at 0 4 s ≡ request_code c → outcome_of s d ≡ answer_by c s d
unfolding outcome_of
outcome-code s d c h e = picks _ _ _ (le-leb 4 (length s) h) ∙ ap (λ (f : Result RequestCode Refusal). answer_found f s d) (ap request_by e ∙ by-own c)

pub outcome-short : (s : List ℕ) (d : Device) → length s < 4 → outcome_of s d ≡ bad d
unfolding outcome_of
outcome-short s d h = skips _ _ _ (lt-leb 4 (length s) h)

pub outcome-by : (s : List ℕ) (d : Device) (r : Result RequestCode Refusal) (n : ℕ) → 4 ≤ length s → says_request r ≡ code_says request_codes 1 n → n ≡ num_at 0 4 s → outcome_of s d ≡ answer_found r s d
unfolding outcome_of
outcome-by s d r n h e k = picks _ _ _ (le-leb 4 (length s) h) ∙ ap (λ (f : Result RequestCode Refusal). answer_found f s d) (ap request_by (sym k) ∙ request-by r n e)
