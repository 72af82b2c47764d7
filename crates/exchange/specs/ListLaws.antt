-- The list of streams grows by one stream of the table at a time.
-- Assumes nothing.
use Rattle.std.specs.Prelude.{◌≡◌, ℕ, suc, ◌+◌, ◌-◌, ◌<◌, ◌≤◌, Bool, true, false, List, [], ◌∷◌, ◌++◌, length, get_or, take, replicate, ◌==◌, slice_index_or, slice_set}
use Rattle.std.proofs.Common.{sym, ap, ◌∙◌, add-zero, add-suc, suc-add, zero-add, add-one, arith, length-append, take-suc, length-take-le, take_all}
use Rattle.std.proofs.Math.Seq.{set-append_seam, append_snoc}
use Rattle.codes.specs.Says.{pick}
use Rattle.exchange.specs.Types.{PcmInfo}
use Rattle.exchange.specs.Exchange.{ids_from, listed}
use Rattle.exchange.specs.Steps.{pushed}

pub listed-push : (ids : List ℕ) (x : ℕ) → length ids < 127 → pushed (listed ids) x ≡ listed (ids ++ (x ∷ []))
listed-push ids x h =
    let n : length (ids ++ (x ∷ [])) ≡ length ids + 1 = length-append ids (x ∷ []) in
    let m : 127 - length ids ≡ suc (127 - (length ids + 1)) = omega arith in
    let e : slice_set (ids ++ replicate (127 - length ids) 0) (length ids) x ≡ (ids ++ (x ∷ [])) ++ replicate (127 - length (ids ++ (x ∷ []))) 0 =
    rw (m, n) (set-append_seam ids 0 (replicate (127 - (length ids + 1)) 0) x ∙ sym (append_snoc ids x (replicate (127 - (length ids + 1)) 0))) in
    λ i. record { count = sym n i; ids = e i }

pub length_ids : (d i : ℕ) (l : List PcmInfo) → length (ids_from d i l) ≤ length l
length_ids d i [] = omega arith
length_ids d i (p ∷ l) = by (p.direction == d) (length_ids d (suc i) l)
  where
    by : (t : Bool) → length (ids_from d (suc i) l) ≤ length l → length (pick t (i ∷ ids_from d (suc i) l) (ids_from d (suc i) l)) ≤ suc (length l)
    by true h = omega arith
    by false h = omega arith

ids-snoc : (d i : ℕ) (l : List PcmInfo) (p : PcmInfo) → ids_from d i (l ++ (p ∷ [])) ≡ pick (p.direction == d) (ids_from d i l ++ ((i + length l) ∷ [])) (ids_from d i l)
ids-snoc d i [] p = ap (λ (k : ℕ). pick (p.direction == d) (k ∷ []) []) (sym (add-zero i))
ids-snoc d i (q ∷ l) p = by (q.direction == d) (p.direction == d) (ids-snoc d (suc i) l p)
  where
    k : suc i + length l ≡ i + suc (length l)
    k = suc-add i (length l) ∙ sym (add-suc i (length l))

    by : (t u : Bool) → ids_from d (suc i) (l ++ (p ∷ [])) ≡ pick u (ids_from d (suc i) l ++ ((suc i + length l) ∷ [])) (ids_from d (suc i) l) → pick t (i ∷ ids_from d (suc i) (l ++ (p ∷ []))) (ids_from d (suc i) (l ++ (p ∷ []))) ≡ pick u (pick t (i ∷ ids_from d (suc i) l) (ids_from d (suc i) l) ++ ((i + suc (length l)) ∷ [])) (pick t (i ∷ ids_from d (suc i) l) (ids_from d (suc i) l))
    by true true e = ap (λ (x : List ℕ). i ∷ x) (e ∙ ap (λ (x : ℕ). ids_from d (suc i) l ++ (x ∷ [])) k)
    by true false e = ap (λ (x : List ℕ). i ∷ x) e
    by false true e = e ∙ ap (λ (x : ℕ). ids_from d (suc i) l ++ (x ∷ [])) k
    by false false e = e

-- a turn of the loop: stream i of the table is looked at
pub listed_more : (d i : ℕ) (pcms : List PcmInfo) (z : PcmInfo) → i < length pcms → i < 127 → pick ((get_or pcms i z).direction == d) (pushed (listed (ids_from d 0 (take i pcms))) i) (listed (ids_from d 0 (take i pcms))) ≡ listed (ids_from d 0 (take (i + 1) pcms))
listed_more d i pcms z h k =
    let n : length (take i pcms) ≡ i = length-take-le i pcms (omega arith) in
    let s : ids_from d 0 (take (i + 1) pcms) ≡ pick ((get_or pcms i z).direction == d) (ids_from d 0 (take i pcms) ++ (i ∷ [])) (ids_from d 0 (take i pcms)) =
    ap (λ (m : ℕ). ids_from d 0 (take m pcms)) (add-one i) ∙ ap (ids_from d 0) (take-suc pcms i z h) ∙ ids-snoc d 0 (take i pcms) (slice_index_or pcms i z)
    ∙ ap (λ (m : ℕ). pick ((get_or pcms i z).direction == d) (ids_from d 0 (take i pcms) ++ (m ∷ [])) (ids_from d 0 (take i pcms))) (zero-add (length (take i pcms)) ∙ n) in
    by ((get_or pcms i z).direction == d) s
  where
    by : (t : Bool) → ids_from d 0 (take (i + 1) pcms) ≡ pick t (ids_from d 0 (take i pcms) ++ (i ∷ [])) (ids_from d 0 (take i pcms)) → pick t (pushed (listed (ids_from d 0 (take i pcms))) i) (listed (ids_from d 0 (take i pcms))) ≡ listed (ids_from d 0 (take (i + 1) pcms))
    by true e = listed-push (ids_from d 0 (take i pcms)) i (omega (arith, length_ids d 0 (take i pcms), length-take-le i pcms (omega arith))) ∙ ap listed (sym e)
    by false e = ap listed (sym e)

-- a table of 127 has no more than 127
pub take-cap : (n : ℕ) (pcms : List PcmInfo) → length pcms ≡ 127 → 127 < n → take 127 pcms ≡ take n pcms
take-cap n pcms e h = take_all 127 pcms (omega arith) ∙ sym (take_all n pcms (omega arith))
