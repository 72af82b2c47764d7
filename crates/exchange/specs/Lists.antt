-- Theorems: "Output and input streams: ascending ids with direction 0, or 1. Other directions are in neither list."
-- Assumes nothing.
use Rattle.std.specs.Prelude.{◌≡◌, ℕ, zero, suc, ◌+◌, ◌<◌, ◌≤◌, Bool, true, false, ◌⊎◌, ◌↔◌, List, [], ◌∷◌, length, take, ◌==◌, slice_index, slice_index_or, refl, Result, Ok}
use Rattle.std.proofs.Common.{sym, ap, ap₂, ◌∙◌, inl, inr, arith, get_or-take, length-take-le, eqb-true, eq-eqb}
use Rattle.codes.specs.Says.{pick}
use Rattle.records.specs.Records.{pcm_info_of}
use Rattle.exchange.specs.ConsistentLaws.{full, ready-tables}
use Rattle.exchange.specs.State.{pcms_of}
use Rattle.exchange.specs.Exchange.{ids_from, listed, list_of, step_of, call_of}
use Rattle.exchange.specs.OwnLaws.{Own, lists, refuses}
use Rattle.exchange.specs.PlanLaws.{begun, fed}
use Rattle.exchange.specs.Kept.{Kept}
use Rattle.exchange.specs.FineLaws.{Fine, called-fine, fed-fine}
use Rattle.exchange.specs.Ends.{waits}
use Rattle.exchange.specs.ResultLaws.{recall, own?, begun-own, Finished, answered-own}
use Rattle.exchange.specs.Feed.{Feed, page_of, plan_of, fed_of, One, call_at}
use Rattle.exchange.specs.StayLaws.{Stays, called-stays, fed-stays}
use Rattle.sound_core.specs.declared.plan.Value.TheVariants as value
use Rattle.exchange.specs.Types.{Refusal, PcmInfo, Track, Counts, Streams, MapsAsked, Core, Sound, Value, Say, Done, Look, Plan}

-- ---- one id more, or not

cons-cases : (t : Bool) (x i : ℕ) (r : List ℕ) → One x (pick t (i ∷ r) r) → ((t ≡ true) × (x ≡ i)) ⊎ One x r
cons-cases true x i r m = elim m [ inl e ↦ inl (refl, e) | inr n ↦ inr n ]
cons-cases false x i r m = inr m

cons_head : (t : Bool) (x i : ℕ) (r : List ℕ) → t ≡ true → x ≡ i → One x (pick t (i ∷ r) r)
cons_head t x i r e p = rw e (inl p)

cons_tail : (t : Bool) (x i : ℕ) (r : List ℕ) → One x r → One x (pick t (i ∷ r) r)
cons_tail true x i r m = inr m
cons_tail false x i r m = m

-- where an id of a list stands
record Found (d i : ℕ) (ps : List PcmInfo) (x : ℕ) : Type 0 where
  pub place : ℕ
  pub is : x ≡ i + place
  pub below : place < length ps
  pub way : (slice_index_or ps place (pcm_info_of [])).direction ≡ d

found : (d i : ℕ) (ps : List PcmInfo) (x : ℕ) → One x (ids_from d i ps) → Found d i ps x
found d i [] x m = absurd m
found d i (p ∷ ps) x m =
    elim (cons-cases (p.direction == d) x i (ids_from d (suc i) ps) m) [
      | inl e ↦ record { place = 0; is = omega (arith, e.1); below = omega arith; way = eqb-true p.direction d e.0 }
      | inr n ↦ let f = found d (suc i) ps x n in record { place = suc f.place; is = omega (arith, f.is); below = omega (arith, f.below); way = f.way }
    ]

listed_at : (d i : ℕ) (ps : List PcmInfo) (x k : ℕ) → x ≡ i + k → k < length ps → (slice_index_or ps k (pcm_info_of [])).direction ≡ d → One x (ids_from d i ps)
listed_at d i [] x k e h w = absurd (omega arith)
listed_at d i (p ∷ ps) x zero e h w = cons_head (p.direction == d) x i (ids_from d (suc i) ps) (eq-eqb _ _ w) (omega arith)
listed_at d i (p ∷ ps) x (suc k) e h w = cons_tail (p.direction == d) x i (ids_from d (suc i) ps) (listed_at d (suc i) ps x k (omega arith) (omega arith) w)

-- ---- THE THEOREMS, of the list made of the first n records of a table

-- every id of the direction that was asked for, and no other
pub ids-complete : (d n : ℕ) (pcms : List PcmInfo) (i : ℕ) → n ≤ length pcms → One i (ids_from d 0 (take n pcms)) ↔ ((i < n) × ((slice_index_or pcms i (pcm_info_of [])).direction ≡ d))
ids-complete d n pcms i h =
    let l = length-take-le n pcms h in (
      (λ m.
          let f = found d 0 (take n pcms) i m in
          let e : f.place ≡ i = omega (arith, f.is) in
          let b : f.place < n = omega (arith, f.below) in
          (omega arith, ap (λ (k : ℕ). (slice_index_or pcms k (pcm_info_of [])).direction) (sym e) ∙ ap (λ (q : PcmInfo). q.direction) (sym (get_or-take n pcms f.place (pcm_info_of []) b)) ∙ f.way)),
      λ w. listed_at d 0 (take n pcms) i i (omega arith) (omega (arith, w.0)) (ap (λ (q : PcmInfo). q.direction) (get_or-take n pcms i (pcm_info_of []) w.0) ∙ w.1),
    )

-- no id is in both lists
pub ids-disjoint : (n : ℕ) (pcms : List PcmInfo) (i : ℕ) → n ≤ length pcms → One i (ids_from 0 0 (take n pcms)) → One i (ids_from 1 0 (take n pcms)) → ⊥
ids-disjoint n pcms i h a b = omega (arith, ((ids-complete 0 n pcms i h).0 a).1, ((ids-complete 1 n pcms i h).0 b).1)

-- ascending

pick-at-least : (t : Bool) (i : ℕ) (r : List ℕ) (k : ℕ) → ((j : ℕ) → j < length r → suc i ≤ slice_index r j) → k < length (pick t (i ∷ r) r) → i ≤ slice_index (pick t (i ∷ r) r) k
pick-at-least true i r zero f h = omega arith
pick-at-least true i r (suc k) f h = omega (arith, f k (omega arith))
pick-at-least false i r k f h = omega (arith, f k h)

at_least : (d i : ℕ) (ps : List PcmInfo) (k : ℕ) → k < length (ids_from d i ps) → i ≤ slice_index (ids_from d i ps) k
at_least d i [] k h = absurd (omega arith)
at_least d i (p ∷ ps) k h = pick-at-least (p.direction == d) i (ids_from d (suc i) ps) k (at_least d (suc i) ps) h

pick-ascending : (t : Bool) (i : ℕ) (r : List ℕ) (j k : ℕ) → ((l : ℕ) → l < length r → suc i ≤ slice_index r l) → ((a b : ℕ) → a < b → b < length r → slice_index r a < slice_index r b) → j < k
    → k < length (pick t (i ∷ r) r) → slice_index (pick t (i ∷ r) r) j < slice_index (pick t (i ∷ r) r) k
pick-ascending true i r j zero f g h l = absurd (omega arith)
pick-ascending true i r zero (suc k) f g h l = omega (arith, f k (omega arith))
pick-ascending true i r (suc j) (suc k) f g h l = g j k (omega arith) (omega arith)
pick-ascending false i r j k f g h l = g j k h l

pub ids-ascending : (d i : ℕ) (ps : List PcmInfo) (j k : ℕ) → j < k → k < length (ids_from d i ps) → slice_index (ids_from d i ps) j < slice_index (ids_from d i ps) k
ids-ascending d i [] j k h l = absurd (omega arith)
ids-ascending d i (p ∷ ps) j k h l = pick-ascending (p.direction == d) i (ids_from d (suc i) ps) j k (at_least d (suc i) ps) (ids-ascending d (suc i) ps) h l

-- ---- what a call answers is that list, of as many records as are configured

list-by : (s : Sound) (p : Plan) (d : ℕ) → Stays s.core p → Fine s.core p → (p.say ≡ Ok (Done (value.Streams d))) × (p.core.ready ≡ true) → (page : List ℕ)
    → (step_of p s page).streams ≡ listed (ids_from d 0 (take s.core.counts.streams (pcms_of s)))
list-by s p d b f a page =
    let e = (full p.core.read p.core.counts (ready-tables p.core f.consistent a.1)).streams in
    let n : p.core.read.streams ≡ s.core.counts.streams = e ∙ ap (λ (m : Counts). m.streams) b.counts in
    ap₂ (λ (x : Result Say Refusal) (k : ℕ). list_of x k (pcms_of s)) a.0 n

own-lists : {c : Core} {look : Look} {d : ℕ} {p : Plan} (x : Value) → c.ready ≡ true → p.say ≡ Ok (Done x) → Own c look (Streams d) p → (p.say ≡ Ok (Done (value.Streams d))) × (p.core.ready ≡ true)
own-lists x r e lists = (refl, r)
own-lists x r e (refuses _ z) = absurd z

finished-lists : {c : Core} {look : Look} {d : ℕ} {p : Plan} (x : Value) → c.stage ≡ MapsAsked (Streams d) → p.say ≡ Ok (Done x) → Finished c look p
    → (p.say ≡ Ok (Done (value.Streams d))) × (p.core.ready ≡ true)
finished-lists x g e f =
    let a = own-lists x f.ready (sym f.say ∙ e) (recall (sym (ap call_at f.waited) ∙ ap call_at g) f.own) in
    (f.say ∙ a.0, ap (λ (k : Core). k.ready) f.core ∙ a.1)

pub list-is : (s : Sound) (t : Track) (d n : ℕ) (x : Value) → Kept s → (call_of s t (Streams d) n).say ≡ Ok (Done x)
    → (step_of (call_of s t (Streams d) n) s []).streams ≡ listed (ids_from d 0 (take s.core.counts.streams (pcms_of s)))
list-is s t d n x k e = list-by s (call_of s t (Streams d) n) d (called-stays s t (Streams d) n) (called-fine s t (Streams d) n k.consistent) (let b = begun-own (ap own? e) (begun s t (Streams d) n) in own-lists x b.0 e b.1) []

-- at the feed that ends set-up
pub list-is-feed : (s : Sound) (f : Feed) (d : ℕ) (x : Value) → Kept s → s.core.stage ≡ MapsAsked (Streams d) → (plan_of s f).say ≡ Ok (Done x)
    → (fed_of s f).streams ≡ listed (ids_from d 0 (take s.core.counts.streams (pcms_of s)))
list-is-feed s f d x k g e = list-by s (plan_of s f) d (fed-stays s f) (fed-fine s f k.consistent) (finished-lists x g e (answered-own (ap own? e) (λ _ h _. omega (arith, ap waits (sym g ∙ h))) (fed s f))) (page_of f)
