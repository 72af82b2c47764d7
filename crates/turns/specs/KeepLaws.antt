-- What a counted turn keeps: the transfer is the same, the count grows by one, and a consistent track stays consistent.
-- Assumes nothing.
use Rattle.std.specs.Prelude.{ℕ, zero, suc, ◌+◌, ◌-◌, ◌*◌, ◌≤◌, ◌<◌, ◌≡◌, refl, Bool, true, false, None}
use Rattle.std.proofs.Common.{arith, ap, subst}
use Rattle.std.proofs.lemmas.Bool.{false≢true}
use Rattle.turns.specs.Ring.{free}
use Rattle.turns.specs.Rules.{choose_of, submit, sent_of, freeing, hear, act, turn_of, ticked, counted_of}
use Rattle.turns.specs.RuleLaws.{Chosen, chosen}
use Rattle.turns.specs.ConsistentLaws.{Consistent}
use Rattle.turns.specs.Private.{Placed}
use Rattle.turns.specs.CaseLaws.{Plain, Over, hear-cases, counted-cases}
use Rattle.turns.specs.Types.{Track, Sent, Going, Step, Reading, Choice, Submit, Finish, Wait, Outcome}

-- ---- what stays: descriptors to a submission, stream, frame length, period, budget; the count is apart

abbrev pub fixed : Track → ℕ × ℕ × ℕ × ℕ × ℕ
fixed t = (t.descriptors, t.stream, t.total, t.period, t.budget)

-- its direction, what is lent, what was accepted of it, the room of its trace and what is written there: no rule looks at these
abbrev pub side : Track → Bool × ℕ × ℕ × ℕ × ℕ
side t = (t.capture, t.lent, t.kept, t.room, t.written)

-- n is of the same transfer as t, after some turns more
abbrev pub After : ℕ → Track → Track → Type 0
After more t n = (fixed n ≡ fixed t) × (n.turns ≡ t.turns + more) × (side n ≡ side t)

none : (t : Track) → After 0 t t
none t = (refl, omega arith, refl)

after-hear : (sent : Sent) (t : Track) (o : Outcome) (reading : Reading) → After 0 t (hear o sent t reading).track
after-hear sent t o reading = hear-cases (λ s. After 0 t s.track) sent t o reading (λ _ _. none t) (λ _ _ _ _ _ _ _. none t)

pub after-act : (c : Choice) (t : Track) (o : Outcome) (reading : Reading) → After 0 t (act c t o reading).track
after-act Submit t o reading = after-hear (sent_of t) (submit t) o reading
after-act Finish t o reading = none t
after-act Wait t o reading = after-hear None t o reading

hear-plain : (sent : Sent) (t : Track) (o : Outcome) (reading : Reading) → Plain (hear o sent t reading).said
hear-plain sent t o reading = hear-cases (λ s. Plain s.said) sent t o reading (λ _ p. p) (λ _ _ _ p _ _ _. p)

act-plain : (c : Choice) (t : Track) (o : Outcome) (reading : Reading) → Plain (act c t o reading).said
act-plain Submit t o reading = hear-plain (sent_of t) (submit t) o reading
act-plain Finish t o reading = tt
act-plain Wait t o reading = hear-plain None t o reading

-- one completion more is good at most
hear-good : (sent : Sent) (t : Track) (o : Outcome) (reading : Reading) → (hear o sent t reading).track.good ≤ t.good + 1
hear-good sent t o reading = hear-cases (λ s. s.track.good ≤ t.good + 1) sent t o reading (λ _ _. omega arith) (λ _ _ _ _ _ _ h. h)

act-good : (c : Choice) (t : Track) (o : Outcome) (reading : Reading) → (act c t o reading).track.good ≤ t.good + 1
act-good Submit t o reading = hear-good (sent_of t) (submit t) o reading
act-good Finish t o reading = omega arith
act-good Wait t o reading = hear-good None t o reading

-- a turn refuses nothing
pub turn-plain : (least : ℕ) (t : Track) (o : Outcome) (reading : Reading) → Plain (turn_of least t o reading).said
unfolding turn_of
turn-plain least t o reading = act-plain (choose_of least t) t o reading

-- before it is counted, a turn that was within the budget still is
pub turns-left : (least : ℕ) (t : Track) (o : Outcome) (reading : Reading) (s : Step) → s ≡ turn_of least t o reading → Consistent t → t.running ≡ true → s.track.turns < s.track.budget
unfolding turn_of
turns-left least t o reading s e c h =
    let a = after-act (choose_of least t) t o reading in
    let budget : (act (choose_of least t) t o reading).track.budget ≡ t.budget = ap (λ (f : ℕ × ℕ × ℕ × ℕ × ℕ). f.4) a.0 in
    let left = c.paced.left h in
    rw e (omega arith)

-- and so are its good completions
pub good_left : (t : Track) → Consistent t → t.running ≡ true → t.good < t.budget
good_left t c h = let left = c.paced.left h in omega (arith, c.good)

-- counting changes the count and whether the transfer runs, nothing else
pub counted-track : (s : Step) → Plain s.said → ticked (counted_of s).track.running s.track ≡ (counted_of s).track
counted-track s p = counted-cases (λ n. ticked n.track.running s.track ≡ n.track) s p (λ _. refl) (λ _ _. refl)

-- A COUNTED TURN keeps the transfer, and counts one
pub turn-after : (least : ℕ) (t : Track) (o : Outcome) (reading : Reading) → After 1 t (counted_of (turn_of least t o reading)).track
unfolding turn_of
turn-after least t o reading =
    let a = after-act (choose_of least t) t o reading in
    counted-cases (λ s. After 1 t s.track) (turn_of least t o reading) (turn-plain least t o reading) (λ _. (a.0, omega arith, a.2)) (λ _ _. (a.0, omega arith, a.2))

-- ---- the slots stay in line, within the frames

pub record Fit (t : Track) : Type 0 where
  pub placed : Placed t
  pub within : t.next ≤ t.total
  pub kept : t.kept ≤ t.lent

less-room : (n size : ℕ) → n * size ≤ 32 → (n - 1) * size ≤ 32
less-room zero size h = omega arith
less-room (suc n) size h = let one : suc n - 1 ≡ n = omega arith in rw one (omega arith)

pub fit-freeing : (good : ℕ) (t : Track) → 0 < t.inflight → Fit t → Fit (freeing good t)
fit-freeing good t some f =
    let p = f.placed in
    record { placed = record { mode = p.mode; head_in = p.head_in; tail-in = omega arith; room = less-room t.inflight t.descriptors p.room; line = omega arith }; within = f.within; kept = f.kept }

pub fit-submit : (least : ℕ) (t : Track) → t.descriptors ≤ least → least ≤ free t → t.next < t.total → Fit t → Fit (submit t)
fit-submit least t le room more f =
    let p = f.placed in
    record { placed = record { mode = p.mode; head_in = omega arith; tail-in = p.tail-in; room = omega arith; line = omega arith }; within = omega arith; kept = f.kept }

pub fit-hear : (sent : Sent) (t : Track) (o : Outcome) (reading : Reading) → Fit t → Fit (hear o sent t reading).track
fit-hear sent t o reading f = hear-cases (λ s. Fit s.track) sent t o reading (λ _ _. f) (λ _ _ _ _ some good _. fit-freeing good t some f)

fit-act : (least : ℕ) (t : Track) (o : Outcome) (reading : Reading) (c : Choice) → Chosen least t c → t.descriptors ≤ least → Fit t → Fit (act c t o reading).track
fit-act least t o reading Submit ch le f = fit-hear (sent_of t) (submit t) o reading (fit-submit least t le ch.0 ch.1 f)
fit-act least t o reading Finish ch le f = f
fit-act least t o reading Wait ch le f = fit-hear None t o reading f

-- ---- what calls leave is consistent

abbrev pub Leaves : Step → Type 0
Leaves s = Consistent s.track

pub fit_of : (t : Track) → Consistent t → Fit t
fit_of t c = record { placed = c.placed; within = c.paced.within; kept = c.kept }

ticked-placed : (b : Bool) (t : Track) → Placed t → Placed (ticked b t)
ticked-placed b t p = record { mode = p.mode; head_in = p.head_in; tail-in = p.tail-in; room = p.room; line = p.line }

-- one that runs no more
ended : (t : Track) → Fit t → t.good ≤ t.turns + 1 → Consistent (ticked false t)
ended t f g = record { placed = ticked-placed false t f.placed; paced = record { within = f.within; some = λ h. absurd (false≢true h); left = λ h. absurd (false≢true h) }; kept = f.kept; good = g }

-- A COUNTED TURN of a transfer that runs
pub turn-keeps : (least : ℕ) (t : Track) (o : Outcome) (reading : Reading) → t.descriptors ≤ least → Consistent t → t.running ≡ true → Consistent (counted_of (turn_of least t o reading)).track
unfolding turn_of
turn-keeps least t o reading le c on =
    let u = turn_of least t o reading in
    let a = after-act (choose_of least t) t o reading in
    let f = fit-act least t o reading (choose_of least t) (chosen least t) le (fit_of t c) in
    let period = ap (λ (x : ℕ × ℕ × ℕ × ℕ × ℕ). x.3) a.0 in
    let budget = ap (λ (x : ℕ × ℕ × ℕ × ℕ × ℕ). x.4) a.0 in
    let some = c.paced.some on in
    let left = c.paced.left on in
    let within : u.track.good ≤ u.track.turns + 1 = omega (arith, act-good (choose_of least t) t o reading, a.1, c.good) in
    counted-cases Leaves u (turn-plain least t o reading)
    (λ more. record { placed = ticked-placed true u.track f.placed; paced = record { within = f.within; some = λ _. omega arith; left = λ _. omega arith }; kept = f.kept; good = within })
    (λ _ _. ended u.track f within)

-- a turn that goes on leaves a transfer that runs
pub turn-runs : (least : ℕ) (t : Track) (o : Outcome) (reading : Reading) → (counted_of (turn_of least t o reading)).said ≡ Going → (counted_of (turn_of least t o reading)).track.running ≡ true
turn-runs least t o reading =
    counted-cases (λ s. s.said ≡ Going → s.track.running ≡ true) (turn_of least t o reading) (turn-plain least t o reading) (λ _ _. refl)
    (λ _ o e. absurd (subst Over e o))
