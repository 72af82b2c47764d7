-- One log: the host's loop over the call of a turn and the run of the rules say the same, and both come to an answer within the budget.
-- Assumes nothing.
use Rattle.std.specs.Prelude.{ℕ, zero, suc, ◌+◌, ◌*◌, ◌≤◌, ◌<◌, ◌≡◌, refl, Bool, true, false, not, ◌||◌, ◌&&◌, List, eqb, length, None}
use Rattle.std.proofs.Common.{arith, sym, ap, ◌∙◌, subst, eq-eqb, eqb-true, lt-ltb, ltb-true, leb-true}
use Rattle.std.proofs.lemmas.Bool.{false≢true, not-true}
use Rattle.codes.specs.SaysLaws.{passes, guarded-by}
use Rattle.codes.specs.declared.answers.Refusal.{Refusal}
use Rattle.turns.specs.Rules.{comes_to, played_of, turn_of, counted_of}
use Rattle.turns.specs.Ring.{is_refused}
use Rattle.turns.specs.ConsistentLaws.{Consistent, consistent-facts, consistent-true, both}
use Rattle.turns.specs.Calls.{refused_of, runs_as, admit, traced_call, turn_call, begun_in, begun, start_call, periods_of, start_traced}
use Rattle.turns.specs.CaseLaws.{onward-cases, stays}
use Rattle.turns.specs.KeepLaws.{After, turn-after, turn-keeps, turn-runs}
use Rattle.turns.specs.StaysConsistentLaws.{begun-keeps}
use Rattle.turns.specs.Log.{Line, Ran, onward, Told, next_of, rest_of, loop_of, Judge, played, judged_of, ruled, run, called, turn_by_turn}
use Rattle.turns.specs.Types.{Track, Ring, Said, Going, Done, Ended, Refused, Step, Reading, Outcome}

-- ---- two loops that say the same: one seen through a view of its state

abbrev pub seen : {A B : Type 0} → (A → B) → Ran A → Ran B
seen view r = record { said = r.said; at = view r.at; log = r.log }

onward-alike : {A B : Type 0} (view : A → B) (said : Said) (line : Line) (a : A) (r : Ran A) (q : Ran B) → (said ≡ Going → seen view r ≡ q) → seen view (onward said line a r) ≡ onward said line (view a) q
onward-alike view Going line a r q h = ap (λ (x : Ran _). onward Going line (view a) x) (h refl)
onward-alike view Done line a r q h = refl
onward-alike view (Ended x) line a r q h = refl
onward-alike view (Refused x) line a r q h = refl

-- f and g leave the same line, and the same state in view, wherever the invariant holds; a turn of f that goes on keeps it
pub loops-alike : {A B R : Type 0} (quiet : R) (f : A → R → Told A) (g : B → R → Told B) (view : A → B) (Inv : A → Type 0)
    → ((a : A) (x : R) → Inv a → ((f a x).line ≡ (g (view a) x).line) × (view (f a x).left ≡ (g (view a) x).left) × ((f a x).line.said ≡ Going → Inv (f a x).left))
    → (fuel : ℕ) (a : A) (script : List R) → Inv a → seen view (loop_of quiet f fuel a script) ≡ loop_of quiet g fuel (view a) script
unfolding loop_of
loops-alike quiet f g view Inv step zero a script i = refl
loops-alike {A} {B} quiet f g view Inv step (suc fuel) a script i =
    let x = next_of quiet script in
    let s = step a x i in
    let rest : B → Ran B = λ b. loop_of quiet g fuel b (rest_of script) in
    onward-alike view (f a x).line.said (f a x).line (f a x).left (loop_of quiet f fuel (f a x).left (rest_of script)) (rest (view (f a x).left))
    (λ going. loops-alike quiet f g view Inv step fuel (f a x).left (rest_of script) (s.2 going))
    ∙ ap (λ (l : Line). onward l.said l (view (f a x).left) (rest (view (f a x).left))) s.0
    ∙ ap (λ (b : B). onward (g (view a) x).line.said (g (view a) x).line b (rest b)) s.1

-- ---- THE LINK

-- a transfer of a direction runs, lent something of a length, and room for a trace of a length
pub record RunsIn (capture : Bool) (len room : ℕ) (t : Track) : Type 0 where
  pub consistent : Consistent t
  pub running : t.running ≡ true
  pub direction : t.capture ≡ capture
  pub whole : len ≡ t.lent
  pub lent_room : room ≡ t.room

-- it writes no trace
abbrev pub RunsAs : Bool → ℕ → Track → Type 0
RunsAs capture len = RunsIn capture len 0

abbrev pub Runs : ℕ → Track → Type 0
Runs = RunsAs false

agrees : (running same : Bool) → same ≡ true → (not running || same) ≡ true
agrees true same e = e
agrees false same e = refl

runs_as_lem : (capture : Bool) (t : Track) → t.running ≡ true → t.capture ≡ capture → runs_as capture t ≡ true
runs_as_lem true t r d = rw (r, d)
runs_as_lem false t r d = rw (r, d)

-- a call is not refused while its transfer runs
pub admits : {A : Type 0} {room : ℕ} (capture : Bool) (len : ℕ) (t : Track) (refused : Refusal → A) (rest : A) → RunsIn capture len room t → rest ≡ admit capture t len refused rest
admits capture len t refused rest r =
    passes _ _ _ (agrees t.running (eqb len t.lent) (eq-eqb _ _ r.whole)) (passes _ _ _ (consistent-true t r.consistent) (passes _ _ _ (runs_as_lem capture t r.running r.direction) refl))

-- the call of a turn is the counted turn
pub call-traces : (len room : ℕ) (t : Track) (reading : Reading) → RunsIn false len room t → counted_of (turn_of t.descriptors t (comes_to played_of reading) reading) ≡ traced_call t len room reading
unfolding traced_call
call-traces len room t reading r = passes _ _ _ (agrees t.running (eqb room t.room) (eq-eqb _ _ r.lent_room)) (admits false len t (λ x. refused_of x t) _ r)

agreed : (running same : Bool) → (not running || same) ≡ true → running ≡ true → same ≡ true
agreed true same e r = e
agreed false same e r = absurd (false≢true r)

-- and where the call is not refused, the transfer runs
pub traced-ran : (len room : ℕ) (t : Track) (reading : Reading) → is_refused (traced_call t len room reading).said ≡ false → RunsIn false len room t
unfolding traced_call
traced-ran len room t reading =
    let P : Step → Type 0 = λ s. is_refused s.said ≡ false → RunsIn false len room t in
    guarded-by P _ _ _
    (λ m. guarded-by P _ _ _
    (λ l. guarded-by P _ _ _
    (λ c. guarded-by P _ _ _
    (λ d _.
    let on = both t.running (not t.capture) d in
    record {
      consistent = consistent-facts t c;
      running = on.0;
      direction = not-true t.capture on.1;
      whole = eqb-true _ _ (agreed t.running (eqb len t.lent) l on.0);
      lent_room = eqb-true _ _ (agreed t.running (eqb room t.room) m on.0);
    })
    (λ _ e. absurd (false≢true (sym e))))
    (λ _ e. absurd (false≢true (sym e))))
    (λ _ e. absurd (false≢true (sym e))))
    (λ _ e. absurd (false≢true (sym e)))

pub call-turns : (len : ℕ) (t : Track) (reading : Reading) → Runs len t → counted_of (turn_of t.descriptors t (comes_to played_of reading) reading) ≡ turn_call t len reading
call-turns len t reading r = call-traces len 0 t reading r

-- a turn that goes on leaves a transfer that runs
pub runs_on : {capture : Bool} {room : ℕ} (least len : ℕ) (t : Track) (o : Outcome) (reading : Reading) → t.descriptors ≤ least → RunsIn capture len room t → (counted_of (turn_of least t o reading)).said ≡ Going → RunsIn capture len room (counted_of (turn_of least t o reading)).track
runs_on least len t o reading le r e =
    let same = (turn-after least t o reading).2 in
    record {
      consistent = turn-keeps least t o reading le r.consistent r.running;
      running = turn-runs least t o reading e;
      direction = ap (λ (x : Bool × ℕ × ℕ × ℕ × ℕ). x.0) same ∙ r.direction;
      whole = r.whole ∙ sym (ap (λ (x : Bool × ℕ × ℕ × ℕ × ℕ). x.1) same);
      lent_room = r.lent_room ∙ sym (ap (λ (x : Bool × ℕ × ℕ × ℕ × ℕ). x.3) same);
    }

-- one turn of each: the same line, the same track, and a turn that goes on leaves a transfer that runs in the same mode
abbrev Alike : ℕ → ℕ → Ring → Reading → Type 0
Alike least len a x =
    ((called len a x).line ≡ (ruled played least a.track x).line)
    × ((called len a x).left.track ≡ (ruled played least a.track x).left)
    × ((called len a x).line.said ≡ Going → ((called len a x).left.track.descriptors ≡ least) × Runs len (called len a x).left.track)

same_turn : (len : ℕ) (a : Ring) (x : Reading) → Runs len a.track → Alike a.track.descriptors len a x
same_turn len a x h =
    let t = a.track in
    let e = sym (call-turns len t x h) in (
      ap (λ (s : Step). record { sent = s.sent; waiting = (ruled played t.descriptors t x).line.waiting; reading = x; heard = s.heard; said = s.said }) e,
      ap (λ (s : Step). s.track) e,
      subst (λ (s : Step). s.said ≡ Going → (s.track.descriptors ≡ t.descriptors) × Runs len s.track) (sym e)
          (λ g. (ap (λ (z : ℕ × ℕ × ℕ × ℕ × ℕ). z.0) (turn-after t.descriptors t _ x).0, runs_on t.descriptors len t _ x (omega arith) h g)),
    )

-- THE HOST'S LOOP and THE RUN of the rules say the same, line for line, and leave the same track
pub link : (least len fuel : ℕ) (r : Ring) (script : List Reading) → r.track.descriptors ≡ least → Runs len r.track → seen (λ (x : Ring). x.track) (turn_by_turn len fuel r script) ≡ run played least fuel r.track script
link least len fuel r script p i =
    loops-alike None (called len) (ruled played least) (λ (x : Ring). x.track) (λ x. (x.track.descriptors ≡ least) × Runs len x.track)
    (λ a x h. subst (λ (k : ℕ). Alike k len a x) h.0 (same_turn len a x h.1)) fuel r script (p, i)

-- ---- how a run ends

pub record Ends (fuel : ℕ) (t : Track) (o : Ran Track) : Type 0 where
  -- with fuel for the budget that is left there is an answer
  pub answered : t.budget ≤ t.turns + fuel → o.said ≡ Going → ⊥
  -- within the budget
  pub within : t.turns + length o.log ≤ t.budget
  -- the transfer is the same, and its count is of the lines of the log
  pub after : After (length o.log) t o.at
  pub consistent : Consistent o.at

ends_by : (fuel : ℕ) (t n : Track) (said : Said) (line : Line) (rest : Ran Track) → After 1 t n → t.turns < t.budget → Consistent n → (said ≡ Going → Ends fuel n rest) → Ends (suc fuel) t (onward said line n rest)
ends_by fuel t n said line rest a l c h =
    onward-cases (Ends (suc fuel) t) said line n rest
    (λ e.
    let k = h e in
    let budget = ap (λ (x : ℕ × ℕ × ℕ × ℕ × ℕ). x.4) a.0 in
    record { answered = λ f. k.answered (omega arith); within = omega (arith, k.within); after = (k.after.0 ∙ a.0, omega (arith, k.after.1), k.after.2 ∙ a.2); consistent = k.consistent })
    (λ e. record { answered = λ _. stays e; within = omega arith; after = a; consistent = c })

pub run_ends : {capture : Bool} {R : Type 0} (j : Judge R) (least len fuel : ℕ) (t : Track) (script : List R) → t.descriptors ≤ least → RunsAs capture len t → Ends fuel t (run j least fuel t script)
unfolding loop_of
run_ends j least len zero t script le r =
    let left = r.consistent.paced.left r.running in
    record { answered = λ f e. omega arith; within = omega arith; after = (refl, omega arith, refl); consistent = r.consistent }
run_ends j least len (suc fuel) t script le r =
    let x = next_of j.quiet script in
    let s = ruled j least t x in
    let moved = turn-after least t (judged_of j t x) (j.reading x) in
    let size = ap (λ (z : ℕ × ℕ × ℕ × ℕ × ℕ). z.0) moved.0 in
    ends_by fuel t s.left s.line.said s.line (run j least fuel s.left (rest_of script)) moved (r.consistent.paced.left r.running)
    (turn-keeps least t _ _ le r.consistent r.running)
    (λ e. run_ends j least len fuel s.left (rest_of script) (omega arith) (runs_on least len t _ _ le r e))

-- ---- THE START of a transfer

-- a start that goes on has begun a transfer
pub record Begins (t : Track) (stream total period budget : ℕ) (s : Step) : Type 0 where
  pub track : s.track ≡ begun t stream total period budget
  pub sent : s.sent ≡ None
  pub runs : Runs total (begun t stream total period budget)

pub never : (x : Refusal) → Refused x ≡ Going → ⊥
never x e = let z : ◌≡◌ {A = ℕ} 0 1 = cc in omega arith

pub begins : (t : Track) (stream total period budget : ℕ) → (start_call t stream total period budget).said ≡ Going → Begins t stream total period budget (start_call t stream total period budget)
unfolding start_call
begins t stream total period budget =
    let P : Step → Type 0 = λ s. s.said ≡ Going → Begins t stream total period budget s in
    guarded-by P _ _ _
    (λ c. guarded-by P _ _ _
    (λ _. guarded-by P _ _ _
    (λ p. guarded-by P _ _ _
    (λ b _. record { track = refl; sent = refl; runs = record { consistent = begun-keeps 0 false total t stream total period budget (consistent-facts t c).placed.mode (ltb-true _ _ p) (ltb-true _ _ b); running = refl; direction = refl; whole = refl; lent_room = refl } })
    (λ _ e. absurd (never _ e)))
    (λ _ e. absurd (never _ e)))
    (λ _ e. absurd (never _ e)))
    (λ _ e. absurd (never _ e))

-- the same of one that writes a trace: its room is enough
pub record BeginsTraced (t : Track) (stream total period budget room : ℕ) (s : Step) : Type 0 where
  pub track : s.track ≡ begun_in room false total t stream total period budget
  pub sent : s.sent ≡ None
  pub runs : RunsIn false total room (begun_in room false total t stream total period budget)
  pub short : total < 4294967296
  pub enough : 19 + 20 * periods_of total period ≤ room

pub begins-traced : (t : Track) (stream total period budget room : ℕ) → (start_traced t stream total period budget room).said ≡ Going
    → BeginsTraced t stream total period budget room (start_traced t stream total period budget room)
unfolding start_traced
begins-traced t stream total period budget room =
    let P : Step → Type 0 = λ s. s.said ≡ Going → BeginsTraced t stream total period budget room s in
    guarded-by P _ _ _
    (λ c. guarded-by P _ _ _
    (λ _. guarded-by P _ _ _
    (λ p. guarded-by P _ _ _
    (λ b. guarded-by P _ _ _
    (λ w. guarded-by P _ _ _
    (λ n _. record {
      track = refl;
      sent = refl;
      runs = record { consistent = begun-keeps room false total t stream total period budget (consistent-facts t c).placed.mode (ltb-true _ _ p) (ltb-true _ _ b); running = refl; direction = refl; whole = refl; lent_room = refl };
      short = ltb-true _ _ w;
      enough = leb-true _ _ n;
    })
    (λ _ e. absurd (never _ e)))
    (λ _ e. absurd (never _ e)))
    (λ _ e. absurd (never _ e)))
    (λ _ e. absurd (never _ e)))
    (λ _ e. absurd (never _ e)))
    (λ _ e. absurd (never _ e))

rests : (running empty : Bool) → running ≡ false → empty ≡ true → (not running && empty) ≡ true
rests running empty p q = rw (p, q)

-- a consistent ring that runs nothing and has nothing in flight can begin one
pub goes : (t : Track) (stream total period budget : ℕ) → Consistent t → t.running ≡ false → t.inflight ≡ 0 → 0 < period → 0 < budget → Going ≡ (start_call t stream total period budget).said
unfolding start_call
goes t stream total period budget c off none p b =
    ap (λ (s : Step). s.said)
    (passes _ _ _ (consistent-true t c)
    (passes _ _ _ (rests t.running (eqb t.inflight 0) off (eq-eqb _ _ none)) (passes _ _ _ (lt-ltb _ _ p) (passes _ _ _ (lt-ltb _ _ b) refl))))
