-- A run whose queue makes no mistake and keeps completing answers Ok in time.
-- Assumes nothing.
use Rattle.std.specs.Prelude.{ℕ, zero, suc, ◌+◌, ◌*◌, ◌≤◌, ◌<◌, ◌≡◌, refl, ◌≢◌, Bool, true, false, List, [], ◌∷◌, ◌++◌, length, take, Some, None}
use Rattle.std.proofs.Common.{arith, zero-mul, ap, sym, ◌∙◌, subst, inl, inr, append_assoc, length-append, take_at, eqb-true}
use Rattle.layout.specs.All.{All}
use Rattle.layout.specs.AllLaws.{append-ok}
use Rattle.turns.specs.Ring.{free}
use Rattle.turns.specs.CutLaws.{spans-more}
use Rattle.turns.specs.Rules.{choose_of, submit, sent_of, judge_of, settle, hear, act, turn_of, ticked, counted_of}
use Rattle.turns.specs.RuleLaws.{Chosen, chosen, Judged, judged}
use Rattle.turns.specs.CaseLaws.{last_of}
use Rattle.turns.specs.KeepLaws.{after-act, turn-plain, counted-track}
use Rattle.turns.specs.AccountLaws.{turned, ahead, Fuelled, Fair, Just, FairOf, fair-of}
use Rattle.turns.specs.Asked.{Any, Faultless, InFlight, Completes, Reports, CompletesWithin}
use Rattle.turns.specs.Log.{Line, Ran, waiting_by, next_of, rest_of, loop_of, Judge, judged_of, run}
use Rattle.turns.specs.Types.{Track, Sent, Done, Reading, Choice, Submit, Finish, Wait, Outcome, Verdict, WrongSlot, Good, Bad, completion}

-- the same by counting down: within j more turns one reports, and after each report within g
abbrev pub Lively-by : Reading → ℕ → Type 0 → (ℕ → Type 0) → ℕ → Type 0
Lively-by None waiting full less j = 0 < waiting → (k : ℕ) × (j ≡ suc k) × (0 < k) × less k
Lively-by (Some c) waiting full less j = full

abbrev pub Lively : ℕ → ℕ → List Line → Type 0
Lively g j [] = Unit {0}
Lively g j (t ∷ ts) = Lively-by t.reading t.waiting (Lively g g ts) (λ k. Lively g k ts) j

none_of : (pre : List Line) → All (λ t. t.reading ≡ None) pre → Any Reports pre → ⊥
none_of (t ∷ ts) q (inl h) = subst Completes q.0 h
none_of (t ∷ ts) q (inr h) = none_of ts q.1 h
none_of [] q e = elim e [ ]

every-tail : (g : ℕ) (t : Line) (ts : List Line) → CompletesWithin g (t ∷ ts) → CompletesWithin g ts
every-tail g t ts e i h = e (suc i) (omega arith)

every-after : (g : ℕ) (pre ts : List Line) → CompletesWithin g (pre ++ ts) → CompletesWithin g ts
every-after g [] ts e = e
every-after g (t ∷ pre) ts e = every-after g pre ts (every-tail g t (pre ++ ts) e)

-- what is left of a window, of which pre is the quiet part that has passed
abbrev Begun : ℕ → ℕ → List Line → List Line → Type 0
Begun g j pre log = (length pre + j ≡ g) × (0 < j) × All InFlight pre × All (λ t. t.reading ≡ None) pre × CompletesWithin g (pre ++ log)

lively-turn : (g j : ℕ) (pre : List Line) (t : Line) (ts : List Line) → Begun g j pre (t ∷ ts) → ((k : ℕ) (more : List Line) → Begun g k more ts → Lively g k ts)
    → (reading : Reading) → t.reading ≡ reading → Lively-by reading t.waiting (Lively g g ts) (λ k. Lively g k ts) j
lively-turn g zero pre t ts b k None s = λ h. absurd (omega arith)
lively-turn g (suc zero) pre t ts b k None s = λ h.
    let window : take g (pre ++ t ∷ ts) ≡ pre ++ t ∷ [] = ap (take g) (sym (append_assoc pre (t ∷ []) ts)) ∙ take_at (pre ++ t ∷ []) ts g (simp length-append (omega arith)) in
    absurd (none_of (pre ++ t ∷ []) (append-ok (λ t. t.reading ≡ None) pre (t ∷ []) b.3 (s, tt)) (rw window at (b.4 0 (simp length-append (omega arith)) (rw window (append-ok InFlight pre (t ∷ []) b.2 (h, tt))))))
lively-turn g (suc (suc j)) pre t ts b k None s = λ h.
    (suc j, refl, omega arith, k (suc j) (pre ++ t ∷ []) (simp length-append (omega arith), omega arith, append-ok InFlight pre (t ∷ []) b.2 (h, tt), append-ok (λ t. t.reading ≡ None) pre (t ∷ []) b.3 (s, tt), simp append_assoc b.4))
lively-turn g j pre t ts b k (Some c) s = k g [] (omega arith, omega arith, tt, tt, every-tail g t ts (every-after g pre (t ∷ ts) b.4))

lively-by : (g j : ℕ) (pre : List Line) (log : List Line) → Begun g j pre log → Lively g j log
lively-by g j pre [] b = tt
lively-by g j pre (t ∷ ts) b = lively-turn g j pre t ts b (λ k more. lively-by g k more ts) t.reading refl

pub lively : (g : ℕ) (log : List Line) → 0 < g → CompletesWithin g log → Lively g g log
lively g log p e = lively-by g g [] log (omega arith, p, tt, tt, e)

-- how many turns it takes to hear w completions, if the first comes within j turns and each later one within g, and to say Ok
abbrev pub due : ℕ → ℕ → ℕ → ℕ
due g zero j = 1
due g (suc w) j = w * g + j + 1

pub due-full : (g w : ℕ) → due g w g ≡ w * g + 1
due-full g zero = omega arith
due-full g (suc w) = omega arith

due-some : (g w j : ℕ) → 0 < due g w j
due-some g zero j = omega arith
due-some g (suc w) j = omega arith

abbrev pub InTime : ℕ → ℕ → ℕ → Ran Track → Type 0
InTime g w j o = (o.said ≡ Done) × (length o.log ≤ due g w j)

-- an outcome that is in time, if it has b turns of the budget, no mistake and enough completions; w are in flight or ahead
abbrev pub Alive : (ℕ → Type 0) → ℕ → ℕ → ℕ → ℕ → ℕ → Track → Ran Track → Type 0
Alive Fault g b f w j t o = Fuelled f t → w ≡ t.inflight + length (ahead f t) → 0 < j → j ≤ g → All (Faultless Fault) o.log → Lively g j o.log → due g w j ≤ b → InTime g w j o

settle-live : (Fault : ℕ → Type 0) (g b f w j : ℕ) (sent : Sent) (t : Track) (slot status : ℕ) (o : Outcome) (last : Bool) (rest : Ran Track) → (last ≡ true → b ≡ 0) → Fair Fault o status → (v : Verdict) → Judged t slot o v
    → ((w j : ℕ) → Alive Fault g b f w j (settle v sent t slot status).track rest)
    → Alive Fault g (suc b) f (suc w) j t (turned t.inflight (completion slot status) last (settle v sent t slot status) rest)
settle-live Fault g b f w j sent t slot status o last rest out fair WrongSlot ju k fu e p q c l d = absurd (c.0.0 refl)
settle-live Fault g b f w j sent t slot status o true rest out fair Good ju k fu e p q c l d = let z : b ≡ 0 = out refl in absurd (omega arith)
settle-live Fault g b f w j sent t slot status o false rest out fair Good ju k fu e p q c l d =
    let got = k w g fu (omega arith) (omega arith) (omega arith) c.1 l (omega (arith, due-full g w)) in
    (got.0, omega (arith, due-full g w))
settle-live Fault g b f w j sent t slot status o last rest out fair (Bad a) ju k fu e p q c l d = absurd (c.0.1 (subst (λ (x : Outcome). Fair Fault x status) ju.2 fair).0)

hear-live : (Fault : ℕ → Type 0) (g b f w j : ℕ) (sent : Sent) (t : Track) (o : Outcome) (reading : Reading) (last : Bool) (rest : Ran Track) → (last ≡ true → b ≡ 0) → FairOf Fault o reading → 0 < t.inflight
    → ((w j : ℕ) → Alive Fault g b f w j (hear o sent t reading).track rest)
    → Alive Fault g (suc b) f (suc w) j t (turned t.inflight reading last (hear o sent t reading) rest)
hear-live Fault g b f w j sent t o None true rest out fair some k fu e p q c l d = let z : b ≡ 0 = out refl in absurd (omega arith)
hear-live Fault g b f w j sent t o None false rest out fair some k fu e p q c l d =
    let n = l some in
    let got = k (suc w) n.0 fu e n.2 (omega arith) c.1 n.3 (omega arith) in
    (got.0, omega arith)
hear-live Fault g b f w j sent t o (Some c₁) last rest out fair some k fu e p q c l d =
    settle-live Fault g b f w j sent t c₁.slot c₁.status o last rest out fair (judge_of t c₁.slot o) (judged t c₁.slot o) k fu e p q c l d

-- with nothing in flight there is room
room : (least : ℕ) (t : Track) → least ≤ 32 → t.inflight ≡ 0 → least ≤ free t
room least t h z = rw (z, zero-mul) h

act-live : (Fault : ℕ → Type 0) (least g b f w j : ℕ) (t : Track) (o : Outcome) (reading : Reading) (last : Bool) (rest : Ran Track) → (last ≡ true → b ≡ 0) → FairOf Fault o reading → (c : Choice) → least ≤ 32 → Chosen least t c
    → ((k w j : ℕ) → Alive Fault g b k w j (act c t o reading).track rest)
    → Alive Fault g (suc b) f w j t (turned (waiting_by c t) reading last (act c t o reading) rest)
act-live Fault least g b zero w j t o reading last rest out fair Submit fits ch k fu e p q c l u = absurd (omega arith)
act-live Fault least g b (suc f) zero j t o reading last rest out fair Submit fits ch k fu e p q c l u =
    absurd (omega (arith, ap length (spans-more f t.period t.total t.next t.head ch.1)))
act-live Fault least g b (suc f) (suc w) j t o reading last rest out fair Submit fits ch k fu e p q c l u =
    let h : Fuelled f (submit t) = (omega arith, fu.1) in
    let more = ap length (spans-more f t.period t.total t.next t.head ch.1) in
    hear-live Fault g b f w j (sent_of t) (submit t) o reading last rest out fair (omega arith) (k f) h (omega arith) p q c l u
act-live Fault least g b f w j t o reading last rest out fair Finish fits ch k fu e p q c l u = (refl, due-some g w j)
act-live Fault least g b f zero j t o reading last rest out fair Wait fits ch k fu e p q c l u =
    let z : t.inflight ≡ 0 = omega arith in
    absurd (ch.1 (room least t fits z) z)
act-live Fault least g b f (suc w) j t o reading last rest out fair Wait fits ch k fu e p q c l u =
    let some : t.inflight ≢ 0 = λ z. ch.1 (room least t fits z) z in
    hear-live Fault g b f w j None t o reading last rest out fair (omega arith) (k f) fu e p q c l u

-- THE TIME LAW, of a run by any judgement
pub live : {R : Type 0} {Fault : ℕ → Type 0} (judge : Judge R) → Just judge Fault → (least g b f w j : ℕ) (t : Track) (script : List R) → least ≤ 32 → t.turns + b ≡ t.budget → Alive Fault g b f w j t (run judge least b t script)
unfolding loop_of turn_of counted_of
live judge just least g zero f w j t script fits left fu e p q c l d = absurd (omega (arith, due-some g w j))
live {Fault = Fault} judge just least g (suc b) f w j t script fits left fu e p q c l d =
    let x = next_of judge.quiet script in
    let o = judged_of judge t x in
    let u = act (choose_of least t) t o (judge.reading x) in
    let a = after-act (choose_of least t) t o (judge.reading x) in
    let budget : u.track.budget ≡ t.budget = ap (λ (x : ℕ × ℕ × ℕ × ℕ × ℕ). x.4) a.0 in
    let turns : u.track.turns ≡ t.turns + 0 = a.1 in
    act-live Fault least g b f w j t o (judge.reading x) (last_of u) (run judge least b (counted_of u).track (rest_of script)) (λ h. let z = eqb-true (u.track.turns + 1) u.track.budget h in omega arith) (fair-of judge just t x) (choose_of least t) fits (chosen least t)
    (λ k w j. subst (λ (n : Track). Alive Fault g b k w j u.track (run judge least b n (rest_of script))) (counted-track u (turn-plain least t o (judge.reading x))) (live judge just least g b k w j (ticked _ u.track) (rest_of script) fits (omega arith))) fu e p q c l d
