-- What a host sees, turn by turn, is the log: an offer while a transfer runs is what the turn sends, and an answer is what it says.
-- Assumes nothing.
use Rattle.std.specs.Prelude.{ℕ, zero, suc, ◌≤◌, ◌≡◌, refl, Bool, true, false, ◌&&◌, List, [], ◌∷◌, map, leb, eqb, length, Result, Ok, Err, Some, None}
use Rattle.std.proofs.Common.{arith, ap, sym, ◌∙◌, subst, eq-eqb, ne_eqb, le-leb}
use Rattle.std.proofs.lemmas.Bool.{false≢true}
use Rattle.std.proofs.lemmas.List.Edits.{sets}
use Rattle.layout.specs.Bytes.{Bytes}
use Rattle.layout.specs.Lent.{shown, result_size}
use Rattle.codes.specs.Says.{guard}
use Rattle.codes.specs.SaysLaws.{passes, stops}
use Rattle.codes.specs.AnswersLaws.{numbered}
use Rattle.codes.specs.declared.answers.Refusal.{Refusal}
use Rattle.turns.specs.Ring.{going, said_word, goes_on}
use Rattle.turns.specs.Rules.{comes_to, played_of, choose_of}
use Rattle.turns.specs.RefusalLaws.{turn-sent}
use Rattle.turns.specs.CaseLaws.{onward-cases}
use Rattle.turns.specs.Calls.{turn_call, offer_by, offer_as, offer_call, says_sent}
use Rattle.turns.specs.HostLaws.{Runs, admits, call-turns, runs_on}
use Rattle.turns.specs.InPlace.{turn_words}
use Rattle.turns.specs.Log.{Line, Ran, onward, loop_of, called, turn_by_turn}
use Rattle.turns.specs.Types.{Sent}
use Rattle.turns.specs.declared.ring.Track.{Track}
use Rattle.ring_store.specs.Types.{Ring, Said, Going, Done, Ended, Refused, Step, Reading}
use Rattle.ring_store.specs.Store.{ring_size, track_at, ring_of}
use Rattle.ring_store.specs.Calls.{told_in, offer_word, offer_in, words}
use Rattle.ring_store.specs.Run.{Words, reading_by, quiet_words, turn_by, turn-answers, turn-again}
use Rattle.ring_store.specs.Holds.{turn_holds}
use Rattle.ring_store.specs.Sees.{SeenTurn, sees_in, seen_of}

-- an offer while a transfer runs is what the turn sends
offer-is : (len : ℕ) (t : Track) (reading : Reading) → Runs len t → offer_call t len ≡ Ok (turn_call t len reading).sent
unfolding offer_as
offer-is len t reading r =
    sym (admits false len t Err (Ok (offer_by (choose_of t.descriptors t) t)) r)
    ∙ ap Ok (sym (turn-sent t.descriptors t (comes_to played_of reading) reading) ∙ ap (λ (s : Step). s.sent) (call-turns len t reading r))

both_true : (a b : Bool) → a ≡ true → b ≡ true → (a && b) ≡ true
both_true a b p q = rw (p, q)

number-zero : (res : List ℕ) (x : Sent) → shown (says_sent x).number (sets res 0 (words (says_sent x).values)) ≡ shown 0 (sets res 0 (words (says_sent x).values))
number-zero res None = refl
number-zero res (Some p) = refl

shown-as : (s res : List ℕ) (len : ℕ) (w : Words) → ring_size ≤ length s → result_size ≤ length res → Runs len (track_at s)
    → offer_in s len res ≡ shown 0 (sets res 0 (words (says_sent (turn_call (track_at s) len (reading_by w)).sent).values))
unfolding told_in
shown-as s res len w h k r =
    sym (passes _ _ _ (both_true (leb ring_size (length s)) (leb result_size (length res)) (le-leb _ _ h) (le-leb _ _ k)) refl)
    ∙ ap (λ (o : Result Sent Refusal). let x = offer_word says_sent o in shown x.number (sets res 0 (words x.values))) (offer-is len (track_at s) (reading_by w) r)
    ∙ number-zero res (turn_call (track_at s) len (reading_by w)).sent

never-going : (said : Said) → goes_on said ≡ false → said_word said ≡ going → ⊥
never-going Going e z = false≢true (sym e)
never-going Done e z = omega arith
never-going (Ended r) e z = omega (arith, (numbered r).small)
never-going (Refused r) e z = omega (arith, (numbered r).small)

step : (res : List ℕ) (line : Line) (a : Ring) (rest : Ran Ring) (s : SeenTurn) (more : List SeenTurn) → s ≡ seen_of res line
    → (line.said ≡ Going → more ≡ map (seen_of res) rest.log)
    → (s ∷ guard (eqb s.answer going) [] more) ≡ map (seen_of res) (onward line.said line a rest).log
step res line a rest s more e k =
    let answers : s.answer ≡ said_word line.said = ap (λ (q : SeenTurn). q.answer) e in
    onward-cases (λ (h : Ran Ring). (s ∷ guard (eqb s.answer going) [] more) ≡ map (seen_of res) h.log) line.said line a rest
    (λ g. ap (λ (l : List SeenTurn). s ∷ l) (sym (passes _ _ _ (eq-eqb _ _ (answers ∙ ap said_word g)) refl) ∙ k g) ∙ ap (λ (q : SeenTurn). q ∷ map (seen_of res) rest.log) e)
    (λ g. ap (λ (l : List SeenTurn). s ∷ l) (sym (stops _ _ _ (ne_eqb s.answer going (λ z. never-going line.said g (sym answers ∙ z))) refl)) ∙ ap (λ (q : SeenTurn). q ∷ []) e)

turn-then : (len fuel : ℕ) (s res : List ℕ) (w : Words) (script : List Words) → Bytes s → ring_size ≤ length s → result_size ≤ length res → Runs len (ring_of s).track
    → ((n : List ℕ) → Bytes n → ring_size ≤ length n → Runs len (ring_of n).track
    → sees_in len fuel n res script ≡ map (seen_of res) (turn_by_turn len fuel (ring_of n) (map reading_by script)).log)
    → let l = turn_by len s w in let t = called len (ring_of s) (reading_by w) in
    (record { offers = offer_in s len res; answer = l.answer } ∷ guard (eqb l.answer going) [] (sees_in len fuel l.store res script))
    ≡ map (seen_of res) (onward t.line.said t.line t.left (turn_by_turn len fuel t.left (map reading_by script))).log
unfolding turn_words ring_of
turn-then len fuel s res w script b h k r more =
    let l = turn_by len s w in
    let t = called len (ring_of s) (reading_by w) in
    let offered = shown-as s res len w h k r in
    let answers = turn-answers s len w.kind w.slot w.status h in
    let holds = turn_holds s len w.kind w.slot w.status b h in
    let again = turn-again s len w.kind w.slot w.status b in
    step res t.line t.left (turn_by_turn len fuel t.left (map reading_by script)) (record { offers = offer_in s len res; answer = l.answer })
    (sees_in len fuel l.store res script) (λ i. record { offers = offered i; answer = answers i })
    (λ Going-on.
    let on : Runs len t.left.track =
    subst (λ (x : Step). x.said ≡ Going → Runs len x.track) (call-turns len (track_at s) (reading_by w) r) (runs_on _ len (track_at s) _ (reading_by w) (omega arith) r) Going-on in
    more l.store again.0 (omega (arith, again.1, h)) (subst (λ (x : Ring). Runs len x.track) (sym holds) on)
    ∙ ap (λ (x : Ring). map (seen_of res) (turn_by_turn len fuel x (map reading_by script)).log) holds)

pub sees : (len fuel : ℕ) (s res : List ℕ) (script : List Words) → Bytes s → ring_size ≤ length s → result_size ≤ length res → Runs len (ring_of s).track
    → sees_in len fuel s res script ≡ map (seen_of res) (turn_by_turn len fuel (ring_of s) (map reading_by script)).log
unfolding sees_in loop_of
sees len zero s res script b h k r = refl
sees len (suc fuel) s res [] b h k r = turn-then len fuel s res quiet_words [] b h k r (λ n c g q. sees len fuel n res [] c g k q)
sees len (suc fuel) s res (w ∷ script) b h k r = turn-then len fuel s res w script b h k r (λ n c g q. sees len fuel n res script c g k q)
