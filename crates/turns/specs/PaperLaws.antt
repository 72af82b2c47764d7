-- That the rules are document 01's turn: rule 2, rule 1, and the count of turns.
-- Assumes nothing.
use Prim.Native.Nat.{ℕ, zero, suc, ◌+◌, ◌-◌, ◌*◌, ◌%◌, ◌<◌}
use Rattle.std.proofs.Common.{arith, zero-add, sym, ◌∙◌}
use Rattle.std.specs.Prelude.{◌≡◌, Bool, true, false, ◌&&◌, List, [], ◌∷◌, map, length, Ok, Err, Some, None}
use Rattle.std.proofs.Math.Path.{refl, ap, subst}
use Rattle.std.proofs.Math.Dec.{leb, ltb, eqb}
use borrow.Author.Tests.{lt-ltb, ltb-true, ltb-false, eq-eqb, ne_eqb, eqb-true, eqb-false}
use Rattle.codes.specs.declared.answers.Cause.TheVariants.{Status}
use Rattle.codes.specs.declared.answers.Refusal.TheVariants.{IoError}
use Rattle.codes.specs.Answers.{says_refusal}
use Rattle.codes.specs.AnswersLaws.{numbered}
use Rattle.codes.specs.Says.{pick}
use Rattle.turns.specs.Cut.{span_of}
use Rattle.turns.specs.Ring.{free, going, goes_on, says_said}
use Rattle.turns.specs.Rules.{pick_choice, choose_of, submit, sent_of, freeing, comes_to, played_of, is_oldest, verdict_of, judge_of, settle, hear, act, turn_of}
use Rattle.turns.specs.Rules.{ticked, counted_by, counted_of}
use Rattle.turns.specs.Calls.{begun}
use Rattle.turns.specs.Log.{Line, Ran, onward, first_of, rest_of, loop_of, played, ruled, run}
use Rattle.turns.specs.CaseLaws.{last_of}
use Rattle.turns.specs.KeepLaws.{after-act, turn-after}
use Rattle.turns.specs.Asked.{starts, plays}
use Rattle.turns.specs.DemandLaws.{as-run}
use Rattle.turns.specs.Paper.{Window, at_first, in_flight, PaperTurn, rule_two, paper_turn, goes_out, comes_back, paper_answer, PaperLine, paper_run, StandsAt}
use Rattle.turns.specs.Paper.{IsTurn, paper_line}
use Rattle.turns.specs.Types.{Track, Ring, Sent, Said, Going, Done, Ended, Refused, Step, Reading, sent_period}
use Rattle.turns.specs.Types.{Choice, WrongSlot, completion}

-- ---- tests over the track's numbers are tests over the window's

one_of : (a b : Bool) → (a && b) ≡ true → a ≡ true
one_of true b e = refl
one_of false b e = e

same-less : (a b c d : ℕ) → (c < d → a < b) → (a < b → c < d) → ltb a b ≡ ltb c d
same-less a b c d f g = by (ltb c d) refl
  where
    not : (z : Bool) → ltb c d ≡ false → ltb a b ≡ z → z ≡ false
    not true q r = absurd (omega (arith, g (ltb-true a b r), ltb-false c d q))
    not false q r = refl

    by : (z : Bool) → ltb c d ≡ z → ltb a b ≡ z
    by true q = lt-ltb a b (f (ltb-true c d q))
    by false q = not (ltb a b) q refl

same-equal : (a b c d : ℕ) → (c ≡ d → a ≡ b) → (a ≡ b → c ≡ d) → eqb a b ≡ eqb c d
same-equal a b c d f g = by (eqb c d) refl
  where
    by : (z : Bool) → eqb c d ≡ z → eqb a b ≡ z
    by true q = eq-eqb a b (f (eqb-true c d q))
    by false q = ne_eqb a b (λ e. eqb-false c d q (g e))

-- a turn that goes on is told by its number alone
pub told-going : (said : Said) → eqb (says_said said).number going ≡ goes_on said
told-going Going = refl
told-going Done = refl
told-going (Ended r) = ne_eqb (says_refusal r).number going (λ e. let n = numbered r in omega arith)
told-going (Refused r) = ne_eqb (says_refusal r).number going (λ e. let n = numbered r in omega arith)

module _ (descriptors least period total : ℕ) where
  abbrev Is : Window → Reading → Step → PaperTurn → Type 0
  Is w reading s p = IsTurn descriptors period total w reading s p p.answer

  -- ---- rule 2

  record Hears (sent : Sent) (submits : Bool) (reading : Reading) (s : Step) (p : PaperTurn) : Type 0 where
    stands : StandsAt descriptors period total s.track p.window
    sends : s.sent ≡ sent
    heard : s.heard ≡ comes_back p.frees reading
    said : (says_said s.said).number ≡ p.answer
    same : p.submits ≡ submits

  came-back : (t : Track) (w : Window) (more : ℕ) → StandsAt descriptors period total t w → w.back < w.out
      → StandsAt descriptors period total (freeing more t) (record { out = w.out; back = suc w.back })
  came-back t w more a less =
      record { mode = a.mode; each = a.each; all = a.all; head = a.head; tail = omega (arith, a.tail); inflight = omega (arith, a.inflight); next = a.next }

  settled : (oldest ok submits : Bool) (sent : Sent) (t : Track) (w : Window) (slot status : ℕ) → StandsAt descriptors period total t w
      → (oldest ≡ true → w.back < w.out)
      → Hears sent submits (completion slot status) (settle (pick oldest (verdict_of (pick ok (Ok tt) (Err (IoError (Status status))))) WrongSlot) sent t slot status)
      (pick oldest (record { window = record { out = w.out; back = suc w.back }; submits = submits; frees = true; answer = pick ok going 2 })
      (record { window = w; submits = submits; frees = false; answer = 6 }))
  settled false ok submits sent t w slot status a l = record { stands = a; sends = refl; heard = refl; said = refl; same = refl }
  settled true true submits sent t w slot status a l = record { stands = came-back t w (t.good + 1) a (l refl); sends = refl; heard = refl; said = refl; same = refl }
  settled true false submits sent t w slot status a l = record { stands = came-back t w t.good a (l refl); sends = refl; heard = refl; said = refl; same = refl }

  hears : (submits : Bool) (sent : Sent) (t : Track) (w : Window) (reading : Reading) → StandsAt descriptors period total t w
      → Hears sent submits reading (hear (comes_to played_of reading) sent t reading) (rule_two submits w reading)
  unfolding judge_of is_oldest played_of
  hears submits sent t w None a = record { stands = a; sends = refl; heard = refl; said = refl; same = refl }
  hears submits sent t w (Some c) a =
      let ok = eqb c.status 0x8000 in
      let oldest = ltb w.back w.out && eqb c.slot (w.back % 32) in
      let flying : ltb 0 t.inflight ≡ ltb w.back w.out =
      same-less 0 t.inflight w.back w.out (λ h. omega (arith, a.inflight)) (λ h. omega (arith, a.inflight)) in
      let tests : (ltb 0 t.inflight && eqb c.slot t.tail) ≡ oldest =
      ap (λ (x : Bool). x && eqb c.slot t.tail) flying ∙ ap (λ (n : ℕ). ltb w.back w.out && eqb c.slot n) a.tail in
      subst
      (λ (x : Bool). Hears sent submits (Some c) (settle (pick x (verdict_of (pick ok (Ok tt) (Err (IoError (Status c.status))))) WrongSlot) sent t c.slot c.status) (rule_two submits w (Some c)))
      (sym tests) (settled oldest ok submits sent t w c.slot c.status a (λ e. ltb-true _ _ (one_of (ltb w.back w.out) (eqb c.slot (w.back % 32)) e)))

  -- ---- rule 1, and then rule 2

  went-out : (t : Track) (w : Window) → StandsAt descriptors period total t w
      → StandsAt descriptors period total (submit t) (record { out = suc w.out; back = w.back })
  went-out t w a =
      record {
        mode = a.mode;
        each = a.each;
        all = a.all;
        head = omega (arith, a.head);
        tail = a.tail;
        inflight = omega (arith, a.inflight);
        next = omega (arith, a.next, a.each, a.all);
      }

  next-out : (t : Track) (w : Window) → StandsAt descriptors period total t w → w.out * period < total → sent_of t ≡ goes_out period total true w
  next-out t w a more =
      let at : t.next ≡ w.out * period = a.next ∙ omega arith in
      ap (λ (n : ℕ). sent_period n t.next (span_of t.period t.total t.next)) a.head
      ∙ ap (λ (n : ℕ). sent_period (w.out % 32) n (span_of t.period t.total n)) at
      ∙ ap (λ (n : ℕ). sent_period (w.out % 32) (w.out * period) (span_of n t.total (w.out * period))) a.each
      ∙ ap (λ (n : ℕ). sent_period (w.out % 32) (w.out * period) (span_of period n (w.out * period))) a.all

  heard-turn : (submits : Bool) (sent : Sent) (w : Window) (reading : Reading) (s : Step) (p : PaperTurn) → Hears sent submits reading s p
      → sent ≡ goes_out period total submits w → Is w reading s p
  heard-turn submits sent w reading s p h e =
      record { stands = h.stands; sent = h.sends ∙ e ∙ ap (λ (b : Bool). goes_out period total b w) (sym h.same); heard = h.heard; said = h.said }

  waits : (t : Track) (w : Window) (reading : Reading) → StandsAt descriptors period total t w
      → Is w reading (hear (comes_to played_of reading) None t reading) (rule_two false w reading)
  waits t w reading a = heard-turn false None w reading _ _ (hears false None t w reading a) refl

  acts : (room remains none : Bool) (t : Track) (w : Window) (reading : Reading) → StandsAt descriptors period total t w
      → (remains ≡ true → w.out * period < total)
      → Is w reading (act (pick_choice room remains none) t (comes_to played_of reading) reading)
      (pick room
      (pick remains (rule_two true (record { out = suc w.out; back = w.back }) reading)
      (pick none (record { window = w; submits = false; frees = false; answer = 0 })
      (rule_two false w reading)))
      (rule_two false w reading))
  acts true true none t w reading a l = heard-turn true (sent_of t) w reading _ _ (hears true (sent_of t) (submit t) _ reading (went-out t w a)) (next-out t w a (l refl))
  acts true false true t w reading a l = record { stands = a; sent = refl; heard = refl; said = refl }
  acts true false false t w reading a l = waits t w reading a
  acts false remains none t w reading a l = waits t w reading a

  rules : (t : Track) (w : Window) (reading : Reading) → StandsAt descriptors period total t w
      → Is w reading (turn_of least t (comes_to played_of reading) reading) (paper_turn descriptors least period total w reading)
  unfolding turn_of choose_of
  rules t w reading a =
      let A = leb least (32 - in_flight w * descriptors) in
      let B = ltb (w.out * period) total in
      let C = eqb (in_flight w) 0 in
      let flying : t.inflight ≡ in_flight w = omega (arith, a.inflight) in
      let x : leb least (free t) ≡ A = ap (λ (n : ℕ). leb least (32 - n * t.descriptors)) flying ∙ ap (λ (n : ℕ). leb least (32 - in_flight w * n)) a.mode in
      let y : ltb t.next t.total ≡ B =
      ap (ltb t.next) a.all ∙ same-less t.next total (w.out * period) total (λ h. omega (arith, a.next)) (λ h. omega (arith, a.next)) in
      let z : eqb t.inflight 0 ≡ C = ap (λ (n : ℕ). eqb n 0) flying in
      let M : Choice → Type 0 = λ c. Is w reading (act c t (comes_to played_of reading) reading) (paper_turn descriptors least period total w reading) in
      subst (λ (c : Bool). M (pick_choice c (ltb t.next t.total) (eqb t.inflight 0))) (sym x)
      (subst (λ (c : Bool). M (pick_choice A c (eqb t.inflight 0))) (sym y)
      (subst (λ (c : Bool). M (pick_choice A B c)) (sym z) (acts A B C t w reading a (λ e. ltb-true _ _ e))))

  -- ---- the count of turns

  ticks : (running : Bool) (t : Track) (w : Window) → StandsAt descriptors period total t w → StandsAt descriptors period total (ticked running t) w
  ticks running t w a = record { mode = a.mode; each = a.each; all = a.all; head = a.head; tail = a.tail; inflight = a.inflight; next = a.next }

  -- what the count makes of a step that said something
  record Counts (said : Said) (last : Bool) (w : Window) (s n : Step) : Type 0 where
    stands : StandsAt descriptors period total n.track w
    sends : n.sent ≡ s.sent
    heard : n.heard ≡ s.heard
    says : (says_said n.said).number ≡ pick (eqb (says_said said).number going && last) 9 (says_said said).number

  other : (number : ℕ) (last : Bool) → eqb number going ≡ false → number ≡ pick (eqb number going && last) 9 number
  other number last e = sym (ap (λ (b : Bool). pick (b && last) 9 number) e)

  counts : (said : Said) (last : Bool) (w : Window) (s : Step) → StandsAt descriptors period total s.track w → Counts said last w s (counted_by said last s)
  counts Going true w s a = record { stands = ticks false s.track w a; sends = refl; heard = refl; says = refl }
  counts Going false w s a = record { stands = ticks true s.track w a; sends = refl; heard = refl; says = refl }
  counts Done last w s a = record { stands = ticks false s.track w a; sends = refl; heard = refl; says = refl }
  counts (Ended r) last w s a = record { stands = ticks false s.track w a; sends = refl; heard = refl; says = other (says_refusal r).number last (told-going (Ended r)) }
  counts (Refused r) last w s a = record { stands = ticks false s.track w a; sends = refl; heard = refl; says = other (says_refusal r).number last (told-going (Refused r)) }

  -- one turn of a transfer with so many turns left after it
  pub turn-paper : (left : ℕ) (t : Track) (w : Window) (reading : Reading) → StandsAt descriptors period total t w → t.turns + suc left ≡ t.budget
      → let p = paper_turn descriptors least period total w reading in
      IsTurn descriptors period total w reading (counted_of (turn_of least t (comes_to played_of reading) reading)) p (paper_answer left p.answer)
  unfolding turn_of counted_of
  turn-paper left t w reading a e =
      let u = turn_of least t (comes_to played_of reading) reading in
      let h = rules t w reading a in
      let p = paper_turn descriptors least period total w reading in
      let moved = after-act (choose_of least t) t (comes_to played_of reading) reading in
      let budget : u.track.budget ≡ t.budget = ap (λ (f : ℕ × ℕ × ℕ × ℕ × ℕ). f.4) moved.0 in
      let last : last_of u ≡ eqb left 0 =
      same-equal (u.track.turns + 1) u.track.budget left 0 (λ q. omega (arith, moved.1)) (λ q. omega (arith, moved.1)) in
      let c = counts u.said (last_of u) p.window u h.stands in
      record {
        stands = c.stands;
        sent = c.sends ∙ h.sent;
        heard = c.heard ∙ h.heard;
        said = c.says ∙ ap (λ (n : ℕ). pick (eqb n going && last_of u) 9 n) h.said ∙ ap (λ (b : Bool). pick (eqb p.answer going && b) 9 p.answer) last;
      }

  -- ---- turn after turn

  same_line : (a b : PaperLine) → a.sent ≡ b.sent → a.heard ≡ b.heard → a.answer ≡ b.answer → a ≡ b
  same_line a b x y z = λ i. record { sent = x i; heard = y i; answer = z i }

  logs-on : (said : Said) (line : Line) (t : Track) (rest : Ran Track) (xs : List PaperLine) → (said ≡ Going → map paper_line rest.log ≡ xs)
      → map paper_line (onward said line t rest).log ≡ paper_line line ∷ pick (goes_on said) xs []
  logs-on Going line t rest xs h = ap (λ (ys : List PaperLine). paper_line line ∷ ys) (h refl)
  logs-on Done line t rest xs h = refl
  logs-on (Ended r) line t rest xs h = refl
  logs-on (Refused r) line t rest xs h = refl

  run-paper : (left : ℕ) (t : Track) (w : Window) (script : List Reading) → StandsAt descriptors period total t w → t.turns + left ≡ t.budget
      → map paper_line (run played least left t script).log ≡ paper_run descriptors least period total left w script
  unfolding loop_of paper_run
  run-paper zero t w script a e = refl
  run-paper (suc left) t w script a e =
      let x = first_of script in
      let s = ruled played least t x in
      let p = paper_turn descriptors least period total w x in
      let h = turn-paper left t w x a e in
      let moved = turn-after least t (comes_to played_of x) x in
      let budget : s.left.budget ≡ t.budget = ap (λ (f : ℕ × ℕ × ℕ × ℕ × ℕ). f.4) moved.0 in
      let line : PaperLine = record { sent = goes_out period total p.submits w; heard = comes_back p.frees x; answer = paper_answer left p.answer } in
      let rest = paper_run descriptors least period total left p.window (rest_of script) in
      logs-on s.line.said s.line s.left (run played least left s.left (rest_of script)) rest (λ _. run-paper left s.left p.window (rest_of script) h.stands (omega (arith, moved.1)))
      ∙ ap (λ (l : PaperLine). l ∷ pick (goes_on s.line.said) rest []) (same_line (paper_line s.line) line h.sent h.heard h.said)
      ∙ ap (λ (b : Bool). line ∷ pick b rest []) (sym (told-going s.line.said) ∙ ap (λ (n : ℕ). eqb n going) h.said)

-- ---- a start that goes on, and then turns

begun-stands : (t : Track) (stream total period budget : ℕ) → StandsAt t.descriptors period total (begun t stream total period budget) at_first
begun-stands t stream total period budget = record { mode = refl; each = refl; all = refl; head = refl; tail = refl; inflight = refl; next = omega arith }

pub plays-paper : (r : Ring) (stream period budget : ℕ) (frames : List ℕ) (script : List Reading) → (starts r stream period budget frames).said ≡ Going
    → let d = r.track.descriptors in map paper_line (plays r stream period budget frames script).log ≡ paper_run d d period (length frames) budget at_first script
plays-paper r stream period budget frames script began =
    ap (λ (h : Ran Track). map paper_line h.log) (as-run r stream period budget frames script began budget)
    ∙ run-paper _ _ period (length frames) budget _ _ script (begun-stands r.track stream (length frames) period budget) (zero-add budget)
