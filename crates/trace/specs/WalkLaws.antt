-- What may follow in a trace, field by field, as the proofs go by it: over rule 1's choice and rule 2's verdict at the track that the fields so far have led to. The count plays no part in it.
-- Assumes nothing.
use Rattle.std.specs.Prelude.{List, [], ◌∷◌, ◌≡◌, refl, ◌⊎◌, ℕ, ◌+◌, ◌<◌, Bool, true}
use Rattle.std.proofs.Common.{sym, ap, ap₂, subst, inl, arith}
use Rattle.turns.specs.Rules.{choose_of, sent_of, submit, judge_of, played_of, release, accept, is_oldest, ticked}
use Rattle.turns.specs.RuleLaws.{Chosen}
use Rattle.trace.specs.declared.field.Field.TheVariants as field
use Rattle.trace.specs.Types.{Track, Choice, Submit, Finish, Wait, Verdict, WrongSlot, Good, Bad, Field, Stage, Opening, Out, Back, Failed, Over, sent_period}

-- the transfer has not ended
abbrev pub Alive : Stage → Type 0
Alive Opening = Unit {0}
Alive Out = Unit {0}
Alive Back = Unit {0}
Alive Failed = ⊥
Alive Over = ⊥

-- a submission: by the next turn, which submits
abbrev pub MaySend : Stage → Choice → Type 0
MaySend st Submit = Alive st
MaySend st Finish = ⊥
MaySend st Wait = ⊥

-- a completion: in the turn that submitted, or in a turn that submits nothing
abbrev pub MayFree : Stage → Choice → Type 0
MayFree Out c = Unit {0}
MayFree Opening Wait = Unit {0}
MayFree Back Wait = Unit {0}
MayFree Opening Submit = ⊥
MayFree Opening Finish = ⊥
MayFree Back Submit = ⊥
MayFree Back Finish = ⊥
MayFree Failed c = ⊥
MayFree Over c = ⊥

-- an end: 2 after a bad completion; else 9 once a turn was run, 6 in a turn that submitted or one that submits nothing, 0 by the turn that finishes
abbrev pub MayEnd : Stage → Choice → ℕ → Type 0
MayEnd Opening Submit a = ⊥
MayEnd Opening Finish a = a ≡ 0
MayEnd Opening Wait a = (a ≡ 6) ⊎ (a ≡ 9)
MayEnd Out c a = (a ≡ 6) ⊎ (a ≡ 9)
MayEnd Back Submit a = a ≡ 9
MayEnd Back Finish a = (a ≡ 0) ⊎ (a ≡ 9)
MayEnd Back Wait a = (a ≡ 6) ⊎ (a ≡ 9)
MayEnd Failed c a = a ≡ 2
MayEnd Over c a = ⊥

abbrev pub Ended : Stage → Type 0
Ended Over = Unit {0}
Ended Opening = ⊥
Ended Out = ⊥
Ended Back = ⊥
Ended Failed = ⊥

-- what follows a completion
abbrev pub FreedBy : Verdict → Type 0 → Type 0 → Type 0
FreedBy WrongSlot good bad = ⊥
FreedBy Good good bad = good
FreedBy (Bad a) good bad = bad

-- the fields lead from a stage and a track to the end
abbrev pub WalksBy : ℕ → Stage → Choice → Track → List Field → Type 0
WalksBy least st c t [] = Ended st
WalksBy least st c t (field.Start stream total period ∷ fs) = ⊥
WalksBy least st c t (field.Submitted slot offset len ∷ fs) = MaySend st c × (sent_of t ≡ sent_period slot offset len) × WalksBy least Out (choose_of least (submit t)) (submit t) fs
WalksBy least st c t (field.Completed slot status ∷ fs) =
    MayFree st c
    × FreedBy (judge_of t slot (played_of status))
    (WalksBy least Back (choose_of least (release t)) (release t) fs)
    (WalksBy least Failed (choose_of least (release t)) (release t) fs)
WalksBy least st c t (field.End answer ∷ fs) = MayEnd st c answer × WalksBy least Over c t fs

abbrev pub Walks : ℕ → Stage → Track → List Field → Type 0
Walks least st t fs = WalksBy least st (choose_of least t) t fs

-- the same track with another count: of turns, and of good completions
abbrev pub wound : ℕ → ℕ → Bool → ℕ → Track → Track
wound budget turns running good t =
    record {
      descriptors = t.descriptors;
      head = t.head;
      tail = t.tail;
      inflight = t.inflight;
      stream = t.stream;
      total = t.total;
      period = t.period;
      next = t.next;
      budget = budget;
      turns = turns;
      running = running;
      capture = t.capture;
      lent = t.lent;
      kept = t.kept;
      room = t.room;
      written = t.written;
      good = good;
    }

pub walks-by : (least b n : ℕ) (r : Bool) (g : ℕ) (st : Stage) (c : Choice) (t : Track) (fs : List Field) → WalksBy least st c (wound b n r g t) fs ≡ WalksBy least st c t fs
unfolding choose_of judge_of is_oldest
walks-by least b n r g st c t [] = refl
walks-by least b n r g st c t (field.Start stream total period ∷ fs) = refl
walks-by least b n r g st c t (field.Submitted slot offset len ∷ fs) = ap (λ (X : Type 0). MaySend st c × (sent_of t ≡ sent_period slot offset len) × X) (walks-by least b n r g Out (choose_of least (submit t)) (submit t) fs)
walks-by least b n r g st c t (field.Completed slot status ∷ fs) =
    ap₂ (λ (X Y : Type 0). MayFree st c × FreedBy (judge_of t slot (played_of status)) X Y) (walks-by least b n r g Back (choose_of least (release t)) (release t) fs)
    (walks-by least b n r g Failed (choose_of least (release t)) (release t) fs)
walks-by least b n r g st c t (field.End answer ∷ fs) = ap (λ (X : Type 0). MayEnd st c answer × X) (walks-by least b n r g Over c t fs)

-- the count plays no part
pub walks-wound : (least b n : ℕ) (r : Bool) (g : ℕ) (st : Stage) (t : Track) (fs : List Field) → Walks least st (wound b n r g t) fs ≡ Walks least st t fs
unfolding choose_of
walks-wound least b n r g st t fs = walks-by least b n r g st (choose_of least t) t fs

pub ticked-walks : (least : ℕ) (st : Stage) (t : Track) (fs : List Field) → Walks least st (ticked true t) fs → Walks least st t fs
ticked-walks least st t fs w = subst (λ (X : Type 0). X) (walks-wound least t.budget (t.turns + 1) true t.good st t fs) w

pub walks-ticked : (least : ℕ) (st : Stage) (t : Track) (fs : List Field) → Walks least st t fs → Walks least st (ticked true t) fs
walks-ticked least st t fs w = subst (λ (X : Type 0). X) (sym (walks-wound least t.budget (t.turns + 1) true t.good st t fs)) w

pub accept-walks : (least : ℕ) (st : Stage) (t : Track) (fs : List Field) → Walks least st (accept t) fs → Walks least st (release t) fs
accept-walks least st t fs w = subst (λ (X : Type 0). X) (walks-wound least t.budget t.turns t.running (t.good + 1) st (release t) fs) w

pub walks-accept : (least : ℕ) (st : Stage) (t : Track) (fs : List Field) → Walks least st (release t) fs → Walks least st (accept t) fs
walks-accept least st t fs w = subst (λ (X : Type 0). X) (sym (walks-wound least t.budget t.turns t.running (t.good + 1) st (release t) fs)) w

-- ---- what may follow before the first turn may follow after a good completion, and, with something in flight, after a submission

pub opening-back : (least : ℕ) (c : Choice) (t : Track) (fs : List Field) → WalksBy least Opening c t fs → WalksBy least Back c t fs
opening-back least c t [] w = absurd w
opening-back least c t (field.Start stream total period ∷ fs) w = absurd w
opening-back least Submit t (field.Submitted slot offset len ∷ fs) w = w
opening-back least Finish t (field.Submitted slot offset len ∷ fs) w = absurd w.0
opening-back least Wait t (field.Submitted slot offset len ∷ fs) w = absurd w.0
opening-back least Submit t (field.Completed slot status ∷ fs) w = absurd w.0
opening-back least Finish t (field.Completed slot status ∷ fs) w = absurd w.0
opening-back least Wait t (field.Completed slot status ∷ fs) w = w
opening-back least Submit t (field.End answer ∷ fs) w = absurd w.0
opening-back least Finish t (field.End answer ∷ fs) w = (inl w.0, w.1)
opening-back least Wait t (field.End answer ∷ fs) w = w

pub opening-out : (least : ℕ) (c : Choice) (t : Track) (fs : List Field) → Chosen least t c → 0 < t.inflight → WalksBy least Opening c t fs → WalksBy least Out c t fs
opening-out least c t [] ch h w = absurd w
opening-out least c t (field.Start stream total period ∷ fs) ch h w = absurd w
opening-out least Submit t (field.Submitted slot offset len ∷ fs) ch h w = w
opening-out least Finish t (field.Submitted slot offset len ∷ fs) ch h w = absurd w.0
opening-out least Wait t (field.Submitted slot offset len ∷ fs) ch h w = absurd w.0
opening-out least Submit t (field.Completed slot status ∷ fs) ch h w = absurd w.0
opening-out least Finish t (field.Completed slot status ∷ fs) ch h w = absurd w.0
opening-out least Wait t (field.Completed slot status ∷ fs) ch h w = w
opening-out least Submit t (field.End answer ∷ fs) ch h w = absurd w.0
opening-out least Finish t (field.End answer ∷ fs) ch h w = let z = ch.2 in absurd (omega arith)
opening-out least Wait t (field.End answer ∷ fs) ch h w = w
