-- Fields that may follow are written by turns: the script is read off them.
-- Assumes nothing.
use mathlib.Core.List.{List, [], ◌∷◌}
use Rattle.std.specs.Prelude.{◌≡◌, ℕ, zero, suc, ◌<◌, ◌^◌, Ok, None}
use Rattle.std.proofs.Math.Path.{refl, ap, subst}
use Rattle.std.proofs.Common.{sym, ◌∙◌, inl, inr, arith, lit<}
use Rattle.std.proofs.Math.Bool.{true}
use Rattle.codes.specs.Answers.{says_refusal}
use Rattle.turns.specs.Rules.{choose_of, sent_of, submit, comes_to, judge_of, played_of, release, accept, ticked, settle, hear, act, turn_of}
use Rattle.trace.specs.PlayedLaws.{Played, played}
use Rattle.trace.specs.Trace.{sent_then}
use Rattle.trace.specs.Field.{Fits, AllFit}
use Rattle.trace.specs.TaleLaws.{writes, tale}
use Rattle.trace.specs.WalkLaws.{FreedBy, WalksBy, Walks, walks-ticked, walks-accept}
use Rattle.trace.specs.CompleteLaws.{heard_tale, hear-sent}
use Rattle.trace.specs.Runs.{Real, AllReal}
use Rattle.trace.specs.declared.field.Field.TheVariants as field
use Rattle.trace.specs.Types.{Track, Sent, Reading, Choice, Submit, Finish, Wait, Verdict, WrongSlot, Good, Bad, Field, Opening, Out, Back, Failed, Over, completion, sent_period}

-- turns from a track on that write the fields: how many at most, and what they read
pub record Told (least : ℕ) (t : Track) (fs : List Field) : Type 0 where
  pub more : ℕ
  pub script : List Reading
  pub real : AllReal script
  pub same : tale least more t script ≡ fs

-- the same with one turn at least
pub record Began (least : ℕ) (t : Track) (fs : List Field) : Type 0 where
  pub more : ℕ
  pub script : List Reading
  pub real : AllReal script
  pub same : tale least (suc more) t script ≡ fs

-- the same behind a turn's submission
pub record Heard (least : ℕ) (sent : Sent) (t : Track) (fs : List Field) : Type 0 where
  pub more : ℕ
  pub reading : Reading
  pub heard : Real reading
  pub script : List Reading
  pub real : AllReal script
  pub same : heard_tale least more (hear (comes_to played_of reading) sent t reading) script ≡ fs

-- ---- a reading that names no slot in flight: a wrong token

-- a slot that is not the oldest in flight
abbrev stray_of : ℕ → ℕ
stray_of zero = 1
stray_of (suc n) = 0

stray-off : (n : ℕ) → stray_of n ≡ n → ⊥
stray-off zero e = omega arith
stray-off (suc n) e = omega arith

stray-real : (n : ℕ) → stray_of n < 256 ^ 4
stray-real zero = lit< tt
stray-real (suc n) = lit< tt

stray : (t : Track) (v : Verdict) → Played t (stray_of t.tail) 0 v → v ≡ WrongSlot
stray t WrongSlot j = refl
stray t Good j = absurd (stray-off t.tail j.1)
stray t (Bad a) j = absurd (stray-off t.tail j.1)

wrong : (least : ℕ) (sent : Sent) (t : Track) → Heard least sent t (field.End 6 ∷ [])
wrong least sent t =
    let slot = stray_of t.tail in
    record {
      more = 0;
      reading = completion slot 0;
      heard = (stray-real t.tail, lit< tt);
      script = [];
      real = tt;
      same = ap (λ (v : Verdict). heard_tale least 0 (settle v sent t slot 0) []) (stray t (judge_of t slot (played_of 0)) (played t slot 0));
    }

out-of-turns : (least : ℕ) (sent : Sent) (t : Track) → Heard least sent t (field.End 9 ∷ [])
unfolding tale
out-of-turns least sent t = record { more = 0; reading = None; heard = tt; script = []; real = tt; same = refl }

-- nothing stands behind the end
over : (least : ℕ) (c : Choice) (t : Track) (fs : List Field) → WalksBy least Over c t fs → fs ≡ []
over least c t [] w = refl
over least c t (field.Start stream total period ∷ fs) w = absurd w
over least Submit t (field.Submitted slot offset len ∷ fs) w = absurd w.0
over least Finish t (field.Submitted slot offset len ∷ fs) w = absurd w.0
over least Wait t (field.Submitted slot offset len ∷ fs) w = absurd w.0
over least c t (field.Completed slot status ∷ fs) w = absurd w.0
over least c t (field.End answer ∷ fs) w = absurd w.0

told : (least : ℕ) (t : Track) (fs : List Field) → Began least t fs → Told least t fs
told least t fs b = record { more = suc b.more; script = b.script; real = b.real; same = b.same }

-- ---- a turn for each case

module _ (least : ℕ) (t : Track) (fs : List Field) where
  -- a turn that heard nothing, and what follows
  quiet : (sent : Sent) → Told least (ticked true t) fs → Heard least sent t fs
  quiet sent k = record { more = k.more; reading = None; heard = tt; script = k.script; real = k.real; same = k.same }

  submits : (slot offset len : ℕ) → choose_of least t ≡ Submit → sent_of t ≡ sent_period slot offset len → Heard least (sent_of t) (submit t) fs → Began least t (field.Submitted slot offset len ∷ fs)
  unfolding tale turn_of
  submits slot offset len e p h =
      let rest = heard_tale least h.more (hear (comes_to played_of h.reading) (sent_of t) (submit t) h.reading) h.script in
      record {
        more = h.more;
        script = h.reading ∷ h.script;
        real = (h.heard, h.real);
        same =
            ap (λ (c : Choice). writes (act c t (comes_to played_of h.reading) h.reading) (λ u. tale least h.more u h.script)) e
            ∙ ap (λ (s : Sent). sent_then s rest) (hear-sent (sent_of t) (submit t) (comes_to played_of h.reading) h.reading ∙ p)
            ∙ ap (λ (l : List Field). field.Submitted slot offset len ∷ l) h.same;
      }

  waits : choose_of least t ≡ Wait → Heard least None t fs → Began least t fs
  unfolding tale turn_of
  waits e h =
      let rest = heard_tale least h.more (hear (comes_to played_of h.reading) None t h.reading) h.script in
      record {
        more = h.more;
        script = h.reading ∷ h.script;
        real = (h.heard, h.real);
        same =
            ap (λ (c : Choice). writes (act c t (comes_to played_of h.reading) h.reading) (λ u. tale least h.more u h.script)) e
            ∙ ap (λ (s : Sent). sent_then s rest) (hear-sent None t (comes_to played_of h.reading) h.reading)
            ∙ h.same;
      }

finishes : (least : ℕ) (t : Track) → choose_of least t ≡ Finish → Began least t (field.End 0 ∷ [])
unfolding tale turn_of
finishes least t e = record { more = 0; script = []; real = tt; same = ap (λ (c : Choice). writes (act c t (Ok tt) None) (λ u. tale least 0 u [])) e }

-- ---- the induction

pub record Sounds (least : ℕ) (fs : List Field) : Type 0 where
  pub opening : (t : Track) → Walks least Opening t fs → Began least t fs
  pub back : (t : Track) → Walks least Back t fs → Told least t fs
  pub out : (sent : Sent) (t : Track) → Walks least Out t fs → Heard least sent t fs
  pub failed : (c : Choice) (t : Track) → WalksBy least Failed c t fs → fs ≡ field.End 2 ∷ []

completed : (slot status : ℕ) → Fits (field.Completed slot status) → Real (completion slot status)
completed slot status fit = let small : slot < 256 = fit.0 in let big : slot < 4294967296 = omega arith in (big, fit.1.0)

frees : (least : ℕ) (fs : List Field) → Sounds least fs → (sent : Sent) (t : Track) (slot status : ℕ) (v : Verdict) → judge_of t slot (played_of status) ≡ v → Played t slot status v → Fits (field.Completed slot status)
    → FreedBy v (Walks least Back (release t) fs) (Walks least Failed (release t) fs) → Heard least sent t (field.Completed slot status ∷ fs)
frees least fs ih sent t slot status WrongSlot e j fit w = absurd w
frees least fs ih sent t slot status Good e j fit w =
    let k = ih.back (ticked true (accept t)) (walks-ticked least Back (accept t) fs (walks-accept least Back t fs w)) in
    record {
      more = k.more;
      reading = completion slot status;
      heard = completed slot status fit;
      script = k.script;
      real = k.real;
      same = ap (λ (v : Verdict). heard_tale least k.more (settle v sent t slot status) k.script) e ∙ ap (λ (l : List Field). field.Completed slot status ∷ l) k.same;
    }
frees least fs ih sent t slot status (Bad a) e j fit w =
    let two : (says_refusal a).number ≡ 2 = j.3 in
    record {
      more = 0;
      reading = completion slot status;
      heard = completed slot status fit;
      script = [];
      real = tt;
      same =
          ap (λ (v : Verdict). heard_tale least 0 (settle v sent t slot status) []) e
          ∙ ap (λ (n : ℕ). field.Completed slot status ∷ field.End n ∷ []) two
          ∙ ap (λ (l : List Field). field.Completed slot status ∷ l) (sym (ih.failed _ (release t) w));
    }

-- an end of some number, and nothing behind it
ended : (answer n : ℕ) (fs : List Field) → answer ≡ n → fs ≡ [] → (field.End n ∷ []) ≡ (field.End answer ∷ fs)
ended answer n fs p q = λ i. field.End (sym p i) ∷ sym q i

module _ (least : ℕ) (fs : List Field) (ih : Sounds least fs) where
  opens : (f : Field) → Fits f → (t : Track) (c : Choice) → choose_of least t ≡ c → WalksBy least Opening c t (f ∷ fs) → Began least t (f ∷ fs)
  opens (field.Start stream total period) fit t c e w = absurd w
  opens (field.Submitted slot offset len) fit t Submit e w = submits least t fs slot offset len e w.1 (ih.out (sent_of t) (submit t) w.2)
  opens (field.Submitted slot offset len) fit t Finish e w = absurd w.0
  opens (field.Submitted slot offset len) fit t Wait e w = absurd w.0
  opens (field.Completed slot status) fit t Submit e w = absurd w.0
  opens (field.Completed slot status) fit t Finish e w = absurd w.0
  opens (field.Completed slot status) fit t Wait e w = waits least t (field.Completed slot status ∷ fs) e (frees least fs ih None t slot status (judge_of t slot (played_of status)) refl (played t slot status) fit w.1)
  opens (field.End answer) fit t Submit e w = absurd w.0
  opens (field.End answer) fit t Finish e w = subst (λ (l : List Field). Began least t l) (ended answer 0 fs w.0 (over least Finish t fs w.1)) (finishes least t e)
  opens (field.End answer) fit t Wait e (inl p, w) = subst (λ (l : List Field). Began least t l) (ended answer 6 fs p (over least Wait t fs w)) (waits least t _ e (wrong least None t))
  opens (field.End answer) fit t Wait e (inr p, w) = subst (λ (l : List Field). Began least t l) (ended answer 9 fs p (over least Wait t fs w)) (waits least t _ e (out-of-turns least None t))

  -- a budget that was used up before
  spent : (answer : ℕ) (t : Track) → answer ≡ 9 → fs ≡ [] → Told least t (field.End answer ∷ fs)
  unfolding tale
  spent answer t p q = record { more = 0; script = []; real = tt; same = ended answer 9 fs p q }

  backs : (f : Field) → Fits f → (t : Track) (c : Choice) → choose_of least t ≡ c → WalksBy least Back c t (f ∷ fs) → Told least t (f ∷ fs)
  backs (field.Start stream total period) fit t c e w = absurd w
  backs (field.Submitted slot offset len) fit t Submit e w = told least t _ (opens (field.Submitted slot offset len) fit t Submit e w)
  backs (field.Submitted slot offset len) fit t Finish e w = absurd w.0
  backs (field.Submitted slot offset len) fit t Wait e w = absurd w.0
  backs (field.Completed slot status) fit t Submit e w = absurd w.0
  backs (field.Completed slot status) fit t Finish e w = absurd w.0
  backs (field.Completed slot status) fit t Wait e w = told least t _ (opens (field.Completed slot status) fit t Wait e w)
  backs (field.End answer) fit t Submit e w = spent answer t w.0 (over least Submit t fs w.1)
  backs (field.End answer) fit t Finish e (inl p, w) = told least t _ (opens (field.End answer) fit t Finish e (p, w))
  backs (field.End answer) fit t Finish e (inr p, w) = spent answer t p (over least Finish t fs w)
  backs (field.End answer) fit t Wait e w = told least t _ (opens (field.End answer) fit t Wait e w)

  outs : (f : Field) → Fits f → (sent : Sent) (t : Track) (c : Choice) → choose_of least t ≡ c → WalksBy least Out c t (f ∷ fs) → Heard least sent t (f ∷ fs)
  unfolding choose_of
  outs (field.Start stream total period) fit sent t c e w = absurd w
  outs (field.Submitted slot offset len) fit sent t Submit e w =
      quiet least t _ sent (told least (ticked true t) _ (opens (field.Submitted slot offset len) fit (ticked true t) Submit e (tt, w.1, walks-ticked least Out (submit t) fs w.2)))
  outs (field.Submitted slot offset len) fit sent t Finish e w = absurd w.0
  outs (field.Submitted slot offset len) fit sent t Wait e w = absurd w.0
  outs (field.Completed slot status) fit sent t c e w = frees least fs ih sent t slot status (judge_of t slot (played_of status)) refl (played t slot status) fit w.1
  outs (field.End answer) fit sent t c e (inl p, w) = subst (λ (l : List Field). Heard least sent t l) (ended answer 6 fs p (over least c t fs w)) (wrong least sent t)
  outs (field.End answer) fit sent t c e (inr p, w) = subst (λ (l : List Field). Heard least sent t l) (ended answer 9 fs p (over least c t fs w)) (out-of-turns least sent t)

  fails : (f : Field) (c : Choice) (t : Track) → WalksBy least Failed c t (f ∷ fs) → (f ∷ fs) ≡ field.End 2 ∷ []
  fails (field.Start stream total period) c t w = absurd w
  fails (field.Submitted slot offset len) Submit t w = absurd w.0
  fails (field.Submitted slot offset len) Finish t w = absurd w.0
  fails (field.Submitted slot offset len) Wait t w = absurd w.0
  fails (field.Completed slot status) c t w = absurd w.0
  fails (field.End answer) c t w = sym (ended answer 2 fs w.0 (over least c t fs w.1))

-- SOUND: fields that may follow are written by turns
pub sounds : (least : ℕ) (fs : List Field) → AllFit fs → Sounds least fs
sounds least [] fit = record { opening = λ t w. absurd w; back = λ t w. absurd w; out = λ sent t w. absurd w; failed = λ c t w. absurd w }
sounds least (f ∷ fs) fit =
    let ih = sounds least fs fit.1 in
    record {
      opening = λ t w. opens least fs ih f fit.0 t (choose_of least t) refl w;
      back = λ t w. backs least fs ih f fit.0 t (choose_of least t) refl w;
      out = λ sent t w. outs least fs ih f fit.0 sent t (choose_of least t) refl w;
      failed = λ c t w. fails least fs ih f c t w;
    }
