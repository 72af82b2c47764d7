-- Theorems: the stream table is that of the page that answered the query of streams, record i at 4 + i × 32, until the next such page.
-- Assumes nothing.
use Rattle.std.specs.Prelude.{◌≡◌, ℕ, ◌+◌, ◌*◌, ◌<◌, Bool, true, false, ◌⊎◌, List, [], length, slice_index_or, refl}
use Rattle.std.proofs.Common.{sym, ap, ◌∙◌, subst, inl, inr, arith}
use Rattle.std.proofs.lemmas.Bool.{false≢true}
use Rattle.codes.specs.Says.{pick}
use Rattle.tables.specs.Tables.{judged, is_good, fits, pcm_at, tables_bytes}
use Rattle.codes.specs.SaysLaws.{picks}
use Rattle.tables.specs.TablesLaws.{good-fits}
use Rattle.tables.specs.FillLaws.{jacks-leave-pcms, pcms-filled, maps-leave-pcms, filled_at}
use Rattle.records.specs.Records.{pcm_info_of}
use Rattle.exchange.specs.State.{pcms_of, pcm_of}
use Rattle.sound_core.specs.Plan.{effect_of, verdict_by}
use Rattle.exchange.specs.Tables.{sound_after}
use Rattle.exchange.specs.PlanLaws.{Answered, short, idle, asks-streams, asks-maps, cuts, finishes, ends, fails, fed}
use Rattle.sound_core.specs.Reply.{reply_of}
use Rattle.exchange.specs.Exchange.{step_of, call_of}
use Rattle.exchange.specs.Ends.{asked, waits}
use Rattle.exchange.specs.ResultLaws.{wrong}
use Rattle.exchange.specs.Feed.{Feed, paged, failed, page_of, plan_of, fed_of, verdict_of, written_of}
use Rattle.exchange.specs.StayLaws.{called-stays, called-quiet, fed-stays}
use Rattle.exchange.specs.Xfer.{start_of, start_traced_of, xfer_of, capture_of}
use Rattle.exchange.specs.XferLaws.{start-by, script-by, traced-by, capture-by}
use Rattle.exchange.specs.Types.{PcmInfo, Written, Verdict, Track, Ring, Counts, Call, SetParams, Command, Remap, Streams, Supported, Xfer, Capture, Stage, StreamsAsked, Core, Sound, Effect, Nothing, FillJacks, FillStreams, FillMaps, Store, Move, Look, Plan}

-- the stream table is that of a page
abbrev pub Filled : Sound → List ℕ → Type 0
Filled s page = (i : ℕ) → i < s.core.counts.streams → pcm_of s i ≡ pcm_at (4 + i * 32) page

-- after an effect with the same counts, the table is as it was, or is that of a page whose verdict on the streams was good
abbrev fills : Effect → Bool
fills Nothing = false
fills (FillJacks n) = false
fills (FillStreams n) = true
fills (FillMaps n) = false
fills (Store stream to) = false
fills (Move stream life) = false

kept_table : (x : Effect) (c : Core) (s : Sound) (page old : List ℕ) → fills x ≡ false → c.counts.streams ≡ s.core.counts.streams → Filled s old → Filled (sound_after x c s page) old
kept_table Nothing c s page old e n f i h = f i (omega arith)
kept_table (FillJacks m) c s page old e n f i h = ap (λ (l : List PcmInfo). slice_index_or l i (pcm_info_of [])) (jacks-leave-pcms m page s.tables) ∙ f i (omega arith)
kept_table (FillStreams m) c s page old e n f i h = absurd (false≢true (sym e))
kept_table (FillMaps m) c s page old e n f i h = ap (λ (l : List PcmInfo). slice_index_or l i (pcm_info_of [])) (maps-leave-pcms m page s.tables) ∙ f i (omega arith)
kept_table (Store stream to) c s page old e n f i h = f i (omega arith)
kept_table (Move stream life) c s page old e n f i h = f i (omega arith)

new-table : (x : Effect) (c : Core) (s : Sound) (w : Written) (page : List ℕ) → length s.tables ≡ tables_bytes → x ≡ FillStreams c.counts.streams → is_good (judged w page c.counts.streams 32) ≡ true → Filled (sound_after x c s page) page
new-table x c s w page l e g =
    let n = c.counts.streams in
    subst (λ (y : Effect). Filled (sound_after y c s page) page) (sym e)
    (λ i h. ap (λ (t : List PcmInfo). slice_index_or t i (pcm_info_of [])) (pcms-filled n page s.tables l ∙ picks (fits page n 32) _ _ (good-fits w page n 32 g)) ∙ filled_at pcm_at 32 page n (pcms_of s) i (pcm_info_of []) h)

-- whether an answer fills the table
data Touch (c : Core) (v : Verdict) (x : Effect) : Type 0 where
  leaves : fills x ≡ false → Touch c v x
  writes : {call : Call} → c.stage ≡ StreamsAsked call → is_good v ≡ true → x ≡ FillStreams c.counts.streams → Touch c v x

effect-leaves : (call : Call) → fills (effect_of call) ≡ false
effect-leaves (SetParams stream to) = refl
effect-leaves (Command kind stream) = refl
effect-leaves (Remap jack association sequence) = refl
effect-leaves (Streams direction) = refl
effect-leaves (Supported field stream) = refl
effect-leaves (Xfer stream) = refl
effect-leaves (Capture stream) = refl

others-leave : (n : ℕ) (good : Bool) → (fills (pick good (FillJacks n) Nothing) ≡ false) × (fills (pick good (FillMaps n) Nothing) ≡ false)
others-leave n true = (refl, refl)
others-leave n false = (refl, refl)

touch : {c : Core} {v : Verdict} {look : Look} {long : Bool} {p : Plan} → Answered c v look long p → Touch c v p.effect
touch (short _) = leaves refl
touch (idle _) = leaves refl
touch {v} (asks-streams _ _) = leaves (others-leave _ (is_good v)).0
touch (asks-maps _ g h) = writes g h refl
touch (cuts _ _ _ _ _) = leaves refl
touch {v} (finishes _ _ _) = leaves (others-leave _ (is_good v)).1
touch (ends {call} _ _ _) = leaves (effect-leaves call)
touch (fails _ _ _) = leaves refl

-- a good verdict on the streams is of a page
good-page : (s : Sound) (f : Feed) {call : Call} (n : Counts) → n ≡ s.core.counts → s.core.stage ≡ StreamsAsked call → is_good (verdict_of s f) ≡ true
    → is_good (judged (written_of f) (page_of f) n.streams 32) ≡ true
good-page s (paged w bytes m) n e g h = subst (λ (k : Counts). is_good (judged w bytes k.streams 32) ≡ true) (sym e) (subst (λ (k : Stage). is_good (verdict_by w k s.core.counts bytes) ≡ true) g h)
good-page s (failed m) n e g h = absurd (false≢true h)

-- a good answer to the query of streams, and to no other, makes the table anew
pub record Refilled (s : Sound) (f : Feed) : Type 0 where
  pub waits-for : Call
  pub asked-streams : s.core.stage ≡ StreamsAsked waits-for
  pub good : is_good (verdict_of s f) ≡ true
  pub new : Filled (fed_of s f).sound (page_of f)

touched : (s : Sound) (f : Feed) (old : List ℕ) → length s.tables ≡ tables_bytes → (plan_of s f).core.counts ≡ s.core.counts → Filled s old → Touch s.core (verdict_of s f) (plan_of s f).effect
    → Filled (fed_of s f).sound old ⊎ Refilled s f
touched s f old l a h (leaves e) = inl (kept_table (plan_of s f).effect (plan_of s f).core s (page_of f) old e (ap (λ (m : Counts). m.streams) a) h)
touched s f old l a h (writes {call} g v e) = inr (record { waits-for = call; asked-streams = g; good = v; new = new-table (plan_of s f).effect (plan_of s f).core s (written_of f) (page_of f) l (e ∙ ap (λ (m : Counts). FillStreams m.streams) (sym a)) (good-page s f (plan_of s f).core.counts a g v) })

-- the answer to the query of streams: set-up goes on with it only where it is good
fed-good : {c : Core} {v : Verdict} {look : Look} {long : Bool} {p : Plan} {call : Call} → c.stage ≡ StreamsAsked call → asked (reply_of p.say) ≡ 1 → Answered c v look long p
    → (is_good v ≡ true) × (p.effect ≡ FillStreams c.counts.streams)
fed-good g e (short _) = absurd (wrong e)
fed-good g e (idle _) = absurd (wrong e)
fed-good g e (asks-streams _ h) = absurd (omega (arith, ap waits (sym g ∙ h)))
fed-good g e (asks-maps _ _ h) = (h, refl)
fed-good g e (cuts _ _ _ _ _) = absurd (wrong e)
fed-good g e (finishes _ h _) = absurd (omega (arith, ap waits (sym g ∙ h)))
fed-good g e (ends _ _ _) = absurd (wrong e)
fed-good g e (fails _ _ _) = absurd (wrong e)

-- ---- the stream table is that of the page that answered the query of streams, until the next such page

pub streams-filled : (s : Sound) (f : Feed) (call : Call) → length s.tables ≡ tables_bytes → s.core.stage ≡ StreamsAsked call → asked (fed_of s f).reply ≡ 1 → Filled (fed_of s f).sound (page_of f)
streams-filled s f call l g e =
    let a = fed-good g e (fed s f) in
    new-table (plan_of s f).effect (plan_of s f).core s (written_of f) (page_of f) l (a.1 ∙ ap (λ (m : Counts). FillStreams m.streams) (sym (fed-stays s f).counts)) (good-page s f (plan_of s f).core.counts (fed-stays s f).counts g a.0)

pub filled-feed : (s : Sound) (f : Feed) (old : List ℕ) → length s.tables ≡ tables_bytes → Filled s old → Filled (fed_of s f).sound old ⊎ Refilled s f
filled-feed s f old l h = touched s f old l (fed-stays s f).counts h (touch (fed s f))

pub filled-call : (s : Sound) (old : List ℕ) (t : Track) (call : Call) (n : ℕ) → Filled s old → Filled (step_of (call_of s t call n) s []).sound old
filled-call s old t call n f =
    let p = call_of s t call n in
    kept_table p.effect p.core s [] old (ap fills (called-quiet s t call n)) (ap (λ (m : Counts). m.streams) (called-stays s t call n).counts) f

module _ (s : Sound) (r : Ring) (stream len budget n : ℕ) (old : List ℕ) (f : Filled s old) where
  pub filled-start : Filled (start_of s r stream len budget n).sound old
  filled-start = start-by (λ x. Filled x.sound old) s r stream len budget n (λ _. f) (λ _ _ _. f) f

  pub filled-capture : (periods : ℕ) → Filled (capture_of s r stream periods len budget n).sound old
  filled-capture periods = capture-by (λ x. Filled x.sound old) s r stream periods len budget n (λ _. f) (λ _ _ _. f) (λ _. f)

  pub filled-traced : (room : ℕ) → Filled (start_traced_of s r stream len budget room n).sound old
  filled-traced room = traced-by (λ x. Filled x.sound old) s r stream len budget room n (λ _. f) (λ _ _ _. f) (λ _. f)

  pub filled-script : (script : List ℕ) → Filled (xfer_of s r stream len budget script n).sound old
  filled-script script = script-by (λ x. Filled x.sound old) s r stream len budget n (λ _. f) (λ _ _ _. f) script f
