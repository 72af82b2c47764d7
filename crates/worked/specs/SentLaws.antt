-- A call that is sent and that the device takes: one exchange, an ok, and the driver's result.
-- Assumes nothing.
use Rattle.std.specs.Prelude.{◌≡◌, ℕ, ◌^◌, ◌<◌, ◌≤◌, true, false, List, [], ◌∷◌, length, take, drop, refl, None, Ok}
use Rattle.std.proofs.Common.{sym, ◌∙◌, subst, arith, lit<, length-set, take_at, lt-ltb}
use Rattle.std.proofs.Math.Path.{ap}
use Rattle.layout.specs.Bytes.{le}
use Rattle.layout.specs.Layout.{write}
use Rattle.layout.specs.BytesLaws.{length-le}
use Rattle.codes.specs.Says.{guard}
use Rattle.codes.specs.SaysLaws.{picks, passes}
use Rattle.codes.specs.declared.requests.RequestCode.TheVariants.{RPcmPrepare, RPcmRelease, RPcmStart, RPcmStop}
use Rattle.records.specs.Records.{pcm_command}
use Rattle.tables.specs.Tables.{judged}
use Rattle.pending.specs.Table.{none_in}
use Rattle.sound_core.specs.State.{with_stage}
use Rattle.sound_core.specs.Consistent.{period_ok, call_ok}
use Rattle.sound_core.specs.Plan.{send_of, end_of, kind_code, set_of, own_set, own_of, effect_of, after_sent}
use Rattle.sound_core.specs.Reply.{request_bytes}
use Rattle.sound_core.specs.Unguarded.{off_set}
use Rattle.sound_core.specs.declared.plan.Request.TheVariants as request
use Rattle.sound_core.specs.declared.plan.Value.TheVariants as value
use Rattle.sound_core.specs.declared.plan.Say.TheVariants.{Done}
use Rattle.sound_core.specs.declared.reply.Reply.TheVariants as reply
use Rattle.exchange.specs.Feed.{paged}
use Rattle.exchange.specs.Kept.{Kept}
use Rattle.exchange.specs.KeptLaws.{call_kept, feed-kept}
use Rattle.exchange.specs.StayLaws.{after-core}
use Rattle.exchange.specs.Submitted.{effect-pending}
use Rattle.exchange.specs.Tables.{look_of, sound_after}
use Rattle.exchange.specs.Exchange.{listed, step_of, call_of, feed_of}
use Rattle.model.specs.Control.{laid, ok, kept_by, outcome_of}
use Rattle.model.specs.ModelLaws.{command-answer}
use Rattle.worked.specs.Types.{Verdict, Track, Params, Kind, Prepare, Release, Start, Stop, Call, SetParams, Idle, Sent, Core, Request, Look, Nothing, Plan, Sound, Held, Device}
use Rattle.worked.specs.Talk.{Talk, talk_of, opened, relay, Fitting, counts_of, Settled, Took}
use Rattle.worked.specs.TalkLaws.{length-laid, asking, after, feeds, relays, good-page, calls}

-- the state that waits for the answer to a call, the page with an ok at its front, and the plan that follows
abbrev pub waiting : Sound → Call → Sound
waiting s call = sound_after Nothing (with_stage s.core (Sent call)) s []

abbrev pub ok_page : List ℕ → List ℕ
ok_page page = laid (le 4 0x8000) page

abbrev pub done_plan : Sound → Call → Plan
done_plan s call = end_of s.core (Ok (Done value.Nothing)) (effect_of call)

module _ (s : Sound) (t : Track) (d : Device) (call : Call) (q : Request) (page m : List ℕ) (o : Settled s t d page m) (fine : call_ok call ≡ true)
    (own : own_of s.core call (look_of s call) ≡ send_of s.core (Sent call) q Nothing) (short : length (request_bytes q) ≤ 24) where
  plan-is : call_of s t call (length m) ≡ send_of s.core (Sent call) q Nothing
  plan-is = calls s t call (length m) o.state.consistent o.closed o.lent.consistent o.lent.idle fine o.lent.long ∙ picks _ _ _ o.ready ∙ own

  -- the request goes out
  sends : opened s t call d page m ≡ asking (waiting s call) q (listed []) d page m
  sends = ap (λ (p : Plan). talk_of p s [] d page m) plan-is

  waiting_kept : Kept (waiting s call)
  waiting_kept = subst (λ (p : Plan). Kept (step_of p s []).sound) plan-is (call_kept s t call (length m) o.state)

  long : 24 ≤ length (laid (request_bytes q) m)
  long = rw (length-laid (request_bytes q) m (omega (arith, short, o.lent.long))) o.lent.long

  ok-whole : length (ok_page page) ≡ 4096
  ok-whole = length-laid (le 4 0x8000) page (omega (arith, length-le 4 0x8000, o.lent.whole)) ∙ o.lent.whole

  ok-good : judged None (ok_page page) 0 0 ≡ Ok tt
  ok-good = good-page (drop (length (le 4 0x8000)) page) 0 0 ok-whole (omega arith)

  ok-feed : feed_of None (waiting s call) (ok_page page) (length (laid (request_bytes q) m)) ≡ done_plan s call
  unfolding after_sent guard
  ok-feed =
      feeds (waiting s call) (ok_page page) (length (laid (request_bytes q) m)) ok-whole long waiting_kept.consistent
      ∙ ap (λ (v : Verdict). after_sent (with_stage s.core (Sent call)) call v) ok-good

  -- the device takes it, and the driver says Ok
  module _ (e : Device) (out : outcome_of (request_bytes q) d ≡ ok e) where
    pub result : relay (opened s t call d page m) ≡ after (done_plan s call) (waiting s call) e (ok_page page) (laid (request_bytes q) m)
    unfolding after_sent guard
    result =
        ap relay sends
        ∙ relays (waiting s call) q (listed []) d e page m (le 4 0x8000) o.device.within o.lent.whole long out (omega (arith, length-le 4 0x8000)) waiting_kept.consistent
        ∙ ap (λ (v : Verdict). after (after_sent (with_stage s.core (Sent call)) call v) (waiting s call) e (ok_page page) (laid (request_bytes q) m)) ok-good

    -- and all is as before the call, for the next one
    settles : Fitting e → counts_of d ≡ counts_of e → let y = relay (opened s t call d page m) in Settled y.driver.sound t y.device y.page y.message
    settles f n =
        let c = with_stage s.core Idle in
        let z = (step_of (done_plan s call) (waiting s call) (ok_page page)).sound in
        let core : z.core ≡ c = after-core (effect_of call) c (waiting s call) (ok_page page) in
        subst (λ (y : Talk). Settled y.driver.sound t y.device y.page y.message) (sym result)
        (record {
          state = subst (λ (p : Plan). Kept (step_of p (waiting s call) (ok_page page)).sound) ok-feed (feed-kept (waiting s call) (paged None (ok_page page) (length (laid (request_bytes q) m))) waiting_kept);
          off = ap (λ (x : Core). x.guard) core ∙ o.off;
          ready = ap (λ (x : Core). x.ready) core ∙ o.ready;
          closed = ap (λ (x : Core). x.stage) core;
          counts = ap (λ (x : Core). x.counts) core ∙ o.counts ∙ n;
          clear = ap none_in (effect-pending (effect_of call) c (waiting s call) (ok_page page)) ∙ o.clear;
          device = f;
          lent = record { consistent = o.lent.consistent; idle = o.lent.idle; whole = ok-whole; long = long };
        })

    pub took : (n : ℕ) → length (request_bytes q) ≡ n → Fitting e → counts_of d ≡ counts_of e → Took t n (request_bytes q) (opened s t call d page m) (relay (opened s t call d page m))
    took n l f same =
        record {
          asks = ap (λ (z : Talk). z.driver.reply) sends ∙ ap (λ (n : ℕ). Ok (reply.Send n)) l;
          sent = ap (λ (z : Talk). take n z.message) sends ∙ take_at (request_bytes q) (drop (length (request_bytes q)) m) n l;
          says = ap (λ (z : Talk). z.driver.reply) result;
          settled = settles f same;
        }

-- ---- what the device answers to the four commands, and to set parameters

pub command-taken : (d : Device) (kind : Kind) (stream : ℕ) → stream < 256 ^ 4 → outcome_of (write pcm_command (kind_code kind ∷ stream ∷ [])) d ≡ ok d
command-taken d Prepare stream h = command-answer d RPcmPrepare stream (λ s. refl) (lit< tt, (h, tt))
command-taken d Release stream h = command-answer d RPcmRelease stream (λ s. refl) (lit< tt, (h, tt))
command-taken d Start stream h = command-answer d RPcmStart stream (λ s. refl) (lit< tt, (h, tt))
command-taken d Stop stream h = command-answer d RPcmStop stream (λ s. refl) (lit< tt, (h, tt))

pub own-sends : (c : Core) (stream : ℕ) (to : Params) (look : Look) → c.guard ≡ false → period_ok to.buffer to.period ≡ true → stream < c.counts.streams
    → own_set c stream to look ≡ send_of c (Sent (SetParams stream to)) (request.Set (set_of stream to)) Nothing
own-sends c stream to look off period h = off_set c off stream to look ∙ sym (passes _ _ _ period (passes _ _ _ (lt-ltb stream c.counts.streams h) refl))

pub kept-fitting : (d : Device) (stream : ℕ) (h : Held) → Fitting d → Fitting (kept_by d stream h)
kept-fitting d stream h f =
    record {
      within = f.within;
      jacks = f.jacks;
      pcms = f.pcms;
      maps = f.maps;
      params = length-set d.params stream h ∙ f.params;
      played = f.played;
      jack = f.jack;
      pcm = f.pcm;
      map = f.map;
      count = f.count;
    }
