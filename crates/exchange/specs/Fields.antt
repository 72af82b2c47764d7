-- Theorems: what rates, formats, features and channel range answer is the field of the record at 4 + i × 32 in the page that filled the stream table.
-- Assumes nothing.
use Rattle.std.specs.Prelude.{◌≡◌, ℕ, ◌+◌, ◌*◌, ◌<◌, List, refl, Ok}
use Rattle.std.proofs.Common.{sym, ap, ◌∙◌, subst, arith}
use Rattle.tables.specs.Tables.{pcm_at}
use Rattle.sound_core.specs.Plan.{found_of}
use Rattle.exchange.specs.State.{pcm_of}
use Rattle.exchange.specs.Tables.{field_of, pending_look}
use Rattle.exchange.specs.OwnLaws.{Own, tells, refuses}
use Rattle.exchange.specs.PlanLaws.{begun, fed}
use Rattle.exchange.specs.Exchange.{call_of}
use Rattle.exchange.specs.Ends.{waits}
use Rattle.exchange.specs.ResultLaws.{wrong, recall, own?, begun-own, Finished, answered-own}
use Rattle.exchange.specs.Feed.{Feed, plan_of, call_at}
use Rattle.sound_core.specs.declared.plan.Look.TheVariants as look
use Rattle.exchange.specs.Types.{Track, Counts, Field, Supported, Stage, MapsAsked, Core, Sound, Value, Done, Look, Plan}
use Rattle.exchange.specs.Filled.{Filled}

-- "Rates, formats, channel range, features: stream too high 1, else the stored bits, unknown bits kept."

own-tells : {c : Core} {look : Look} {field : Field} {stream : ℕ} {p : Plan} (x : Value) → p.say ≡ Ok (Done x) → Own c look (Supported field stream) p
    → (stream < c.counts.streams) × (x ≡ found_of look)
own-tells x e (tells h) = (h, cc)
own-tells x e (refuses _ _) = absurd (wrong (cc))

finished-tells : {c : Core} {look : Look} {field : Field} {stream : ℕ} {p : Plan} (x : Value) → c.stage ≡ MapsAsked (Supported field stream) → p.say ≡ Ok (Done x) → Finished c look p
    → (stream < c.counts.streams) × (x ≡ found_of look)
finished-tells {stream} x g e f =
    let a = own-tells x (sym f.say ∙ e) (recall (sym (ap call_at f.waited) ∙ ap call_at g) f.own) in
    (subst (λ (m : Counts). stream < m.streams) f.counts a.0, a.1)

module _ (s : Sound) (page : List ℕ) (f : Filled s page) (field : Field) (stream : ℕ) (x : Value) where
  field_is : (found : Look) → found ≡ look.Stream (field_of field (pcm_of s stream)) → stream < s.core.counts.streams → x ≡ found_of found → x ≡ field_of field (pcm_at (4 + stream * 32) page)
  field_is found l h e = e ∙ ap found_of l ∙ ap (field_of field) (f stream h)

  -- at once, where set-up was done
  pub answer-is-the-field : (t : Track) (n : ℕ) → (call_of s t (Supported field stream) n).say ≡ Ok (Done x) → x ≡ field_of field (pcm_at (4 + stream * 32) page)
  answer-is-the-field t n e =
      let a = own-tells x e (begun-own (ap own? e) (begun s t (Supported field stream) n)).1 in
      field_is _ refl a.0 a.1

  look_is : s.core.stage ≡ MapsAsked (Supported field stream) → pending_look s.core.stage s ≡ look.Stream (field_of field (pcm_of s stream))
  look_is g = ap (λ (k : Stage). pending_look k s) g

  -- at the feed that ends set-up
  pub answer-is-the-field-feed : (u : Feed) → s.core.stage ≡ MapsAsked (Supported field stream) → (plan_of s u).say ≡ Ok (Done x) → x ≡ field_of field (pcm_at (4 + stream * 32) page)
  answer-is-the-field-feed u g e =
      let a = finished-tells x g e (answered-own (ap own? e) (λ _ h _. omega (arith, ap waits (sym g ∙ h))) (fed s u)) in
      field_is _ (look_is g) a.0 a.1
