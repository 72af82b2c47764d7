-- Theorems: a remap goes out only to a jack that can be remapped.
-- Assumes nothing.
use Rattle.std.specs.Prelude.{◌≡◌, ℕ, ◌<◌, true, ◌≢◌, refl, Ok}
use Rattle.std.proofs.Common.{sym, ap, ◌∙◌, subst}
use Rattle.codes.specs.Flags.{has_bit, remap_feature}
use Rattle.records.specs.declared.control.Remap as records
use Rattle.sound_core.specs.Plan.{can_remap}
use Rattle.exchange.specs.State.{jack_of}
use Rattle.exchange.specs.Tables.{look_of, pending_look}
use Rattle.exchange.specs.OwnLaws.{Own, sets, commands, remaps, lists, tells, refuses}
use Rattle.exchange.specs.PlanLaws.{begun, fed}
use Rattle.exchange.specs.Exchange.{call_of}
use Rattle.exchange.specs.Feed.{Feed, plan_of}
use Rattle.sound_core.specs.declared.plan.Request.TheVariants as request
use Rattle.exchange.specs.Types.{Track, Call, Stage, Core, Sound, Send, Look, Plan, Counts}
use Rattle.exchange.specs.ResultLaws.{wrong, own?, begun-own, Finished, answered-own}

-- "Remap: no jacks or id too high 1; table empty 4; no REMAP bit 3; then sent."

abbrev pub Remappable : Sound → Core → ℕ → Type 0
Remappable s c jack = (jack < c.counts.jacks) × (c.read.jacks ≢ 0) × (has_bit remap_feature (jack_of s jack).features ≡ true)

own-remaps : (s : Sound) {c : Core} {look : Look} {call : Call} {p : Plan} (q : records.Remap) → look ≡ look_of s call → p.say ≡ Ok (Send (request.Remap q)) → Own c look call p
    → Remappable s c q.jack
own-remaps s q l e (sets _ _ _) = absurd (wrong (cc))
own-remaps s q l e (commands _ _) = absurd (wrong (cc))
own-remaps s {c} q l e (remaps {jack} h z b) =
    let j : jack ≡ q.jack = cc in
    subst (λ (k : ℕ). Remappable s c k) j (h, z, ap can_remap (sym l) ∙ b)
own-remaps s q l e lists = absurd (wrong (cc))
own-remaps s q l e (tells _) = absurd (wrong (cc))
own-remaps s q l e (refuses _ _) = absurd (wrong (cc))

finished-remaps : (s : Sound) {look : Look} {p : Plan} (q : records.Remap) → look ≡ pending_look s.core.stage s → p.say ≡ Ok (Send (request.Remap q)) → Finished s.core look p
    → Remappable s s.core q.jack
finished-remaps s q l e f =
    let a = own-remaps s q (l ∙ ap (λ (k : Stage). pending_look k s) f.waited) (sym f.say ∙ e) f.own in
    (subst (λ (m : Counts). q.jack < m.jacks) f.counts a.0, λ z. a.1 (f.jacks ∙ z), a.2)

-- a request to remap goes out only to a jack below the configured count, of a table that is not empty, whose features have the REMAP bit; at a call and at a feed
pub remap-needs-bit : (s : Sound) (t : Track) (call : Call) (n : ℕ) (q : records.Remap) → (call_of s t call n).say ≡ Ok (Send (request.Remap q)) → Remappable s s.core q.jack
remap-needs-bit s t call n q e = own-remaps s q refl e (begun-own (ap own? e) (begun s t call n)).1

pub remap-needs-bit-feed : (s : Sound) (f : Feed) (q : records.Remap) → (plan_of s f).say ≡ Ok (Send (request.Remap q)) → Remappable s s.core q.jack
remap-needs-bit-feed s f q e = finished-remaps s q refl e (answered-own (ap own? e) (λ _ _ d. wrong (cc)) (fed s f))
