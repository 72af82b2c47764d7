-- `console::event::tell` meets its contract: the list of its stores, by what the event says. Assumes nothing.
use Rattle.std.proofs.Common.{◌≡◌, rules, ℕ, [], ◌∷◌, sym, ap, ◌∙◌}
use lib.Seq.{sets}
use Rattle.layout.specs.Bytes.{le}
use Rattle.layout.specs.Rows.{rows_bytes}
use Rattle.layout.specs.ChainLaws.{stored}
use Rattle.layout.specs.ChainLaws.Stored.{put, end}
use Rattle.layout.specs.Lent.{shown}
use Rattle.codes.specs.Events.{event_code}
use Rattle.std.specs.Prelude.{Option, Some, Result, Ok}
use Rattle.codes.specs.declared.answers.Refusal.{Refusal}
use Rattle.records.specs.declared.event.Notice.{Notice}
use Rattle.records.specs.declared.event.Notice.TheVariants.{Event, Control}
use Rattle.console.specs.Private.{noticed}
use Rattle.console.proofs.event.tell.Goals as goal

pub returns-in-Ok-Some-Event : goal.returns-in-Ok-Some-Event
unfolding rows_bytes
returns-in-Ok-Some-Event c =
    let r = c.args.res.now in
    let e : c.args.said ≡ Ok (Some (Event c.in-Ok-Some-Event.kind c.in-Ok-Some-Event.data)) = search rules in
    ap (shown 0)
    (stored _ r 0 (4 ∷ 4 ∷ []) (event_code c.in-Ok-Some-Event.kind ∷ c.in-Ok-Some-Event.data ∷ [])
    (put (c.put_u32.ensures ∙ ap (λ (x : ℕ). sets r 0 (le 4 x)) c.code.ensures) (put c.put_u32-in-Ok-Some-Event.ensures end)))
    ∙ sym (ap (λ (x : Result (Option Notice) Refusal). noticed x r) e)

pub returns-in-Ok-Some-Control : goal.returns-in-Ok-Some-Control
unfolding rows_bytes
returns-in-Ok-Some-Control c =
    let r = c.args.res.now in
    let e : c.args.said ≡ Ok (Some (Control c.in-Ok-Some-Control.id c.in-Ok-Some-Control.mask)) = search rules in
    ap (shown 0)
    (stored _ r 0 (4 ∷ 4 ∷ 4 ∷ []) (0x1200 ∷ c.in-Ok-Some-Control.id ∷ c.in-Ok-Some-Control.mask ∷ []) (put c.put_u32-in-Ok-Some-Control.ensures (put c.put_u32-in-Ok-Some-Control-2.ensures (put c.put_u32-in-Ok-Some-Control-3.ensures end))))
    ∙ sym (ap (λ (x : Result (Option Notice) Refusal). noticed x r) e)
